-- Every value of an accepted call fits 32 bits.
use mathlib.Core.Path.{◌≡◌, sym}
use mathlib.Core.List.{List, [], ◌∷◌, flatten, head-eq_of_cons-eq}
use Prim.Native.Nat.{ℕ, ◌*◌, ◌/◌, ◌<◌, ◌≤◌}
use native.Mathlib.Omega.{arith}
use native.Mathlib.Nat.{le_trans, mul-le-mul_left, mul-le-mul_right}
use lib.ListN.{length}
use Rattle.words.specs.Word.{word_range, count_range}
use Rattle.words.specs.Limits.{nodes_most}
use Rattle.words.specs.Answer.{accepted}
use Rattle.words.proofs.AnswerLaws.{accepted-values}
use Rattle.automaton.specs.Transition.{automaton_of}
use Rattle.automaton.specs.StateSet.{size_for}
use Rattle.operations.specs.Compile.{compile_answer}
use Rattle.operations.specs.Marks.{size_of, node_sets}
use Rattle.operations.specs.Run.{run_fault, cells_in, run_answer}
use Rattle.operations.specs.Listing.{matches_of, list_fault, list_answer}
use Rattle.operations.specs.Totals.{Totals}
use Rattle.operations.specs.Exchange.{Outcome, kept, recomputed, recomputed_in, fault, new_tree, outcomes, exchange_answer}
use Rattle.operations.specs.ExchangeCall.{ExchangeCall}
use Rattle.operations.proofs.AcceptedLaws.{run-accepted, list-accepted, call-accepted}
use Rattle.operations.proofs.CompileLaws.{compile-result}
use Rattle.operations.proofs.CellLaws.{cells-node_sets}
use Rattle.operations.proofs.MatchLaws.{matches_of-few}
use Rattle.operations.proofs.Recomputed.{recomputation}

-- Compile: at most 2,048 words
pub compile-value : (a e slice : List ℕ) {k : ℕ} → accepted (k ∷ []) ≡ compile_answer a e slice → k < word_range
compile-value a e slice {k} h =
    let g = compile-result a e slice k (sym h) in
    omega (arith, g.count, g.most)

-- the most words of a state set, whatever count a head says
abbrev pub head_size_most : ℕ
head_size_most = count_range / 32

-- the words of all state sets
pub words-most : (table : List ℕ) (n : ℕ) → n ≤ nodes_most → n * size_of table ≤ nodes_most * head_size_most
unfolding size_of size_for automaton_of
words-most table n h =
    let few : size_of table ≤ head_size_most = omega arith in
    le_trans (mul-le-mul_right (size_of table) h) (mul-le-mul_left nodes_most few)

-- Run: at most 4,096 elements, and at most 32 ones in a word
pub run-values : (a table ch marks : List ℕ) {n cells : ℕ} → accepted (n ∷ cells ∷ []) ≡ run_answer a table ch marks
    → (n < word_range) × (cells < word_range)
unfolding run_answer
run-values a table ch marks {n} {cells} h =
    let v = accepted-values (run_fault a table ch (length marks)) _ (n ∷ cells ∷ []) (sym h) in
    let few = (run-accepted a table ch (length marks) v.0).counted.few in
    let e : length ch ≡ n = cc in
    let q : cells_in (flatten (node_sets a table ch)) ≡ cells = cc in
    let fit = words-most table (length ch) few in
    let most = cells-node_sets a table ch in
    (omega arith, omega arith)

-- List: at most as many hits as elements
pub list-value : (a table : List ℕ) (n : ℕ) (marks list : List ℕ) {k : ℕ} → accepted (k ∷ []) ≡ list_answer a table n marks list
    → k < word_range
unfolding list_answer
list-value a table n marks list {k} h =
    let v = accepted-values (list_fault a table n (length marks) (length list)) (length (matches_of table n marks) ∷ []) (k ∷ []) (sym h) in
    let few = (list-accepted a table n (length marks) (length list) v.0).counted.few in
    let q : length (matches_of table n marks) ≡ k = head-eq_of_cons-eq v.1 in
    let most = matches_of-few table marks n in
    omega arith

recomputed-few : (os : List Outcome) → recomputed_in os ≤ length os
unfolding recomputed_in
recomputed-few [] = omega arith
recomputed-few (kept r ∷ os) = let i = recomputed-few os in omega arith
recomputed-few (recomputed r ∷ os) = let i = recomputed-few os in omega arith

-- Exchange: at most 4,096 elements, and at most as many recomputed
pub exchange-values : (c : ExchangeCall) (t : Totals) {count worked : ℕ} → accepted (count ∷ worked ∷ []) ≡ exchange_answer c t
    → (count < word_range) × (worked < word_range)
unfolding exchange_answer new_tree
exchange-values c t {count} {worked} h =
    let v = accepted-values (fault c t) _ (count ∷ worked ∷ []) (sym h) in
    let few = (call-accepted c t v.0).change.fits.few in
    let done = recomputation c t count worked (sym h) in
    let most = recomputed-few (outcomes c) in
    (omega arith, omega arith)
