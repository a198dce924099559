-- The compiled table of an accepted expression without anything and with at most 1,024 states has at most 1,148 words; and refusal 8
-- lets each compiled table of at most 2,048 words pass.
use Prim.Native.Nat.{ℕ, suc, ◌+◌, ◌*◌, ◌-◌, ◌≤◌}
use mathlib.Core.Path.{◌≡◌, refl, ◌∙◌}
use mathlib.Core.Bool.{Bool, true, false, not, cond}
use mathlib.Core.List.{List, [], ◌∷◌}
use native.Mathlib.Omega.{arith}
use native.Mathlib.Decide.{dec_le}
use native.Mathlib.Nat.{mul-le-mul_left}
use lib.ListN.{length}
use lib.Dec.{leb, eqb}
use borrow.Author.Tests.{leb-true, leb-false, eqb-true, eqb-false}
use Rattle.words.specs.Limits.{constants_most, rank_most, expression_most, states_most, table_most, compiled_most}
use Rattle.words.specs.Alphabet.{constants_of, alphabet_fault}
use Rattle.words.specs.Shape.{trees_by}
use Rattle.words.specs.Postfix.{arity, trees}
use Rattle.words.specs.ExpressionWords.{is_expression_word, has_anything, expression_fault}
use Rattle.words.specs.Lists.{all, count}
use Rattle.words.specs.Word.{anything_kind, has_kind}
use Rattle.words.proofs.TestLaws.{and-true, or-false, or-none, picked}
use Rattle.words.proofs.AcceptedAlphabet.{AcceptedAlphabet, alphabet-accepted, arity-most}
use Rattle.words.proofs.AcceptedExpression.{expression-accepted}
use Rattle.automaton.specs.Transition.{table_words}
use Rattle.automaton.specs.Numbering.{has_entries, compiled}
use Rattle.automaton.specs.Table.{is_table}
use Rattle.automaton.proofs.EntryStates.{entries-arity}
use Rattle.automaton.proofs.StateCount.{inner_words, leaf_words, inner-leaf, states-counted}
use Rattle.automaton.proofs.TableLength.{branching_words, table-length}
use Rattle.automaton.proofs.CompiledOver.{compiled-over}
use Rattle.automaton.proofs.TableLaws.{words-is_table}

-- the words without children
abbrev childless : List ℕ → List ℕ → ℕ
childless a ws = count (λ w. eqb (arity a w) 0) ws

-- without anything they are those without entries
childless-leaves : (a ws : List ℕ) → all (is_expression_word a) ws ≡ true → has_anything ws ≡ false → leaf_words a ws ≡ childless a ws
childless-leaves a [] h n = refl
childless-leaves a (w ∷ ws) h n =
    let p = and-true (is_expression_word a w) (all (is_expression_word a) ws) h in
    let q = or-false (has_kind anything_kind w) (has_anything ws) n in
    let e : has_entries a w ≡ not (eqb (arity a w) 0) =
    entries-arity a w p.0 ∙ rw q.0 (or-none (not (eqb (arity a w) 0))) in
    rw e (go (eqb (arity a w) 0) (childless-leaves a ws p.1 q.1))
  where
    go : (b : Bool) → leaf_words a ws ≡ childless a ws → cond (not (not b)) 1 0 + leaf_words a ws ≡ cond b 1 0 + childless a ws
    go true i = omega arith
    go false i = omega arith

-- only words without children make the trees more
leaves-some : (a : List ℕ) (ws : List ℕ) (d t : ℕ) → trees a d ws t ≡ true → t ≤ d + childless a ws
unfolding trees_by
leaves-some a [] d t k = omega (arith, eqb-true d t k)
leaves-some a (w ∷ ws) d t k =
    let p = picked (leb (arity a w) d) (trees a (d - arity a w + 1) ws t) k in
    go (eqb (arity a w) 0) refl (leb-true (arity a w) d p.0) (leaves-some a ws (d - arity a w + 1) t p.1)
  where
    r : ℕ
    r = arity a w

    go : (b : Bool) → eqb r 0 ≡ b → r ≤ d → t ≤ d - r + 1 + childless a ws → t ≤ d + (cond b 1 0 + childless a ws)
    go true e g i = omega arith
    go false e g i = omega (arith, eqb-false r 0 e)

module _ (a : List ℕ) (h : AcceptedAlphabet a) where
  -- a tree with several leaves has a word with several children, and such a word has at most four
  leaves-branching : (ws : List ℕ) (d t : ℕ) → trees a d ws t ≡ true → d + childless a ws ≤ t + 3 * branching_words a ws
  unfolding trees_by
  leaves-branching [] d t k = omega (arith, eqb-true d t k)
  leaves-branching (w ∷ ws) d t k =
      let p = picked (leb (arity a w) d) (trees a (d - arity a w + 1) ws t) k in
      go (eqb (arity a w) 0) (leb 2 (arity a w)) refl refl (leb-true (arity a w) d p.0)
      (leaves-branching ws (d - arity a w + 1) t p.1)
    where
      r : ℕ
      r = arity a w

      l : r ≤ rank_most
      l = arity-most h w

      go : (b c : Bool) → eqb r 0 ≡ b → leb 2 r ≡ c → r ≤ d → d - r + 1 + childless a ws ≤ t + 3 * branching_words a ws
          → d + (cond b 1 0 + childless a ws) ≤ t + 3 * (cond c 1 0 + branching_words a ws)
      go true true e f g i = omega (arith, l, eqb-true r 0 e, leb-true 2 r f)
      go true false e f g i = omega (arith, l, eqb-true r 0 e)
      go false true e f g i = omega (arith, l)
      go false false e f g i = omega (arith, l, eqb-false r 0 e, leb-false 2 r f)

-- T table words, B branching words, S states, n words, of which i have entries and l do not, and k constants
few_words : (T B S n i l k : ℕ) → T + B ≤ S + (n + i) + 1 → S ≡ i * suc k + l → i + l ≡ n → n ≤ expression_most → 1 ≤ l → l ≤ 1 + 3 * B
    → k ≤ constants_most → S ≤ states_most → T ≤ compiled_most
few_words T B S n i l k t s c n≤ l≥ l≤ k≤ S≤ = go (dec_le (suc k) constants_most)
  where
    go : Dec (suc k ≤ constants_most) → T ≤ compiled_most
    go (yes h) = let p : i * suc k ≤ i * constants_most = mul-le-mul_left i h in omega arith
    go (no h) =
        let e : k ≡ constants_most = omega arith in
        let s' : S ≡ i * suc constants_most + l = rw e at s in
        omega arith

-- "the largest compiled table grows to 1,148 words" (U1), which "now holds for rules without it" (U7)
pub table-most : (a e : List ℕ) → alphabet_fault a ≡ 0 → expression_fault a e ≡ 0 → (compiled a e).states ≤ states_most
    → has_anything e ≡ false → length (table_words (compiled a e)) ≤ compiled_most
table-most a e g f m n =
    let h = alphabet-accepted a g in
    let accepted = expression-accepted a e f in
    let o = accepted.shape in
    let c = childless-leaves a e accepted.words n in
    few_words (length (table_words (compiled a e))) (branching_words a e) (compiled a e).states (length e) (inner_words a e) (leaf_words a e)
    (length (constants_of a))
    (table-length a e f n) (states-counted a e) (inner-leaf a e) accepted.counted.few
    (omega (arith, c, leaves-some a e 0 1 o)) (omega (arith, c, leaves-branching a h e 0 1 o)) h.constants.few m

-- where neither 6 nor 25 refuses the rule
pub compiled-is_table : (a e : List ℕ) → alphabet_fault a ≡ 0 → expression_fault a e ≡ 0 → (compiled a e).states ≤ states_most
    → length (table_words (compiled a e)) ≤ table_most → is_table a (table_words (compiled a e)) ≡ true
compiled-is_table a e h f m l =
    let k = (alphabet-accepted a h).counted.few in
    words-is_table a (omega arith) (compiled-over a e f m) l
