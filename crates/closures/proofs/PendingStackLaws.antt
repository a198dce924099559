-- A state set and the stack of its pending states, when one state more is reached.
use mathlib.Core.Path.{◌≡◌, ◌∙◌, sym}
use mathlib.Core.Bool.{true, false, cond}
use mathlib.Core.List.{List}
use Prim.Native.Nat.{ℕ, ◌+◌, ◌*◌, ◌<◌, ◌≤◌}
use native.Mathlib.Omega.{arith}
use native.Mathlib.Decide.{ℕ_discrete}
use lib.ListN.{length, get_or, set, length-set}
use lib.Seq.{get_or-set_same, get_or-set_other}
use Rattle.words.specs.Lists.{list_from}
use Rattle.words.specs.Limits.{states_most}
use Rattle.words.proofs.TestLaws.{Tested, holds, fails, tested}
use Rattle.words.proofs.CountLaws.{count_most, count-more, list_from-member}
use Rattle.words.proofs.ListLaws.{length-list_from}
use Rattle.automaton.specs.Transition.{automaton_of}
use Rattle.automaton.specs.StateSet.{StateSet, contains, insert}
use Rattle.automaton.proofs.BitLaws.{length-insert, insert-same, insert-other, insert-keeps}
use Rattle.closures.specs.Closure.{missing, PendingStack, Puttable, Put, work}

-- ---- what was put

module _ {r : StateSet} {pending : List ℕ} {top s : ℕ} where
  -- what holds in both cases holds of what was put
  pub put-cases : (P : StateSet → List ℕ → ℕ → Type 0) {t : StateSet} {pushed : List ℕ} {height : ℕ} → Put r pending top s t pushed height
      → (contains r s ≡ true → P r pending top) → (contains r s ≡ false → P (insert r s) (set pending top s) (top + 1)) → P t pushed height
  put-cases P p old new = rw (p.states, p.stack, p.answer) (go (tested (contains r s)))
    where
      go : Tested (contains r s)
          → P (cond (contains r s) r (insert r s)) (cond (contains r s) pending (set pending top s)) (cond (contains r s) top (top + 1))
      go (holds e) = rw e (old e)
      go (fails e) = rw e (new e)

-- ---- a state that was absent

missing-insert : (n : ℕ) (r : StateSet) (s : ℕ) → s < n → n ≤ length r * 32 → contains r s ≡ false → missing n (insert r s) < missing n r
unfolding missing
missing-insert n r s below fits absent =
    let l = count-more (contains r) (contains (insert r s)) (insert-keeps r s) (list_from (λ q. q) 0 n)
    (list_from-member 0 n s (omega arith) (omega arith)) absent (insert-same r s (omega arith)) in
    let m = count_most (contains (insert r s)) (list_from (λ q. q) 0 n) in
    let e = length-list_from (λ q. q) n 0 in
    omega arith

pub missing-most : (n : ℕ) (r : StateSet) → missing n r ≤ n
unfolding missing
missing-most n r = omega arith

-- ---- the stack

module _ {table : List ℕ} (most : (automaton_of table).states ≤ states_most) {r : StateSet} {pending : List ℕ} {top : ℕ}
    (h : PendingStack table r pending top)
    {s : ℕ} (below : s < (automaton_of table).states) where
  fewer : contains r s ≡ false → missing (automaton_of table).states (insert r s) < missing (automaton_of table).states r
  fewer absent = missing-insert (automaton_of table).states r s below (let z = h.size in omega arith) absent

  pub stack-puttable : Puttable r pending top s
  stack-puttable = record { few = omega arith; fits = λ absent. let l = fewer absent in omega (arith, h.few, h.fits) }

  pushed-stack : contains r s ≡ false → PendingStack table (insert r s) (set pending top s) (top + 1)
  pushed-stack absent =
      record {
        size = length-insert r s ∙ h.size;
        below = λ q e. lower q e (ℕ_discrete q s);
        fits = rw (length-set) h.fits;
        few = let l = fewer absent in omega (arith, h.few);
        inside = λ k l. held k l (ℕ_discrete k top);
      }
    where
      lower : (q : ℕ) → contains (insert r s) q ≡ true → Dec (q ≡ s) → q < (automaton_of table).states
      lower q e (yes i) = rw i below
      lower q e (no i) = h.below q (sym (insert-other r s q i) ∙ e)

      held : (k : ℕ) → k < top + 1 → Dec (k ≡ top) → contains (insert r s) (get_or (set pending top s) k 0) ≡ true
      held k l (yes i) =
          rw (i, get_or-set_same pending top s 0 (stack-puttable.fits absent)) (insert-same r s (let z = h.size in omega arith))
      held k l (no i) = rw (get_or-set_other pending top k s 0 i) (insert-keeps r s (get_or pending k 0) (h.inside k (omega arith)))

  module _ {t : StateSet} {pushed : List ℕ} {height : ℕ} (p : Put r pending top s t pushed height) where
    pub stack-put : PendingStack table t pushed height
    stack-put = put-cases (λ t k n. PendingStack table t k n) p (λ e. h) pushed-stack

    pub put-less : work table t height ≤ work table r top
    put-less = put-cases (λ t k n. work table t n ≤ work table r top) p (λ e. omega arith) (λ e. let l = fewer e in omega arith)

    pub put-present : contains t s ≡ true
    put-present = put-cases (λ t k n. contains t s ≡ true) p (λ e. e) (λ e. insert-same r s (let z = h.size in omega arith))

    pub put_keeps : (q : ℕ) → contains r q ≡ true → contains t q ≡ true
    put_keeps q e = put-cases (λ t k n. contains t q ≡ true) p (λ _. e) (λ _. insert-keeps r s q e)
