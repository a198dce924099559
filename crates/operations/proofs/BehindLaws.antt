-- Which nodes behind a replaced subtree are recomputed, whatever the stored state sets are: the ancestors, nearest first,
-- as long as work continues; all others keep their stored sets.
use mathlib.Core.Path.{◌≡◌, refl, ap, ap₂, ◌∙◌, sym, subst}
use mathlib.Core.Bool.{Bool, true, false, not, cond, ◌&&◌}
use mathlib.Core.List.{List, [], ◌∷◌}
use Prim.Native.Nat.{ℕ, zero, suc, ◌+◌, ◌<◌}
use native.Mathlib.Omega.{arith}
use native.Mathlib.Nat.{add-zero, add-suc, suc-add}
use lib.ListN.{length, drop}
use Rattle.words.specs.Lists.{all, count, list_from}
use Rattle.words.specs.Postfix.{arity, is_ancestor, value_on}
use Rattle.words.proofs.TestLaws.{Tested, holds, fails, tested, and_same, and_assoc}
use Rattle.words.proofs.ListLaws.{list_from-shift, map-list_from, all_map, count_map}
use Rattle.automaton.specs.StateSet.{StateSet}
use Rattle.operations.specs.Marks.{node_set, same_words}
use Rattle.operations.specs.Exchange.{Outcome, kept, recomputed, set_in, is_recomputed}
use Rattle.operations.specs.Exchange.{recomputed_in, kept_from, propagate, root_set, outcomes_behind}
use Rattle.operations.specs.Recomputation.{outcome_at}
use Rattle.operations.proofs.PropagateLaws.{propagate-beside, propagate-last, propagate-onward}

module _ (stored : ℕ → StateSet) (above : ℕ → Bool) where
  -- work ends at node j with this outcome: it is an ancestor, and its words are as stored
  abbrev pub ends_at : ℕ → Outcome → Bool
  ends_at j o = above j && same_words (set_in o) (stored j)

  -- a node is recomputed where work continues and it is an ancestor; otherwise its stored set is kept
  abbrev pub chosen : ℕ → Bool → Outcome → Outcome
  chosen j on o = cond (on && above j) (recomputed (set_in o)) (kept (stored j))

  -- the outcomes of the nodes from j on; `on` tells whether work continues
  abbrev pub Chosen : ℕ → Bool → List Outcome → Type 0
  Chosen j on [] = Unit {0}
  Chosen j on (o ∷ os) = (o ≡ chosen j on o) × Chosen (suc j) (on && not (ends_at j o)) os

  chosen-kept : (n j : ℕ) → Chosen j false (kept_from stored j n)
  chosen-kept zero j = tt
  chosen-kept (suc n) j = (refl, chosen-kept n (suc j))

  chosen-propagate : (a table ws : List ℕ) (j : ℕ) (stack : List StateSet) → Chosen j true (propagate a table stored above j ws stack)
  unfolding propagate
  chosen-propagate a table [] j stack = tt
  chosen-propagate a table (w ∷ ws) j stack =
      go (tested (above j)) (tested (same_words new (stored j))) (chosen-propagate a table ws (suc j) (stored j ∷ rest))
      (chosen-propagate a table ws (suc j) (new ∷ rest))
    where
      new : StateSet
      new = value_on a (node_set table) w stack

      rest : List StateSet
      rest = drop (arity a w) stack

      go : Tested (above j) → Tested (same_words new (stored j))
          → Chosen (suc j) true (propagate a table stored above (suc j) ws (stored j ∷ rest))
          → Chosen (suc j) true (propagate a table stored above (suc j) ws (new ∷ rest))
          → Chosen j true (propagate a table stored above j (w ∷ ws) stack)
      go (fails x) y l m = subst (Chosen j true) (sym (propagate-beside a table stored above j w ws stack x)) (rw x, rw x l)
      go (holds x) (holds y) l m =
          subst (Chosen j true) (sym (propagate-last a table stored above j w ws stack x y))
          (rw x, rw (x, y) (chosen-kept (length ws) (suc j)))
      go (holds x) (fails y) l m =
          subst (Chosen j true) (sym (propagate-onward a table stored above j w ws stack x y)) (rw x, rw (x, y) m)

  -- the same by number: work continues up to the node k places behind j if it continues at j and ends at none between
  abbrev pub continues_from : ℕ → Bool → List Outcome → ℕ → Bool
  continues_from j on os k = on && all (λ i. not (ends_at (j + i) (outcome_at os i))) (list_from (λ i. i) 0 k)

  continues-more : (j : ℕ) (on : Bool) (o : Outcome) (os : List Outcome) (k : ℕ)
      → continues_from j on (o ∷ os) (suc k) ≡ continues_from (suc j) (on && not (ends_at j o)) os k
  continues-more j on o os k =
      ap (λ (i : ℕ). on && (not (ends_at i o) && all P (list_from (λ i. i) 1 k))) (add-zero j)
      ∙ and_assoc on (not (ends_at j o)) (all P (list_from (λ i. i) 1 k))
      ∙ ap (λ (b : Bool). on && not (ends_at j o) && b) shifted
    where
      P : ℕ → Bool
      P i = not (ends_at (j + i) (outcome_at (o ∷ os) i))

      shifted : all P (list_from (λ i. i) 1 k) ≡ all (λ i. not (ends_at (suc j + i) (outcome_at os i))) (list_from (λ i. i) 0 k)
      shifted =
          ap (all P) (list_from-shift (λ i. i) suc k 0 (λ i. refl) ∙ sym (map-list_from (λ i. i) suc k 0))
          ∙ all_map P suc (list_from (λ i. i) 0 k) ∙ simp (add-suc, suc-add)

  pub chosen_at : (os : List Outcome) (j : ℕ) (on : Bool) (k : ℕ) → Chosen j on os → k < length os
      → outcome_at os k ≡ chosen (j + k) (continues_from j on os k) (outcome_at os k)
  chosen_at [] j on k h l = absurd (omega arith)
  chosen_at (o ∷ os) j on zero h l = rw (and_same on, add-zero j) h.0
  chosen_at (o ∷ os) j on (suc k) h l =
      rw (continues-more j on o os k, add-suc, ← suc-add) (chosen_at os (suc j) (on && not (ends_at j o)) k h.1 (omega arith))

-- ---- how many are recomputed

-- where a test tells which outcomes are recomputed, it counts them
pub recomputed-count : (os : List Outcome) (f : ℕ → Bool) → ((k : ℕ) → k < length os → is_recomputed (outcome_at os k) ≡ cond (f k) 1 0)
    → recomputed_in os ≡ count f (list_from (λ i. i) 0 (length os))
unfolding recomputed_in
recomputed-count [] f h = refl
recomputed-count (o ∷ os) f h =
    ap₂ (λ (x y : ℕ). x + y) (h 0 (omega arith))
    (recomputed-count os (λ k. f (suc k)) (λ k l. h (suc k) (omega arith))
    ∙ sym
    (ap (count f) (list_from-shift (λ i. i) suc (length os) 0 (λ i. refl) ∙ sym (map-list_from (λ i. i) suc (length os) 0))
    ∙ count_map f suc (list_from (λ i. i) 0 (length os))))

pub is-chosen : (o : Outcome) (b : Bool) (r s : StateSet) → o ≡ cond b (recomputed r) (kept s) → is_recomputed o ≡ cond b 1 0
is-chosen o true r s e = ap is_recomputed e
is-chosen o false r s e = ap is_recomputed e

-- ---- the nodes behind the replaced subtree

module _ (a table : List ℕ) (stored : ℕ → StateSet) (used : List ℕ) (element : ℕ) (xs : List ℕ) where
  abbrev behind : List ℕ
  behind = drop (element + 1) used

  abbrev changed : Bool
  changed = not (same_words (root_set a table xs) (stored element))

  pub chosen-behind : Chosen stored (is_ancestor a used element) (element + 1) changed (outcomes_behind a table stored used element xs)
  unfolding outcomes_behind
  chosen-behind = go (tested (same_words (root_set a table xs) (stored element)))
    where
      go : Tested (same_words (root_set a table xs) (stored element))
          → Chosen stored (is_ancestor a used element) (element + 1) changed (outcomes_behind a table stored used element xs)
      go (holds b) = rw b (chosen-kept stored (is_ancestor a used element) (length behind) (element + 1))
      go (fails b) = rw b (chosen-propagate stored (is_ancestor a used element) a table behind (element + 1) _)
