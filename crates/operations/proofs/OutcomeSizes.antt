-- What holds of the stored sets and of every set that is worked out holds of the outcomes of an exchange: a kept set is a stored one. So
-- they are whole state sets where the stored ones are.
use Prim.Native.Nat.{ℕ, zero, suc, ◌+◌, ◌<◌, ◌≤◌}
use mathlib.Core.Path.{sym, subst}
use mathlib.Core.Bool.{Bool, true, false, cond}
use mathlib.Core.List.{List, [], ◌∷◌, ◌++◌, map}
use native.Mathlib.Omega.{arith}
use lib.ListN.{length, take, drop, length-drop}
use Rattle.words.specs.Shape.{value_on_by}
use Rattle.words.specs.Postfix.{arity, span_of, is_ancestor, value_on, stack_given}
use Rattle.words.proofs.TestLaws.{Tested, holds, fails, tested}
use Rattle.words.specs.Lists.{All}
use Rattle.words.proofs.AllLaws.{each_append}
use Rattle.words.proofs.ListLaws.{map-append}
use Rattle.words.proofs.PostfixLaws.{start-le}
use Rattle.automaton.specs.StateSet.{StateSet}
use Rattle.operations.specs.Marks.{node_set, node_sets, same_words}
use Rattle.operations.specs.Exchange.{Outcome, recomputed, set_in, kept_from, propagate, root_set, outcomes_behind, outcomes_after}
use Rattle.operations.proofs.MarksLaws.{each-node_sets}
use Rattle.operations.proofs.PropagateLaws.{propagate-beside, propagate-last, propagate-onward}
use Rattle.operations.proofs.OutcomeLaws.{sets-recomputed}

module _ (P : StateSet → Type 0) (a table : List ℕ) (rule : (w : ℕ) (rs : List StateSet) → P (node_set table w rs))
    (stored : ℕ → StateSet) (n : ℕ) (whole : (i : ℕ) → i < n → P (stored i)) where
  abbrev Whole : List Outcome → Type 0
  Whole os = All P (map set_in os)

  whole-kept : (m j : ℕ) → j + m ≤ n → Whole (kept_from stored j m)
  whole-kept zero j h = tt
  whole-kept (suc m) j h = (whole j (omega arith), whole-kept m (suc j) (omega arith))

  whole-propagate : (above : ℕ → Bool) (ws : List ℕ) (j : ℕ) (s : List StateSet) → j + length ws ≤ n
      → Whole (propagate a table stored above j ws s)
  unfolding propagate value_on_by
  whole-propagate above [] j s h = tt
  whole-propagate above (w ∷ ws) j s h =
      go (tested (above j)) (tested (same_words new (stored j)))
      (whole-propagate above ws (suc j) (stored j ∷ drop (arity a w) s) (omega arith))
      (whole-propagate above ws (suc j) (new ∷ drop (arity a w) s) (omega arith))
    where
      new : StateSet
      new = value_on a (node_set table) w s

      go : Tested (above j) → Tested (same_words new (stored j))
          → Whole (propagate a table stored above (suc j) ws (stored j ∷ drop (arity a w) s))
          → Whole (propagate a table stored above (suc j) ws (new ∷ drop (arity a w) s))
          → Whole (propagate a table stored above j (w ∷ ws) s)
      go (fails x) y beside onward =
          subst Whole (sym (propagate-beside a table stored above j w ws s x)) (whole j (omega arith), beside)
      go (holds x) (holds y) beside onward =
          subst Whole (sym (propagate-last a table stored above j w ws s x y))
          (rule w _, whole-kept (length ws) (suc j) (omega arith))
      go (holds x) (fails y) beside onward =
          subst Whole (sym (propagate-onward a table stored above j w ws s x y)) (rule w _, onward)

  whole-behind : (used : List ℕ) (element : ℕ) (xs : List ℕ) → element < length used → length used ≤ n
      → Whole (outcomes_behind a table stored used element xs)
  unfolding outcomes_behind
  whole-behind used element xs h l = go (same_words (root_set a table xs) (stored element))
    where
      rest : List ℕ
      rest = drop (element + 1) used

      stack : List StateSet
      stack = root_set a table xs ∷ stack_given a stored 0 (take (span_of a used element).start used) []

      fits : element + 1 + length rest ≤ n
      fits = rw (length-drop (element + 1) used) (omega arith)

      go : (b : Bool)
          → Whole (cond b (kept_from stored (element + 1) (length rest))
          (propagate a table stored (is_ancestor a used element) (element + 1) rest stack))
      go true = whole-kept (length rest) (element + 1) fits
      go false = whole-propagate (is_ancestor a used element) rest (element + 1) stack fits

  pub whole-outcomes : (used : List ℕ) (element : ℕ) (xs : List ℕ) → element < length used → length used ≤ n
      → Whole (outcomes_after a table stored used element xs)
  unfolding outcomes_after
  whole-outcomes used element xs h l =
      let start = (span_of a used element).start in
      let sets : List Outcome = map recomputed (node_sets a table xs) in
      let behind = outcomes_behind a table stored used element xs in
      rw (map-append set_in (kept_from stored 0 start) (sets ++ behind), map-append set_in sets behind)
      (each_append P (map set_in (kept_from stored 0 start)) (map set_in sets ++ map set_in behind)
      (whole-kept start 0 (omega (arith, start-le (arity a) used element)))
      (each_append P (map set_in sets) (map set_in behind)
      (rw (sets-recomputed (node_sets a table xs)) (each-node_sets a table P rule xs)) (whole-behind used element xs h l)))
