-- Nodes worked out one after the other, from node i on, over a list of state sets as they stand.
use mathlib.Core.Path.{◌≡◌, refl, ◌∙◌}
use mathlib.Core.List.{List, map}
use Prim.Native.Nat.{ℕ, zero, suc, ◌+◌, ◌≤◌}
use native.Mathlib.Omega.{arith}
use lib.ListN.{length, set, length-set}
use Rattle.words.specs.Postfix.{roots_of}
use Rattle.automaton.specs.StateSet.{StateSet}
use Rattle.nodes.proofs.LoopLaws.{node_set_at, set_from_sets, Recomputing, recomputing-none, recomputing-more}

module _ (a table ch : List ℕ) where
  -- the state sets behind n nodes from node i on
  unfoldable pub marked_sets : ℕ → ℕ → List StateSet → List StateSet
  marked_sets i zero rows = rows
  marked_sets i (suc n) rows = let before = marked_sets i n rows in set before (i + n) (set_from_sets a table ch (i + n) before)

  pub length-marked_sets : (i n : ℕ) (rows : List StateSet) → length (marked_sets i n rows) ≡ length rows
  unfolding marked_sets
  length-marked_sets i zero rows = refl
  length-marked_sets i (suc n) rows = length-set (marked_sets i n rows) (i + n) _ ∙ length-marked_sets i n rows

  pub marked_sets-recomputing : (old : List StateSet) (i : ℕ) (σ : List StateSet) (k : ℕ) → i + k ≤ length ch → i + k ≤ length old
      → map (node_set_at old) (roots_of a ch i) ≡ σ → Recomputing a table ch old i σ k (marked_sets i k old)
  unfolding marked_sets
  marked_sets-recomputing old i σ zero h l e = recomputing-none a table ch old i σ e
  marked_sets-recomputing old i σ (suc k) h l e =
      recomputing-more a table ch old i σ k (marked_sets i k old) (omega arith) (omega arith) (length-marked_sets i k old)
      (marked_sets-recomputing old i σ k (omega arith) (omega arith) e)
