-- The nodes whose marks an exchange at one place can change, those of the subtree there and its ancestors, and their totals. These
-- definitions serve inner functions.
use Rattle.std.specs.Prelude.{ℕ, zero, suc, ◌+◌, ◌-◌, Bool, cond, List, [], ◌∷◌, ◌++◌, map, length}
use Rattle.words.specs.Lists.{list_from}
use Rattle.words.specs.Postfix.{is_ancestor}
use Rattle.automaton.specs.StateSet.{StateSet}
use Rattle.operations.specs.Totals.{Totals, totals_of}
use Rattle.operations.specs.ExchangeCall.{ExchangeCall}
use Rattle.operations.specs.Exchange.{used, stored_in, new_tree}
use Rattle.operations.specs.Recomputation.{start_in, set_after}

-- which of the n numbers from j on pass the test
abbrev pub numbers_where : (ℕ → Bool) → ℕ → ℕ → List ℕ
numbers_where f j zero = []
numbers_where f j (suc n) = let rest = numbers_where f (suc j) n in cond (f j) (j ∷ rest) rest

-- the ancestors of node i, nearest first
unfoldable pub ancestors_of : List ℕ → List ℕ → ℕ → List ℕ
ancestors_of a ch i = numbers_where (is_ancestor a ch i) (i + 1) (length ch - (i + 1))

-- the state sets of the nodes from `start` to i and of i's ancestors, where `sets` gives each node's
unfoldable pub place_sets : List ℕ → List ℕ → (ℕ → StateSet) → ℕ → ℕ → List StateSet
place_sets a ch sets start i = list_from sets start (i + 1 - start) ++ map sets (ancestors_of a ch i)

module _ (c : ExchangeCall) where
  -- the replacement's root in the new tree
  abbrev pub root_in : ℕ
  root_in = start_in c + (length c.replacement - 1)

  -- the totals at the place as they are stored before the exchange, and as they are behind it; all other nodes keep their marks
  unfoldable pub fallen_totals : Totals
  fallen_totals = totals_of c.table (place_sets c.alphabet (used c) (stored_in c) (start_in c) c.element)

  unfoldable pub added_totals : Totals
  added_totals = totals_of c.table (place_sets c.alphabet (new_tree c) (set_after c) (start_in c) root_in)
