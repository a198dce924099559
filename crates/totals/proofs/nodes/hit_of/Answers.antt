-- `totals::nodes::hit_of` meets its contract: the set is named exactly if it holds the final state.
use Rattle.totals.proofs.HitLaws.{hit_told}
use Rattle.totals.proofs.nodes.hit_of.Goals as goal
use mathlib.Core.Path.{◌∙◌}

pub returns : goal.returns
returns c = c.from.ensures ∙ hit_told _ _ _ c.contains.ensures
