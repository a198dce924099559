-- `sets::whole::count_cells` meets its contract: before each turn the words of the pairs so far are counted; one may be left.
use Rattle.std.proofs.Common.{◌*◌}
use Rattle.sets.proofs.CellCountLaws.{Summed}
use Rattle.sets.proofs.whole.count_cells.Given as goal

abbrev pub invariant-loop-pair : goal.invariant-loop-pair
invariant-loop-pair l = Summed l.words l.cells (2 * l.pair-index)
