-- `totals::moves::move_total` meets its contract: a total in range is neither below zero nor above a word.
use native.Mathlib.Omega.{arith}
use Rattle.operations.proofs.TotalsLaws.{range-in}
use Rattle.totals.proofs.moves.move_total.Goals as goal

pub overflow_sub-result : goal.overflow_sub-result
overflow_sub-result c = (range-in _ _ _ c.requires).0

pub overflow_cast-result-4 : goal.overflow_cast-result-4
overflow_cast-result-4 c = let g = (range-in _ _ _ c.requires).1 in omega arith
