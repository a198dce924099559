-- `forecast::behind::stack_sets` meets its contract: before each turn the stored sets of the roots of the first i nodes are on the pile.
use Rattle.forecast.proofs.StackSetsLaws.{StackingSets}
use Rattle.forecast.proofs.behind.stack_sets.Given as goal

abbrev pub invariant-loop-i : goal.invariant-loop-i
invariant-loop-i l = StackingSets l.place l.count l.pile l.i
