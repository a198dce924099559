-- `totals::listed::move_numbers` meets its contract: before each turn the first k numbers are moved.
use Rattle.totals.proofs.MovedNumbers.{MovedTo}
use Rattle.totals.proofs.listed.move_numbers.Given as goal

abbrev pub invariant-loop-number : goal.invariant-loop-number
invariant-loop-number l = MovedTo l.from l.to l.initial.list l.list l.number-index
