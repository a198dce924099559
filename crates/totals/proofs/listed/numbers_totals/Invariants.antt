-- `totals::listed::numbers_totals` meets its contract: before each turn the first k nodes of the list are counted.
use Rattle.totals.proofs.ListedTotals.{CountedTo}
use Rattle.totals.proofs.listed.numbers_totals.Given as goal

abbrev pub invariant-loop-number : goal.invariant-loop-number
invariant-loop-number l = CountedTo l.marks l.size l.last l.list l.hits l.cells l.number-index
