-- `forecast::tree::tree_totals` meets its contract: before each node the totals of those so far are counted, and the sets of the pending
-- roots are on the pile.
use Rattle.forecast.proofs.TreeLaws.{Counting}
use Rattle.forecast.proofs.tree.tree_totals.Given as goal

abbrev pub invariant-loop-w : goal.invariant-loop-w
invariant-loop-w l =
    Counting l.alphabet l.indexed.table.now l.indexed.index.now l.nodes l.pile l.totals l.work l.w-index
