-- `totals::listed::list_ancestors` meets its contract: before each turn the ancestors before node j are listed.
use Rattle.totals.proofs.ListedAncestors.{ListedTo}
use Rattle.totals.proofs.listed.list_ancestors.Given as goal

abbrev pub invariant-loop-j : goal.invariant-loop-j
invariant-loop-j l = ListedTo l.alphabet l.nodes l.i l.initial.list l.list l.listed.reach l.listed.found l.j
