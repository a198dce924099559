-- `forecast::behind::pass_nodes` meets its contract: before each turn what is still to be added gives the totals with all ancestors.
use Rattle.operations.specs.Marks.{size_of}
use Rattle.totals.specs.TotalsIn.{totals_in}
use Rattle.forecast.specs.Pile.{stack_of}
use Rattle.forecast.specs.Behind.{place_totals}
use Rattle.forecast.proofs.PassingLaws.{PassingNodes}
use Rattle.forecast.proofs.behind.pass_nodes.Given as goal

abbrev pub invariant-loop-i : goal.invariant-loop-i
invariant-loop-i l =
    PassingNodes l.place
    (place_totals l.place (stack_of (size_of l.place.indexed.table.now) l.initial.pile) l.initial.state.active
    (totals_in l.initial.state.totals))
    l.pile l.state l.work l.i
