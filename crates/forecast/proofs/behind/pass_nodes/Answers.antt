-- `forecast::behind::pass_nodes` meets its contract: before each turn what is still to be added gives the totals with all ancestors.
use native.Mathlib.Omega.{arith}
use Rattle.forecast.proofs.RunFacts.{row_fits, row_small, row_is, row-size}
use Rattle.forecast.proofs.PassingLaws.{passing-none, passing-at, passing-more, passing-end}
use Rattle.forecast.proofs.behind.pass_nodes.Goals as goal

pub loop-i-init : goal.loop-i-init
loop-i-init c = passing-none c.requires

pub overflow_mul-at : goal.overflow_mul-at
overflow_mul-at c =
    let l = row_small c.requires.marked _ c.loop-i-test.true _ c.set_size-size.ensures in
    omega arith

pub overflow_add-stored : goal.overflow_add-stored
overflow_add-stored c =
    let l = row_small c.requires.marked _ c.loop-i-test.true _ c.set_size-size.ensures in
    omega arith

pub offset_bounds-place-at : goal.offset_bounds-place-at
offset_bounds-place-at c =
    let l = row_small c.requires.marked _ c.loop-i-test.true _ c.set_size-size.ensures in
    omega arith

pub slice_bounds-stored-end : goal.slice_bounds-stored-end
slice_bounds-stored-end c = row_fits c.requires.marked _ c.loop-i-test.true _ c.set_size-size.ensures

pub pass_node-state-requires : goal.pass_node-state-requires
pass_node-state-requires c =
    passing-at c.requires c.loop-i.invariant c.loop-i-test.true _
    (row-size c.requires.marked _ c.loop-i-test.true _ c.set_size-size.ensures)

pub loop-i-preserved : goal.loop-i-preserved
loop-i-preserved c =
    passing-more c.requires c.loop-i.invariant c.loop-i-test.true _
    (row_is c.requires.marked _ c.loop-i-test.true _ c.set_size-size.ensures) c.pass_node-state.ensures.passed
    c.pass_node-state.ensures.kept

pub returns : goal.returns
returns c =
    passing-end c.requires c.loop-i.invariant c.loop-i-test.false
