-- `forecast::behind::stack_sets` meets its contract: before each turn the stored sets of the roots of the first i nodes are on the pile.
use native.Mathlib.Omega.{arith}
use mathlib.Core.Path.{refl}
use Rattle.words.proofs.WordLaws.{is_node-facts}
use Rattle.forecast.proofs.RunFacts.{run-tree, row_fits, row_small, row_is, row-size}
use Rattle.forecast.proofs.TreeLaws.{tree-node}
use Rattle.forecast.proofs.StackSetsLaws.{stacking-none, stacking-inside, stacking-puttable}
use Rattle.forecast.proofs.StackSetsLaws.{stacking-more, stacking-end}
use Rattle.forecast.proofs.behind.stack_sets.Goals as goal

pub loop-i-init : goal.loop-i-init
loop-i-init c = stacking-none c.requires refl

pub node_arity-children-requires : goal.node_arity-children-requires
node_arity-children-requires c = (is_node-facts _ _ (tree-node _ _ (run-tree c.requires.marked) _ (stacking-inside c.requires c.loop-i-test.true))).kind

pub overflow_mul-at : goal.overflow_mul-at
overflow_mul-at c =
    let l = row_small c.requires.marked _ (stacking-inside c.requires c.loop-i-test.true) _ c.set_size-size.ensures in
    omega arith

pub overflow_add-at : goal.overflow_add-at
overflow_add-at c =
    let l = row_small c.requires.marked _ (stacking-inside c.requires c.loop-i-test.true) _ c.set_size-size.ensures in
    omega arith

pub offset_bounds-place-at : goal.offset_bounds-place-at
offset_bounds-place-at c =
    let l = row_small c.requires.marked _ (stacking-inside c.requires c.loop-i-test.true) _ c.set_size-size.ensures in
    omega arith

pub slice_bounds-put-end : goal.slice_bounds-put-end
slice_bounds-put-end c =
    row_fits c.requires.marked _ (stacking-inside c.requires c.loop-i-test.true) _ c.set_size-size.ensures

pub put-requires : goal.put-requires
put-requires c =
    stacking-puttable c.requires c.loop-i.invariant c.loop-i-test.true _ c.node_arity-children.ensures
    (row-size c.requires.marked _ (stacking-inside c.requires c.loop-i-test.true) _ c.set_size-size.ensures)

pub loop-i-preserved : goal.loop-i-preserved
loop-i-preserved c =
    stacking-more c.requires c.loop-i.invariant c.loop-i-test.true _ c.node_arity-children.ensures _
    (row_is c.requires.marked _ (stacking-inside c.requires c.loop-i-test.true) _ c.set_size-size.ensures)
    (row-size c.requires.marked _ (stacking-inside c.requires c.loop-i-test.true) _ c.set_size-size.ensures) c.put.ensures.height
    c.put.ensures.sets

pub returns : goal.returns
returns c =
    stacking-end c.requires c.loop-i.invariant c.loop-i-test.false
