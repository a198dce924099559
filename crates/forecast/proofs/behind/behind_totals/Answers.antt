-- `forecast::behind::behind_totals` meets its contract: the sets before the place and the root's set are put on the pile, and the nodes
-- behind the place are passed.
use native.Mathlib.Omega.{arith}
use Rattle.forecast.proofs.RunFacts.{row_fits, row_small, row_is}
use Rattle.forecast.proofs.BehindLaws.{behind-stackable, behind-puttable, behind-passable, behind-is}
use Rattle.forecast.proofs.behind.behind_totals.Goals as goal

pub stack_sets-requires : goal.stack_sets-requires
stack_sets-requires c =
    behind-stackable c.requires

pub put-requires : goal.put-requires
put-requires c =
    behind-puttable c.requires _ c.stack_sets.ensures

pub overflow_mul-at : goal.overflow_mul-at
overflow_mul-at c =
    let l = row_small c.requires.marked _ c.requires.inside _ c.set_size-size.ensures in
    omega arith

pub overflow_add-at : goal.overflow_add-at
overflow_add-at c =
    let l = row_small c.requires.marked _ c.requires.inside _ c.set_size-size.ensures in
    omega arith

pub offset_bounds-place-at : goal.offset_bounds-place-at
offset_bounds-place-at c =
    let l = row_small c.requires.marked _ c.requires.inside _ c.set_size-size.ensures in
    omega arith

pub slice_bounds-same_words-end : goal.slice_bounds-same_words-end
slice_bounds-same_words-end c =
    row_fits c.requires.marked _ c.requires.inside _ c.set_size-size.ensures

pub pass_nodes-requires : goal.pass_nodes-requires
pass_nodes-requires c =
    behind-passable c.requires c.stack_sets.new.pile c.stack_sets.ensures c.put.new.self c.put.ensures.height
    c.put.ensures.sets _

pub returns : goal.returns
returns c =
    behind-is c.requires c.stack_sets.new.pile c.stack_sets.ensures c.put.new.self c.put.ensures.height
    c.put.ensures.sets _ _ (row_is c.requires.marked _ c.requires.inside _ c.set_size-size.ensures)
    c.same_words-same.ensures _
    c.pass_nodes.ensures
