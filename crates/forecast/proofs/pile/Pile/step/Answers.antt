-- `forecast::pile::Pile::step` meets its contract: the sets from the first child's on are those of the children, and the set that is
-- worked out from them is put in their place.
use native.Mathlib.Omega.{arith}
use Rattle.forecast.proofs.StepSetLaws.{step-kind, few-children, part_small, children-are, step-node}
use Rattle.forecast.proofs.StepSetLaws.{set_is, set-length, set_long, set-puttable, set-put, set-height, kept-later}
use Rattle.forecast.proofs.pile.Pile.step.Goals as goal

pub node_arity-children-requires : goal.node_arity-children-requires
node_arity-children-requires c = step-kind c.requires

pub overflow_mul-at : goal.overflow_mul-at
overflow_mul-at c = let l = part_small c.requires _ c.set_size-size.ensures _ c.node_arity-children.ensures in omega arith

pub offset_bounds-self-at : goal.offset_bounds-self-at
offset_bounds-self-at c = let l = part_small c.requires _ c.set_size-size.ensures _ c.node_arity-children.ensures in omega arith

pub slice_bounds-node_set-count : goal.slice_bounds-node_set-count
slice_bounds-node_set-count c = part_small c.requires _ c.set_size-size.ensures _ c.node_arity-children.ensures

pub slice_bounds-node_set-start : goal.slice_bounds-node_set-start
slice_bounds-node_set-start c = part_small c.requires _ c.set_size-size.ensures _ c.node_arity-children.ensures

pub slice_bounds-first-end : goal.slice_bounds-first-end
slice_bounds-first-end c =
    few-children c.requires _ c.set_size-size.ensures _ c.node_arity-children.ensures

pub slice_bounds-node_set-end-2 : goal.slice_bounds-node_set-end-2
slice_bounds-node_set-end-2 c =
    children-are c.requires _ c.set_size-size.ensures _ c.node_arity-children.ensures

pub node_set-set-requires : goal.node_set-set-requires
node_set-set-requires c =
    step-node c.requires _ c.set_size-size.ensures _ c.node_arity-children.ensures

pub slice_bounds-set-end : goal.slice_bounds-set-end
slice_bounds-set-end c =
    set_long c.requires _ c.set_size-size.ensures _ c.node_arity-children.ensures _ c.node_set-set.ensures.answer

pub slice_bounds-put-end : goal.slice_bounds-put-end
slice_bounds-put-end c =
    set-length c.requires _ c.set_size-size.ensures _ c.node_arity-children.ensures _ c.node_set-set.ensures.answer

pub put-requires : goal.put-requires
put-requires c =
    set-puttable c.requires _ c.set_size-size.ensures _ c.node_arity-children.ensures _ c.node_set-set.ensures.answer

pub returns : goal.returns
returns c =
    let g = c.requires in
    let size = c.set_size-size.ensures in
    let children = c.node_arity-children.ensures in
    let set = c.node_set-set.ensures.answer in
    record {
      answer = set_is g _ size _ children _ set;
      height = set-height g _ size _ children _ set c.put.ensures.height;
      sets = set-put g _ size _ children _ set c.put.new.self c.put.ensures.sets;
      kept = kept-later g c.node_set-set.ensures.closures;
    }
