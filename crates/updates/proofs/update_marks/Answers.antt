-- `updates::update_marks` meets its contract: the index of the table, the stack of the nodes before `start`, the nodes up to `root`,
-- and the loop over node `root` and its ancestors.
use Rattle.updates.proofs.UpdateLaws.{nodes-index, nodes-stack, nodes-marks, nodes-propagate, nodes-updated}
use Rattle.updates.proofs.update_marks.Goals as goal

pub write_index-requires : goal.write_index-requires
write_index-requires c = nodes-index c.requires

pub stack_nodes-requires : goal.stack_nodes-requires
stack_nodes-requires c = nodes-stack c.requires

pub mark_nodes-requires : goal.mark_nodes-requires
mark_nodes-requires c =
    nodes-marks
    c.requires
    c.write_index.ensures
    c.nothing_remembered.ensures
    c.stack_nodes.ensures

pub overflow_sub-count : goal.overflow_sub-count
overflow_sub-count c =
    c.requires.order

pub propagate-requires : goal.propagate-requires
propagate-requires c =
    nodes-propagate c.requires c.write_index.ensures c.mark_nodes.auto.marks c.mark_nodes.ensures.maintained

pub returns : goal.returns
returns c =
    nodes-updated _ _ _ _ _ _ _
    c.mark_nodes.ensures.marks _
    c.propagate.ensures
