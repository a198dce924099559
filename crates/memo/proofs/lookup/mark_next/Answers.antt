-- `memo::lookup::mark_next` meets its contract: a slot with the node's key holds a node with its state set, and otherwise the node is
-- worked out and remembered.
use Rattle.memo.proofs.MemoLaws.{found-copyable, found-next, stored_next}
use Rattle.memo.proofs.lookup.mark_next.Goals as goal

pub copy_node-requires : goal.copy_node-requires
copy_node-requires c =
    rw c.in-Some.ensures.1
    (found-copyable c.requires _ c.step_key-key.ensures _ c.slot_of-slot.ensures c.in-Some.ensures.0 _
    c.set_size.ensures)

pub returns-in-Some : goal.returns-in-Some
returns-in-Some c =
    rw c.in-Some.ensures.1
    (found-next c.requires _ c.step_key-key.ensures _ c.slot_of-slot.ensures c.in-Some.ensures.0 _
    c.set_size.ensures _ (rw c.in-Some.ensures.1 at c.copy_node.ensures))

pub returns : goal.returns
returns c =
    rw (c.remember.ensures, c.mark_new-node.ensures.keys, c.mark_new-node.ensures.known)
    (stored_next c.requires _ c.step_key-key.ensures _ c.slot_of-slot.ensures _ _ c.mark_new-node.ensures.answer
    c.mark_new-node.new.memo c.mark_new-node.ensures.places c.mark_new-node.ensures.closures c.mark_new-node.ensures.pending)
