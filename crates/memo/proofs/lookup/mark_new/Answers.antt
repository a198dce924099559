-- `memo::lookup::mark_new` meets its contract: the first words of the set that is worked out are written at the node's place.
use Rattle.memo.proofs.NodeWritingLaws.{set-length, set_long, set_new}
use Rattle.memo.proofs.lookup.mark_new.Goals as goal

pub slice_bounds-set-end : goal.slice_bounds-set-end
slice_bounds-set-end c =
    set_long c.requires _ c.node_set-set.ensures.answer _ c.set_size-size.ensures

pub slice_bounds-words-end : goal.slice_bounds-words-end
slice_bounds-words-end c =
    set-length c.requires _ c.node_set-set.ensures.answer _ c.set_size-size.ensures

pub returns-clause-answer : goal.returns-clause-answer
returns-clause-answer c =
    set_new c.requires _ c.node_set-set.ensures.answer _ c.set_size-size.ensures _
    c.representative-node.ensures _ c.write_set_at.ensures

pub returns-clause-closures : goal.returns-clause-closures
returns-clause-closures c = c.node_set-set.ensures.closures
