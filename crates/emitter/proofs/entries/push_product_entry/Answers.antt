-- `emitter::entries::push_product_entry` meets its contract: the children from the second on stand behind the first port.
use Rattle.ports.specs.Ports.{entry_state}
use Rattle.emitter.proofs.ChildTargetLaws.{product-here, product-other}
use Rattle.emitter.proofs.entries.push_product_entry.Goals as goal

pub returns-then-word-k-clause-written : goal.returns-then-word-k-clause-written
returns-then-word-k-clause-written c =
    let a = c.args in
    product-here a.word.now.constants.now a.word.now.ports.now (entry_state a.word.now.exit a.k) _ _ _ _ _ _ c.requires.k_in_bounds.1
    c.if-word-k.true c.push_to_children.ensures.written

pub returns-clause-written : goal.returns-clause-written
returns-clause-written c =
    let a = c.args in
    product-other a.word.now.constants.now a.word.now.ports.now (entry_state a.word.now.exit a.k) _ _ _ _ _ _ c.requires.k_in_bounds.1
    c.if-word-k.false c.push_to_children-2.ensures.written
