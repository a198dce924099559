-- `emitter::entries::push_closure_entry` meets its contract: at c the exit stands behind the children's entries.
use Rattle.ports.specs.Ports.{entry_state}
use Rattle.emitter.proofs.ChildTargetLaws.{closure-here, closure-other}
use Rattle.emitter.proofs.entries.push_closure_entry.Goals as goal

pub returns-then-word-k-clause-written : goal.returns-then-word-k-clause-written
returns-then-word-k-clause-written c =
    let a = c.args in
    closure-here a.word.now.constants.now a.word.now.ports.now (entry_state a.word.now.exit a.k) _ _ _ _ _ _ c.requires.k_in_bounds.1 a.word.now.exit _ _
    c.if-word-k.true c.push_to_children.ensures.written c.entry_state.ensures
    c.push_epsilon.ensures.written

pub returns-else-word-k-clause-written : goal.returns-else-word-k-clause-written
returns-else-word-k-clause-written c =
    let a = c.args in
    closure-other a.word.now.constants.now a.word.now.ports.now (entry_state a.word.now.exit a.k) _ _ _ _ _ _ c.requires.k_in_bounds.1 a.word.now.exit c.if-word-k.false
    c.push_to_children.ensures.written
