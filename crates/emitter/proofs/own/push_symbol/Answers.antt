-- `emitter::own::push_symbol` meets its contract: over no children there is nothing to write, and otherwise its three writers leave the
-- transitions of a symbol.
use Rattle.emitter.proofs.OwnLaws.{symbol-own}
use Rattle.emitter.proofs.own.push_symbol.Goals as goal

pub returns-clause-written : goal.returns-clause-written
returns-clause-written c =
    let a = c.args in
    symbol-own a.word.now.constants.now a.word.now.ports.now _ _ _ _ _ _ _ _ _ _ c.if-word-eq0.false
    c.push_transition.ensures.written
    c.push_sources.ensures.written
    c.push_entries.ensures.written
