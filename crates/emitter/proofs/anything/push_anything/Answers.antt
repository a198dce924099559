-- `emitter::anything::push_anything` meets its contract: the moves on every symbol, and then one from each entry.
use Rattle.emitter.proofs.AnythingLaws.{anything-own}
use Rattle.emitter.proofs.anything.push_anything.Goals as goal

pub returns-clause-written : goal.returns-clause-written
returns-clause-written c =
    let a = c.args in
    anything-own a.alphabet.now a.word.now.constants.now _ _ _ _ _ _ _ c.push_every_symbol.ensures.written
    c.push_entries.ensures.written
