-- `emitter::own::push_union` meets its contract: its two writers leave the transitions of a union.
use native.Mathlib.Omega.{arith}
use Rattle.emitter.proofs.OwnLaws.{child-exit, union-own}
use Rattle.emitter.proofs.own.push_union.Goals as goal

pub returns-clause-written : goal.returns-clause-written
returns-clause-written c =
    let a = c.args in
    let two = c.requires.ports_len in
    union-own a.word.now.constants.now a.word.now.ports.now _ _ _ _ _ _ _ _ _
    two
    (child-exit a.word.now.constants.now a.word.now.ports.now 0 c.index-word-0.result (omega arith) c.exit_of-first.ensures.0)
    (child-exit a.word.now.constants.now a.word.now.ports.now 1 c.index-word-1.result (omega arith) c.exit_of-second.ensures.0)
    c.push_both.ensures.written c.push_entries.ensures.written
