-- `compiler::table::write_parts` meets its contract: its four writers leave the four parts of the table.
use native.Mathlib.Omega.{arith}
use mathlib.Core.Path.{ap}
use Prim.Native.Nat.{◌-◌}
use lib.ListN.{length}
use Rattle.words.proofs.ListLaws.{length-take-most}
use Rattle.compiler.proofs.KnownConstants.{constants-symbols}
use Rattle.compiler.proofs.AcceptedRuleLaws.{rule-alphabet, rule-expression, states-countable}
use Rattle.compiler.proofs.TablePartLaws.{table-written}
use Rattle.compiler.proofs.table.write_parts.Goals as goal

pub overflow_sub-last : goal.overflow_sub-last
overflow_sub-last c =
    let some = (rule-expression _ _ c.requires.compilable.accepted).counted.some in
    omega arith

pub bounds-expression-last : goal.bounds-expression-last
bounds-expression-last c =
    let some = (rule-expression _ _ c.requires.compilable.accepted).counted.some in
    omega arith

pub states_after-exit-requires : goal.states_after-exit-requires
states_after-exit-requires c =
    let p = c.requires.compilable in
    let l = c.args.expression.now in
    let few = (rule-expression _ _ p.accepted).counted.few in
    let t = length-take-most l (length l - 1) in
    record {
      states_countable = states-countable _ _ (rule-alphabet _ _ p.accepted) (ap length p.constants);
      expression_len_bound = omega arith;
    }

pub states_of-requires : goal.states_of-requires
states_of-requires c =
    let p = c.requires.compilable in
    states-countable _ _ (rule-alphabet _ _ p.accepted) (ap length p.constants)

pub push_constants-requires : goal.push_constants-requires
push_constants-requires c =
    let p = c.requires.compilable in
    let h = rule-alphabet _ _ p.accepted in
    record {
      few = rw p.constants h.constants.few;
      symbols = constants-symbols _ _ p.constants h.counted.few;
      fits = omega arith;
    }

pub returns-clause-written : goal.returns-clause-written
returns-clause-written c =
    let a = c.args in
    let e = rule-expression _ _ c.requires.compilable.accepted in
    rw c.requires.at_first
    (table-written a.alphabet.now a.constants.now a.expression.now e.counted.some _ _ c.word_port-port.result _ _ _ _ _ _ _ _ _
    c.requires.compilable.constants
    c.states_after-exit.ensures.0
    c.states_of.ensures.0
    c.word_port-port.ensures
    (rw c.requires.at_first at c.push.ensures.written)
    c.push_constants.ensures.written
    c.write_words.ensures.written
    c.push-2.ensures.written)
