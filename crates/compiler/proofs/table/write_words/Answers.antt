-- `compiler::table::write_words` meets its contract: before each turn the transitions of the first i words are written, and those of
-- the words from i on follow from the next state and the stack.
use mathlib.Core.Path.{refl, ◌∙◌}
use native.Mathlib.Omega.{arith}
use Rattle.compiler.proofs.AcceptedRuleLaws.{rule-alphabet, rule-expression, symbols-emittable}
use Rattle.compiler.proofs.KnownConstants.{constants-once}
use Rattle.compiler.proofs.EmittedLaws.{emitted-none, emitted-children, emitted-height}
use Rattle.compiler.proofs.EmittedLaws.{emitted-room, emitted-few, emitted-own-emittable, emitted-more, emitted-end}
use Rattle.compiler.proofs.table.write_words.Goals as goal

pub loop-w-init : goal.loop-w-init
loop-w-init c =
    let e = rule-expression _ _ c.requires.accepted in
    record {
      same_slice = refl;
      written = rw c.new-stack.ensures.1 (emitted-none _ _ _ _ _ _ e.words e.shape c.new-stack.ensures.0);
    }

pub top-requires : goal.top-requires
top-requires c =
    let few = (rule-expression _ _ c.requires.accepted).counted.few in
    let h = emitted-height c.loop-w.invariant.written c.loop-w-test.true few in
    (emitted-children c.loop-w.invariant.written _ c.loop-w-test.true c.arity-children.ensures, omega arith)

pub invariant_of-word : goal.invariant_of-word
invariant_of-word c =
    let p = c.requires in
    let m = c.loop-w.invariant.written in
    let a = rule-alphabet _ _ p.accepted in
    let few = (rule-expression _ _ p.accepted).counted.few in
    let h = c.loop-w-test.true in
    let low = m.low in
    record {
      once = constants-once _ _ p.constants;
      few = rw p.constants a.constants.few;
      children = rw c.top.ensures (emitted-few m _ a h few c.arity-children.ensures);
      low = omega arith;
    }

pub push_own-requires : goal.push_own-requires
push_own-requires c =
    let p = c.requires in
    let m = c.loop-w.invariant.written in
    let few = (rule-expression _ _ p.accepted).counted.few in
    let h = c.loop-w-test.true in
    record {
      fits = emitted-room m h few p.fits;
      symbols_emittable = (
        symbols-emittable _ (rule-alphabet _ _ p.accepted),
        rw c.top.ensures (emitted-own-emittable m _ p.constants h few c.arity-children.ensures),
      );
    }

pub replace-requires : goal.replace-requires
replace-requires c =
    let few = (rule-expression _ _ c.requires.accepted).counted.few in
    (emitted-children c.loop-w.invariant.written _ c.loop-w-test.true c.arity-children.ensures, emitted-height c.loop-w.invariant.written c.loop-w-test.true few)

pub loop-w-preserved : goal.loop-w-preserved
loop-w-preserved c =
    let p = c.requires in
    let few = (rule-expression _ _ p.accepted).counted.few in
    let k = c.replace.ensures in
    record {
      same_slice = c.push_own.ensures.same_slice ∙ c.loop-w.invariant.same_slice;
      written =
          rw (k.ports, k.height)
          (emitted-more c.loop-w.invariant.written _ _ _ _ _ p.constants c.loop-w-test.true few
          c.arity-children.ensures
          (rw c.top.ensures at c.push_own.ensures.written) (rw p.constants c.word_port.ensures) c.states_of-state.ensures.0 c.states_of-state.ensures.1);
    }

pub returns-clause-written : goal.returns-clause-written
returns-clause-written c =
    emitted-end c.loop-w.invariant.written c.loop-w-test.false (rule-expression _ _
    c.requires.accepted).counted.few
