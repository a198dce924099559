-- `syntax::postfix::subtree_start` meets its contract: before each turn the node's subtree begins where the trees that are still
-- needed before `start` begin.
use native.Mathlib.Omega.{arith}
use Rattle.syntax.proofs.SpanLaws.{arity-byte, backward-first, backward-all, backward-more, backward-end}
use Rattle.syntax.proofs.postfix.subtree_start.Goals as goal

pub loop-start-init : goal.loop-start-init
loop-start-init c = backward-first _ _ _

pub overflow_add-needed : goal.overflow_add-needed
overflow_add-needed c =
    let byte = arity-byte _ _ _ c.arity.ensures in
    let few = c.loop-start.invariant.few in
    omega arith

pub returns-then-needed-eq0 : goal.returns-then-needed-eq0
returns-then-needed-eq0 c = record {
  order = let within = c.loop-start.invariant.within in omega arith;
  start = backward-end c.loop-start.invariant c.loop-start-test.true _ c.arity.ensures c.if-needed-eq0.true;
}

pub loop-start-preserved : goal.loop-start-preserved
loop-start-preserved c =
    backward-more c.loop-start.invariant c.loop-start-test.true _ c.arity.ensures (arity-byte _ _ _ c.arity.ensures) c.if-needed-eq0.false

pub returns : goal.returns
returns c = record { order = omega arith; start = backward-all c.loop-start.invariant c.loop-start-test.false }
