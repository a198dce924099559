-- `nodes::stack::stack_nodes` meets its contract: before each turn the stack holds the roots of the first i nodes.
use mathlib.Core.Path.{refl}
use native.Mathlib.Omega.{arith}
use Rattle.nodes.proofs.WorkableLaws.{node-kind}
use Rattle.nodes.proofs.RootStackLaws.{stacking-none, stacking-pushable, stacking-more, stacking-end}
use Rattle.nodes.proofs.stack.stack_nodes.Goals as goal

pub loop-i-init : goal.loop-i-init
loop-i-init c = stacking-none refl c.requires

pub node_arity-children-requires : goal.node_arity-children-requires
node_arity-children-requires c = node-kind c.requires.tree _ (omega (arith, c.requires.within))

pub push-requires : goal.push-requires
push-requires c =
    stacking-pushable c.requires c.loop-i.invariant c.loop-i-test.true _ c.node_arity-children.ensures

pub loop-i-preserved : goal.loop-i-preserved
loop-i-preserved c =
    stacking-more c.requires c.loop-i.invariant c.loop-i-test.true _ c.node_arity-children.ensures
    c.push.ensures.height c.push.ensures.nodes

pub returns : goal.returns
returns c = stacking-end c.requires c.loop-i.invariant c.loop-i-test.false
