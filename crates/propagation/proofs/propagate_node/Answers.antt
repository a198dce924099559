-- `propagation::propagate_node` meets its contract: the arity tells whether the node is an ancestor.
use native.Mathlib.Omega.{arith}
use Rattle.nodes.proofs.WorkableLaws.{node-kind, bounded-tree}
use Rattle.nodes.proofs.NodeLaws.{node-pushable}
use Rattle.propagation.proofs.PropagateNodeLaws.{node-passed, step-beside, step-last, step-onward}
use Rattle.propagation.proofs.propagate_node.Goals as goal

pub node_arity-children-requires : goal.node_arity-children-requires
node_arity-children-requires c =
    let g = c.requires.at in
    node-kind (bounded-tree g.workable) _ g.inside

pub push-requires : goal.push-requires
push-requires c =
    node-pushable
    c.requires.at
    _ c.node_arity-children.ensures _ (omega arith)

pub returns-then-children-progress : goal.returns-then-children-progress
returns-then-children-progress c = record {
  marks = step-beside _ _ _ _ _ _ _ c.node_arity-children.ensures c.if-children-progress.true;
  maintained = node-passed c.requires.at _ c.node_arity-children.ensures c.push.ensures.height c.push.ensures.nodes;
}

pub returns-then-not-changed : goal.returns-then-not-changed
returns-then-not-changed c = record {
  marks = step-last _ _ _ _ _ _ _ c.node_arity-children.ensures (omega arith) c.recompute-changed.ensures.marks c.if-not-changed.true;
  maintained = c.recompute-changed.ensures.maintained;
}

pub returns : goal.returns
returns c = record {
  marks = step-onward _ _ _ _ _ _ _ c.node_arity-children.ensures (omega arith) c.recompute-changed.ensures.marks c.if-not-changed.false;
  maintained = c.recompute-changed.ensures.maintained;
}
