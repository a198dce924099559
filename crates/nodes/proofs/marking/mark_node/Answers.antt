-- `nodes::marking::mark_node` meets its contract: the last of the four words that are lent represent the children.
use Rattle.nodes.proofs.WorkableLaws.{node-kind, bounded-tree}
use Rattle.nodes.proofs.NodeLaws.{node-readable, node-pushable, node-next, node-words, node_kept}
use Rattle.nodes.proofs.marking.mark_node.Goals as goal

pub node_arity-children-requires : goal.node_arity-children-requires
node_arity-children-requires c =
    let g = c.requires in
    node-kind (bounded-tree g.workable) _ g.inside

pub top-requires : goal.top-requires
top-requires c = node-readable c.requires _ c.node_arity-children.ensures

pub mark_next-node-requires : goal.mark_next-node-requires
mark_next-node-requires c =
    node-next c.requires _ c.node_arity-children.ensures c.top.ensures

pub push-requires : goal.push-requires
push-requires c = node-pushable c.requires _ c.node_arity-children.ensures _ c.mark_next-node.ensures.new.low

pub returns : goal.returns
returns c = record {
  marks = node-words c.requires _ c.node_arity-children.ensures c.top.ensures c.mark_next-node.ensures;
  maintained =
      node_kept c.requires _ c.node_arity-children.ensures c.top.ensures c.mark_next-node.ensures c.push.ensures.height
      c.push.ensures.nodes;
}
