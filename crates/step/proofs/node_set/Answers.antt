-- `step::node_set` meets its contract: from the empty set all transitions on the symbol are followed.
use Rattle.step.proofs.NodeStepLaws.{node-followable, node_end}
use Rattle.step.proofs.node_set.Goals as goal

pub follow_symbol-requires : goal.follow_symbol-requires
follow_symbol-requires c =
    node-followable c.requires
    c.set_size-size.ensures

pub returns : goal.returns
returns c = record {
  answer = node_end c.requires.node c.set_size-size.ensures c.follow_symbol.ensures;
  closures = c.follow_symbol.ensures.closures;
}
