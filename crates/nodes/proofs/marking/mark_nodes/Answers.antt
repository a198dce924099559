-- `nodes::marking::mark_nodes` meets its contract: the loop keeps that the nodes before i are marked, and that the stack and what is
-- kept from node to node are right.
use borrow.Author.Rules.{rules}
use Rattle.nodes.proofs.NodeLoopLaws.{marking-none, marking-at, marking-more, marking-end}
use Rattle.nodes.proofs.marking.mark_nodes.Goals as goal

pub loop-i-init : goal.loop-i-init
loop-i-init c = marking-none c.requires

pub mark_node-requires : goal.mark_node-requires
mark_node-requires c =
    marking-at
    c.requires
    c.loop-i.invariant
    c.loop-i-test.true

pub loop-i-preserved : goal.loop-i-preserved
loop-i-preserved c =
    marking-more c.requires c.loop-i.invariant c.loop-i-test.true (search rules) c.mark_node.ensures.marks
    c.mark_node.ensures.maintained

pub shape_of-marks : goal.shape_of-marks
shape_of-marks c = c.loop-i.invariant.long

pub returns : goal.returns
returns c = let both = marking-end c.requires
    c.loop-i.invariant c.loop-i-test.false in record { marks = both.0; maintained = both.1 }
