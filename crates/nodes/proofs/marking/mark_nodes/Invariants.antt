-- The nodes before i are marked, and the stack and what is kept from node to node are right.
use Rattle.nodes.proofs.NodeLoopLaws.{NodesMarking}
use Rattle.nodes.proofs.marking.mark_nodes.Given as goal

abbrev pub invariant-loop-i : goal.invariant-loop-i
invariant-loop-i l =
    NodesMarking l.tree.alphabet.now l.tree.indexed.table.now l.tree.nodes.now l.from l.to l.initial.marks l.marks l.marking l.i
