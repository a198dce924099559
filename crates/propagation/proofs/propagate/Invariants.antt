-- What is still to be done gives what the whole gives, and the stack and what is kept from node to node are right.
use Rattle.propagation.proofs.ProgressLaws.{Propagating}
use Rattle.propagation.proofs.propagate.Given as goal

abbrev pub invariant-loop-i : goal.invariant-loop-i
invariant-loop-i l =
    Propagating l.tree.alphabet.now l.tree.indexed.table.now l.tree.nodes.now l.root l.count l.initial.marks l.marks l.marking l.progress l.i
