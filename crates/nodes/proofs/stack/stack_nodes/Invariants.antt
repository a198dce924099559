-- `nodes::stack::stack_nodes` meets its contract: before each turn the stack holds the roots of the first i nodes.
use Rattle.nodes.proofs.RootStackLaws.{Stacking}
use Rattle.nodes.proofs.stack.stack_nodes.Given as goal

abbrev pub invariant-loop-i : goal.invariant-loop-i
invariant-loop-i l = Stacking l.alphabet l.nodes l.roots l.count l.i
