-- `compiler::states::states_after` meets its contract: before each turn the words from i on bring the states to the same number.
use Rattle.compiler.proofs.StateLaws.{Counting}
use Rattle.compiler.proofs.states.states_after.Given as goal

abbrev pub invariant-loop-w : goal.invariant-loop-w
invariant-loop-w l = Counting l.alphabet l.expression l.state l.w-index
