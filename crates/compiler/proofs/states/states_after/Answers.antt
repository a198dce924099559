-- `compiler::states::states_after` meets its contract: before each turn the words from i on bring the states to the same number.
use Rattle.compiler.proofs.StateLaws.{counting_more, counting-end}
use Rattle.compiler.proofs.states.states_after.Goals as goal

pub loop-w-preserved : goal.loop-w-preserved
loop-w-preserved c =
    counting_more c.loop-w.invariant _ c.loop-w-test.true c.states_of-state.ensures.0
    c.states_of-state.ensures.1

pub returns : goal.returns
returns c = counting-end c.loop-w.invariant c.loop-w-test.false
