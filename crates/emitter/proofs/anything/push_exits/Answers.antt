-- `emitter::anything::push_exits` meets its contract: before each turn the exit is written i times.
use mathlib.Core.Path.{◌∙◌}
use Rattle.emitter.proofs.AnythingLaws.{exits-more}
use Rattle.emitter.proofs.anything.push_exits.Goals as goal

pub loop-preserved : goal.loop-preserved
loop-preserved c =
    record {
      same_slice = c.push.ensures.same_slice ∙ c.loop.invariant.same_slice;
      written = exits-more _ _ c.loop.invariant.written _ _ c.loop-test.true c.push.ensures.written;
    }
