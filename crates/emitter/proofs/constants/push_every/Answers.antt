-- `emitter::constants::push_every` meets its contract: before each turn the moves of the first k constants are written.
use mathlib.Core.Path.{◌∙◌}
use Rattle.emitter.proofs.ConstantTransitionLaws.{every-pushed-more}
use Rattle.emitter.proofs.constants.push_every.Goals as goal

pub loop-k-preserved : goal.loop-k-preserved
loop-k-preserved c =
    record {
      same_slice = c.push_transition.ensures.same_slice ∙ c.loop-k.invariant.same_slice;
      written = every-pushed-more c.loop-k.invariant.written _ _ _ c.entry_state-entry.ensures c.loop-k-test.true c.push_transition.ensures.written;
    }
