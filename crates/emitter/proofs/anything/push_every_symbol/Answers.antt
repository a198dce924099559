-- `emitter::anything::push_every_symbol` meets its contract: before each turn the moves on the first symbols are written.
use mathlib.Core.Path.{refl, ◌∙◌}
use Rattle.emitter.proofs.AnythingLaws.{symbols-none, symbols-more}
use Rattle.emitter.proofs.anything.push_every_symbol.Goals as goal

pub loop-symbol-init : goal.loop-symbol-init
loop-symbol-init c = record { same_slice = refl; written = symbols-none _ _ _ _ }

pub loop-symbol-preserved : goal.loop-symbol-preserved
loop-symbol-preserved c =
    record {
      same_slice = c.push_on_symbol.ensures.same_slice ∙ c.loop-symbol.invariant.same_slice;
      written = symbols-more _ c.loop-symbol.invariant.written _ _ c.loop-symbol-test.true c.push_on_symbol.ensures.written;
    }
