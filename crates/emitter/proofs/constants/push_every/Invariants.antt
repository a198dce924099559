-- `emitter::constants::push_every` meets its contract: before each turn the moves of the first k constants are written.
use mathlib.Core.Path.{◌≡◌}
use Rattle.emitter.proofs.ConstantTransitionLaws.{EveryPushed}
use Rattle.emitter.proofs.constants.push_every.Given as goal

abbrev pub invariant-loop-k : goal.invariant-loop-k
invariant-loop-k l =
    record {
      same_slice : l.writer.out.ghost_name ≡ l.initial.writer.out.ghost_name;
      written : EveryPushed l.constants l.exit l.initial.writer.at l.initial.writer.out.now l.writer.out.now l.writer.at l.k;
    }
