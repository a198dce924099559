-- `emitter::own::push_sources` meets its contract: before each turn the first i children's exits are written.
use mathlib.Core.Path.{◌≡◌}
use Rattle.emitter.proofs.SourceLaws.{Sourced}
use Rattle.emitter.proofs.own.push_sources.Given as goal

abbrev pub invariant-loop-port : goal.invariant-loop-port
invariant-loop-port l =
    record {
      same_slice : l.writer.out.ghost_name ≡ l.initial.writer.out.ghost_name;
      written : Sourced l.ports l.initial.writer.at l.initial.writer.out.now l.writer.out.now l.writer.at l.port-index;
    }
