-- `emitter::entries::push_entries` meets its contract: before each turn the transitions for the first k constants are written.
use mathlib.Core.Path.{◌≡◌}
use Rattle.emitter.specs.Emission.{targets_in}
use Rattle.emitter.proofs.EntryEpsilonLaws.{EntriesWritten}
use Rattle.emitter.proofs.entries.push_entries.Given as goal

abbrev pub invariant-loop-k : goal.invariant-loop-k
invariant-loop-k l =
    record {
      same_slice : l.writer.out.ghost_name ≡ l.initial.writer.out.ghost_name;
      written : EntriesWritten l.word.constants.now (targets_in l.word.constants.now l.word.ports.now l.word.exit l.targets) l.word.exit l.initial.writer.at l.initial.writer.out.now l.writer.out.now l.writer.at l.k;
    }
