-- `emitter::entries::push_to_children` meets its contract: before each turn the transitions to the first i children are written.
use mathlib.Core.Path.{◌≡◌}
use lib.ListN.{get_or}
use Rattle.emitter.proofs.EntryLaws.{ToChildren}
use Rattle.emitter.proofs.entries.push_to_children.Given as goal

abbrev pub invariant-loop-port : goal.invariant-loop-port
invariant-loop-port l =
    record {
      same_slice : l.writer.out.ghost_name ≡ l.initial.writer.out.ghost_name;
      written : ToChildren l.word.constants.now l.word.ports.now l.from (get_or l.word.constants.now l.k 0) l.initial.writer.at l.initial.writer.out.now l.writer.out.now l.writer.at l.port-index;
    }
