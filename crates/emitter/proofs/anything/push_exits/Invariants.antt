-- `emitter::anything::push_exits` meets its contract: before each turn the exit is written i times.
use mathlib.Core.Path.{◌≡◌}
use Rattle.emitter.proofs.AnythingLaws.{ExitsPushed}
use Rattle.emitter.proofs.anything.push_exits.Given as goal

abbrev pub invariant-loop : goal.invariant-loop
invariant-loop l =
    record {
      same_slice : l.writer.out.ghost_name ≡ l.initial.writer.out.ghost_name;
      written : ExitsPushed l.children l.exit l.initial.writer.at l.initial.writer.out.now l.writer.out.now l.writer.at l.counter;
    }
