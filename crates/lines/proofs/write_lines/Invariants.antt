-- `lines::write_lines` meets its contract: the loop writes the hit lines one after the other behind the head line.
use mathlib.Core.Path.{◌≡◌}
use Rattle.lines.proofs.LineLaws.{HitsWritten}
use Rattle.lines.proofs.write_lines.Given as goal

abbrev pub invariant-loop-hit : goal.invariant-loop-hit
invariant-loop-hit l = record {
  same : l.lines.out.ghost_name ≡ l.initial.lines.out.ghost_name;
  written : HitsWritten l.alphabet l.chapter l.hits l.initial.lines.next l.initial.lines.out.now l.lines.out.now l.lines.next l.hit-index;
}
