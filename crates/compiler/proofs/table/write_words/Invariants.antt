-- `compiler::table::write_words` meets its contract: before each turn the transitions of the first i words are written, and those of
-- the words from i on follow from the next state and the stack.
use mathlib.Core.Path.{◌≡◌}
use Rattle.compiler.proofs.EmittedLaws.{Emitted}
use Rattle.compiler.proofs.table.write_words.Given as goal

abbrev pub invariant-loop-w : goal.invariant-loop-w
invariant-loop-w l =
    record {
      same_slice : l.writer.out.ghost_name ≡ l.initial.writer.out.ghost_name;
      written :
          Emitted l.alphabet l.constants l.expression l.initial.writer.at l.initial.writer.out.now l.writer.out.now l.stack.ports
          l.stack.height l.state l.writer.at l.w-index;
    }
