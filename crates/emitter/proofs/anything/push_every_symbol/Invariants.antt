-- `emitter::anything::push_every_symbol` meets its contract: before each turn the moves on the first symbols are written.
use mathlib.Core.Path.{◌≡◌}
use Rattle.emitter.proofs.AnythingLaws.{SymbolsPushed}
use Rattle.emitter.proofs.anything.push_every_symbol.Given as goal

abbrev pub invariant-loop-symbol : goal.invariant-loop-symbol
invariant-loop-symbol l =
    record {
      same_slice : l.writer.out.ghost_name ≡ l.initial.writer.out.ghost_name;
      written : SymbolsPushed l.alphabet l.exit l.initial.writer.at l.initial.writer.out.now l.writer.out.now l.writer.at l.symbol;
    }
