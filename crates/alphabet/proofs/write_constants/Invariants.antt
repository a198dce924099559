-- `alphabet::write_constants` meets its contract: before each turn the constants of the first `symbol` entries are stored from
-- the first word of the list on, as far as it reaches, and `n` is their number.
use Rattle.alphabet.proofs.ConstantScanLaws.{Written}
use Rattle.alphabet.proofs.write_constants.Given as goal

abbrev pub invariant-loop-symbol : goal.invariant-loop-symbol
invariant-loop-symbol l = Written l.alphabet l.initial.list l.list l.n l.symbol
