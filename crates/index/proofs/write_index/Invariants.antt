-- `index::write_index` meets its contract: before each turn the words from i on are indexed.
use Rattle.index.proofs.IndexLaws.{Indexed}
use Rattle.index.proofs.write_index.Given as goal

abbrev pub invariant-loop-i : goal.invariant-loop-i
invariant-loop-i l = Indexed l.table l.index l.i
