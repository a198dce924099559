-- `slices::moves::move_down` meets its contract: a word is read at or behind the place that is written next, so it is still as it was.
use lib.ListN.{drop}
use Rattle.slices.proofs.CopyLaws.{Copied}
use Rattle.slices.proofs.moves.move_down.Given as goal

abbrev pub invariant-loop-k : goal.invariant-loop-k
invariant-loop-k l = Copied l.initial.words l.to (drop l.from l.initial.words) l.count l.words l.k
