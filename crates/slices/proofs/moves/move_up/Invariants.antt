-- `slices::moves::move_up` meets its contract: a word is read below the places that are written already, so it is still as it was.
use Rattle.slices.proofs.MoveLaws.{MovedUp}
use Rattle.slices.proofs.moves.move_up.Given as goal

abbrev pub invariant-loop-k : goal.invariant-loop-k
invariant-loop-k l = MovedUp l.initial.words l.from l.to l.count l.words l.k
