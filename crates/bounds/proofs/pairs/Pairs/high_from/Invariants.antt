-- `bounds::pairs::Pairs::high_from` meets its contract: `high` and the bounds to come have the highest of all.
use Rattle.bounds.proofs.PairLaws.{HighSoFar}
use Rattle.bounds.proofs.pairs.Pairs.high_from.Given as goal

abbrev pub invariant-loop-pair : goal.invariant-loop-pair
invariant-loop-pair l = HighSoFar l.rest l.pair-index l.high
