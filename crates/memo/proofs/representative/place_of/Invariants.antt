-- `memo::representative::place_of` meets its contract: the sum fits, and the place is a remainder.
use Rattle.memo.proofs.RepresentLaws.{Mixing}
use Rattle.memo.proofs.representative.place_of.Given as goal

abbrev pub invariant-loop-k : goal.invariant-loop-k
invariant-loop-k l = Mixing l.set l.mixed l.k
