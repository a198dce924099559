-- `bounds::pairs::Pairs::new` meets its contract: every bound is 0.
use Rattle.std.proofs.Common.{refl}
use Rattle.bounds.proofs.PairLaws.{first_low}
use Rattle.bounds.proofs.pairs.Pairs.new.Goals as goal

pub returns : goal.returns
returns c = record { first = refl; low = first_low 130 }
