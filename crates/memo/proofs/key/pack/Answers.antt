-- `memo::key::pack` meets its contract: each digit is below 8,192, so that a shift leaves those above.
use Rattle.memo.proofs.KeyLaws.{pack-is}
use Rattle.memo.proofs.key.pack.Goals as goal

pub returns : goal.returns
returns c = pack-is c.requires c.from-first.ensures c.from-second.ensures c.from-third.ensures c.from-fourth.ensures
