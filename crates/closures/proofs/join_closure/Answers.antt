-- `closures::join_closure` meets its contract: the closure is in its row, and the row is joined; or it is searched in the set.
use Rattle.closures.proofs.KeptClosureLaws.{join-end}
use Rattle.closures.proofs.join_closure.Goals as goal

pub returns : goal.returns
returns c =
    join-end c.if-not-keep.false c.keep.ensures
    c.requires.set c.join.ensures
