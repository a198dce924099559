-- `totals::moves::moved_totals` meets its contract: where none is wrong, each of the three is in range.
use Rattle.totals.proofs.TotalLaws.{same-triple}
use Rattle.totals.proofs.MoveLaws.{none-wrong}
use Rattle.totals.proofs.moves.moved_totals.Goals as goal

pub move_total-requires : goal.move_total-requires
move_total-requires c = (none-wrong _ _ _ c.requires).elements-right

pub move_total-requires-2 : goal.move_total-requires-2
move_total-requires-2 c = (none-wrong _ _ _ c.requires).hits-right

pub move_total-requires-3 : goal.move_total-requires-3
move_total-requires-3 c = (none-wrong _ _ _ c.requires).cells_right

pub returns : goal.returns
returns c = same-triple c.move_total.ensures c.move_total-2.ensures c.move_total-3.ensures
