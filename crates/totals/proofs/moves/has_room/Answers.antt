-- `totals::moves::has_room` meets its contract: it asks both conditions in their order.
use Rattle.totals.proofs.MoveLaws.{room-told}
use borrow.Author.Rules.{rules}
use Rattle.totals.proofs.moves.has_room.Goals as goal

pub returns : goal.returns
returns c = room-told _ _ _ _ _ c.checked_sub.ensures c.is_some_and.ensures (λ x h. search rules)
