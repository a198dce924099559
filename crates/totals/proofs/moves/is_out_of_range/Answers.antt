-- `totals::moves::is_out_of_range` meets its contract: it asks both conditions in their order.
use Rattle.totals.proofs.MoveLaws.{range-told}
use borrow.Author.Rules.{rules}
use Rattle.totals.proofs.moves.is_out_of_range.Goals as goal

pub returns : goal.returns
returns c = range-told _ _ _ _ _ c.checked_sub.ensures c.is_none_or.ensures (λ x h. search rules)
