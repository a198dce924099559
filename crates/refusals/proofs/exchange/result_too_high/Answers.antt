-- `refusals::exchange::result_too_high` meets its contract: the result is no higher than the chapter if the replacement is no higher
-- than the subtree, and else at most as much as it has words; where neither decides, the parts that are lent are those of the result.
use mathlib.Core.Path.{sym}
use lib.Seq.{length-take-le}
use Rattle.refusals.proofs.JudgedLaws.{result-kept, start-inside, parts-few, result-judged}
use Rattle.refusals.proofs.exchange.result_too_high.Goals as goal

pub returns-then-replacement-high : goal.returns-then-replacement-high
returns-then-replacement-high c = result-kept c.requires c.if-replacement-high.true

pub slice_bounds-joined_height-end : goal.slice_bounds-joined_height-end
slice_bounds-joined_height-end c = sym (length-take-le _ _ (start-inside c.requires))

pub joined_height-height-requires : goal.joined_height-height-requires
joined_height-height-requires c = parts-few c.requires

pub returns : goal.returns
returns c = result-judged c.requires c.joined_height-height.ensures
