-- `tables::check::are_transitions` meets its contract: before each word the rest is judged as the whole was.
use Rattle.tables.proofs.TableScanLaws.{checked-none, checked-more, checked-fails, checked-end}
use Rattle.tables.proofs.check.are_transitions.Goals as goal

pub loop-word-init : goal.loop-word-init
loop-word-init c = checked-none _ _ _

pub loop-word-preserved : goal.loop-word-preserved
loop-word-preserved c = checked-more c.loop-word.invariant c.loop-word-test.true _ c.in-Some.ensures

pub returns-in_default : goal.returns-in_default
returns-in_default c = checked-fails c.loop-word.invariant c.loop-word-test.true c.in_default.ensures

pub returns : goal.returns
returns c = checked-end c.loop-word.invariant c.loop-word-test.false
