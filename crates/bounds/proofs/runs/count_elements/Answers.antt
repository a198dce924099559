-- `bounds::runs::count_elements` meets its contract: the number so far and that of the rest are the number of all.
use Rattle.bounds.proofs.ElementLaws.{elements-none, elements-more, elements-end}
use Rattle.bounds.proofs.runs.count_elements.Goals as goal

pub loop-word-init : goal.loop-word-init
loop-word-init c = elements-none _

pub loop-word-preserved : goal.loop-word-preserved
loop-word-preserved c =
    elements-more c.loop-word.invariant c.loop-word-test.true _ c.is_element.ensures _ c.from-elements.ensures

pub returns : goal.returns
returns c = elements-end c.loop-word.invariant c.loop-word-test.false
