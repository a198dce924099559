-- `bounds::runs::count_elements` meets its contract: the number so far and that of the rest are the number of all.
use Rattle.bounds.proofs.ElementLaws.{ElementsSoFar}
use Rattle.bounds.proofs.runs.count_elements.Given as goal

abbrev pub invariant-loop-word : goal.invariant-loop-word
invariant-loop-word l = ElementsSoFar l.words l.elements l.word-index
