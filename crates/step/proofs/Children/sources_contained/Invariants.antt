-- `step::Children::sources_contained` meets its contract: before each child, what is left is judged as the whole was.
use Rattle.step.proofs.SourceSetLaws.{SourcesHeld}
use Rattle.step.proofs.Children.sources_contained.Given as goal

abbrev pub invariant-loop-k : goal.invariant-loop-k
invariant-loop-k l = SourcesHeld l.table l.at l.size l.self.marks.now l.self.nodes.now l.k
