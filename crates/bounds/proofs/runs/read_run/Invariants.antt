-- `bounds::runs::read_run` meets its contract: all words are elements, and the loop keeps that the words so far have their children, and
-- how high the trees are that they leave.
use Rattle.bounds.proofs.RunLaws.{RunSoFar}
use Rattle.bounds.proofs.runs.read_run.Given as goal

abbrev pub invariant-loop-word : goal.invariant-loop-word
invariant-loop-word l = RunSoFar l.ranks l.words l.before l.made l.fewest l.joined l.word-index
