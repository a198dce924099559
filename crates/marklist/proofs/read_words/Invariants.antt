-- `marklist::read_words` meets its contract and ends: each part has at least one word and fits the buffer, and its words are stored
-- behind those before.
use Prim.Native.Nat.{◌-◌}
use Rattle.marklist.proofs.InputReadingLaws.{SoFar}
use Rattle.marklist.proofs.read_words.Given as goal

abbrev pub invariant-loop-seen : goal.invariant-loop-seen
invariant-loop-seen l = SoFar l.all l.initial.words l.words l.seen

abbrev pub decreases-loop-seen : goal.decreases-loop-seen
decreases-loop-seen l = l.all - l.seen
