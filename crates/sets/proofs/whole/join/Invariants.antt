-- `sets::whole::join` meets its contract: before each turn the first k words are joined.
use mathlib.Core.Path.{◌≡◌}
use Rattle.sets.specs.Joined.{joined_to}
use Rattle.sets.proofs.whole.join.Given as goal

abbrev pub invariant-loop-k : goal.invariant-loop-k
invariant-loop-k l = l.set ≡ joined_to l.k l.initial.set l.other
