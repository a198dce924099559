-- `closures::follow_epsilons` meets its contract: the words of the state's chain before the current one are followed.
use mathlib.Core.Path.{◌≡◌}
use Rattle.closures.proofs.FollowLaws.{left}
use Rattle.closures.proofs.EpsilonLaws.{EpsilonsAt}
use Rattle.closures.proofs.follow_epsilons.Given as goal

abbrev pub invariant-loop-word : goal.invariant-loop-word
invariant-loop-word l = record {
  same : l.pending.states.ghost_name ≡ l.initial.pending.states.ghost_name;
  chain :
      EpsilonsAt l.indexed.table.now l.indexed.index.now l.p l.initial.set l.initial.pending.states.now l.initial.pending.height l.word l.set
      l.pending.states.now l.pending.height;
}

abbrev pub decreases-loop-word : goal.decreases-loop-word
decreases-loop-word l = left l.indexed.table.now l.word
