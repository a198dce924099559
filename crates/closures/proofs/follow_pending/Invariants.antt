-- `closures::follow_pending` meets its contract: each turn takes a state from the stack and follows its epsilon
-- transitions, and the turns end since a state is pushed only when it is new.
use mathlib.Core.Path.{◌≡◌}
use lib.ListN.{length}
use Rattle.closures.specs.Closure.{Followed, work}
use Rattle.closures.proofs.follow_pending.Given as goal

abbrev pub invariant-loop-p : goal.invariant-loop-p
invariant-loop-p l = record {
  same : l.pending.states.ghost_name ≡ l.initial.pending.states.ghost_name;
  followed :
      Followed l.indexed.table.now 0 (length l.indexed.table.now) l.initial.set l.initial.pending.states.now l.initial.pending.height l.set
      l.pending.states.now l.pending.height;
}

abbrev pub decreases-loop-p : goal.decreases-loop-p
decreases-loop-p l = work l.indexed.table.now l.set l.pending.height
