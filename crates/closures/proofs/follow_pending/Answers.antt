-- `closures::follow_pending` meets its contract: each turn takes a state from the stack and follows its epsilon
-- transitions, and the turns end since a state is pushed only when it is new.
use mathlib.Core.Path.{refl, ◌∙◌}
use native.Mathlib.Omega.{arith}
use Rattle.closures.proofs.EpsilonLaws.{pending-none, pending-stack, pending-present, pending-few}
use Rattle.closures.proofs.EpsilonLaws.{pending-more, pending-less, pending-end}
use Rattle.closures.proofs.follow_pending.Goals as goal

pub loop-p-init : goal.loop-p-init
loop-p-init c = record { same = refl; followed = pending-none c.requires.stack }

pub pop-requires : goal.pop-requires
pop-requires c = pending-few c.loop-p.invariant.followed

pub follow_epsilons-requires : goal.follow_epsilons-requires
follow_epsilons-requires c =
    let v = c.loop-p.invariant.followed in
    let e = c.in-Some.ensures.top.0 in
    rw (c.in-Some.ensures.states, c.in-Some.ensures.top.1)
    (record { followable = record { checked = c.requires.checked; stack = pending-stack v _ e }; present = pending-present v _ e })

pub loop-p-smaller : goal.loop-p-smaller
loop-p-smaller c =
    pending-less c.loop-p.invariant.followed _ c.in-Some.ensures.top.0
    (rw (c.in-Some.ensures.states, c.in-Some.ensures.top.1) at c.follow_epsilons.ensures.followed)

pub loop-p-preserved : goal.loop-p-preserved
loop-p-preserved c = record {
  same = c.follow_epsilons.ensures.same ∙ c.in-Some.ensures.same ∙ c.loop-p.invariant.same;
  followed =
      pending-more c.loop-p.invariant.followed _ c.in-Some.ensures.top.0
      (rw (c.in-Some.ensures.states, c.in-Some.ensures.top.1) at c.follow_epsilons.ensures.followed);
}

pub returns-clause-same : goal.returns-clause-same
returns-clause-same c = c.in_default.ensures.same ∙ c.loop-p.invariant.same

pub returns-clause-followed : goal.returns-clause-followed
returns-clause-followed c =
    rw c.in_default.ensures.states (pending-end c.loop-p.invariant.followed (omega (arith, c.in_default.ensures.top.0)))
