-- `closures::follow_epsilons` meets its contract: the words of the state's chain before the current one are followed.
use mathlib.Core.Path.{refl, ◌∙◌}
use Rattle.closures.proofs.EpsilonLaws.{key-inside, epsilons-first, epsilons-inside}
use Rattle.closures.proofs.EpsilonLaws.{epsilons-puttable, epsilons-less, epsilons-more, epsilons-end}
use Rattle.closures.proofs.follow_epsilons.Goals as goal

pub first-word-requires-clause-few : goal.first-word-requires-clause-few
first-word-requires-clause-few c = key-inside c.requires

pub loop-word-init : goal.loop-word-init
loop-word-init c = record { same = refl; chain = rw c.first-word.ensures (epsilons-first c.requires) }

pub target-requires : goal.target-requires
target-requires c = epsilons-inside c.loop-word.invariant.chain c.in-Some.is

pub put_state-requires : goal.put_state-requires
put_state-requires c = rw c.target.ensures (epsilons-puttable c.loop-word.invariant.chain c.in-Some.is)

pub next-word-requires-clause-inside : goal.next-word-requires-clause-inside
next-word-requires-clause-inside c = epsilons-inside c.loop-word.invariant.chain c.in-Some.is

pub loop-word-smaller : goal.loop-word-smaller
loop-word-smaller c = rw (c.next-word.ensures, c.in-Some.is) (epsilons-less c.loop-word.invariant.chain c.in-Some.is)

pub loop-word-preserved : goal.loop-word-preserved
loop-word-preserved c = record {
  same = c.put_state.ensures.same ∙ c.loop-word.invariant.same;
  chain =
      rw c.next-word.ensures
      (epsilons-more c.loop-word.invariant.chain c.in-Some.is (rw c.target.ensures at c.put_state.ensures.put));
}

pub returns-clause-followed : goal.returns-clause-followed
returns-clause-followed c = epsilons-end c.loop-word.invariant.chain c.in_default.is
