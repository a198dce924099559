-- `step::follow_transition` meets its contract: the set has the target already, the part states are not in the children's
-- sets, or the closure of the target joins the set.
use mathlib.Core.Path.{◌≡◌, sym, ◌∙◌, subst}
use mathlib.Core.Bool.{true, true≢false}
use Rattle.automaton.specs.StateSet.{contains}
use Rattle.step.proofs.SymbolLaws.{transition-sources, transition-joinable, transition-still, transition-more}
use Rattle.step.proofs.follow_transition.Goals as goal

pub returns-then-contains : goal.returns-then-contains
returns-then-contains c =
    transition-still c.requires
    (λ _.
    subst (λ q. contains c.args.set.now q ≡ true) c.target-target.ensures (sym c.contains.ensures ∙ c.if-contains.true))

pub sources_contained-requires : goal.sources_contained-requires
sources_contained-requires c =
    transition-sources c.requires

pub returns-then-not-sources_contained : goal.returns-then-not-sources_contained
returns-then-not-sources_contained c =
    transition-still
    c.requires
    (λ y. absurd (true≢false (sym y ∙ sym c.sources_contained.ensures ∙ c.if-not-sources_contained.true)))

pub join_closure-requires : goal.join_closure-requires
join_closure-requires c =
    rw c.target-target.ensures (transition-joinable c.requires)

pub returns : goal.returns
returns c =
    transition-more
    c.requires
    (sym c.sources_contained.ensures
    ∙ c.if-not-sources_contained.false)
    (rw c.target-target.ensures at c.join_closure.ensures)
