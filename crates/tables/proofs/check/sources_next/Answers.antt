-- `tables::check::sources_next` meets its contract: one law for each way out, by the tests on the way.
use mathlib.Core.Path.{refl, sym, ◌∙◌}
use mathlib.Core.List.{[], ◌∷◌}
use native.Mathlib.Omega.{arith}
use Rattle.words.specs.Word.{transition_kind, epsilon_kind, source_kind}
use Rattle.words.specs.declared.word.Kind.TheVariants.{Transition, Epsilon, Source}
use Rattle.words.proofs.DecodedLaws.{told-number, left-number}
use Rattle.tables.proofs.CheckLaws.{spare-bits, state-outside, no_source, no-table-word, symbol-unknown}
use Rattle.tables.proofs.CheckLaws.{above-outside, transition-next, epsilon-next, source-next}
use Rattle.tables.proofs.check.sources_next.Goals as goal

pub returns-then-not-spare_bits_clear : goal.returns-then-not-spare_bits_clear
returns-then-not-spare_bits_clear c = spare-bits _ _ _ _ (sym c.spare_bits_clear.ensures ∙ c.if-not-spare_bits_clear.true)

pub returns-then-below-states : goal.returns-then-below-states
returns-then-below-states c = state-outside _ _ _ _ c.if-below-states.true

pub returns-then-left-gt0 : goal.returns-then-left-gt0
returns-then-left-gt0 c =
    let n = told-number _ _ c.kind_of-kind.ensures Transition c.in-Transition.is (omega arith) in
    no_source _ _ _ _ c.if-left-gt0.true (λ i. omega arith)

pub returns-then-symbol-alphabet : goal.returns-then-symbol-alphabet
returns-then-symbol-alphabet c =
    transition-next _ _ _ (sym c.spare_bits_clear.ensures ∙ c.if-not-spare_bits_clear.false)
    c.if-below-states.false _ c.if-left-gt0.false
    (told-number _ _ c.kind_of-kind.ensures Transition c.in-Transition.is (omega arith))
    c.if-symbol-alphabet.true _ c.rank.ensures

pub returns-then-left-gt0-2 : goal.returns-then-left-gt0-2
returns-then-left-gt0-2 c =
    let n = told-number _ _ c.kind_of-kind.ensures Epsilon c.in-Epsilon.is (omega arith) in
    no_source _ _ _ _ c.if-left-gt0-2.true (λ i. omega arith)

pub returns-then-above-states : goal.returns-then-above-states
returns-then-above-states c =
    epsilon-next _ _ _ (sym c.spare_bits_clear.ensures ∙ c.if-not-spare_bits_clear.false)
    c.if-below-states.false _ c.if-left-gt0-2.false
    (told-number _ _ c.kind_of-kind.ensures Epsilon c.in-Epsilon.is (omega arith))
    c.if-above-states.true

pub returns-else-symbol-alphabet : goal.returns-else-symbol-alphabet
returns-else-symbol-alphabet c =
    symbol-unknown _ _ _ _ c.if-left-gt0.false
    (told-number _ _ c.kind_of-kind.ensures Transition c.in-Transition.is (omega arith))
    c.if-symbol-alphabet.false

pub returns-else-above-states : goal.returns-else-above-states
returns-else-above-states c =
    above-outside _ _ _ _ c.if-left-gt0-2.false
    (told-number _ _ c.kind_of-kind.ensures Epsilon c.in-Epsilon.is (omega arith))
    c.if-above-states.false

pub returns-in-Source : goal.returns-in-Source
returns-in-Source c =
    source-next _ _ _ (sym c.spare_bits_clear.ensures ∙ c.if-not-spare_bits_clear.false)
    c.if-below-states.false _ (told-number _ _ c.kind_of-kind.ensures Source c.in-Source.is (omega arith)) _ c.checked_sub.ensures

pub returns-in_default : goal.returns-in_default
returns-in_default c =
    let k = c.kind_of-kind.result in
    let decoded = c.kind_of-kind.ensures in
    no-table-word _ _ _ _
    (left-number _ k decoded (Transition ∷ Epsilon ∷ Source ∷ []) (c.in_default.not-Transition, (c.in_default.not-Epsilon, (c.in_default.not-Source, tt))) transition_kind refl)
    (left-number _ k decoded (Transition ∷ Epsilon ∷ Source ∷ []) (c.in_default.not-Transition, (c.in_default.not-Epsilon, (c.in_default.not-Source, tt))) epsilon_kind refl)
    (left-number _ k decoded (Transition ∷ Epsilon ∷ Source ∷ []) (c.in_default.not-Transition, (c.in_default.not-Epsilon, (c.in_default.not-Source, tt))) source_kind refl)
