-- `index::key` meets its contract: only the transitions have a key.
use mathlib.Core.Path.{refl, sym}
use mathlib.Core.List.{[], ◌∷◌}
use native.Mathlib.Omega.{arith}
use Rattle.words.specs.Word.{transition_kind, epsilon_kind}
use Rattle.words.specs.declared.word.Kind.TheVariants.{Transition, Epsilon}
use Rattle.words.proofs.DecodedLaws.{told-number, left-number}
use Rattle.index.proofs.ChainLaws.{key-symbol, key-epsilon, key-none}
use Rattle.index.proofs.key.Goals as goal

pub returns-in-Transition : goal.returns-in-Transition
returns-in-Transition c =
    sym (key-symbol _ (told-number _ _ c.kind_of-kind.ensures Transition c.in-Transition.is (omega arith)) refl)

pub returns-in-Epsilon : goal.returns-in-Epsilon
returns-in-Epsilon c =
    sym (key-epsilon _ (told-number _ _ c.kind_of-kind.ensures Epsilon c.in-Epsilon.is (omega arith)) refl)

pub returns-in_default : goal.returns-in_default
returns-in_default c =
    let k = c.kind_of-kind.result in
    let decoded = c.kind_of-kind.ensures in
    sym
    (key-none _ (left-number _ k decoded (Transition ∷ Epsilon ∷ []) (c.in_default.not-Transition, (c.in_default.not-Epsilon, tt)) transition_kind refl)
    (left-number _ k decoded (Transition ∷ Epsilon ∷ []) (c.in_default.not-Transition, (c.in_default.not-Epsilon, tt)) epsilon_kind refl))
