-- `syntax::expression::is_expression_word` meets its contract: of a word whose spare bits are clear each case has the test of its kind,
-- and none of the kinds that are left is a rule word's.
use mathlib.Core.Path.{◌≡◌, refl, sym, ◌∙◌}
use mathlib.Core.Bool.{Bool, true, false, not}
use mathlib.Core.List.{List, [], ◌∷◌}
use Prim.Native.Nat.{ℕ}
use borrow.Author.Tests.{not-true}
use Rattle.words.specs.Word.{Kind, kind_of, spare_bits_clear, low_byte}
use Rattle.words.specs.Decoded.{kind_in}
use Rattle.words.specs.declared.word.Kind.{Kind as Case}
use Rattle.words.specs.declared.word.Kind.TheVariants.{Symbol, Empty, Union, Product, Closure, Anything}
use Rattle.words.specs.ExpressionWords.{names_at, is_expression_word}
use Rattle.words.proofs.TestLaws.{and_none}
use Rattle.words.proofs.DecodedLaws.{Left, left-all, told-kind}
use Rattle.syntax.proofs.expression.is_expression_word.Goals as goal

-- what the test says of a word of kind k whose spare bits are clear
named : (a : List ℕ) (w : ℕ) (r : Bool) (k j : Case) → r ≡ spare_bits_clear w → r ≡ true → kind_in k ≡ kind_of w → k ≡ j
    → is_expression_word a w ≡ names_at a (low_byte w) (kind_in j)
unfolding is_expression_word
named a w r k j clear h decoded told = rw (sym clear ∙ h, told-kind w k decoded j told)

no-rule-word : (a : List ℕ) (w : ℕ) (k : Case) → kind_in k ≡ kind_of w
    → Left (Symbol ∷ Empty ∷ Union ∷ Product ∷ Closure ∷ Anything ∷ []) k → is_expression_word a w ≡ false
unfolding is_expression_word
no-rule-word a w k decoded left =
    let e = not-true (names_at a (low_byte w) (kind_in k))
    (left-all (Symbol ∷ Empty ∷ Union ∷ Product ∷ Closure ∷ Anything ∷ []) k left (λ (j : Kind). not (names_at a (low_byte w) j)) refl) in
    rw (sym decoded, e) (and_none (spare_bits_clear w))

pub returns-then-not-spare_bits_clear : goal.returns-then-not-spare_bits_clear
unfolding is_expression_word
returns-then-not-spare_bits_clear c = rw (sym c.spare_bits_clear.ensures ∙ c.if-not-spare_bits_clear.true)

pub returns-in-Symbol : goal.returns-in-Symbol
returns-in-Symbol c =
    sym (named _ _ _ _ _ c.spare_bits_clear.ensures c.if-not-spare_bits_clear.false c.kind_of-kind.ensures
    c.in-Symbol.is)

pub returns-in-Empty : goal.returns-in-Empty
returns-in-Empty c =
    sym (named _ _ _ _ _ c.spare_bits_clear.ensures c.if-not-spare_bits_clear.false c.kind_of-kind.ensures
    c.in-Empty.is)

pub returns-in-Union : goal.returns-in-Union
returns-in-Union c =
    sym (named _ _ _ _ _ c.spare_bits_clear.ensures c.if-not-spare_bits_clear.false c.kind_of-kind.ensures
    c.in-Union.is)

pub returns-in-Product : goal.returns-in-Product
returns-in-Product c =
    c.may_name.ensures
    ∙ sym (named _ _ _ _ _ c.spare_bits_clear.ensures c.if-not-spare_bits_clear.false c.kind_of-kind.ensures
    c.in-Product.is)

pub returns-in-Closure : goal.returns-in-Closure
returns-in-Closure c =
    c.may_name-in-Closure.ensures
    ∙ sym (named _ _ _ _ _ c.spare_bits_clear.ensures c.if-not-spare_bits_clear.false c.kind_of-kind.ensures
    c.in-Closure.is)

pub returns-in-Anything : goal.returns-in-Anything
returns-in-Anything c =
    sym (named _ _ _ _ _ c.spare_bits_clear.ensures c.if-not-spare_bits_clear.false c.kind_of-kind.ensures
    c.in-Anything.is)

pub returns-in_default : goal.returns-in_default
returns-in_default c = sym (no-rule-word _ _ c.kind_of-kind.result c.kind_of-kind.ensures (c.in_default.not-Symbol, (c.in_default.not-Empty, (c.in_default.not-Union, (c.in_default.not-Product, (c.in_default.not-Closure, (c.in_default.not-Anything, tt)))))))
