-- `alphabet::arity` meets its contract: each case has the arity of its kind, and no kind that is left takes children.
use mathlib.Core.Path.{◌≡◌, refl, sym, ◌∙◌}
use mathlib.Core.List.{List, [], ◌∷◌}
use Prim.Native.Nat.{ℕ}
use lib.Dec.{eqb}
use borrow.Author.Tests.{eqb-true}
use Rattle.words.specs.Word.{Kind, kind_of, low_byte}
use Rattle.words.specs.Decoded.{kind_in}
use Rattle.words.specs.declared.word.Kind.{Kind as Case}
use Rattle.words.specs.declared.word.Kind.TheVariants.{Symbol, Union, Product, Closure, Node}
use Rattle.words.specs.Alphabet.{rank_of}
use Rattle.words.specs.Postfix.{arity_at, arity}
use Rattle.words.proofs.DecodedLaws.{Left, left-all, told-kind}
use Rattle.words.proofs.WordLaws.{arity-kind}
use Rattle.alphabet.proofs.arity.Goals as goal

none-taken : (a : List ℕ) (w : ℕ) (k : Case) → kind_in k ≡ kind_of w → Left (Symbol ∷ Union ∷ Product ∷ Closure ∷ Node ∷ []) k → arity a w ≡ 0
none-taken a w k decoded left =
    let r = rank_of a (low_byte w) in
    arity-kind a w (kind_in k) (sym decoded)
    ∙ eqb-true (arity_at r (kind_in k)) 0
    (left-all (Symbol ∷ Union ∷ Product ∷ Closure ∷ Node ∷ []) k left (λ (j : Kind). eqb (arity_at r j) 0) refl)

pub node_arity-requires : goal.node_arity-requires
node_arity-requires c = told-kind _ _ c.kind_of-kind.ensures _ c.in-Node.is

pub returns-in-Symbol : goal.returns-in-Symbol
returns-in-Symbol c =
    c.symbol_rank.ensures ∙ sym (arity-kind _ _ _ (told-kind _ _ c.kind_of-kind.ensures _ c.in-Symbol.is))

pub returns-in-Union : goal.returns-in-Union
returns-in-Union c = sym (arity-kind _ _ _ (told-kind _ _ c.kind_of-kind.ensures _ c.in-Union.is))

pub returns-in-Product : goal.returns-in-Product
returns-in-Product c = sym (arity-kind _ _ _ (told-kind _ _ c.kind_of-kind.ensures _ c.in-Product.is))

pub returns-in-Closure : goal.returns-in-Closure
returns-in-Closure c = sym (arity-kind _ _ _ (told-kind _ _ c.kind_of-kind.ensures _ c.in-Closure.is))

pub returns-in-Node : goal.returns-in-Node
returns-in-Node c = c.node_arity.ensures

pub returns-in_default : goal.returns-in_default
returns-in_default c = sym (none-taken _ _ c.kind_of-kind.result c.kind_of-kind.ensures (c.in_default.not-Symbol, (c.in_default.not-Union, (c.in_default.not-Product, (c.in_default.not-Closure, (c.in_default.not-Node, tt))))))
