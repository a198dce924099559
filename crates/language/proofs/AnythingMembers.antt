-- Members and non-members of rules with anything (document 02, U7), over the source's alphabet.
use Prim.Native.Nat.{ℕ, zero, suc}
use mathlib.Core.Path.{◌≡◌, refl, sym, ap}
use mathlib.Core.Logic.{inl, inr, ◌↔◌}
use native.Mathlib.Omega.{arith}
use Rattle.words.specs.Alphabet.{rank_of}
use Rattle.words.specs.Tree.{Tree, node, none, more, label}
use Rattle.language.specs.Expression.{Expression, symbol, empty, product, closure, anything, noneᵉ, moreᵉ, TreeOver}
use Rattle.language.specs.Membership.{constant, at_constant, at_symbol, at_none, at_more, Step, Member}
use Rattle.language.proofs.MembershipExamples.{alphabet, a, b, c, d, con, fᵉ, f, a≢c, b≢c}

-- g over one part, as an expression and as a tree
abbrev gᵉ : Expression → Expression
gᵉ E = symbol 5 (moreᵉ E noneᵉ)

abbrev g : Tree → Tree
g t = node 5 (more t none)

-- f over two constants is a tree over the alphabet, and f over one part is none
over-f : (x y : ℕ) → TreeOver alphabet (constant x) → TreeOver alphabet (constant y) → TreeOver alphabet (f (constant x) (constant y))
unfolding rank_of
over-f x y o p = (omega arith, refl, (o, (p, tt)))

over-a : TreeOver alphabet (constant a)
unfolding rank_of
over-a = (omega arith, refl, tt)

over-b : TreeOver alphabet (constant b)
unfolding rank_of
over-b = (omega arith, refl, tt)

over-c : TreeOver alphabet (constant c)
unfolding rank_of
over-c = (omega arith, refl, tt)

-- "holds for every tree over the alphabet", and for no other
pub anything-f : Member alphabet anything (f (constant a) (constant b))
anything-f = over-f a b over-a over-b

pub anything-half : Member alphabet anything (node 4 (more (constant a) none)) → ⊥
unfolding rank_of
anything-half m = let e : ◌≡◌ {A = ℕ} 2 1 = m.1 in omega arith

-- "Products .. around it mean what substitution says": by d over c, d stands at each c, and c is gone
pub anything-by : Member alphabet (product c anything (con d)) (f (constant a) (constant d))
anything-by = (
  f (constant a) (constant c),
  over-f a c over-a over-c,
  at_symbol (at_constant (inr (a≢c, refl))) (at_more (at_constant (inl (refl, (refl, tt)))) at_none),
)

pub anything-by-c : Member alphabet (product c anything (con d)) (constant c) → ⊥
anything-by-c (u, m, at_constant (inl s)) = let e : ◌≡◌ {A = ℕ} 3 2 = s.1.0 in omega arith
anything-by-c (u, m, at_constant (inr s)) = let e = s.1 in s.0 cc

-- by the empty rule: the trees without c
pub anything-by-empty : Member alphabet (product c anything empty) (f (constant a) (constant b))
anything-by-empty = (
  f (constant a) (constant b),
  over-f a b over-a over-b,
  at_symbol (at_constant (inr (a≢c, refl))) (at_more (at_constant (inr (b≢c, refl))) at_none),
)

pub anything-by-empty-c : Member alphabet (product c anything empty) (constant c) → ⊥
anything-by-empty-c (u, m, at_constant (inl s)) = s.1
anything-by-empty-c (u, m, at_constant (inr s)) = let e = s.1 in s.0 cc

-- by g(c): what was put is not looked at again
pub anything-by-g : Member alphabet (product c anything (gᵉ (con c))) (f (constant a) (g (constant c)))
anything-by-g = (
  f (constant a) (constant c),
  over-f a c over-a over-c,
  at_symbol (at_constant (inr (a≢c, refl))) (at_more (at_constant {t = g (constant c)} (inl (refl, (refl, ((refl, tt), tt))))) at_none),
)

-- ".. and closures": over c of f(c, anything), f(f(c,b),a): f's along the first parts, and at their end c
pub anything-closure : Member alphabet (closure c (fᵉ (con c) anything)) (f (f (constant c) (constant b)) (constant a))
anything-closure = (
  2,
  inr (
    f (constant c) (constant a),
    (refl, ((refl, tt), (over-a, tt))),
    at_symbol (at_constant (inl (refl, first))) (at_more (at_constant (inr (a≢c, refl))) at_none),
  ),
)
  where
    first : Step c (λ s. Member alphabet (fᵉ (con c) anything) s) 1 (f (constant c) (constant b))
    first =
        inr (
          f (constant c) (constant b),
          (refl, ((refl, tt), (over-b, tt))),
          at_symbol (at_constant (inl (refl, refl))) (at_more (at_constant (inr (b≢c, refl))) at_none),
        )

-- and not f(a,b), which has no c at that end
no-constant : (n : ℕ) → Step c (λ s. Member alphabet (fᵉ (con c) anything) s) n (constant a) → ⊥
no-constant zero e = a≢c (ap label e)
no-constant (suc n) (inl s) = no-constant n s
no-constant (suc n) (inr (u, m, at_constant s)) = m.1

no_end : (n : ℕ) → Step c (λ s. Member alphabet (fᵉ (con c) anything) s) n (f (constant a) (constant b)) → ⊥
no_end zero e = let q : ◌≡◌ {A = ℕ} 4 2 = ap label e in omega arith
no_end (suc n) (inl s) = no_end n s
no_end (suc n) (inr (u, m, at_constant s)) = m.1
no_end (suc n) (inr (u, m, at_symbol (at_constant (inl s)) q)) = no-constant n s.1
no_end (suc n) (inr (u, m, at_symbol (at_constant (inr s)) q)) = s.0 (sym m.1.0.0)

pub anything-closure-none : Member alphabet (closure c (fᵉ (con c) anything)) (f (constant a) (constant b)) → ⊥
anything-closure-none m = no_end m.0 m.1

-- the pattern f(S, a) of document 002, whose S is "a placeholder for any subtree"
pub pattern : (t : Tree) → Member alphabet (fᵉ anything (con a)) (f t (constant a)) ↔ TreeOver alphabet t
pattern t = ((λ m. m.1.0), (λ o. (refl, (o, ((refl, tt), tt)))))

pub pattern-b : (t : Tree) → Member alphabet (fᵉ anything (con a)) (f t (constant b)) → ⊥
pattern-b t m = let e : ◌≡◌ {A = ℕ} 0 1 = m.1.1.0.0 in omega arith
