-- Document 01's marked examples that speak of the language of a rule alone, over the source's alphabet.
use Prim.Native.Nat.{ℕ, zero, suc}
use mathlib.Core.Path.{◌≡◌, refl, sym}
use mathlib.Core.Logic.{inl, inr, ◌↔◌}
use mathlib.Core.List.{List, [], ◌∷◌}
use native.Mathlib.Omega.{arith}
use Rattle.words.specs.Tree.{Tree, node, none, more}
use Rattle.language.specs.Expression.{Expression, symbol, empty, union, product, closure, noneᵉ, moreᵉ}
use Rattle.language.specs.Membership.{constant, only, at_constant, at_symbol, at_none, at_more, Step, Member}
use Rattle.language.proofs.SubstitutionLaws.{constant-under}

abbrev pub a : ℕ
a = 0

abbrev pub b : ℕ
b = 1

abbrev pub c : ℕ
c = 2

abbrev pub d : ℕ
d = 3

-- a, b, c, d of rank 0, f of rank 2, g and h of rank 1, numbered 0 to 6
abbrev pub alphabet : List ℕ
alphabet = 0x10000000 ∷ 0x10000000 ∷ 0x10000000 ∷ 0x10000000 ∷ 0x10000002 ∷ 0x10000001 ∷ 0x10000001 ∷ []

-- a constant, and f over two parts, as expressions
abbrev pub con : ℕ → Expression
con s = symbol s noneᵉ

abbrev pub fᵉ : Expression → Expression → Expression
fᵉ E F = symbol 4 (moreᵉ E (moreᵉ F noneᵉ))

-- f over two trees
abbrev pub f : Tree → Tree → Tree
f t u = node 4 (more t (more u none))

pub a≢c : a ≡ c → ⊥
a≢c e = omega arith

pub b≢c : b ≡ c → ⊥
b≢c e = omega arith

-- f over constants has itself as a member
f-constants : (x y : ℕ) → Member alphabet (fᵉ (con x) (con y)) (f (constant x) (constant y))
f-constants x y = (refl, ((refl, tt), ((refl, tt), tt)))

-- "Rule d alone, chapter d: one hit"
pub constant-itself : Member alphabet (con d) (constant d)
constant-itself = (refl, tt)

-- "Empty rule: no hit anywhere."
pub empty-none : (t : Tree) → Member alphabet empty t → ⊥
empty-none t m = m

-- "Its closure over c: hits at c only."
pub closure-empty : (t : Tree) → Member alphabet (closure c empty) t ↔ (t ≡ constant c)
closure-empty t = (λ m. steps m.0 m.1, λ e. (0, e))
  where
    steps : (n : ℕ) → Step c (λ s. Member alphabet empty s) n t → t ≡ constant c
    steps zero e = e
    steps (suc n) (inl s) = steps n s
    steps (suc n) (inr p) = absurd p.1

-- "f(a,b) by the empty rule over c keeps f(a,b)"
pub by-empty : Member alphabet (product c (fᵉ (con a) (con b)) empty) (f (constant a) (constant b))
by-empty = (
  f (constant a) (constant b),
  f-constants a b,
  at_symbol (at_constant (inr (a≢c, refl))) (at_more (at_constant (inr (b≢c, refl))) at_none),
)

-- "f(a,c) by it has no member": nothing can be put at c
pub by-empty-none : (t : Tree) → Member alphabet (product c (fᵉ (con a) (con c)) empty) t → ⊥
by-empty-none t (u, m, at_constant s) = m.1
by-empty-none t (u, m, at_symbol p at_none) = m.1.1
by-empty-none t (u, m, at_symbol p (at_more (at_constant (inl s)) q)) = s.1
by-empty-none t (u, m, at_symbol p (at_more (at_constant (inr s)) q)) = s.0 (sym m.1.1.0.0)
by-empty-none t (u, m, at_symbol p (at_more (at_symbol q r) s)) = m.1.1.0.1

-- "f(c,c) by a + b over c has f(a,b)"
pub separately : Member alphabet (product c (fᵉ (con c) (con c)) (union (con a) (con b))) (f (constant a) (constant b))
separately = (
  f (constant c) (constant c),
  f-constants c c,
  at_symbol (at_constant (inl (refl, inl (refl, tt)))) (at_more (at_constant (inl (refl, inr (refl, tt)))) at_none),
)

-- "c by f(c,a) over c has f(c,a), and not f(f(c,a),a)"
pub put-once : Member alphabet (product c (con c) (fᵉ (con c) (con a))) (f (constant c) (constant a))
put-once = (constant c, (refl, tt), at_constant (inl (refl, f-constants c a)))

pub not-twice : Member alphabet (product c (con c) (fᵉ (con c) (con a))) (f (f (constant c) (constant a)) (constant a)) → ⊥
not-twice m =
    go (constant-under alphabet c (only c (Member alphabet (fᵉ (con c) (con a)))) (f (f (constant c) (constant a)) (constant a)) m)
  where
    go : only c (Member alphabet (fᵉ (con c) (con a))) c (f (f (constant c) (constant a)) (constant a)) → ⊥
    go (inl p) = let e : ◌≡◌ {A = ℕ} 2 4 = p.1.1.0.0 in omega arith
    go (inr p) = p.0 refl

-- "Closure over c of f(c,c) + a has f(c, f(c,c))": c at step 0, f(c,c) at step 1, where c is still
pub closure-joined : Member alphabet (closure c (union (fᵉ (con c) (con c)) (con a))) (f (constant c) (f (constant c) (constant c)))
closure-joined = (
  2,
  inr (
    f (constant c) (constant c),
    inl (f-constants c c),
    at_symbol (at_constant (inl (refl, inl refl))) (at_more (at_constant (inl (refl, first))) at_none),
  ),
)
  where
    first : Step c (λ s. Member alphabet (union (fᵉ (con c) (con c)) (con a)) s) 1 (f (constant c) (constant c))
    first =
        inr (
          f (constant c) (constant c),
          inl (f-constants c c),
          at_symbol (at_constant (inl (refl, refl))) (at_more (at_constant (inl (refl, refl))) at_none),
        )
