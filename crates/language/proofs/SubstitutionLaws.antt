-- Laws of simultaneous substitution: it composes, and a product or a closure under an assignment is its first language
-- under the assignment with another language for c.
use Prim.Native.Nat.{ℕ, suc, ◌≤◌, max}
use mathlib.Core.Path.{◌≡◌, refl, sym, ap₂, subst}
use mathlib.Core.Logic.{◌⊎◌, inl, inr}
use mathlib.Core.List.{List}
use native.Mathlib.Decide.{le_ind}
use native.Mathlib.Nat.{le-max_left, le-max_right}
use Rattle.words.specs.Tree.{Tree, Trees, node, none, more}
use Rattle.language.specs.Expression.{symbol, noneᵉ}
use Rattle.language.specs.Membership.{Language, constant, Assignment, only, Substitution, Substitutions}
use Rattle.language.specs.Membership.{at_constant, at_symbol, at_none, at_more, Product, Step, Closure, Member}

-- every constant stands for itself
abbrev pub itself : Assignment
itself a t = t ≡ constant a

-- L for c, and for any other constant what σ gives it; `only c L` is `assigned itself c L`
abbrev pub assigned : Assignment → ℕ → Language → Assignment
assigned σ c L a t = ((a ≡ c) × L t) ⊎ ((a ≡ c → ⊥) × σ a t)

-- L under σ: the members of L with members of σ a at each constant a
abbrev pub Under : Language → Assignment → Language
Under L σ t = (u : Tree) × L u × Substitution σ u t

abbrev AssignmentWithin : Assignment → Assignment → Type 0
AssignmentWithin σ τ = (a : ℕ) (t : Tree) → σ a t → τ a t

-- ---- larger languages allow more

module _ {σ τ : Assignment} (h : AssignmentWithin σ τ) where
  mutual
    substitution-within : {u t : Tree} → Substitution σ u t → Substitution τ u t
    substitution-within (at_constant {a = a} {t = t} s) = at_constant (h a t s)
    substitution-within (at_symbol p q) = at_symbol (substitution-within p) (substitutions-within q)

    substitutions-within : {us ts : Trees} → Substitutions σ us ts → Substitutions τ us ts
    substitutions-within at_none = at_none
    substitutions-within (at_more p q) = at_more (substitution-within p) (substitutions-within q)

-- ---- one substitution behind another is one substitution

-- σ in the members of τ's languages
abbrev Then : Assignment → Assignment → Assignment
Then τ σ a t = Under (τ a) σ t

module _ {τ σ : Assignment} where
  mutual
    substitution-join : {v u t : Tree} → Substitution τ v u → Substitution σ u t → Substitution (Then τ σ) v t
    substitution-join (at_constant {t = u} s) q = at_constant (u, s, q)
    substitution-join (at_symbol p ps) (at_symbol q qs) = at_symbol (substitution-join p q) (substitutions-join ps qs)

    substitutions-join : {vs us ts : Trees} → Substitutions τ vs us → Substitutions σ us ts → Substitutions (Then τ σ) vs ts
    substitutions-join at_none at_none = at_none
    substitutions-join (at_more p ps) (at_more q qs) = at_more (substitution-join p q) (substitutions-join ps qs)

  mutual
    substitution-split : {v t : Tree} → Substitution (Then τ σ) v t → (u : Tree) × Substitution τ v u × Substitution σ u t
    substitution-split (at_constant s) = (s.0, at_constant s.1, s.2)
    substitution-split (at_symbol {f = f} p ps) =
        let q = substitution-split p in
        let r = substitutions-split ps in
        (node f (more q.0 r.0), at_symbol q.1 r.1, at_symbol q.2 r.2)

    substitutions-split : {vs ts : Trees} → Substitutions (Then τ σ) vs ts
        → (us : Trees) × Substitutions τ vs us × Substitutions σ us ts
    substitutions-split at_none = (none, at_none, at_none)
    substitutions-split (at_more p ps) =
        let q = substitution-split p in
        let r = substitutions-split ps in
        (more q.0 r.0, at_more q.1 r.1, at_more q.2 r.2)

-- ---- each constant for itself changes nothing

mutual
  pub substitution-same : (t : Tree) → Substitution itself t t
  substitution-same (node f ts) = go ts (substitutions-same ts)
    where
      go : (ts : Trees) → Substitutions itself ts ts → Substitution itself (node f ts) (node f ts)
      go none i = at_constant refl
      go (more t ts) (at_more p q) = at_symbol p q

  substitutions-same : (ts : Trees) → Substitutions itself ts ts
  substitutions-same none = at_none
  substitutions-same (more t ts) = at_more (substitution-same t) (substitutions-same ts)

mutual
  pub substitution-itself : {u t : Tree} → Substitution itself u t → u ≡ t
  substitution-itself (at_constant p) = sym p
  substitution-itself (at_symbol {f = f} p q) = ap₂ (λ x y. node f (more x y)) (substitution-itself p) (substitutions-itself q)

  substitutions-itself : {us ts : Trees} → Substitutions itself us ts → us ≡ ts
  substitutions-itself at_none = refl
  substitutions-itself (at_more p q) = ap₂ more (substitution-itself p) (substitutions-itself q)

-- ---- a constant under an assignment

pub at-constant : {σ : Assignment} {a : ℕ} {t : Tree} → Substitution σ (node a none) t → σ a t
at-constant (at_constant s) = s

pub constant-under : (alphabet : List ℕ) (a : ℕ) (σ : Assignment) (t : Tree) → Under (Member alphabet (symbol a noneᵉ)) σ t → σ a t
constant-under alphabet a σ t (u, m, p) = go u m p
  where
    go : (u : Tree) → Member alphabet (symbol a noneᵉ) u → Substitution σ u t → σ a t
    go (node b none) m p = subst (λ x. σ x t) (sym m.0) (at-constant p)
    go (node b (more v vs)) m p = absurd m.1

-- ---- languages that grow: finitely many places have one largest step

module _ {S : ℕ → Assignment} (grows : (n m : ℕ) → n ≤ m → AssignmentWithin (S n) (S m)) where
  mutual
    substitution-step : {u t : Tree} → Substitution (λ a s. (n : ℕ) × S n a s) u t → (n : ℕ) × Substitution (S n) u t
    substitution-step (at_constant s) = (s.0, at_constant s.1)
    substitution-step (at_symbol p q) =
        let (n, x) = substitution-step p in
        let (m, y) = substitutions-step q in (
          max n m,
          at_symbol (substitution-within (grows n (max n m) (le-max_left n m)) x)
              (substitutions-within (grows m (max n m) (le-max_right n m)) y),
        )

    substitutions-step : {us ts : Trees} → Substitutions (λ a s. (n : ℕ) × S n a s) us ts → (n : ℕ) × Substitutions (S n) us ts
    substitutions-step at_none = (0, at_none)
    substitutions-step (at_more p q) =
        let (n, x) = substitution-step p in
        let (m, y) = substitutions-step q in (
          max n m,
          at_more (substitution-within (grows n (max n m) (le-max_left n m)) x)
              (substitutions-within (grows m (max n m) (le-max_right n m)) y),
        )

-- ---- a product under σ is F under σ with G under σ for c

module _ (c : ℕ) (F G : Language) (σ : Assignment) where
  joined-within : AssignmentWithin (Then (only c G) σ) (assigned σ c (Under G σ))
  joined-within a t (w, inl (e, g), y) = inl (e, (w, g, y))
  joined-within a t (w, inr (n, e), y) = inr (n, at-constant (subst (λ z. Substitution σ z t) e y))

  within-joined : AssignmentWithin (assigned σ c (Under G σ)) (Then (only c G) σ)
  within-joined a t (inl (e, (w, g, y))) = (w, inl (e, g), y)
  within-joined a t (inr (n, s)) = (constant a, inr (n, refl), at_constant s)

  pub product-in : (t : Tree) → Under (Product c F G) σ t → Under F (assigned σ c (Under G σ)) t
  product-in t (u, (v, f, s), p) = (v, f, substitution-within joined-within (substitution-join s p))

  pub product-out : (t : Tree) → Under F (assigned σ c (Under G σ)) t → Under (Product c F G) σ t
  product-out t (v, f, p) = let r = substitution-split (substitution-within within-joined p) in (r.0, (v, f, r.1), r.2)

-- ---- a closure holds c, and the product of F by itself

module _ (c : ℕ) (F : Language) where
  step-grows : (t : Tree) (n m : ℕ) → n ≤ m → Step c F n t → Step c F m t
  step-grows t n m le = le_ind (λ k. Step c F n t → Step c F k t) (λ s. s) (λ k _ ih s. inl (ih s)) m le

  only-grows : (n m : ℕ) → n ≤ m → AssignmentWithin (only c (Step c F n)) (only c (Step c F m))
  only-grows n m le a t (inl (e, s)) = inl (e, step-grows t n m le s)
  only-grows n m le a t (inr s) = inr s

  only_step : AssignmentWithin (only c (Closure c F)) (λ a s. (n : ℕ) × only c (Step c F n) a s)
  only_step a t (inl (e, (n, s))) = (n, inl (e, s))
  only_step a t (inr s) = (0, inr s)

  closure-closed : (t : Tree) → Product c F (Closure c F) t → Closure c F t
  closure-closed t (v, f, s) = let r = substitution-step only-grows (substitution-within only_step s) in (suc r.0, inr (v, f, r.1))

  pub closure-base : (σ : Assignment) (t : Tree) → σ c t → Under (Closure c F) σ t
  closure-base σ t s = (constant c, (0, refl), at_constant s)

  pub closure-step : (σ : Assignment) (t : Tree) → Under F (assigned σ c (Under (Closure c F) σ)) t → Under (Closure c F) σ t
  closure-step σ t d = let r = product-out c F (Closure c F) σ t d in (r.0, closure-closed r.0 r.1, r.2)
