-- Properties of every entry, of every state found for a constant, and of every transition from entries.
use Prim.Native.Nat.{ℕ, suc}
use mathlib.Core.Path.{◌≡◌, refl, sym, subst}
use mathlib.Core.Bool.{Bool, true, false, cond}
use mathlib.Core.List.{List, [], ◌∷◌, Memᴰ}
use lib.Dec.{eqb}
use borrow.Author.Tests.{eqb-true, eqb-false}
use Rattle.words.specs.Lists.{All}
use Rattle.words.proofs.AllLaws.{each_append, each_left, each_right}
use Rattle.automaton.specs.Transition.{Transition, on_symbol, epsilon}
use Rattle.automaton.specs.Numbering.{numbered, lookup, epsilons, entry_epsilons, constant_transitions}

-- a property of a constant and a state
module _ (P : ℕ → ℕ → Type 0) where
  abbrev pub EveryEntry : List (ℕ × ℕ) → Type 0
  EveryEntry es = All (λ e. P e.0 e.1) es

  pub every-found : (c : ℕ) (es : List (ℕ × ℕ)) → EveryEntry es → All (P c) (lookup es c)
  every-found c [] h = tt
  every-found c (e ∷ es) h = go (eqb e.0 c) refl (every-found c es h.1)
    where
      go : (b : Bool) → eqb e.0 c ≡ b → All (P c) (lookup es c) → All (P c) (cond b (e.1 ∷ lookup es c) (lookup es c))
      go true q r = (subst (λ x. P x e.1) (eqb-true e.0 c q) h.0, r)
      go false q r = r

  -- and back, where it is known of each constant of the entries
  pub found-every :
      (K : ℕ → Type 0) (es : List (ℕ × ℕ)) → All (λ e. K e.0) es → ((c : ℕ) → K c → All (P c) (lookup es c)) → EveryEntry es
  found-every K [] k h = tt
  found-every K (e ∷ es) k h = (
    first (eqb e.0 e.0) refl (h e.0 k.0),
    found-every K es k.1 (λ c kc. later c (eqb e.0 c) (h c kc)),
  )
    where
      first : (b : Bool) → eqb e.0 e.0 ≡ b → All (P e.0) (cond b (e.1 ∷ lookup es e.0) (lookup es e.0)) → P e.0 e.1
      first true q r = r.0
      first false q r = absurd (eqb-false e.0 e.0 q refl)

      later : (c : ℕ) (b : Bool) → All (P c) (cond b (e.1 ∷ lookup es c) (lookup es c)) → All (P c) (lookup es c)
      later c true r = r.1
      later c false r = r

  -- a listed constant has an entry among the numbered
  pub every-numbered : (c n : ℕ) (cs : List ℕ) → Memᴰ c cs → EveryEntry (numbered n cs) → (q : ℕ) × P c q
  every-numbered c n [] x'' h = elim x'' [ ]
  every-numbered c n (d ∷ cs) (Memᴰ.head e) h = (n, subst (λ x. P x n) (sym e) h.0)
  every-numbered c n (d ∷ cs) (Memᴰ.tail m) h = every-numbered c (suc n) cs m h.1

pub numbered-all : (P : ℕ → Type 0) (n : ℕ) (cs : List ℕ) → All P cs → All (λ e. P e.0) (numbered n cs)
numbered-all P n [] h = tt
numbered-all P n (c ∷ cs) h = (h.0, numbered-all P (suc n) cs h.1)

-- a property of transitions
module _ (C : Transition → Type 0) where
  pub to-epsilons : (q : ℕ) (ps : List ℕ) → All (λ p. C (epsilon q p)) ps → All C (epsilons q ps)
  to-epsilons q [] h = tt
  to-epsilons q (p ∷ ps) h = (h.0, to-epsilons q ps h.1)

  pub of-epsilons : (q : ℕ) (ps : List ℕ) → All C (epsilons q ps) → All (λ p. C (epsilon q p)) ps
  of-epsilons q [] h = tt
  of-epsilons q (p ∷ ps) h = (h.0, of-epsilons q ps h.1)

  pub to-entry_epsilons : (targets : ℕ → List ℕ) (es : List (ℕ × ℕ)) → All (λ e. All (λ p. C (epsilon e.1 p)) (targets e.0)) es
      → All C (entry_epsilons es targets)
  to-entry_epsilons targets [] h = tt
  to-entry_epsilons targets (e ∷ es) h =
      each_append C (epsilons e.1 (targets e.0)) (entry_epsilons es targets)
      (to-epsilons e.1 (targets e.0) h.0) (to-entry_epsilons targets es h.1)

  pub of-entry_epsilons : (targets : ℕ → List ℕ) (es : List (ℕ × ℕ)) → All C (entry_epsilons es targets)
      → All (λ e. All (λ p. C (epsilon e.1 p)) (targets e.0)) es
  of-entry_epsilons targets [] h = tt
  of-entry_epsilons targets (e ∷ es) h = (
    of-epsilons e.1 (targets e.0) (each_left C (epsilons e.1 (targets e.0)) (entry_epsilons es targets) h),
    of-entry_epsilons targets es (each_right C (epsilons e.1 (targets e.0)) (entry_epsilons es targets) h),
  )

  pub to-constants : (es : List (ℕ × ℕ)) → All (λ e. C (on_symbol e.0 [] e.1)) es → All C (constant_transitions es)
  to-constants [] h = tt
  to-constants (e ∷ es) h = (h.0, to-constants es h.1)

  pub of-constants : (es : List (ℕ × ℕ)) → All C (constant_transitions es) → All (λ e. C (on_symbol e.0 [] e.1)) es
  of-constants [] h = tt
  of-constants (e ∷ es) h = (h.0, of-constants es h.1)
