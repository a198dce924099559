-- Properties of every symbol transition of anything: one for each symbol of the alphabet with a rank above 0.
use Prim.Native.Nat.{ℕ, zero, suc, ◌+◌, ◌<◌}
use mathlib.Core.Path.{◌≡◌, refl, subst}
use mathlib.Core.Bool.{Bool, true, false, cond}
use mathlib.Core.List.{List, [], ◌∷◌}
use native.Mathlib.Omega.{arith}
use lib.ListN.{length, get_or, replicate}
use lib.Dec.{eqb}
use borrow.Author.Tests.{eqb-true, eqb-false}
use Rattle.words.specs.Lists.{All}
use Rattle.words.specs.Alphabet.{entry_rank, rank_of}
use Rattle.automaton.specs.Transition.{Transition, on_symbol}
use Rattle.automaton.specs.Numbering.{every_symbol}

module _ (C : Transition → Type 0) (x : ℕ) where
  -- of the transition on symbol f with rank r
  abbrev OnSymbol : ℕ → ℕ → Type 0
  OnSymbol f r = C (on_symbol f (replicate r x) x)

  -- of those on the entries from number s on
  abbrev OnEach : List ℕ → ℕ → Type 0
  OnEach ws s = (i : ℕ) → i < length ws → (entry_rank (get_or ws i 0) ≡ 0 → ⊥) → OnSymbol (s + i) (entry_rank (get_or ws i 0))

  to-from : (ws : List ℕ) (s : ℕ) → OnEach ws s → All C (every_symbol x s ws)
  unfolding every_symbol
  to-from [] s h = tt
  to-from (w ∷ ws) s h =
      go (eqb (entry_rank w) 0) refl
      (to-from ws (suc s) (λ i l z. subst (λ f. OnSymbol f (entry_rank (get_or ws i 0))) (shift i) (h (suc i) (omega arith) z)))
    where
      shift : (i : ℕ) → s + suc i ≡ suc s + i
      shift i = omega arith

      here : s + 0 ≡ s
      here = omega arith

      rest : List Transition
      rest = every_symbol x (suc s) ws

      go : (b : Bool) → eqb (entry_rank w) 0 ≡ b → All C rest → All C (cond b rest (on_symbol s (replicate (entry_rank w) x) x ∷ rest))
      go true e r = r
      go false e r = (subst (λ f. OnSymbol f (entry_rank w)) here (h 0 (omega arith) (eqb-false (entry_rank w) 0 e)), r)

  of-from : (ws : List ℕ) (s : ℕ) → All C (every_symbol x s ws) → OnEach ws s
  unfolding every_symbol
  of-from [] s h i l z = absurd (omega arith)
  of-from (w ∷ ws) s h zero l z = subst (λ f. OnSymbol f (entry_rank w)) here (go (eqb (entry_rank w) 0) refl h)
    where
      here : s ≡ s + 0
      here = omega arith

      rest : List Transition
      rest = every_symbol x (suc s) ws

      go : (b : Bool) → eqb (entry_rank w) 0 ≡ b → All C (cond b rest (on_symbol s (replicate (entry_rank w) x) x ∷ rest))
          → OnSymbol s (entry_rank w)
      go true e r = absurd (z (eqb-true (entry_rank w) 0 e))
      go false e r = r.0
  of-from (w ∷ ws) s h (suc i) l z =
      subst (λ f. OnSymbol f (entry_rank (get_or ws i 0))) shift (of-from ws (suc s) (go (eqb (entry_rank w) 0) h) i (omega arith) z)
    where
      shift : suc s + i ≡ s + suc i
      shift = omega arith

      rest : List Transition
      rest = every_symbol x (suc s) ws

      go : (b : Bool) → All C (cond b rest (on_symbol s (replicate (entry_rank w) x) x ∷ rest)) → All C rest
      go true r = r
      go false r = r.1

  -- of each symbol of an alphabet with a rank above 0
  abbrev pub OfSymbols : List ℕ → Type 0
  OfSymbols a = (f : ℕ) → f < length a → (rank_of a f ≡ 0 → ⊥) → OnSymbol f (rank_of a f)

  pub to-every_symbol : (a : List ℕ) → OfSymbols a → All C (every_symbol x 0 a)
  unfolding rank_of
  to-every_symbol a h = to-from a 0 (λ i l z. subst (λ f. OnSymbol f (entry_rank (get_or a i 0))) (first i) (h i l z))
    where
      first : (i : ℕ) → i ≡ 0 + i
      first i = omega arith

  pub of-every_symbol : (a : List ℕ) → All C (every_symbol x 0 a) → OfSymbols a
  unfolding rank_of
  of-every_symbol a h f l z = subst (λ g. OnSymbol g (entry_rank (get_or a f 0))) first (of-from a 0 h f l z)
    where
      first : 0 + f ≡ f
      first = omega arith
