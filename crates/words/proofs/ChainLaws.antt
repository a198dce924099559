-- What `all` and `any` of a chain over a slice's words answer, as the test of every word or of some; `search rules` finds the premise.
use Rattle.std.specs.Prelude.{IsTrue, ◌↔◌, EachIndex, SomeIndex, slice_index}
use mathlib.Core.Path.{◌≡◌, refl, sym}
use mathlib.Core.Bool.{Bool, true, false, ◌||◌}
use mathlib.Core.List.{List, [], ◌∷◌}
use Prim.Native.Nat.{ℕ, zero, suc}
use native.Mathlib.Omega.{arith}
use Rattle.words.specs.Lists.{all, some}
use Rattle.words.proofs.TestLaws.{Tested, holds, fails, tested, and-true}

-- two tests that hold together are one
same-test : (a b : Bool) → (a ≡ true → b ≡ true) → (b ≡ true → a ≡ true) → a ≡ b
same-test true b p q = sym (p refl)
same-test false true p q = q refl
same-test false false p q = refl

module _ (f : ℕ → Bool) where
  all-each : (ws : List ℕ) → EachIndex ws (λ k. f (slice_index ws k) ≡ true) → all f ws ≡ true
  all-each [] h = refl
  all-each (w ∷ ws) h =
      let first : f w ≡ true = h 0 (omega arith) in
      let rest : all f ws ≡ true = all-each ws (λ k l. h (suc k) (omega arith)) in
      rw (first, rest)

  each-all : (ws : List ℕ) → all f ws ≡ true → EachIndex ws (λ k. f (slice_index ws k) ≡ true)
  each-all [] e k l = absurd (omega arith)
  each-all (w ∷ ws) e zero l = (and-true (f w) (all f ws) e).0
  each-all (w ∷ ws) e (suc k) l = each-all ws (and-true (f w) (all f ws) e).1 k (omega arith)

  some-one : (ws : List ℕ) → SomeIndex ws (λ k. f (slice_index ws k) ≡ true) → some f ws ≡ true
  some-one [] (k, l, e) = absurd (omega arith)
  some-one (w ∷ ws) (zero, l, e) = rw e
  some-one (w ∷ ws) (suc k, l, e) = go (f w) (some-one ws (k, omega arith, e))
    where
      go : (b : Bool) → some f ws ≡ true → ◌≡◌ {A = Bool} (b || some f ws) true
      go true r = refl
      go false r = r

  one-some : (ws : List ℕ) → some f ws ≡ true → SomeIndex ws (λ k. f (slice_index ws k) ≡ true)
  one-some [] e = absurd (cc)
  one-some (w ∷ ws) e = go (tested (f w)) (λ r. one-some ws r)
    where
      go : Tested (f w) → (some f ws ≡ true → SomeIndex ws (λ k. f (slice_index ws k) ≡ true))
          → SomeIndex (w ∷ ws) (λ k. f (slice_index (w ∷ ws) k) ≡ true)
      go (holds t) rest = (0, omega arith, t)
      go (fails t) rest = let h = rest (rw t at e) in (suc h.0, let l = h.1 in omega arith, h.2)

  pub all-told : (ws : List ℕ) (r : Bool) → IsTrue r ↔ EachIndex ws (λ k. f (slice_index ws k) ≡ true) → r ≡ all f ws
  all-told ws r h = same-test r (all f ws) (λ e. all-each ws (h.0 e)) (λ e. h.1 (each-all ws e))

  pub some-told : (ws : List ℕ) (r : Bool) → IsTrue r ↔ SomeIndex ws (λ k. f (slice_index ws k) ≡ true) → r ≡ some f ws
  some-told ws r h = same-test r (some f ws) (λ e. some-one ws (h.0 e)) (λ e. h.1 (one-some ws e))
