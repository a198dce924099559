-- Laws of answers and of slices at exit: of a call that is refused, and of one that is accepted.
use mathlib.Core.Path.{◌≡◌, refl, sym}
use mathlib.Core.List.{List}
use Prim.Native.Nat.{ℕ, ◌<◌}
use native.Mathlib.Omega.{arith}
use lib.ListN.{length}
use lib.Dec.{eqb}
use borrow.Author.Tests.{eqb-true, eqb-false, ne_eqb}
use Rattle.words.specs.Answer.{refused, accepted, answer_of, exit_of}
use Rattle.words.proofs.TestLaws.{Tested, holds, fails, tested}

-- ---- a call whose refusal g is found to be f

module _ {f g : ℕ} (e : f ≡ g) where
  pub answer-refused : (values : List ℕ) → (f ≡ 0 → ⊥) → refused f ≡ answer_of g values
  answer-refused values h = sym (rw (← e, ne_eqb f 0 h))

  pub answer-accepted : (values : List ℕ) → f ≡ 0 → accepted values ≡ answer_of g values
  answer-accepted values h = sym (rw (← e, h))

  pub exit-refused : (after before : List ℕ) → (f ≡ 0 → ⊥) → before ≡ exit_of g after before
  exit-refused after before h = sym (rw (← e, ne_eqb f 0 h))

  pub exit-accepted : (after before : List ℕ) → f ≡ 0 → after ≡ exit_of g after before
  exit-accepted after before h = sym (rw (← e, h))

-- ---- a call of which the answer is known

module _ (f : ℕ) (values : List ℕ) where
  pub refused-number : (n : ℕ) → answer_of f values ≡ refused n → (0 < n) × (f ≡ n)
  refused-number n h = go (tested (eqb f 0))
    where
      go : Tested (eqb f 0) → (0 < n) × (f ≡ n)
      go (holds b) = absurd (let e : accepted values ≡ refused n = rw b at h in let z : ◌≡◌ {A = ℕ} 0 1 = cc in omega arith)
      go (fails b) =
          let e : refused f ≡ refused n = rw b at h in
          let q : f ≡ n = cc in
          let z = eqb-false f 0 b in
          (omega arith, q)

  pub accepted-values : (vs : List ℕ) → answer_of f values ≡ accepted vs → (f ≡ 0) × (values ≡ vs)
  accepted-values vs h = go (tested (eqb f 0))
    where
      go : Tested (eqb f 0) → (f ≡ 0) × (values ≡ vs)
      go (holds b) = let e : accepted values ≡ accepted vs = rw b at h in (eqb-true f 0 b, cc)
      go (fails b) = absurd (let e : refused f ≡ accepted vs = rw b at h in let z : ◌≡◌ {A = ℕ} 0 1 = cc in omega arith)

  -- a refused call's slice
  pub refused-exit : (n : ℕ) (after before : List ℕ) → answer_of f values ≡ refused n → exit_of f after before ≡ before
  refused-exit n after before h = let q = refused-number n h in sym (exit-refused {f = f} refl after before (λ z. omega arith))

-- ---- the length of a slice at exit

pub length-exit : (f : ℕ) (after before : List ℕ) → (f ≡ 0 → length after ≡ length before) → length (exit_of f after before) ≡ length before
length-exit f after before h = go (tested (eqb f 0))
  where
    go : Tested (eqb f 0) → length (exit_of f after before) ≡ length before
    go (holds b) = rw b (h (eqb-true f 0 b))
    go (fails b) = rw b
