-- A number that is not outside its limit, and back.
use mathlib.Core.Path.{◌≡◌}
use mathlib.Core.Bool.{true, false}
use Prim.Native.Nat.{ℕ, ◌<◌, ◌≤◌}
use native.Mathlib.Omega.{arith}
use lib.Dec.{ltb, eqb}
use borrow.Author.Tests.{eqb-false, ne_eqb, ltb-false, lt-ltb, le-ltb}
use Rattle.words.specs.Limits.{outside}
use Rattle.words.proofs.TestLaws.{or-false}

pub record Within (most n : ℕ) : Type 0 where
  pub some : 0 < n
  pub few : n ≤ most

module _ (most n : ℕ) where
  pub not-outside : outside most n ≡ false → Within most n
  not-outside h =
      let p = or-false (eqb n 0) (ltb most n) h in
      let z = eqb-false n 0 p.0 in
      record { some = omega arith; few = ltb-false most n p.1 }

  pub is_within : Within most n → outside most n ≡ false
  is_within g = let s = g.some in rw (ne_eqb n 0 (λ z. omega arith), le-ltb most n g.few)

  -- a number over the most
  pub over-outside : most < n → outside most n ≡ true
  over-outside h = rw (ne_eqb n 0 (λ z. omega arith), lt-ltb most n h)
