-- Ascending lists of numbers: each number is greater than the one before it, and all lie in a range.
use Prim.Native.Nat.{ℕ, zero, suc, ◌+◌, ◌<◌, ◌≤◌}
use mathlib.Core.Path.{◌≡◌, refl}
use mathlib.Core.Bool.{Bool, true, false, cond}
use mathlib.Core.List.{List, [], ◌∷◌, ◌++◌}
use native.Mathlib.Omega.{arith}
use native.Mathlib.Nat.{le_trans}
use lib.ListN.{length, get_or}
use Rattle.words.specs.Lists.{count}

-- from lo on and below hi
pub data Ascending : ℕ → ℕ → List ℕ → Type 0 where
  end : {lo hi : ℕ} → lo ≤ hi → Ascending lo hi []
  next : {lo hi x : ℕ} {xs : List ℕ} → lo ≤ x → Ascending (suc x) hi xs → Ascending lo hi (x ∷ xs)

pub ascending-le : {lo hi : ℕ} {xs : List ℕ} → Ascending lo hi xs → lo ≤ hi
ascending-le (end h) = h
ascending-le (next h a) = omega (arith, ascending-le a)

-- each member lies between the bounds
pub ascending-at : {lo hi : ℕ} {cs : List ℕ} (k : ℕ) → k < length cs → Ascending lo hi cs → (lo ≤ get_or cs k 0) × (get_or cs k 0 < hi)
ascending-at k h (end l) = absurd (omega arith)
ascending-at zero h (next {x = x} {xs = xs} l s) = (l, ascending-le s)
ascending-at (suc k) h (next {x = x} {xs = xs} l s) = let p = ascending-at k (omega arith) s in (omega (arith, p.0), p.1)

pub ascending-from : {lo lo' hi : ℕ} {xs : List ℕ} → lo' ≤ lo → Ascending lo hi xs → Ascending lo' hi xs
ascending-from l (end h) = end (le_trans l h)
ascending-from l (next h a) = next (le_trans l h) a

pub ascending-append : {lo m hi : ℕ} {xs ys : List ℕ} → Ascending lo m xs → Ascending m hi ys → Ascending lo hi (xs ++ ys)
ascending-append (end h) b = ascending-from h b
ascending-append (next h a) b = next h (ascending-append a b)

pub ascending-one : {lo hi x : ℕ} → lo ≤ x → x < hi → Ascending lo hi (x ∷ [])
ascending-one l h = next l (end h)

-- ---- a test that only x passes counts at most one number

module _ (f : ℕ → Bool) (x : ℕ) (only : (y : ℕ) → f y ≡ true → y ≡ x) where
  count-behind : {lo hi : ℕ} {xs : List ℕ} → x < lo → Ascending lo hi xs → count f xs ≡ 0
  count-behind l (end h) = refl
  count-behind l (next {x = y} {xs} h a) = go (f y) refl (count-behind (omega arith) a)
    where
      go : (b : Bool) → f y ≡ b → count f xs ≡ 0 → cond b 1 0 + count f xs ≡ 0
      go true e c = let q = only y e in absurd (omega arith)
      go false e c = omega arith

  pub count-once : {lo hi : ℕ} {xs : List ℕ} → Ascending lo hi xs → count f xs ≤ 1
  count-once (end h) = omega arith
  count-once (next {x = y} {xs} h a) = go (f y) refl (count-once a)
    where
      go : (b : Bool) → f y ≡ b → count f xs ≤ 1 → cond b 1 0 + count f xs ≤ 1
      go true e c =
          let q = only y e in
          let z : count f xs ≡ 0 = count-behind (omega arith) a in
          omega arith
      go false e c = omega arith
