-- Laws of numbers in decimal: a number of one digit, one of several, and how many digits there are.
use mathlib.Core.Path.{◌≡◌, refl, ap, ◌∙◌, sym}
use mathlib.Core.Bool.{Bool, true, false, cond}
use mathlib.Core.List.{List, [], ◌∷◌, ◌++◌}
use Prim.Native.Nat.{ℕ, zero, suc, ◌*◌, ◌/◌, ◌%◌, ◌^◌, ◌<◌, ◌≤◌}
use native.Mathlib.Omega.{arith}
use native.Mathlib.Decide.{dec_le}
use native.Mathlib.Nat.{pow-suc}
use lib.ListN.{length, length-append}
use lib.Dec.{ltb}
use borrow.Author.Tests.{lt-ltb, le-ltb, ltb-false}
use Rattle.encoding.specs.ByteWriting.{BytesWritten}
use Rattle.std.specs.Fmt.{decimal as printed}
use Rattle.std.proofs.lemmas.Fmt.{decimal_by_steps}
use Rattle.encoding.specs.Decimal.{digit, digits_within, decimal, field}
use Rattle.encoding.proofs.ByteWritingLaws.{bytes-written-more, bytes-written-same}

-- more room changes nothing where there is enough
enough : (k j n : ℕ) → n < k → n < j → digits_within k n ≡ digits_within j n
unfolding digits_within
enough zero j n h g = absurd (omega arith)
enough (suc k) zero n h g = absurd (omega arith)
enough (suc k) (suc j) n h g = go (ltb n 10) refl (λ l. enough k j (n / 10) (omega arith) (omega arith))
  where
    last : List ℕ
    last = digit (n % 10) ∷ []

    go : (b : Bool) → ltb n 10 ≡ b → (10 ≤ n → digits_within k (n / 10) ≡ digits_within j (n / 10))
        → cond b [] (digits_within k (n / 10)) ++ last ≡ cond b [] (digits_within j (n / 10)) ++ last
    go true e front = refl
    go false e front = ap (λ (ds : List ℕ). ds ++ last) (front (ltb-false n 10 e))

-- a number of one digit
pub decimal-one : (n : ℕ) → n < 10 → decimal n ≡ digit n ∷ []
unfolding decimal digits_within
decimal-one n h = let e : n % 10 ≡ n = omega arith in rw (lt-ltb n 10 h, e)

-- a number of several digits
pub decimal-several : (n : ℕ) → 10 ≤ n → decimal n ≡ decimal (n / 10) ++ (digit (n % 10) ∷ [])
unfolding decimal digits_within
decimal-several n h =
    rw (le-ltb n 10 h) (ap (λ (ds : List ℕ). ds ++ (digit (n % 10) ∷ [])) (enough n (suc (n / 10)) (n / 10) (omega arith) (omega arith)))

-- ---- the writer of a number

-- std's decimal of a number is this one
pub printed-decimal : (n : ℕ) → n < 2 ^ 64 → printed n ≡ decimal n
printed-decimal n h =
    decimal_by_steps (λ m ds. ds ≡ decimal m) (λ m l. sym (decimal-one m l))
    (λ m ds l e. ap (λ (xs : List ℕ). xs ++ (digit (m % 10) ∷ [])) e ∙ sym (decimal-several m l)) n h

pub field-written : {at next r n end : ℕ} {digits out out' out'' : List ℕ} → n < 2 ^ 64 → digits ≡ printed n
    → BytesWritten at digits out out' next → BytesWritten next (end ∷ []) out' out'' r → BytesWritten at (field n end) out out'' r
field-written {n = n} h e w v = bytes-written-more (bytes-written-same w (e ∙ printed-decimal n h)) v

-- ---- how many digits a number has

pub decimal-most : (k n : ℕ) → n < 10 ^ suc k → length (decimal n) ≤ suc k
decimal-most zero n h = rw (decimal-one n h) (omega arith)
decimal-most (suc k) n h = go (dec_le 10 n) (decimal-most k (n / 10))
  where
    go : Dec (10 ≤ n) → (n / 10 < 10 ^ suc k → length (decimal (n / 10)) ≤ suc k) → length (decimal n) ≤ suc (suc k)
    go (yes l) ih =
        let p : 10 ^ suc (suc k) ≡ 10 ^ suc k * 10 = pow-suc 10 (suc k) in
        let i = ih (omega arith) in
        rw (decimal-several n l, length-append) (omega arith)
    go (no l) ih = rw (decimal-one n (omega arith)) (omega arith)
