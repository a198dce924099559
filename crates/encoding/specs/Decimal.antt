-- Numbers in decimal, without leading zeros, as bytes.
use Rattle.std.specs.Prelude.{ℕ, zero, suc, ◌+◌, ◌/◌, ◌%◌, List, [], ◌∷◌, ◌++◌, cond, ltb}

-- the byte of a digit: `0` is 48
abbrev pub digit : ℕ → ℕ
digit d = 48 + d

-- the digits of n, as far as there are at most k: those of n / 10, where n has several, and then the last one
unfoldable pub digits_within : ℕ → ℕ → List ℕ
digits_within zero n = []
digits_within (suc k) n = let front = digits_within k (n / 10) in cond (ltb n 10) [] front ++ (digit (n % 10) ∷ [])

-- n in decimal: it never has more than n + 1 digits
unfoldable pub decimal : ℕ → List ℕ
decimal n = digits_within (suc n) n

-- a number, and the byte behind it
abbrev pub field : ℕ → ℕ → List ℕ
field n end = decimal n ++ end ∷ []
