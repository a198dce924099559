-- Refusals (document 01, "Refused calls"): a refusal is a number, and the order is as written.
use Rattle.std.specs.Prelude.{ℕ, ◌≡◌, List, [], ◌∷◌, Bool, true, false, cond, ◌||◌, eqb}

-- a call's refusals in the documents' order: each number with its condition
abbrev pub Refusals : Type 0
Refusals = List (ℕ × Bool)

-- the first number whose condition holds, or 0 where none does
abbrev pub refusal : Refusals → ℕ
refusal [] = 0
refusal (r ∷ rs) = cond r.1 r.0 (refusal rs)

-- the refusals without those of the number n
abbrev pub without : ℕ → Refusals → Refusals
without n [] = []
without n (r ∷ rs) = let rest = without n rs in cond (eqb r.0 n) rest (r ∷ rest)

-- "the first applicable number": n's condition holds, and no condition before it
pub data First (n : ℕ) : Refusals → Type 0 where
  here : {b : Bool} {rs : Refusals} → b ≡ true → First n ((n, b) ∷ rs)
  later : {m : ℕ} {b : Bool} {rs : Refusals} → b ≡ false → First n rs → First n ((m, b) ∷ rs)

-- some condition of the list holds; none does
abbrev pub some_holds : Refusals → Bool
some_holds [] = false
some_holds (r ∷ rs) = r.1 || some_holds rs

abbrev pub NoneHolds : Refusals → Type 0
NoneHolds rs = some_holds rs ≡ false
