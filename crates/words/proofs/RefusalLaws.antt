-- Laws of refusals: the number is that of the first condition that holds, and a call that is not refused has none that does.
-- The evidence is `First` and `NoneHolds`, of which the claims speak; `Found` is one or the other.
use mathlib.Core.Path.{◌≡◌, refl, ap, ◌∙◌, sym, subst}
use mathlib.Core.Bool.{Bool, true, false, not, cond, ◌&&◌}
use mathlib.Core.List.{[], ◌∷◌, ◌++◌}
use Prim.Native.Nat.{ℕ, zero, suc, ◌<◌, ◌≤◌}
use native.Mathlib.Omega.{arith}
use lib.ListN.{length, take}
use lib.Dec.{ltb, leb, eqb}
use borrow.Author.Tests.{ltb-true, leb-true, eqb-false, ne_eqb}
use Rattle.words.specs.Refusal.{Refusals, refusal, without, some_holds, NoneHolds, First, here as first-here, later}
use Rattle.words.proofs.TestLaws.{Tested, holds, fails, tested, and-true, or-false, false-or}

-- ---- parts of a list of which no condition holds

first-fails : (r : ℕ × Bool) (rs : Refusals) → NoneHolds (r ∷ rs) → r.1 ≡ false
first-fails r rs h = (or-false r.1 (some_holds rs) h).0

rest-fails : (r : ℕ × Bool) (rs : Refusals) → NoneHolds (r ∷ rs) → NoneHolds rs
rest-fails r rs h = (or-false r.1 (some_holds rs) h).1

-- ---- a number and how it is found

-- it is the first that applies; or no condition holds, and it is 0
pub data Found (rs : Refusals) : ℕ → Type 0 where
  applies : {n : ℕ} → First n rs → Found rs n
  nothing_applies : NoneHolds rs → Found rs 0

-- the evidence: the conditions before that of a number fail, and that one holds; or all fail
pub none : Found [] 0
none = nothing_applies refl

pub here : {n : ℕ} {b : Bool} {rs : Refusals} → b ≡ true → Found ((n, b) ∷ rs) n
here e = applies (first-here e)

pub next : {n : ℕ} {b : Bool} {rs : Refusals} {f : ℕ} → b ≡ false → Found rs f → Found ((n, b) ∷ rs) f
next e (applies x) = applies (later e x)
next {b = b} {rs = rs} e (nothing_applies h) = nothing_applies (false-or b (some_holds rs) e h)

-- the law, and back
pub first-is-refusal : {n : ℕ} {rs : Refusals} → First n rs → refusal rs ≡ n
first-is-refusal (first-here e) = rw e
first-is-refusal (later e x) = rw e (first-is-refusal x)

pub none-refusal : (rs : Refusals) → NoneHolds rs → refusal rs ≡ 0
none-refusal [] h = refl
none-refusal (r ∷ rs) h = rw (first-fails r rs h) (none-refusal rs (rest-fails r rs h))

pub found-refusal : (rs : Refusals) {f : ℕ} → Found rs f → f ≡ refusal rs
found-refusal rs (applies x) = sym (first-is-refusal x)
found-refusal rs (nothing_applies h) = sym (none-refusal rs h)

pub refusal-found : (rs : Refusals) {f : ℕ} → f ≡ refusal rs → Found rs f
refusal-found rs e = rw e (go rs)
  where
    go : (rs : Refusals) → Found rs (refusal rs)
    go [] = none
    go ((n, true) ∷ rs) = here refl
    go ((n, false) ∷ rs) = next refl (go rs)

-- ---- the numbers of a list: where they are written out, `refl` proves that they are so

-- every number is above 0
abbrev pub positive : Refusals → Bool
positive [] = true
positive (r ∷ rs) = ltb 0 r.0 && positive rs

first_above : (n : ℕ) (rs : Refusals) → ltb 0 n && positive rs ≡ true → 0 < n
first_above n rs p = ltb-true 0 n (and-true (ltb 0 n) (positive rs) p).0

rest-above : (n : ℕ) (rs : Refusals) → ltb 0 n && positive rs ≡ true → positive rs ≡ true
rest-above n rs p = (and-true (ltb 0 n) (positive rs) p).1

-- every number is at most m
abbrev pub at_most : ℕ → Refusals → Bool
at_most m [] = true
at_most m (r ∷ rs) = leb r.0 m && at_most m rs

pub refusal-most : (m : ℕ) (rs : Refusals) → at_most m rs ≡ true → refusal rs ≤ m
refusal-most m [] h = omega arith
refusal-most m ((n, true) ∷ rs) h = leb-true n m (and-true (leb n m) (at_most m rs) h).0
refusal-most m ((n, false) ∷ rs) h = refusal-most m rs (and-true (leb n m) (at_most m rs) h).1

-- the number of the first that applies is one of them
pub first-positive : {n : ℕ} {rs : Refusals} → positive rs ≡ true → First n rs → 0 < n
first-positive {rs = []} p m = elim m [ ]
first-positive {n = n} {rs = (m, b) ∷ rs} p (first-here e) = first_above n rs p
first-positive {rs = (m, b) ∷ rs} p (later e x) = first-positive (rest-above m rs p) x

-- ---- a call that is not refused: no condition holds

pub refusal-none : (rs : Refusals) → positive rs ≡ true → refusal rs ≡ 0 → NoneHolds rs
refusal-none rs p h = go (refusal-found rs (sym h))
  where
    go : Found rs 0 → NoneHolds rs
    go (applies x) = absurd (omega (arith, first-positive p x))
    go (nothing_applies h) = h

-- the condition of a number
abbrev pub condition_of : ℕ → Refusals → Bool
condition_of n [] = false
condition_of n (r ∷ rs) = let rest = condition_of n rs in cond (eqb r.0 n) r.1 rest

pub none-applies : (rs : Refusals) → positive rs ≡ true → refusal rs ≡ 0 → (n : ℕ) → condition_of n rs ≡ false
none-applies rs p h = none_of rs (refusal-none rs p h)
  where
    none_of : (rs : Refusals) → NoneHolds rs → (n : ℕ) → condition_of n rs ≡ false
    none_of [] h n = refl
    none_of (r ∷ rs) h n = go (eqb r.0 n) (none_of rs (rest-fails r rs h) n)
      where
        go : (b : Bool) → condition_of n rs ≡ false → cond b r.1 (condition_of n rs) ≡ false
        go true i = first-fails r rs h
        go false i = i

-- where some condition holds, the call is refused, and only there
pub refused-some : (rs : Refusals) {f : ℕ} → positive rs ≡ true → f ≡ refusal rs → not (eqb f 0) ≡ some_holds rs
refused-some rs p e = rw e (go rs p)
  where
    go : (rs : Refusals) → positive rs ≡ true → not (eqb (refusal rs) 0) ≡ some_holds rs
    go [] p = refl
    go ((n, true) ∷ rs) p = let q = first_above n rs p in rw (ne_eqb n 0 (λ z. omega arith))
    go ((n, false) ∷ rs) p = go rs (rest-above n rs p)

-- ---- a part of the list that is judged as a whole, with number f

first-append : {n : ℕ} {rs : Refusals} → First n rs → (ks : Refusals) → First n (rs ++ ks)
first-append (first-here e) ks = first-here e
first-append (later e x) ks = later e (first-append x ks)

-- it refuses
pub refuses : (rs ks : Refusals) {f : ℕ} → f ≡ refusal rs → (f ≡ 0 → ⊥) → Found (rs ++ ks) f
refuses rs ks e h = go (refusal-found rs e) h
  where
    go : {f : ℕ} → Found rs f → (f ≡ 0 → ⊥) → Found (rs ++ ks) f
    go (applies x) h = applies (first-append x ks)
    go (nothing_applies n) h = absurd (h refl)

-- it does not, and the rest decides
pub passes : (rs : Refusals) {ks : Refusals} {f g : ℕ} → positive rs ≡ true → f ≡ refusal rs → f ≡ 0 → Found ks g → Found (rs ++ ks) g
passes rs {ks} {g = g} p e h r = go rs (refusal-none rs p (sym e ∙ h))
  where
    go : (rs : Refusals) → NoneHolds rs → Found (rs ++ ks) g
    go [] n = r
    go (q ∷ rs) n = next (first-fails q rs n) (go rs (rest-fails q rs n))

-- a condition that is judged alike may stand in another's place
pub found_alike : {n : ℕ} {b c : Bool} {rs : Refusals} {f : ℕ} → c ≡ b → Found ((n, b) ∷ rs) f → Found ((n, c) ∷ rs) f
found_alike e r = rw e r

-- conditions that fail make no difference behind it
pub none-behind : {rs : Refusals} {f : ℕ} → Found rs f → (ks : Refusals) → NoneHolds ks → Found (rs ++ ks) f
none-behind (applies x) ks h = applies (first-append x ks)
none-behind {rs} (nothing_applies g) ks h = nothing_applies (go rs g)
  where
    go : (rs : Refusals) → NoneHolds rs → NoneHolds (rs ++ ks)
    go [] g = h
    go (r ∷ rs) g = false-or r.1 (some_holds (rs ++ ks)) (first-fails r rs g) (go rs (rest-fails r rs g))

-- ---- parts of a list that does not refuse

-- what stands behind number n
abbrev pub behind_number : ℕ → Refusals → Refusals
behind_number n [] = []
behind_number n (r ∷ rs) = let rest = behind_number n rs in cond (eqb r.0 n) rs rest

none-taken : (k : ℕ) (rs : Refusals) → NoneHolds rs → NoneHolds (take k rs)
none-taken zero rs h = refl
none-taken (suc k) [] h = refl
none-taken (suc k) (r ∷ rs) h =
    false-or r.1 (some_holds (take k rs)) (first-fails r rs h) (none-taken k rs (rest-fails r rs h))

none-behind-number : (n : ℕ) (rs : Refusals) → NoneHolds rs → NoneHolds (behind_number n rs)
none-behind-number n [] h = refl
none-behind-number n (r ∷ rs) h = go (eqb r.0 n) (none-behind-number n rs (rest-fails r rs h))
  where
    go : (b : Bool) → NoneHolds (behind_number n rs) → NoneHolds (cond b rs (behind_number n rs))
    go true i = rest-fails r rs h
    go false i = i

-- the part with which the list begins, and the part that stands behind number n: where they are written out, `refl` proves that they
-- stand there
module _ (whole : Refusals) (p : positive whole ≡ true) (h : refusal whole ≡ 0) where
  pub part-passes : (rs : Refusals) → take (length rs) whole ≡ rs → refusal rs ≡ 0
  part-passes rs e = none-refusal rs (subst NoneHolds e (none-taken (length rs) whole (refusal-none whole p h)))

  pub part-behind : (n : ℕ) (rs : Refusals) → take (length rs) (behind_number n whole) ≡ rs → refusal rs ≡ 0
  part-behind n rs e =
      let rest = none-behind-number n whole (refusal-none whole p h) in
      none-refusal rs (subst NoneHolds e (none-taken (length rs) (behind_number n whole) rest))

-- ---- refusals behind others

-- where one before applies, those behind do not count
pub refusal-before : (rs more : Refusals) → (refusal rs ≡ 0 → ⊥) → refusal (rs ++ more) ≡ refusal rs
refusal-before [] more h = absurd (h refl)
refusal-before (r ∷ rs) more h = go r.1 h (λ k. refusal-before rs more k)
  where
    go : (b : Bool) → (cond b r.0 (refusal rs) ≡ 0 → ⊥) → ((refusal rs ≡ 0 → ⊥) → refusal (rs ++ more) ≡ refusal rs)
        → cond b r.0 (refusal (rs ++ more)) ≡ cond b r.0 (refusal rs)
    go true k ih = refl
    go false k ih = ih k

-- where none before applies, they do
pub refusal-behind : (rs more : Refusals) → NoneHolds rs → refusal (rs ++ more) ≡ refusal more
refusal-behind [] more h = refl
refusal-behind (r ∷ rs) more h = rw (first-fails r rs h) (refusal-behind rs more (rest-fails r rs h))

-- a last one whose condition does not hold
pub refusal-last : (rs : Refusals) (n : ℕ) (b : Bool) → b ≡ false → refusal (rs ++ (n, b) ∷ []) ≡ refusal rs
refusal-last [] n b h = rw h
refusal-last (r ∷ rs) n b h = ap (cond r.1 r.0) (refusal-last rs n b h)

-- a list without the number n does not refuse by it
pub without-never : (n : ℕ) (rs : Refusals) → 0 < n → refusal (without n rs) ≡ n → ⊥
without-never n [] h e = omega arith
without-never n ((m, c) ∷ rs) h e = go (tested (eqb m n)) c (λ x. without-never n rs h x) e
  where
    go : Tested (eqb m n) → (c : Bool) → (refusal (without n rs) ≡ n → ⊥)
        → refusal (cond (eqb m n) (without n rs) ((m, c) ∷ without n rs)) ≡ n → ⊥
    go (holds t) c i e = i (rw t at e)
    go (fails t) true i e = eqb-false m n t (rw t at e)
    go (fails t) false i e = i (rw t at e)

-- the first number of the list that applies, or n
abbrev pub refusal_or : Refusals → ℕ → ℕ
refusal_or rs n = refusal (rs ++ ((n, true) ∷ []))

-- where n's condition holds, those behind it make no difference
pub holds-ends : (rs ks : Refusals) (n : ℕ) {b : Bool} → b ≡ true → Found (rs ++ ((n, b) ∷ ks)) (refusal_or rs n)
holds-ends [] ks n h = here h
holds-ends ((m, true) ∷ rs) ks n h = here refl
holds-ends ((m, false) ∷ rs) ks n h = next refl (holds-ends rs ks n h)

pub refusal_or-some : (rs : Refusals) (n : ℕ) → 0 < n → positive rs ≡ true → 0 < refusal_or rs n
refusal_or-some [] n h p = h
refusal_or-some ((m, true) ∷ rs) n h p = first_above m rs p
refusal_or-some ((m, false) ∷ rs) n h p = refusal_or-some rs n h (rest-above m rs p)

-- ---- the first that applies, from its number

pub refusal-is-first : (rs : Refusals) (n : ℕ) → 0 < n → refusal rs ≡ n → First n rs
refusal-is-first rs n p h = go p (refusal-found rs (sym h))
  where
    go : {n : ℕ} → 0 < n → Found rs n → First n rs
    go p (applies x) = x
    go p (nothing_applies n) = absurd (omega arith)
