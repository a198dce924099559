-- Laws of tests: a test with its outcome, two tests that hold together, both and either of two tests, and a test of every word
-- of a list, or of some.
use mathlib.Core.Path.{◌≡◌, refl, sym, ap, ◌∙◌}
use mathlib.Core.Logic.{◌⊎◌, inl, inr}
use mathlib.Core.Bool.{Bool, true, false, cond, ◌&&◌, ◌||◌, true≢false, false≢true}
use mathlib.Core.List.{List, [], ◌∷◌, ◌++◌}
use Prim.Native.Nat.{ℕ}
use Rattle.words.specs.Lists.{all, some}

-- a test with its outcome, to branch on
pub data Tested (b : Bool) : Type 0 where
  holds : b ≡ true → Tested b
  fails : b ≡ false → Tested b

pub tested : (b : Bool) → Tested b
tested true = holds refl
tested false = fails refl

-- each holds where the other does
pub same_truth : (b c : Bool) → (b ≡ true → c ≡ true) → (c ≡ true → b ≡ true) → b ≡ c
same_truth true c f g = sym (f refl)
same_truth false true f g = g refl
same_truth false false f g = refl

-- ---- both and either of two tests

pub and-true : (b c : Bool) → b && c ≡ true → (b ≡ true) × (c ≡ true)
and-true true c e = (refl, e)
and-true false c e = absurd (false≢true e)

pub true-and : (b c : Bool) → b ≡ true → c ≡ true → b && c ≡ true
true-and b c e f = rw (e, f)

pub and_none : (b : Bool) → b && false ≡ false
and_none true = refl
and_none false = refl

pub and_same : (b : Bool) → b && true ≡ b
and_same true = refl
and_same false = refl

pub and_assoc : (b c d : Bool) → b && (c && d) ≡ b && c && d
and_assoc true c d = refl
and_assoc false c d = refl

-- what a branch on the first leaves to say
pub and_both : (b c r : Bool) → b ≡ true → r ≡ c → r ≡ b && c
and_both b c r e h = h ∙ sym (rw e)

pub and_first : (b c r : Bool) → b ≡ false → r ≡ b → r ≡ b && c
and_first b c r e h = h ∙ e ∙ sym (rw e)

pub or-false : (b c : Bool) → b || c ≡ false → (b ≡ false) × (c ≡ false)
or-false true c e = absurd (true≢false e)
or-false false c e = (refl, e)

pub false-or : (b c : Bool) → b ≡ false → c ≡ false → b || c ≡ false
false-or b c e f = rw (e, f)

pub or_left : (b c : Bool) → b ≡ true → b || c ≡ true
or_left b c e = rw e

pub or_right : (b c : Bool) → b ≡ false → b || c ≡ c
or_right b c e = rw e

pub or-none : (b : Bool) → b || false ≡ b
or-none true = refl
or-none false = refl

pub or_assoc : (b c d : Bool) → b || (c || d) ≡ b || c || d
or_assoc true c d = refl
or_assoc false c d = refl

pub or-true : (b c : Bool) → b || c ≡ true → (b ≡ true) ⊎ (c ≡ true)
or-true true c e = inl refl
or-true false c e = inr e

-- both, as a choice whose other side is false
pub picked : (b c : Bool) → cond b c false ≡ true → (b ≡ true) × (c ≡ true)
picked true c e = (refl, e)
picked false c e = absurd (false≢true e)

pub picks : (b c : Bool) → b ≡ true → c ≡ true → cond b c false ≡ true
picks b c e f = rw (e, f)

-- ---- every word of a list

module _ (f : ℕ → Bool) where
  pub all_left : (l k : List ℕ) → all f (l ++ k) ≡ true → all f l ≡ true
  all_left [] k h = refl
  all_left (x ∷ l) k h = let p = and-true (f x) (all f (l ++ k)) h in true-and (f x) (all f l) p.0 (all_left l k p.1)

  pub all_right : (l k : List ℕ) → all f (l ++ k) ≡ true → all f k ≡ true
  all_right [] k h = h
  all_right (x ∷ l) k h = all_right l k (and-true (f x) (all f (l ++ k)) h).1

  pub all_append : (l k : List ℕ) → all f l ≡ true → all f k ≡ true → all f (l ++ k) ≡ true
  all_append [] k h g = g
  all_append (x ∷ l) k h g = let p = and-true (f x) (all f l) h in true-and (f x) (all f (l ++ k)) p.0 (all_append l k p.1 g)

  -- ---- some word of a list

  pub some-append : (l k : List ℕ) → some f (l ++ k) ≡ some f l || some f k
  some-append [] k = refl
  some-append (x ∷ l) k = ap (λ (b : Bool). f x || b) (some-append l k) ∙ or_assoc (f x) (some f l) (some f k)
