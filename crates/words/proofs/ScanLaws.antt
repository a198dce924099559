-- One step of a scan over a slice: what is left of a list from an index on, tests of every word of it, and the trees that it makes.
use mathlib.Core.Path.{◌≡◌, refl, ap, ◌∙◌}
use mathlib.Core.Bool.{Bool, true, false}
use mathlib.Core.List.{List, [], ◌∷◌}
use Prim.Native.Nat.{ℕ, zero, suc, ◌+◌, ◌-◌, ◌<◌, ◌≤◌}
use native.Mathlib.Numerals.{add-one}
use native.Mathlib.Omega.{arith}
use lib.ListN.{length, get_or, take, drop, length-drop, drop_of_length-le}
use lib.Seq.{slice, drop-cons, take_all}
use lib.Dec.{eqb}
use borrow.Author.Tests.{le-leb, lt-leb}
use Rattle.words.specs.Lists.{all}
use Rattle.words.specs.Shape.{trees_by}

pub drop-step : (l : List ℕ) (i : ℕ) → i < length l → drop i l ≡ get_or l i 0 ∷ drop (i + 1) l
drop-step l i h = rw (add-one, drop-cons l i 0)

pub drop-end : (l : List ℕ) (i : ℕ) → length l ≤ i → drop i l ≡ []
drop-end l i h = drop_of_length-le l h

-- the part `&l[i..]` of a slice
pub drop-part : (l : List ℕ) (i : ℕ) → take (length l - i) (drop i l) ≡ drop i l
drop-part l i = take_all (length l - i) (drop i l) (rw (length-drop i l) (omega arith))

-- the part `&l[t..n]`
pub take-drop : (t n : ℕ) (l : List ℕ) → t ≤ n → take (n - t) (drop t l) ≡ slice t n l
take-drop zero n l h = ap (λ (i : ℕ). take i l) (let e : n - 0 ≡ n = omega arith in e)
take-drop (suc t) zero l h = absurd (omega arith)
take-drop (suc t) (suc n) [] h = go (suc n - suc t)
  where
    go : (m : ℕ) → ◌≡◌ {A = List ℕ} (take m []) []
    go zero = refl
    go (suc m) = refl
take-drop (suc t) (suc n) (x ∷ l) h =
    ap (λ (i : ℕ). take i (drop t l)) (let e : suc n - suc t ≡ n - t = omega arith in e) ∙ take-drop t n l (omega arith)

-- the test of every word from index i on
module _ (f : ℕ → Bool) (l : List ℕ) (i : ℕ) where
  pub all-fails : i < length l → f (get_or l i 0) ≡ false → all f (drop i l) ≡ false
  all-fails h e = ap (all f) (drop-step l i h) ∙ rw e

  pub all-continues : i < length l → f (get_or l i 0) ≡ true → all f (drop i l) ≡ all f (drop (i + 1) l)
  all-continues h e = ap (all f) (drop-step l i h) ∙ rw e

  pub all_end : length l ≤ i → all f (drop i l) ≡ true
  all_end h = ap (all f) (drop-end l i h)

-- the trees that the words from index i on make, after d trees; r is the arity of word i
module _ (arity : ℕ → ℕ) (l : List ℕ) (d i t : ℕ) where
  pub trees-lacks : (r : ℕ) → i < length l → r ≡ arity (get_or l i 0) → d < r → trees_by arity d (drop i l) t ≡ false
  unfolding trees_by
  trees-lacks r h er e = ap (λ (x : List ℕ). trees_by arity d x t) (drop-step l i h) ∙ rw (← er, lt-leb r d e)

  pub trees-continues : (r : ℕ) → i < length l → r ≡ arity (get_or l i 0) → r ≤ d
      → trees_by arity d (drop i l) t ≡ trees_by arity (d - r + 1) (drop (i + 1) l) t
  unfolding trees_by
  trees-continues r h er e = ap (λ (x : List ℕ). trees_by arity d x t) (drop-step l i h) ∙ rw (← er, le-leb r d e)

  pub trees-end : length l ≤ i → trees_by arity d (drop i l) t ≡ eqb d t
  unfolding trees_by
  trees-end h = ap (λ (x : List ℕ). trees_by arity d x t) (drop-end l i h)
