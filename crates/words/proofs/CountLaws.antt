-- Laws of how many numbers of a list pass a test, and of the numbers below n as a list.
use mathlib.Core.Path.{◌≡◌, refl, ap, ◌∙◌, sym}
use mathlib.Core.Bool.{Bool, true, false, cond, true≢false}
use mathlib.Core.List.{List, [], ◌∷◌, Memᴰ}
use Prim.Native.Nat.{ℕ, zero, suc, ◌+◌, ◌<◌, ◌≤◌}
use native.Mathlib.Omega.{arith}
use native.Mathlib.Decide.{ℕ_discrete}
use lib.ListN.{length}
use Rattle.words.specs.Lists.{count, list_from}

module _ (f : ℕ → Bool) where
  pub count_most : (l : List ℕ) → count f l ≤ length l
  count_most [] = omega arith
  count_most (x ∷ l) = go (f x) (count_most l)
    where
      go : (b : Bool) → count f l ≤ length l → cond b 1 0 + count f l ≤ suc (length l)
      go true h = omega arith
      go false h = omega arith

  -- where every number is counted, each of them passes
  pub count-all : (l : List ℕ) → length l ≤ count f l → {x : ℕ} → Memᴰ x l → f x ≡ true
  count-all [] h m = elim m [ ]
  count-all (y ∷ l) h (Memᴰ.head e) = ap f e ∙ go (f y) h (count_most l)
    where
      go : (b : Bool) → suc (length l) ≤ cond b 1 0 + count f l → count f l ≤ length l → b ≡ true
      go true h k = refl
      go false h k = absurd (omega arith)
  count-all (y ∷ l) h (Memᴰ.tail m) = count-all l (go (f y) h) m
    where
      go : (b : Bool) → suc (length l) ≤ cond b 1 0 + count f l → length l ≤ count f l
      go true h = omega arith
      go false h = omega arith

  -- a test that passes wherever f does counts as many, and more where it passes once more
  module _ (g : ℕ → Bool) (wider : (x : ℕ) → f x ≡ true → g x ≡ true) where
    pub count-wider : (l : List ℕ) → count f l ≤ count g l
    count-wider [] = omega arith
    count-wider (x ∷ l) = go (f x) (g x) (wider x) (count-wider l)
      where
        go : (b c : Bool) → (b ≡ true → c ≡ true) → count f l ≤ count g l → cond b 1 0 + count f l ≤ cond c 1 0 + count g l
        go true true i h = omega arith
        go true false i h = absurd (true≢false (sym (i refl)))
        go false true i h = omega arith
        go false false i h = omega arith

    pub count-more : (l : List ℕ) {x : ℕ} → Memᴰ x l → f x ≡ false → g x ≡ true → count f l < count g l
    count-more [] m n p = elim m [ ]
    count-more (y ∷ l) {x} (Memᴰ.head e) n p = go (f y) (g y) (sym (ap f e) ∙ n) (sym (ap g e) ∙ p) (count-wider l)
      where
        go : (b c : Bool) → b ≡ false → c ≡ true → count f l ≤ count g l → cond b 1 0 + count f l < cond c 1 0 + count g l
        go true c n p h = absurd (true≢false n)
        go false true n p h = omega arith
        go false false n p h = absurd (true≢false (sym p))
    count-more (y ∷ l) (Memᴰ.tail m) n p = go (f y) (g y) (wider y) (count-more l m n p)
      where
        go : (b c : Bool) → (b ≡ true → c ≡ true) → count f l < count g l → cond b 1 0 + count f l < cond c 1 0 + count g l
        go true true i h = omega arith
        go true false i h = absurd (true≢false (sym (i refl)))
        go false true i h = omega arith
        go false false i h = omega arith

-- ---- the n numbers from j on

pub list_from-member : (j n x : ℕ) → j ≤ x → x < j + n → Memᴰ x (list_from (λ i. i) j n)
list_from-member j zero x h l = absurd (omega arith)
list_from-member j (suc n) x h l = go (ℕ_discrete x j) (list_from-member (suc j) n x)
  where
    go : Dec (x ≡ j) → (suc j ≤ x → x < suc j + n → Memᴰ x (list_from (λ i. i) (suc j) n)) → Memᴰ x (list_from (λ i. i) j (suc n))
    go (yes e) below = Memᴰ.head e
    go (no e) below = Memᴰ.tail (below (omega arith) (omega arith))
