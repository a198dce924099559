-- Laws of numbers that pass a test: one more, how many, and sets that change at these numbers alone.
use mathlib.Core.Path.{◌≡◌, refl, ap, ◌∙◌, sym}
use mathlib.Core.Bool.{Bool, true, false, cond}
use mathlib.Core.List.{List, [], ◌∷◌, ◌++◌, map}
use Prim.Native.Nat.{ℕ, zero, suc, ◌+◌, ◌<◌, ◌≤◌}
use native.Mathlib.Omega.{arith}
use native.Mathlib.Nat.{add-zero, add-suc, suc-add}
use lib.ListN.{length}
use Rattle.words.specs.Lists.{AllBelow, list_from}
use Rattle.words.proofs.TestLaws.{Tested, holds, fails, tested}
use Rattle.words.proofs.ListLaws.{cond-append}
use Rattle.automaton.specs.StateSet.{StateSet}
use Rattle.totals.specs.Place.{numbers_where}
use Rattle.totals.proofs.TotalLaws.{total}

module _ (f : ℕ → Bool) where
  pub numbers_more : (n j : ℕ) → numbers_where f j (suc n) ≡ numbers_where f j n ++ cond (f (j + n)) ((j + n) ∷ []) []
  numbers_more zero j = ap (λ (k : ℕ). cond (f k) (k ∷ []) []) (sym (add-zero j))
  numbers_more (suc n) j =
      ap (λ (t : List ℕ). cond (f j) (j ∷ t) t)
      (numbers_more n (suc j)
      ∙ ap (λ (k : ℕ). numbers_where f (suc j) n ++ cond (f k) (k ∷ []) []) (suc-add j n ∙ sym (add-suc j n)))
      ∙ cond-append (f j) j (numbers_where f (suc j) n) (cond (f (j + suc n)) ((j + suc n) ∷ []) [])

  pub numbers-few : (n j : ℕ) → length (numbers_where f j n) ≤ n
  numbers-few zero j = omega arith
  numbers-few (suc n) j = go (f j) (numbers-few n (suc j))
    where
      go : (b : Bool) → length (numbers_where f (suc j) n) ≤ n
          → length (cond b (j ∷ numbers_where f (suc j) n) (numbers_where f (suc j) n)) ≤ suc n
      go true h = omega arith
      go false h = omega arith

  -- the further, the more
  pub numbers-grow : (n m j : ℕ) → length (numbers_where f j n) ≤ length (numbers_where f j (n + m))
  numbers-grow zero m j = omega arith
  numbers-grow (suc n) m j = rw (suc-add n m) (go (f j) (numbers-grow n m (suc j)))
    where
      go : (b : Bool) → length (numbers_where f (suc j) n) ≤ length (numbers_where f (suc j) (n + m))
          → length (cond b (j ∷ numbers_where f (suc j) n) (numbers_where f (suc j) n))
          ≤ length (cond b (j ∷ numbers_where f (suc j) (n + m)) (numbers_where f (suc j) (n + m)))
      go true h = omega arith
      go false h = h

module _ (f g : ℕ → Bool) where
  -- as many where the tests agree
  pub same-many : (n i j : ℕ) → ((k : ℕ) → k < n → f (i + k) ≡ g (j + k)) → length (numbers_where f i n) ≡ length (numbers_where g j n)
  same-many zero i j h = refl
  same-many (suc n) i j h =
      let first : f i ≡ g j = rw (add-zero i, add-zero j) at (h 0 (omega arith)) in
      rw first
      (go (g j)
      (same-many n (suc i) (suc j) (λ k l. rw (suc-add i k, suc-add j k, ← add-suc i k, ← add-suc j k) (h (suc k) (omega arith)))))
    where
      go : (b : Bool) → length (numbers_where f (suc i) n) ≡ length (numbers_where g (suc j) n)
          → length (cond b (i ∷ numbers_where f (suc i) n) (numbers_where f (suc i) n))
          ≡ length (cond b (j ∷ numbers_where g (suc j) n) (numbers_where g (suc j) n))
      go true e = ap suc e
      go false e = e

pub numbers-below : (f : ℕ → Bool) (n j : ℕ) → AllBelow (j + n) (numbers_where f j n)
numbers-below f zero j = tt
numbers-below f (suc n) j = go (f j) (rw (suc-add j n, ← add-suc j n) at (numbers-below f n (suc j)))
  where
    go : (b : Bool) → AllBelow (j + suc n) (numbers_where f (suc j) n)
        → AllBelow (j + suc n) (cond b (j ∷ numbers_where f (suc j) n) (numbers_where f (suc j) n))
    go true h = (omega arith, h)
    go false h = h

-- ---- nodes whose numbers pass a test change, all others are the same

module _ (f : StateSet → ℕ) (new old : ℕ → StateSet) (p q : ℕ → Bool) where
  -- n nodes, from i on in one list and from j on in the other
  pub record Changed (n i j : ℕ) : Type 0 where
    pub tests : (k : ℕ) → k < n → p (i + k) ≡ q (j + k)
    pub keeps : (k : ℕ) → k < n → q (j + k) ≡ false → new (i + k) ≡ old (j + k)

  changed-rest : (n i j : ℕ) → Changed (suc n) i j → Changed n (suc i) (suc j)
  changed-rest n i j g = record {
    tests = λ k l. rw (suc-add i k, suc-add j k, ← add-suc i k, ← add-suc j k) (g.tests (suc k) (omega arith));
    keeps = λ k l. rw (suc-add i k, suc-add j k, ← add-suc i k, ← add-suc j k) (g.keeps (suc k) (omega arith));
  }

  pub changed-total : (n i j : ℕ) → Changed n i j
      → total f (list_from new i n) + total f (map old (numbers_where q j n))
      ≡ total f (list_from old j n) + total f (map new (numbers_where p i n))
  unfolding total
  changed-total zero i j g = refl
  changed-total (suc n) i j g = go (tested (q j)) (changed-total n (suc i) (suc j) (changed-rest n i j g))
    where
      test : p i ≡ q j
      test = rw (add-zero i, add-zero j) at (g.tests 0 (omega arith))

      keep : q j ≡ false → new i ≡ old j
      keep = rw (add-zero i, add-zero j) at (g.keeps 0 (omega arith))

      News : ℕ
      News = total f (list_from new (suc i) n)

      Olds : ℕ
      Olds = total f (list_from old (suc j) n)

      olds : List ℕ
      olds = numbers_where q (suc j) n

      news : List ℕ
      news = numbers_where p (suc i) n

      go : Tested (q j) → News + total f (map old olds) ≡ Olds + total f (map new news)
          → f (new i) + News + total f (map old (cond (q j) (j ∷ olds) olds))
          ≡ f (old j) + Olds + total f (map new (cond (p i) (i ∷ news) news))
      go (holds b) ih = rw (test, b) (omega (arith, ih))
      go (fails b) ih = let e : f (new i) ≡ f (old j) = ap f (keep b) in rw (test, b) (omega (arith, ih, e))
