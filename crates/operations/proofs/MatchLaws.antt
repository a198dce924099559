-- Which nodes List names: those whose state set holds the final state; and that they are no more than the nodes.
use Prim.Native.Nat.{ℕ, zero, suc, ◌+◌, ◌<◌, ◌≤◌}
use mathlib.Core.Path.{◌≡◌, refl}
use mathlib.Core.Bool.{Bool, true, false, cond}
use mathlib.Core.List.Memᴰ
use mathlib.Core.List.{List, [], ◌∷◌, Memᴰ}
use native.Mathlib.Omega.{arith}
use native.Mathlib.Nat.{add-zero, add-suc, suc-add}
use lib.ListN.{length, get_or}
use Rattle.words.specs.Lists.{AllBelow, list_from}
use Rattle.words.proofs.ListLaws.{length-list_from}
use Rattle.automaton.specs.StateSet.{StateSet, contains}
use Rattle.operations.specs.Marks.{size_of, final_of, stored_set}
use Rattle.operations.specs.Listing.{matches_in, matches_of}

module _ (final : ℕ) where
  -- row k holds the final state
  abbrev pub Holding : List StateSet → ℕ → Type 0
  Holding rs k = (k < length rs) × (contains (get_or rs k []) final ≡ true)

  pub holding-named : (rs : List StateSet) (i k : ℕ) → Holding rs k → Memᴰ (i + k) (matches_in final i rs)
  unfolding matches_in
  holding-named [] i k h = absurd (omega (arith, h.0))
  holding-named (r ∷ rs) i zero h = rw (h.1, add-zero i) (Memᴰ.head refl)
  holding-named (r ∷ rs) i (suc k) h =
      rw (add-suc i k, ← suc-add i k) (go (contains r final) (holding-named rs (suc i) k (omega (arith, h.0), h.1)))
    where
      go : (b : Bool) → Memᴰ (suc i + k) (matches_in final (suc i) rs)
          → Memᴰ (suc i + k) (cond b (i ∷ matches_in final (suc i) rs) (matches_in final (suc i) rs))
      go true m = Memᴰ.tail m
      go false m = m

  pub named-holding : (rs : List StateSet) (i j : ℕ) → Memᴰ j (matches_in final i rs) → (k : ℕ) × (j ≡ i + k) × Holding rs k
  unfolding matches_in
  named-holding [] i j m = absurd (Memᴰ.not-nil m)
  named-holding (r ∷ rs) i j m = go (contains r final) refl m (named-holding rs (suc i) j)
    where
      Later : Type 0
      Later = Memᴰ j (matches_in final (suc i) rs) → (k : ℕ) × (j ≡ suc i + k) × Holding rs k

      step : (k : ℕ) × (j ≡ suc i + k) × Holding rs k → (k : ℕ) × (j ≡ i + k) × Holding (r ∷ rs) k
      step (k, e, h) = (suc k, omega arith, (omega (arith, h.0), h.1))

      go : (b : Bool) → contains r final ≡ b → Memᴰ j (cond b (i ∷ matches_in final (suc i) rs) (matches_in final (suc i) rs)) → Later
          → (k : ℕ) × (j ≡ i + k) × Holding (r ∷ rs) k
      go true e (Memᴰ.head q) later = (0, omega arith, (omega arith, e))
      go true e (Memᴰ.tail q) later = step (later q)
      go false e q later = step (later q)

  -- no more matches than nodes
  pub matches-few : (l : List StateSet) (i : ℕ) → length (matches_in final i l) ≤ length l
  unfolding matches_in
  matches-few [] i = omega arith
  matches-few (r ∷ l) i = go (contains r final) (matches-few l (suc i))
    where
      go : (b : Bool) → length (matches_in final (suc i) l) ≤ length l
          → length (cond b (i ∷ matches_in final (suc i) l) (matches_in final (suc i) l)) ≤ suc (length l)
      go true h = omega arith
      go false h = omega arith

pub matches_of-few : (table marks : List ℕ) (n : ℕ) → length (matches_of table n marks) ≤ n
unfolding matches_of
matches_of-few table marks n =
    let stored = stored_set (size_of table) marks in
    let k = length-list_from stored n 0 in
    omega (arith, matches-few (final_of table) (list_from stored 0 n) 0)

-- each is the number of a state set
pub matches-below : (final : ℕ) (rs : List StateSet) (i n : ℕ) → i + length rs ≤ n → AllBelow n (matches_in final i rs)
unfolding matches_in
matches-below final [] i n h = tt
matches-below final (r ∷ rs) i n h = go (contains r final) (matches-below final rs (suc i) n (omega arith))
  where
    go : (b : Bool) → AllBelow n (matches_in final (suc i) rs)
        → AllBelow n (cond b (i ∷ matches_in final (suc i) rs) (matches_in final (suc i) rs))
    go true k = (omega arith, k)
    go false k = k
