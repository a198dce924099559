-- Laws of words that are moved up within a slice, the last one first.
use mathlib.Core.Path.{◌≡◌, refl, ap, ◌∙◌, sym}
use mathlib.Core.List.{List, [], ◌∷◌, ◌++◌, append-nil, append_assoc}
use Prim.Native.Nat.{ℕ, suc, ◌+◌, ◌-◌, ◌<◌, ◌≤◌}
use native.Mathlib.Omega.{arith}
use native.Mathlib.Nat.{suc-add, add-suc}
use lib.ListN.{length, get_or, take, drop, set, length-set, get_or-append, take-append-drop}
use lib.Seq.{paste, take-suc, set_at, length-take-le, get_or-take, drop-cons}
use Rattle.slices.specs.Movable.{Movable}

-- the words from index `to + k` on are moved
pub record MovedUp (s₀ : List ℕ) (from to count : ℕ) (s : List ℕ) (k : ℕ) : Type 0 where
  pub few : k ≤ count
  pub long : length s ≡ length s₀
  pub same : s ≡ paste s₀ (to + k) (drop (from + k) s₀) (count - k)

module _ (s₀ : List ℕ) (from to count : ℕ) (inside : Movable s₀ from to count) (h : from ≤ to) where
  pub moved_up-none : MovedUp s₀ from to count s₀ count
  moved_up-none =
      let z : count - count ≡ 0 = omega arith in
      let y : to + count + 0 ≡ to + count = omega arith in
      record {
        few = omega arith;
        long = refl;
        same =
            sym
            (rw (z, y)
            (ap (λ (x : List ℕ). x ++ drop (to + count) s₀) (append-nil (take (to + count) s₀)) ∙ take-append-drop (to + count) s₀));
      }

  -- one word more at the front of what is pasted
  front : (at : ℕ) (ys : List ℕ) (n v : ℕ) → at < length s₀ → set (paste s₀ (suc at) ys n) at v ≡ paste s₀ at (v ∷ ys) (suc n)
  front at ys n v k =
      ap (λ (t : List ℕ). set (t ++ take n ys ++ drop (suc at + n) s₀) at v) (take-suc s₀ at 0 k)
      ∙ ap (λ (t : List ℕ). set t at v) (regroup (take at s₀) (get_or s₀ at 0) (take n ys) (drop (suc at + n) s₀))
      ∙ set_at (take at s₀) (get_or s₀ at 0) (take n ys ++ drop (suc at + n) s₀) v at (length-take-le at s₀ (omega arith))
      ∙ rw (suc-add at n, ← add-suc at n) (sym (append_assoc (take at s₀) (v ∷ take n ys) (drop (at + suc n) s₀)))
    where
      regroup : (p : List ℕ) (x : ℕ) (q r : List ℕ) → p ++ x ∷ [] ++ q ++ r ≡ p ++ (x ∷ (q ++ r))
      regroup p x q r = simp append_assoc

  -- a word below `at` is as it was
  below : (at n i : ℕ) (ys : List ℕ) → i < at → at ≤ length s₀ → get_or (paste s₀ at ys n) i 0 ≡ get_or s₀ i 0
  below at n i ys hi ha =
      ap (λ (t : List ℕ). get_or t i 0) (append_assoc (take at s₀) (take n ys) (drop (at + n) s₀))
      ∙ get_or-append (take at s₀) (take n ys ++ drop (at + n) s₀) 0 i (rw (length-take-le at s₀ ha) hi)
      ∙ get_or-take at s₀ i 0 hi

  pub moved_up-more : (s : List ℕ) (k : ℕ) → MovedUp s₀ from to count s k → 0 < k
      → MovedUp s₀ from to count (set s (to + (k - 1)) (get_or s (from + (k - 1)) 0)) (k - 1)
  moved_up-more s k u z =
      let few = u.few in
      let target = inside.target in
      let source = inside.source in
      let at : to + k ≡ suc (to + (k - 1)) = omega arith in
      let src : from + k ≡ suc (from + (k - 1)) = omega arith in
      let n : suc (count - k) ≡ count - (k - 1) = omega arith in
      let v : get_or s (from + (k - 1)) 0 ≡ get_or s₀ (from + (k - 1)) 0 =
      ap (λ (t : List ℕ). get_or t (from + (k - 1)) 0) u.same
      ∙ below (to + k) (count - k) (from + (k - 1)) (drop (from + k) s₀) (omega arith) (omega arith) in
      let w : s ≡ paste s₀ (suc (to + (k - 1))) (drop (suc (from + (k - 1))) s₀) (count - k) = u.same ∙ rw (at, src) in
      record {
        few = omega arith;
        long = length-set s (to + (k - 1)) _ ∙ u.long;
        same =
            ap (λ (x : ℕ). set s (to + (k - 1)) x) v
            ∙ ap (λ (t : List ℕ). set t (to + (k - 1)) (get_or s₀ (from + (k - 1)) 0)) w
            ∙ front (to + (k - 1)) (drop (suc (from + (k - 1))) s₀) (count - k) (get_or s₀ (from + (k - 1)) 0) (omega arith)
            ∙ ap (λ (t : List ℕ). paste s₀ (to + (k - 1)) t (suc (count - k))) (sym (drop-cons s₀ (from + (k - 1)) 0 (omega arith)))
            ∙ ap (paste s₀ (to + (k - 1)) (drop (from + (k - 1)) s₀)) n;
      }

  pub moved_up-end : (s : List ℕ) (k : ℕ) → MovedUp s₀ from to count s k → k ≤ 0 → s ≡ paste s₀ to (drop from s₀) count
  moved_up-end s k u z =
      let e : k ≡ 0 = omega arith in
      let x : to + 0 ≡ to = omega arith in
      let y : from + 0 ≡ from = omega arith in
      let w : count - 0 ≡ count = omega arith in
      u.same ∙ rw (e, x, y, w)
