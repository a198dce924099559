-- Laws of a slice whose tail moves: what the move and the zeros leave, and what stands there once the gap is filled.
use mathlib.Core.Path.{◌≡◌, ap, ap₂, ◌∙◌, sym}
use mathlib.Core.List.{List, ◌++◌, append_assoc}
use Prim.Native.Nat.{ℕ, ◌+◌, ◌-◌, max}
use native.Mathlib.Omega.{arith}
use lib.ListN.{length, take, drop, replicate, length-append}
use lib.Seq.{paste, slice, length-take-le, take_all, take-take, take-append-le, drop_at}
use Rattle.operations.specs.Marks.{refit}
use Rattle.slices.proofs.RefitLaws.{moved-tail, length_moved, cleared}
use Rattle.exchanger.specs.Tail.{TailMovable}

module _ (l : List ℕ) (used end at : ℕ) (g : TailMovable l used end at) where
  abbrev kept : List ℕ
  kept = take at l ++ slice end used l

  pub length-kept : length (take at l ++ slice end used l) ≡ at + (used - end)
  length-kept = length_moved l at end used g.some g.inside g.fits

  -- the words move, and those that fall out of use become zero
  pub tail-moved : (moved zeroed : List ℕ) → moved ≡ paste l at (drop end l) (used - end)
      → zeroed ≡ paste moved (at + (used - end)) (replicate (used - (at + (used - end))) 0) (used - (at + (used - end)))
      → zeroed ≡ refit used (take at l ++ slice end used l) l
  tail-moved moved zeroed p q =
      q
      ∙ ap₂ (λ (m : List ℕ) (i : ℕ). paste m i (replicate (used - i) 0) (used - i))
      (p ∙ moved-tail l at end used g.some g.inside g.fits) (sym length-kept)
      ∙ cleared l kept used

  -- the gap before the moved words is filled
  pub tail-filled : (s : ℕ) (xs : List ℕ) → at ≡ s + length xs
      → paste (refit used (take at l ++ slice end used l) l) s xs (length xs) ≡ refit used (take s l ++ (xs ++ slice end used l)) l
  unfolding refit
  tail-filled s xs e =
      let tail = slice end used l in
      let new = take s l ++ (xs ++ tail) in
      let fits = g.fits in
      let front : length (take at l) ≡ at = length-take-le at l (omega arith) in
      let n : length kept ≡ length new =
      length-append (take at l) tail ∙ ap (λ (i : ℕ). i + length tail) (front ∙ e)
      ∙ sym
      (length-append (take s l) (xs ++ tail)
      ∙ ap₂ (λ (i j : ℕ). i + j) (length-take-le s l (omega arith)) (length-append xs tail) ∙ omega arith) in
      let rest = replicate {A = ℕ} (used - length kept) 0 ++ drop (max used (length kept)) l in
      let whole : kept ++ rest ≡ take at l ++ (tail ++ rest) = append_assoc (take at l) tail rest in
      ap (λ (u : List ℕ). paste u s xs (length xs)) whole
      ∙ ap₂ (λ (u v : List ℕ). (u ++ v) ++ drop (s + length xs) (take at l ++ (tail ++ rest)))
      (take-append-le s (take at l) (tail ++ rest) (rw front (omega arith)) ∙ take-take s at l (omega arith))
      (take_all (length xs) xs (omega arith))
      ∙ ap (λ (u : List ℕ). (take s l ++ xs) ++ u) (drop_at (take at l) (tail ++ rest) (s + length xs) (front ∙ e))
      ∙ regroup (take s l) xs tail rest
      ∙ ap (λ (i : ℕ). new ++ (replicate {A = ℕ} (used - i) 0 ++ drop (max used i) l)) n
    where
      regroup : (u v w z : List ℕ) → (u ++ v) ++ (w ++ z) ≡ (u ++ (v ++ w)) ++ z
      regroup u v w z = simp append_assoc
