-- Laws of a slice whose used words change: the words behind a place move, the gap is filled, and the words that fall out of
-- use become zero. The slice is then `refit`.
use mathlib.Core.Path.{◌≡◌, refl, ap, ap₂, ◌∙◌, sym}
use mathlib.Core.List.{List, ◌++◌, append_assoc}
use Prim.Native.Nat.{ℕ, ◌+◌, ◌-◌, ◌≤◌, max}
use native.Mathlib.Omega.{arith}
use lib.ListN.{length, take, drop, replicate, length-append, length-replicate}
use lib.Seq.{paste, slice, length-slice, length-take-le, take_all, take_at, drop-drop, drop-append-add}
use Rattle.words.specs.Lists.{written_over}
use Rattle.words.proofs.ScanLaws.{take-drop}
use Rattle.operations.specs.Marks.{refit}

-- the words from index t up to n move to index `at`; `words` are they and those before that index
module _ (l : List ℕ) (at t n : ℕ) (h : t ≤ n) (inside : n ≤ length l) (fits : at + (n - t) ≤ length l) where
  abbrev words : List ℕ
  words = take at l ++ slice t n l

  pub length_moved : length (take at l ++ slice t n l) ≡ at + (n - t)
  length_moved =
      length-append (take at l) (slice t n l) ∙ ap₂ (λ (i j : ℕ). i + j) (length-take-le at l (omega arith)) (length-slice t n l inside)

  pub moved-tail : paste l at (drop t l) (n - t) ≡ written_over words l
  moved-tail =
      ap₂ (λ (u : List ℕ) (i : ℕ). (take at l ++ u) ++ drop i l) (take-drop t n l h) (sym length_moved)

-- words behind the used ones become zero
module _ (l ws : List ℕ) (n : ℕ) where
  pub cleared : paste (written_over ws l) (length ws) (replicate (n - length ws) 0) (n - length ws) ≡ refit n ws l
  unfolding refit
  cleared =
      let k = length ws in
      let zeros = replicate {A = ℕ} (n - k) 0 in
      let e : k + (n - k) ≡ max n k = omega arith in
      ap₂ (λ (u v : List ℕ). (u ++ v) ++ drop (k + (n - k)) (ws ++ drop k l))
      (take_at ws (drop k l) k refl) (take_all (n - k) zeros (rw (length-replicate {A = ℕ} (n - k) 0) (omega arith)))
      ∙ append_assoc ws zeros (drop (k + (n - k)) (ws ++ drop k l))
      ∙ ap (λ (u : List ℕ). ws ++ (zeros ++ u))
      (drop-append-add ws (drop k l) (n - k) ∙ drop-drop (n - k) k l ∙ ap (λ (i : ℕ). drop i l) e)
