-- Laws of the state sets that stand one behind the other in a slice: they are its words, and one that is written is one of
-- them.
use mathlib.Core.Path.{◌≡◌, ap, ap₂, ◌∙◌, sym}
use mathlib.Core.List.{List, [], ◌∷◌, ◌++◌, flatten, append_assoc}
use Prim.Native.Nat.{ℕ, zero, suc, ◌+◌, ◌*◌, ◌<◌, ◌≤◌}
use native.Mathlib.Omega.{arith}
use native.Mathlib.Nat.{zero-mul, suc-mul, add_comm, add-suc, suc-add, le_trans, mul-le-mul_right}
use lib.ListN.{length, take, drop, set, take-append-drop}
use lib.Seq.{paste, take_all, drop-drop, take-add, drop_at, take-append-add, drop-append-add}
use Rattle.words.specs.Lists.{list_from}
use Rattle.automaton.specs.StateSet.{StateSet}
use Rattle.operations.specs.Marks.{stored_set}
use Rattle.operations.proofs.MarksLaws.{Sized, length-stored_set}

module _ (size : ℕ) where
  -- ---- a state set is written

  pub paste-row : (rows : List StateSet) (rest : List ℕ) (i : ℕ) (v : StateSet) → Sized size rows → length v ≡ size → i < length rows
      → paste (flatten rows ++ rest) (i * size) v (length v) ≡ flatten (set rows i v) ++ rest
  unfolding flatten
  paste-row [] rest i v h e l = absurd (omega arith)
  paste-row (r ∷ rows) rest zero v h e l =
      let m = r ++ flatten rows ++ rest in
      let n : 0 * size + length v ≡ size = ap₂ (λ (x y : ℕ). x + y) (zero-mul size) e ∙ omega arith in
      ap₂ (λ (x y : ℕ). (take x m ++ take (length v) v) ++ drop y m) (zero-mul size) n
      ∙ ap (λ (u : List ℕ). u ++ drop size m) (take_all (length v) v (omega arith))
      ∙ ap (λ (u : List ℕ). v ++ drop size u) (append_assoc r (flatten rows) rest)
      ∙ ap (λ (u : List ℕ). v ++ u) (drop_at r (flatten rows ++ rest) size h.0) ∙ sym (append_assoc v (flatten rows) rest)
  paste-row (r ∷ rows) rest (suc i) v h e l =
      let m = flatten rows ++ rest in
      let p : suc i * size ≡ length r + i * size = suc-mul i size ∙ add_comm (i * size) size ∙ ap (λ (k : ℕ). k + i * size) (sym h.0) in
      let q : suc i * size + length v ≡ length r + (i * size + length v) = ap (λ (k : ℕ). k + length v) p ∙ omega arith in
      ap₂ (λ (x y : ℕ). (take x (r ++ flatten rows ++ rest) ++ take (length v) v) ++ drop y (r ++ flatten rows ++ rest)) p q
      ∙ ap (λ (u : List ℕ). (take (length r + i * size) u ++ take (length v) v) ++ drop (length r + (i * size + length v)) u)
      (append_assoc r (flatten rows) rest)
      ∙ ap₂ (λ (u w : List ℕ). (u ++ take (length v) v) ++ w) (take-append-add r m (i * size)) (drop-append-add r m (i * size + length v))
      ∙ regroup r (take (i * size) m) (take (length v) v) (drop (i * size + length v) m)
      ∙ ap (λ (u : List ℕ). r ++ u) (paste-row rows rest i v h.1 e (omega arith))
      ∙ sym (append_assoc r (flatten (set rows i v)) rest)
    where
      regroup : (u v w z : List ℕ) → ((u ++ v) ++ w) ++ z ≡ u ++ ((v ++ w) ++ z)
      regroup u v w z = simp append_assoc

  pub sized_set : (rows : List StateSet) (i : ℕ) (v : StateSet) → Sized size rows → length v ≡ size → Sized size (set rows i v)
  sized_set [] i v h e = tt
  sized_set (r ∷ rows) zero v h e = (e, h.1)
  sized_set (r ∷ rows) (suc i) v h e = (h.0, sized_set rows i v h.1 e)

  -- ---- the words of a slice as state sets

  module _ (marks : List ℕ) where
    pub sized-stored : (n j : ℕ) → (j + n) * size ≤ length marks → Sized size (list_from (stored_set size marks) j n)
    sized-stored zero j h = tt
    sized-stored (suc n) j h =
        let e : j + suc n ≡ suc j + n = add-suc j n ∙ sym (suc-add j n) in (
          length-stored_set size marks j (le_trans (mul-le-mul_right size (let l : suc j ≤ j + suc n = omega arith in l)) h),
          sized-stored n (suc j) (rw e at h),
        )

    pub flatten-stored : (n j : ℕ) → flatten (list_from (stored_set size marks) j n) ≡ take (n * size) (drop (j * size) marks)
    unfolding flatten stored_set
    flatten-stored zero j = ap (λ (i : ℕ). take i (drop (j * size) marks)) (sym (zero-mul size))
    flatten-stored (suc n) j =
        let m = drop (j * size) marks in
        ap (λ (u : List ℕ). take size m ++ u) (flatten-stored n (suc j))
        ∙ ap (λ (u : List ℕ). take size m ++ take (n * size) u)
        (ap (λ (i : ℕ). drop i marks) (suc-mul j size) ∙ sym (drop-drop size (j * size) marks))
        ∙ sym (take-add size (n * size) m)
        ∙ ap (λ (i : ℕ). take i m) (add_comm size (n * size) ∙ sym (suc-mul n size))

    -- the first n state sets, and what stands behind them
    pub stored-split : (n : ℕ) → marks ≡ flatten (list_from (stored_set size marks) 0 n) ++ drop (n * size) marks
    stored-split n =
        sym (take-append-drop (n * size) marks)
        ∙ ap (λ (u : List ℕ). u ++ drop (n * size) marks)
        (sym (flatten-stored n 0 ∙ ap (λ (i : ℕ). take (n * size) (drop i marks)) (zero-mul size)))
