-- Stored state sets: where they lie in the marks, and what they are after node i's was written.
use mathlib.Core.Path.{◌≡◌, ap, ◌∙◌, sym}
use mathlib.Core.List.{List, ◌++◌, append_assoc}
use Prim.Native.Nat.{ℕ, ◌+◌, ◌-◌, ◌*◌, ◌<◌, ◌≤◌}
use native.Mathlib.Omega.{arith}
use native.Mathlib.Decide.{dec_lt}
use native.Mathlib.Nat.{suc-mul, le_trans, mul-le-mul_right}
use lib.ListN.{length, take, drop}
use lib.Seq.{paste, length-take-le, take_all, take_at, drop_at, drop-drop, drop-paste, take-take}
use Rattle.words.proofs.ScanLaws.{take-drop}
use Rattle.automaton.specs.StateSet.{StateSet}
use Rattle.operations.specs.Marks.{stored_set}

-- node i's words lie inside the marks of n nodes
pub row_inside : (i n size marks_length : ℕ) → i < n → n * size ≤ marks_length → i * size + size ≤ marks_length
row_inside i n size marks_length h l = le_trans (rw (← suc-mul i size) (mul-le-mul_right size h)) l

-- the part of the marks that begins at node i's first word and has a set's length
pub stored-part : (size n : ℕ) (marks : List ℕ) (i : ℕ) → size ≡ n
    → take (i * size + size - i * size) (drop (i * size) marks) ≡ stored_set n marks i
unfolding stored_set
stored-part size n marks i e =
    let q : i * size + size - i * size ≡ size = omega arith in
    ap (λ (k : ℕ). take k (drop (i * size) marks)) q ∙ ap (λ (k : ℕ). take k (drop (i * k) marks)) e

-- equal words up to a place are equal sets before it
part_same : (size at j : ℕ) (l m : List ℕ) → j * size + size ≤ at → take at l ≡ take at m → stored_set size l j ≡ stored_set size m j
unfolding stored_set
part_same size at j l m h e = cut l ∙ ap (λ (k : List ℕ). drop (j * size) (take (j * size + size) k)) e ∙ sym (cut m)
  where
    cut : (k : List ℕ) → take size (drop (j * size) k) ≡ drop (j * size) (take (j * size + size) (take at k))
    cut k =
        let n : size ≡ j * size + size - j * size = omega arith in
        ap (λ (x : ℕ). take x (drop (j * size) k)) n ∙ take-drop (j * size) (j * size + size) k (omega arith)
        ∙ ap (drop (j * size)) (sym (take-take (j * size + size) at k h))

module _ (size : ℕ) (marks : List ℕ) (i : ℕ) (v : StateSet) (e : length v ≡ size) (inside : i * size + size ≤ length marks) where
  front : length (take (i * size) marks) ≡ i * size
  front = length-take-le (i * size) marks (omega arith)

  whole : take size v ≡ v
  whole = take_all size v (omega arith)

  pub stored-written : stored_set size (paste marks (i * size) v size) i ≡ v
  unfolding stored_set
  stored-written =
      let rest = drop (i * size + size) marks in
      ap (λ (l : List ℕ). take size (drop (i * size) l)) (append_assoc (take (i * size) marks) (take size v) rest)
      ∙ ap (take size) (drop_at (take (i * size) marks) (take size v ++ rest) (i * size) front)
      ∙ take_at (take size v) rest size (ap length whole ∙ e) ∙ whole

  pub stored-before : (j : ℕ) → j < i → stored_set size (paste marks (i * size) v size) j ≡ stored_set size marks j
  stored-before j h =
      let rest = drop (i * size + size) marks in
      part_same size (i * size) j (paste marks (i * size) v size) marks (row_inside j i size (i * size) h (omega arith))
      (ap (take (i * size)) (append_assoc (take (i * size) marks) (take size v) rest)
      ∙ take_at (take (i * size) marks) (take size v ++ rest) (i * size) front)

  stored-after : (j : ℕ) → i < j → stored_set size (paste marks (i * size) v size) j ≡ stored_set size marks j
  unfolding stored_set
  stored-after j h =
      let up = row_inside i j size (j * size) h (omega arith) in
      let past = j * size - (i * size + size) in
      let n : i * size + size + past ≡ j * size = omega arith in
      let back : (l : List ℕ) → drop (j * size) l ≡ drop past (drop (i * size + size) l)
      = λ l. ap (λ (k : ℕ). drop k l) (sym n) ∙ sym (drop-drop past (i * size + size) l) in
      ap (take size)
      (back (paste marks (i * size) v size) ∙ ap (drop past) (drop-paste marks (i * size) v size (omega arith) (omega arith))
      ∙ sym (back marks))

  pub stored_other : (j : ℕ) → (j ≡ i → ⊥) → stored_set size (paste marks (i * size) v size) j ≡ stored_set size marks j
  stored_other j n = go (dec_lt j i)
    where
      go : Dec (j < i) → stored_set size (paste marks (i * size) v size) j ≡ stored_set size marks j
      go (yes h) = stored-before j h
      go (no h) = stored-after j (omega arith)
