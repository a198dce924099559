-- Laws of state sets in a slice: each has its size, is read back, equal words are told, and what stands behind a change.
use mathlib.Core.Path.{◌≡◌, refl, ap, ap₂, ◌∙◌, sym}
use mathlib.Core.Bool.{true, false≢true}
use mathlib.Core.List.{List, [], ◌∷◌, ◌++◌, flatten, append_assoc}
use Prim.Native.Nat.{ℕ, zero, suc, ◌+◌, ◌*◌, ◌≤◌, ◌<◌}
use native.Mathlib.Omega.{arith}
use native.Mathlib.Nat.{zero-mul, suc-mul, add_comm}
use lib.ListN.{length, get_or, take, drop, length-append, length-drop, length-replicate, take-append-drop}
use lib.Seq.{take_at, drop_at, drop-drop, take-append_seam, length-take-le}
use lib.Dec.{eqb}
use borrow.Author.Tests.{eqb-true, eq-eqb}
use Rattle.words.specs.Lists.{All, list_from}
use Rattle.words.specs.Shape.{value_on_by, values_by}
use Rattle.words.specs.Postfix.{arity, value_on, values}
use Rattle.words.proofs.TestLaws.{and-true, true-and}
use Rattle.words.proofs.ListLaws.{list_from-shift}
use Rattle.words.proofs.StackLaws.{length-values, Right, list_right}
use Rattle.automaton.specs.StateSet.{StateSet}
use Rattle.automaton.proofs.SetLength.{length-state_set}
use Rattle.operations.specs.Marks.{size_of, node_set, node_sets, stored_set, same_words, refit}

-- ---- the length of a state set

pub length-node_set : (table : List ℕ) (w : ℕ) (rs : List StateSet) → length (node_set table w rs) ≡ size_of table
unfolding node_set size_of
length-node_set table w rs = length-state_set _ _ rs

abbrev pub Sized : ℕ → List StateSet → Type 0
Sized size = All (λ r. length r ≡ size)

module _ (a table : List ℕ) where
  -- what holds of every set that is worked out holds of a tree's
  module _ (P : StateSet → Type 0) (rule : (w : ℕ) (rs : List StateSet) → P (node_set table w rs)) where
    each-values : (ws : List ℕ) (s : List StateSet) → All P (values a (node_set table) ws s)
    unfolding values_by value_on_by
    each-values [] s = tt
    each-values (w ∷ ws) s = (rule w _, each-values ws (value_on a (node_set table) w s ∷ drop (arity a w) s))

    pub each-node_sets : (ws : List ℕ) → All P (node_sets a table ws)
    unfolding node_sets
    each-node_sets ws = each-values ws []

  pub sized-node_sets : (ws : List ℕ) → Sized (size_of table) (node_sets a table ws)
  sized-node_sets ws = each-node_sets (λ r. length r ≡ size_of table) (length-node_set table) ws

  pub length-node_sets : (ws : List ℕ) → length (node_sets a table ws) ≡ length ws
  unfolding node_sets
  length-node_sets ws = length-values (arity a) (node_set table) ws []

-- ---- state sets one behind the other

module _ (size : ℕ) where
  pub sized-append : (rs qs : List StateSet) → Sized size rs → Sized size qs → Sized size (rs ++ qs)
  sized-append [] qs h g = g
  sized-append (r ∷ rs) qs h g = (h.0, sized-append rs qs h.1 g)

  pub length-flatten : (rs : List StateSet) → Sized size rs → length (flatten rs) ≡ length rs * size
  unfolding flatten
  length-flatten [] h = sym (zero-mul size)
  length-flatten (r ∷ rs) h =
      length-append r (flatten rs) ∙ ap₂ (λ (x y : ℕ). x + y) h.0 (length-flatten rs h.1)
      ∙ add_comm size (length rs * size) ∙ sym (suc-mul (length rs) size)

  stored-first : (r rest : List ℕ) → length r ≡ size → stored_set size (r ++ rest) 0 ≡ r
  unfolding stored_set
  stored-first r rest h = ap (λ (i : ℕ). take size (drop i (r ++ rest))) (zero-mul size) ∙ take_at r rest size h

  stored_next : (r rest : List ℕ) (i : ℕ) → length r ≡ size → stored_set size (r ++ rest) (suc i) ≡ stored_set size rest i
  unfolding stored_set
  stored_next r rest i h =
      ap (λ (x : ℕ). take size (drop x (r ++ rest))) (suc-mul i size ∙ add_comm (i * size) size)
      ∙ ap (take size) (sym (drop-drop (i * size) size (r ++ rest)))
      ∙ ap (λ (l : List ℕ). take size (drop (i * size) l)) (drop_at r rest size h)

  -- what stands one behind the other is read back, all of it and each
  stored_sets-flatten : (rs : List StateSet) (rest : List ℕ) → Sized size rs
      → list_from (stored_set size (flatten rs ++ rest)) 0 (length rs) ≡ rs
  unfolding flatten
  stored_sets-flatten [] rest h = refl
  stored_sets-flatten (r ∷ rs) rest h =
      let m = flatten rs ++ rest in
      ap (λ (l : List ℕ). list_from (stored_set size l) 0 (suc (length rs))) (append_assoc r (flatten rs) rest)
      ∙ ap₂ (λ (x : StateSet) (y : List StateSet). x ∷ y) (stored-first r m h.0)
      (list_from-shift (stored_set size (r ++ m)) (stored_set size m) (length rs) 0 (λ i. stored_next r m i h.0)
      ∙ stored_sets-flatten rs rest h.1)

  pub stored_set-flatten : (rs : List StateSet) (rest : List ℕ) (i : ℕ) → Sized size rs → i < length rs
      → stored_set size (flatten rs ++ rest) i ≡ get_or rs i []
  unfolding flatten
  stored_set-flatten [] rest i h l = absurd (omega arith)
  stored_set-flatten (r ∷ rs) rest zero h l = rw (append_assoc r (flatten rs) rest) (stored-first r (flatten rs ++ rest) h.0)
  stored_set-flatten (r ∷ rs) rest (suc i) h l =
      rw (append_assoc r (flatten rs) rest)
      (stored_next r (flatten rs ++ rest) i h.0 ∙ stored_set-flatten rs rest i h.1 (omega arith))

  -- a stored set is whole where the slice is long enough
  pub length-stored_set : (marks : List ℕ) (i : ℕ) → suc i * size ≤ length marks → length (stored_set size marks i) ≡ size
  unfolding stored_set
  length-stored_set marks i h =
      let n = suc-mul i size in
      length-take-le size (drop (i * size) marks) (rw (length-drop (i * size) marks) (omega arith))

-- ---- a marks slice that begins with the tree's state sets

module _ (a table p marks : List ℕ) (h : take (length p * size_of table) marks ≡ flatten (node_sets a table p)) where
  pub stored-node_sets : list_from (stored_set (size_of table) marks) 0 (length p) ≡ node_sets a table p
  stored-node_sets =
      let k = length p * size_of table in
      let u : marks ≡ flatten (node_sets a table p) ++ drop k marks =
      sym (take-append-drop k marks) ∙ ap (λ (l : List ℕ). l ++ drop k marks) h in
      ap₂ (λ (l : List ℕ) (i : ℕ). list_from (stored_set (size_of table) l) 0 i) u (sym (length-node_sets a table p))
      ∙ stored_sets-flatten (size_of table) (node_sets a table p) (drop k marks) (sized-node_sets a table p)

  pub stored-right : Right (arity a) (node_set table) (stored_set (size_of table) marks) 0 p []
  unfolding node_sets
  stored-right = list_right (arity a) (node_set table) (stored_set (size_of table) marks) p 0 [] stored-node_sets

-- ---- "compared as whole words"

pub same-words : (r s : StateSet) → same_words r s ≡ true → r ≡ s
unfolding same_words
same-words [] [] h = refl
same-words [] (y ∷ ys) h = absurd (false≢true h)
same-words (x ∷ xs) [] h = absurd (false≢true h)
same-words (x ∷ xs) (y ∷ ys) h =
    let p = and-true (eqb x y) (same_words xs ys) h in
    ap₂ (λ (u : ℕ) (us : List ℕ). u ∷ us) (eqb-true x y p.0) (same-words xs ys p.1)

pub words_same : (r : StateSet) → same_words r r ≡ true
unfolding same_words
words_same [] = refl
words_same (x ∷ xs) = true-and (eqb x x) (same_words xs xs) (eq-eqb x x refl) (words_same xs)

-- ---- a slice with other words in use

module _ (old : ℕ) (ws slice : List ℕ) where
  pub take-refit : take (length ws) (refit old ws slice) ≡ ws
  unfolding refit
  take-refit = take-append_seam ws _

  pub length-refit : old ≤ length slice → length ws ≤ length slice → length (refit old ws slice) ≡ length slice
  unfolding refit
  length-refit h g = simp (length-append, length-replicate, length-drop) (omega arith)
