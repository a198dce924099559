-- The marks whose tail has moved hold the state sets that the loops of Exchange begin with: those before the place, whatever
-- stands in the gap, the old element's at its end, and those behind.
use mathlib.Core.Path.{◌≡◌, refl, ap, ap₂, ◌∙◌, sym}
use mathlib.Core.List.{List, [], ◌∷◌, ◌++◌, flatten, append_assoc}
use Prim.Native.Nat.{ℕ, suc, ◌+◌, ◌-◌, ◌*◌, max}
use native.Mathlib.Omega.{arith}
use native.Mathlib.Nat.{zero-add, zero-mul, suc-mul}
use native.Mathlib.Numerals.{add-one}
use lib.ListN.{length, take, drop, replicate, length-drop}
use lib.Seq.{slice}
use Rattle.words.specs.Lists.{list_from}
use Rattle.words.proofs.ListLaws.{list_from-add}
use Rattle.words.proofs.ScanLaws.{take-drop}
use Rattle.automaton.specs.StateSet.{StateSet}
use Rattle.operations.specs.Marks.{size_of, refit}
use Rattle.operations.specs.ExchangeCall.{ExchangeCall}
use Rattle.operations.specs.Exchange.{used, words_fault, stored_in}
use Rattle.operations.specs.Recomputation.{start_in}
use Rattle.operations.proofs.MarksLaws.{Sized, sized-append}
use Rattle.sets.proofs.RowLaws.{sized-stored, flatten-stored}
use Rattle.nodes.proofs.MarkLaws.{MarksHolding}
use Rattle.exchanger.proofs.ExchangeLoops.{moved_sets}
use Rattle.exchanger.proofs.TailLaws.{length-kept}
use Rattle.exchanger.proofs.CallNumberLaws.{rest_count, root_at, total_count, moved_marks, CallNumbers}
use Rattle.exchanger.proofs.CallNumberLaws.{call-numbers, marks-movable, length-used}

flatten-append : (l k : List StateSet) → flatten (l ++ k) ≡ flatten l ++ flatten k
unfolding flatten
flatten-append [] k = refl
flatten-append (r ∷ l) k = ap (λ (t : List ℕ). r ++ t) (flatten-append l k) ∙ sym (append_assoc r (flatten l) (flatten k))

-- what stands behind the words in use
abbrev pub behind_use : ℕ → ℕ → List ℕ → List ℕ
behind_use old new slice = replicate (old - new) 0 ++ drop (max old new) slice

module _ (c : ExchangeCall) (ok : words_fault c ≡ 0) where
  abbrev size : ℕ
  size = size_of c.table

  abbrev stored : ℕ → StateSet
  stored = stored_in c

  abbrev s : ℕ
  s = start_in c

  abbrev k : ℕ
  k = rest_count c

  abbrev root : ℕ
  root = root_at c s

  -- whatever stood where the replacement's sets come, and the old element's set in the place of the root's
  abbrev pub gap_sets : List StateSet
  gap_sets = list_from stored s (length c.replacement - 1) ++ (stored c.element ∷ [])

  abbrev sets : List StateSet
  sets = moved_sets c.alphabet c.table stored (used c) c.element c.replacement gap_sets

  facts : CallNumbers c s size
  facts = call-numbers c ok s refl size refl

  root_is : root ≡ s + (length c.replacement - 1)
  root_is = let some = facts.some in omega arith

  behind-count : length (drop (c.element + 1) (used c)) ≡ k
  behind-count =
      length-drop (c.element + 1) (used c) ∙ ap (λ (i : ℕ). i - (c.element + 1)) (length-used c ok) ∙ omega arith

  front-words : flatten (list_from stored 0 root) ≡ take (root * size) c.marks
  front-words = flatten-stored size c.marks root 0 ∙ ap (λ (i : ℕ). take (root * size) (drop i c.marks)) (zero-mul size)

  tail-words : flatten (list_from stored c.element (suc k)) ≡ slice (c.element * size) (c.count * size) c.marks
  tail-words =
      let old = facts.old-words in
      let many : suc k * size ≡ c.count * size - c.element * size = suc-mul k size ∙ omega arith in
      flatten-stored size c.marks (suc k) c.element
      ∙ ap (λ (i : ℕ). take i (drop (c.element * size) c.marks)) many
      ∙ take-drop (c.element * size) (c.count * size) c.marks (omega arith)

  sets-are : sets ≡ list_from stored 0 root ++ list_from stored c.element (suc k)
  sets-are =
      let tail = list_from stored (c.element + 1) k in
      let front = list_from stored 0 s in
      let gap = list_from stored s (length c.replacement - 1) in
      ap (λ (i : ℕ). front ++ (gap_sets ++ list_from stored (c.element + 1) i)) behind-count
      ∙ regroup front gap (stored c.element ∷ []) tail
      ∙ ap₂ (λ (l : List StateSet) (j : ℕ). l ++ (stored c.element ∷ list_from stored j k))
      (ap (λ (i : ℕ). front ++ list_from stored i (length c.replacement - 1)) (sym (zero-add s))
      ∙ sym (list_from-add stored s (length c.replacement - 1) 0) ∙ ap (list_from stored 0) (sym root_is))
      (add-one c.element)
    where
      regroup : (u v w z : List StateSet) → u ++ ((v ++ w) ++ z) ≡ (u ++ v) ++ (w ++ z)
      regroup u v w z = simp append_assoc

  sets-words : flatten sets
      ≡ take (root * size) c.marks ++ slice (c.element * size) (c.count * size) c.marks
  sets-words =
      ap flatten sets-are ∙ flatten-append (list_from stored 0 root) (list_from stored c.element (suc k))
      ∙ ap₂ (λ (l r : List ℕ). l ++ r) front-words tail-words

  sets-sized : Sized size sets
  sets-sized =
      let old = facts.old-fits in
      let new = facts.new-fits in
      let w = facts.new-words in
      let all : c.element + suc k ≡ c.count = let i = facts.inside in omega arith in
      rw sets-are
      (sized-append size (list_from stored 0 root) (list_from stored c.element (suc k))
      (sized-stored size c.marks root 0 (rw (zero-add root) (omega arith)))
      (sized-stored size c.marks (suc k) c.element (rw all old)))

  -- the marks behind the move
  pub moved_holds : (moved : List ℕ) → moved ≡ moved_marks c (start_in c) (size_of c.table)
      → MarksHolding (size_of c.table) moved sets (behind_use (c.count * size) (total_count c s * size) c.marks)
  unfolding refit
  moved_holds moved q =
      let words = take (root * size) c.marks ++ slice (c.element * size) (c.count * size) c.marks in
      let old = facts.old-words in
      let new = facts.new-words in
      let l : length words ≡ total_count c s * size =
      length-kept c.marks (c.count * size) (c.element * size) (root * size) (marks-movable c ok s refl size refl)
      ∙ omega arith in
      record {
        words = q ∙ ap₂ (λ (t : List ℕ) (i : ℕ). t ++ behind_use (c.count * size) i c.marks) (sym sets-words) l;
        sized = sets-sized;
      }
