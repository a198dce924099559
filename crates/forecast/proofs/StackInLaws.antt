-- Laws of the stack of state sets in an array: its parts, and one set put on it.
use mathlib.Core.Path.{◌≡◌, refl, ap, ap₂, ◌∙◌, sym}
use mathlib.Core.List.{List, [], ◌∷◌, ◌++◌, reverse, reverse-cons}
use Prim.Native.Nat.{ℕ, zero, suc, ◌+◌, ◌-◌, ◌*◌, ◌≤◌}
use native.Mathlib.Omega.{arith}
use native.Mathlib.Nat.{mul-le-mul_left}
use native.Mathlib.Numerals.{add-one}
use lib.ListN.{length, take, drop}
use lib.Seq.{paste}
use Rattle.words.specs.Lists.{list_from}
use Rattle.words.proofs.ListLaws.{list_from-add}
use Rattle.automaton.specs.StateSet.{StateSet}
use Rattle.operations.specs.Marks.{stored_set}
use Rattle.sets.proofs.StoredLaws.{row_inside, stored-written, stored-before}
use Rattle.forecast.specs.declared.pile.Pile.{Pile}
use Rattle.forecast.specs.Room.{sets_most, pile_length}
use Rattle.forecast.specs.Pile.{stack_in, Puttable}

module _ (size : ℕ) (array : List ℕ) where
  pub length-stack_in : (height : ℕ) → length (stack_in size array height) ≡ height
  unfolding stack_in
  length-stack_in zero = refl
  length-stack_in (suc height) = ap suc (length-stack_in height)

  pub drop-stack_in : (r height : ℕ) → drop r (stack_in size array height) ≡ stack_in size array (height - r)
  unfolding stack_in
  drop-stack_in zero height = let z : height ≡ height - 0 = omega arith in ap (stack_in size array) z
  drop-stack_in (suc r) zero =
      let z : zero - suc r ≡ zero = omega arith in
      ap (stack_in size array) (sym z)
  drop-stack_in (suc r) (suc height) =
      let z : height - r ≡ suc height - suc r = omega arith in
      drop-stack_in r height ∙ ap (stack_in size array) z

  -- the topmost sets, from the lowest of them on
  pub top-stack_in : (p r : ℕ) → reverse (take r (stack_in size array (p + r))) ≡ list_from (stored_set size array) p r
  unfolding stack_in
  top-stack_in p zero = refl
  top-stack_in p (suc r) =
      let z : suc (p + r) ≡ p + suc r = omega arith in
      let n : r + 1 ≡ suc r = add-one r in
      ap (λ (h : ℕ). reverse (take (suc r) (stack_in size array h))) (sym z)
      ∙ reverse-cons (stored_set size array (p + r)) (take r (stack_in size array (p + r)))
      ∙ ap (λ (l : List StateSet). l ++ stored_set size array (p + r) ∷ []) (top-stack_in p r)
      ∙ sym (ap (list_from (stored_set size array) p) (sym n) ∙ list_from-add (stored_set size array) r 1 p)

  module _ (p : ℕ) (v : StateSet) (e : length v ≡ size) (inside : p * size + size ≤ length array) where
    below-same : (height : ℕ) → height ≤ p → stack_in size (paste array (p * size) v size) height ≡ stack_in size array height
    unfolding stack_in
    below-same zero h = refl
    below-same (suc height) h =
        ap₂ (λ (x : StateSet) (l : List StateSet). x ∷ l) (stored-before size array p v e inside height h)
        (below-same height (omega arith))

    stack-put : stack_in size (paste array (p * size) v size) (p + 1) ≡ v ∷ stack_in size array p
    unfolding stack_in
    stack-put =
        ap (stack_in size (paste array (p * size) v size)) (add-one p)
        ∙ ap₂ (λ (x : StateSet) (l : List StateSet). x ∷ l) (stored-written size array p v e inside) (below-same p (omega arith))

-- ---- a set in the place of others

module _ {pile : Pile} {children size : ℕ} (g : Puttable pile children size) where
  pub put-inside : (pile.height - children) * size + size ≤ length pile.sets
  put-inside =
      rw pile.long (row_inside (pile.height - children) sets_most size pile_length g.low (mul-le-mul_left sets_most g.small))

  pub put_small : (pile.height - children) * size + size ≤ pile_length
  put_small = omega (arith, put-inside, pile.long)

  pub put-stack : (v : StateSet) → length v ≡ size → (array' : List ℕ) → array' ≡ paste pile.sets ((pile.height - children) * size) v size
      → stack_in size array' (pile.height - children + 1) ≡ v ∷ drop children (stack_in size pile.sets pile.height)
  put-stack v e array' q =
      ap (λ (l : List ℕ). stack_in size l (pile.height - children + 1)) q
      ∙ stack-put size pile.sets (pile.height - children) v e put-inside
      ∙ ap (λ (l : List StateSet). v ∷ l) (sym (drop-stack_in size pile.sets children pile.height))
