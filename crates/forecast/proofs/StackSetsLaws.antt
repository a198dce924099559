-- The stored sets of the pending roots are put on the array one after the other.
use mathlib.Core.Path.{◌≡◌, ap, ap₂, ◌∙◌, sym}
use mathlib.Core.List.{List, ◌∷◌}
use Prim.Native.Nat.{ℕ, suc, ◌+◌, ◌-◌, ◌<◌, ◌≤◌}
use native.Mathlib.Omega.{arith}
use native.Mathlib.Numerals.{add-one}
use lib.ListN.{length, get_or, take, drop}
use lib.Seq.{drop-cons, drop-length, length-take-le, get_or-take}
use Rattle.words.specs.Shape.{stack_given_by}
use Rattle.words.specs.Postfix.{arity, roots_of, stack_given}
use Rattle.automaton.specs.StateSet.{StateSet}
use Rattle.operations.specs.Marks.{size_of, stored_set}
use Rattle.forecast.specs.declared.behind.Place.{Place}
use Rattle.forecast.specs.declared.pile.Pile.{Pile}
use Rattle.forecast.specs.Pile.{stack_in, stack_of, Puttable}
use Rattle.forecast.specs.Behind.{stored_before, Stackable}
use Rattle.forecast.proofs.RunFacts.{run-tree, run_room, run-size}
use Rattle.forecast.proofs.TreeLaws.{tree-fits, tree-roots}

pub record StackingSets (p : Place) (count : ℕ) (pile : Pile) (i : ℕ) : Type 0 where
  pub high : i ≤ count
  pub height-is : pile.height ≡ length (roots_of p.alphabet.now p.nodes.now i)
  pub stack : stack_given p.alphabet.now (stored_set (size_of p.indexed.table.now) p.marks.now) i (drop i (take count p.nodes.now))
      (stack_of (size_of p.indexed.table.now) pile)
      ≡ stored_before p count

module _ {place : Place} {count : ℕ} (pre : Stackable place count) where
  abbrev a : List ℕ
  a = place.alphabet.now

  abbrev table : List ℕ
  table = place.indexed.table.now

  abbrev ch : List ℕ
  ch = place.nodes.now

  abbrev marks : List ℕ
  marks = place.marks.now

  pub stacking-none : {pile : Pile} → pile.height ≡ 0 → StackingSets place count pile 0
  unfolding stack_in stack_given_by
  stacking-none {pile} e = record {
    high = omega arith;
    height-is = e;
    stack =
        ap (λ (h : ℕ). stack_given a (stored_set (size_of table) marks) 0 (take count ch) (stack_in (size_of table) pile.sets h)) e;
  }

  pub stacking-inside : {i : ℕ} → i < count → i < length ch
  stacking-inside l = omega (arith, pre.within)

  module _ {pile : Pile} {i : ℕ} (g : StackingSets place count pile i) where
    module _ (l : i < count) (children : ℕ) (r : children ≡ arity a (get_or ch i 0)) where
      roots-next : pile.height - children + 1 ≡ length (roots_of a ch (i + 1))
      roots-next =
          ap₂ (λ (h k : ℕ). h - k + 1) g.height-is r
          ∙ sym (tree-roots a ch (run-tree pre.marked) i (stacking-inside l))

      pub stacking-puttable : {size : ℕ} → size ≡ size_of table → Puttable pile children size
      stacking-puttable s = record {
        fits = omega (arith, r, g.height-is, tree-fits a ch (run-tree pre.marked) i (stacking-inside l));
        low = omega (arith, roots-next, run_room pre.marked (i + 1));
        small = omega (arith, s, run-size pre.marked);
      }

      pub stacking-more : (part : StateSet) → part ≡ stored_set (size_of table) marks i → length part ≡ size_of table
          → {pile' : Pile} → pile'.height ≡ pile.height - children + 1
          → stack_of (length part) pile' ≡ part ∷ drop children (stack_of (length part) pile)
          → StackingSets place count pile' (i + 1)
      unfolding stack_given_by
      stacking-more part p s {pile'} q e =
          let stored = stored_set (size_of table) marks in
          let n : i + 1 ≡ suc i = add-one i in
          let w = get_or ch i 0 in
          let old = stack_of (size_of table) pile in
          let new : stack_of (size_of table) pile' ≡ stored i ∷ drop (arity a w) old =
          ap (λ (k : ℕ). stack_of k pile') (sym s) ∙ e
          ∙ ap₂ (λ (x : StateSet) (k : ℕ). x ∷ drop children (stack_of k pile)) p s
          ∙ ap (λ (k : ℕ). stored i ∷ drop k old) r in
          let words : drop i (take count ch) ≡ w ∷ drop (suc i) (take count ch) =
          drop-cons (take count ch) i 0 (rw (length-take-le count ch pre.within) l)
          ∙ ap (λ (x : ℕ). x ∷ drop (suc i) (take count ch)) (get_or-take count ch i 0 l) in
          record {
            high = omega arith;
            height-is = q ∙ roots-next;
            stack =
                ap₂ (λ (j : ℕ) (x : List StateSet). stack_given a stored j (drop j (take count ch)) x) n new
                ∙ sym (ap (λ (ws : List ℕ). stack_given a stored i ws old) words) ∙ g.stack;
          }

    pub stacking-end : count ≤ i
        → stack_of (size_of table) pile ≡ stored_before place count
    unfolding stack_given_by
    stacking-end l =
        let high = g.high in
        let q : i ≡ length (take count ch) = rw (length-take-le count ch pre.within) (omega arith) in
        sym (ap (λ (ws : List ℕ). stack_given a (stored_set (size_of table) marks) i ws (stack_of (size_of table) pile))
        (ap (λ (j : ℕ). drop j (take count ch)) q ∙ drop-length (take count ch)))
        ∙ g.stack
