-- The steps that add the ancestors' totals: what each asks, shown of what the first one asks, and what they give together.
use mathlib.Core.Path.{◌≡◌, refl, ap, ap₂, ◌∙◌, sym}
use mathlib.Core.Bool.{Bool, not}
use mathlib.Core.List.{List, [], ◌∷◌}
use Prim.Native.Nat.{ℕ, ◌+◌, ◌-◌}
use native.Mathlib.Omega.{arith}
use lib.ListN.{length, take, drop, length-map}
use Rattle.words.specs.Postfix.{arity, roots_of}
use Rattle.words.proofs.AcceptedTree.{tree-accepted}
use Rattle.words.proofs.ChildLaws.{stack-numbers}
use Rattle.words.proofs.PendingRoots.{pending-subtree}
use Rattle.words.proofs.PostfixLaws.{start-le}
use Rattle.automaton.specs.StateSet.{StateSet}
use Rattle.operations.specs.Marks.{size_of, stored_set, same_words}
use Rattle.operations.specs.Totals.{Totals}
use Rattle.totals.specs.declared.Totals.{Totals as Record}
use Rattle.totals.specs.TotalsIn.{totals_in}
use Rattle.forecast.specs.declared.behind.Place.{Place}
use Rattle.forecast.specs.declared.pile.Pile.{Pile}
use Rattle.forecast.specs.declared.pile.Work.{Work}
use Rattle.forecast.specs.Pile.{stack_of, Puttable}
use Rattle.forecast.specs.Behind.{place_totals, stored_before, Stackable, NodesPassable, BehindCountable}
use Rattle.forecast.proofs.StackInLaws.{length-stack_in}
use Rattle.forecast.proofs.RunFacts.{run-tree, run_room, run-size}

module _ {place : Place} {start : ℕ} {root : List ℕ} {t : Record} {pile : Pile} {work : Work}
    (pre : BehindCountable place start root t pile work) where
  abbrev a : List ℕ
  a = place.alphabet.now

  abbrev table : List ℕ
  table = place.indexed.table.now

  abbrev ch : List ℕ
  ch = place.nodes.now

  abbrev i : ℕ
  i = place.element

  abbrev marks : List ℕ
  marks = place.marks.now

  abbrev front : List StateSet
  front = stored_before place start

  pub behind-stackable : Stackable place start
  behind-stackable =
      let inside = pre.inside in
      record { marked = pre.marked; within = omega (arith, pre.begins, start-le (arity a) ch i) }

  module _ (pile₁ : Pile) (e₁ : stack_of (size_of table) pile₁ ≡ front) where
    base-is : pile₁.height ≡ length (roots_of a ch start)
    base-is =
        sym (length-stack_in (size_of table) pile₁.sets pile₁.height) ∙ ap length e₁
        ∙ ap length (stack-numbers (arity a) (stored_set (size_of table) marks) (take start ch) 0 [])
        ∙ length-map (roots_of a ch start) (stored_set (size_of table) marks)

    top-is : pile₁.height + 1 ≡ length (roots_of a ch (i + 1))
    top-is =
        ap (λ (n : ℕ). n + 1) (base-is ∙ ap (λ (j : ℕ). length (roots_of a ch j)) pre.begins)
        ∙ sym (pending-subtree (arity a) ch i (tree-accepted a ch (run-tree pre.marked)).shape pre.inside)

    pub behind-puttable : Puttable pile₁ 0 (length root)
    behind-puttable = record {
      fits = omega arith;
      low = omega (arith, top-is, run_room pre.marked (i + 1));
      small = omega (arith, pre.size, run-size pre.marked);
    }

    module _ (pile₂ : Pile) (q : pile₂.height ≡ pile₁.height - 0 + 1)
        (e₂ : stack_of (length root) pile₂ ≡ root ∷ drop 0 (stack_of (length root) pile₁)) where
      pub behind-passable : (active : Bool)
          → NodesPassable place pile₂ (record { reach = 1; active = active; totals = t }) work
      behind-passable active = record {
        marked = pre.marked;
        kept = pre.kept;
        inside = pre.inside;
        height-is = omega (arith, q, top-is);
        reach-is = refl;
        plausible = pre.plausible;
        counted = pre.counted;
      }

      pub behind-is : (same : Bool) (part : StateSet) → part ≡ stored_set (size_of table) marks i → same ≡ same_words root part → (r : Totals)
          → r ≡ place_totals place (stack_of (size_of table) pile₂) (not same) (totals_in t)
          → r ≡ place_totals place (root ∷ front) (not (same_words root (stored_set (size_of table) marks i))) (totals_in t)
      behind-is same part p s r e =
          let stack : stack_of (size_of table) pile₂ ≡ root ∷ front =
          ap (λ (n : ℕ). stack_of n pile₂) (sym pre.size) ∙ e₂
          ∙ ap (λ (n : ℕ). root ∷ stack_of n pile₁) pre.size ∙ ap (λ (l : List StateSet). root ∷ l) e₁ in
          e ∙ ap₂ (λ (l : List StateSet) (b : Bool). place_totals place l (not b) (totals_in t)) stack
          (s ∙ ap (same_words root) p)
