-- Laws of one node behind the place that is passed.
use mathlib.Core.Path.{◌≡◌, refl, ap, ap₂, ◌∙◌, sym}
use mathlib.Core.Bool.{Bool, true, false, not}
use mathlib.Core.List.{List, ◌∷◌}
use Prim.Native.Nat.{ℕ, ◌+◌, ◌-◌, ◌<◌, ◌≤◌}
use native.Mathlib.Omega.{arith}
use lib.ListN.{length, drop}
use lib.Dec.{leb}
use borrow.Author.Tests.{le-leb, lt-leb}
use Rattle.words.specs.Postfix.{arity, value_on}
use Rattle.automaton.specs.StateSet.{StateSet}
use Rattle.operations.specs.Marks.{size_of, node_set, same_words}
use Rattle.sets.specs.Size.{set_most}
use Rattle.sets.proofs.SizeLaws.{set-small}
use Rattle.totals.specs.declared.Totals.{Totals as Record}
use Rattle.totals.specs.TotalsIn.{totals_in}
use Rattle.forecast.specs.declared.behind.Place.{Place}
use Rattle.forecast.specs.declared.behind.Passing.{Passing}
use Rattle.forecast.specs.declared.pile.Pile.{Pile}
use Rattle.forecast.specs.declared.pile.Work.{Work}
use Rattle.forecast.specs.Pile.{stack_of, Puttable}
use Rattle.forecast.specs.Sum.{with_set, Plausible, Addable}
use Rattle.forecast.specs.Behind.{passed_set, Passable, Passed}
use Rattle.forecast.proofs.StepSetLaws.{step-puttable}

module _ {place : Place} {w : ℕ} {stored : List ℕ} {pile : Pile} {t : Passing} {work : Work}
    (g : Passable place w stored pile t work) where
  abbrev a : List ℕ
  a = place.alphabet.now

  abbrev table : List ℕ
  table = place.indexed.table.now

  pub pass-small : size_of table ≤ set_most
  pass-small = set-small a table g.step.kept.checked

  pub pass-addable : (set : StateSet) → length set ≤ set_most → Addable t.totals set
  pass-addable set h = record { plausible = g.plausible; few = g.counted; short = h }

  pub pass-stored-addable : Addable t.totals stored
  pass-stored-addable = pass-addable stored (rw g.size pass-small)

  module _ (children : ℕ) (r : children ≡ arity a w) where
    pub pass-puttable : Puttable pile children (length stored)
    pass-puttable = step-puttable g.step (length stored) g.size children r

    -- the stack with the stored set on it
    module _ (pile' : Pile) (q : pile'.height ≡ pile.height - children + 1)
        (e : stack_of (length stored) pile' ≡ stored ∷ drop children (stack_of (length stored) pile)) where
      stored_on : stack_of (size_of table) pile' ≡ stored ∷ drop (arity a w) (stack_of (size_of table) pile)
      stored_on =
          ap (λ (n : ℕ). stack_of n pile') (sym g.size) ∙ e
          ∙ ap₂ (λ (n k : ℕ). stored ∷ drop k (stack_of n pile)) g.size r

      -- no ancestor
      pub pass-beside : children < t.reach
          → Passed a table w stored pile t (leb t.reach (arity a w)) pile'
          (record { reach = t.reach - children + 1; active = t.active; totals = t.totals })
      unfolding passed_set
      pass-beside l =
          let b : leb t.reach (arity a w) ≡ false = lt-leb t.reach (arity a w) (omega (arith, r)) in
          rw b (record {
            stack_is = stored_on;
            height-is = q ∙ ap (λ (k : ℕ). pile.height - k + 1) r;
            reach-is = ap (λ (k : ℕ). t.reach - k + 1) r;
            active-is = refl;
            totals-are = refl;
            plausible = g.plausible;
          })

      -- an ancestor, where work has ended
      pub pass-stored : t.reach ≤ children → t.active ≡ false → (t' : Record) → totals_in t' ≡ with_set table (totals_in t.totals) stored
          → Plausible t'
          → Passed a table w stored pile t (leb t.reach (arity a w)) pile' (record { reach = 1; active = false; totals = t' })
      unfolding passed_set
      pass-stored l f t' p plausible =
          let b : leb t.reach (arity a w) ≡ true = le-leb t.reach (arity a w) (omega (arith, r)) in
          rw b (record {
            stack_is = rw f stored_on;
            height-is = q ∙ ap (λ (k : ℕ). pile.height - k + 1) r;
            reach-is = refl;
            active-is = rw f refl;
            totals-are = rw f p;
            plausible = plausible;
          })

    -- an ancestor that is worked out
    pub pass-worked : t.reach ≤ children → t.active ≡ true → {pile' : Pile} → pile'.height ≡ pile.height - arity a w + 1
        → stack_of (size_of table) pile'
        ≡ value_on a (node_set table) w (stack_of (size_of table) pile) ∷ drop (arity a w) (stack_of (size_of table) pile)
        → (set : StateSet) → set ≡ value_on a (node_set table) w (stack_of (size_of table) pile)
        → (same : Bool) → same ≡ same_words set stored
        → (t' : Record) → totals_in t' ≡ with_set table (totals_in t.totals) set → Plausible t'
        → Passed a table w stored pile t (leb t.reach (arity a w)) pile'
        (record { reach = 1; active = not same; totals = t' })
    unfolding passed_set
    pass-worked l f h e set s same m t' p plausible =
        let b : leb t.reach (arity a w) ≡ true = le-leb t.reach (arity a w) (omega (arith, r)) in
        rw b (record {
          stack_is = rw f e;
          height-is = h;
          reach-is = refl;
          active-is = rw f (ap not (m ∙ ap (λ (x : StateSet). same_words x stored) s));
          totals-are = rw f (p ∙ ap (with_set table (totals_in t.totals)) s);
          plausible = plausible;
        })
