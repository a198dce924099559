-- The nodes behind the place, one after the other: before each what is still to be added gives the totals with all ancestors.
use mathlib.Core.Path.{◌≡◌, refl, ap, ap₂, ◌∙◌, sym, subst}
use mathlib.Core.Bool.{Bool, true, false, not, cond, ◌&&◌}
use mathlib.Core.List.{List, [], ◌∷◌}
use Prim.Native.Nat.{ℕ, suc, ◌+◌, ◌-◌, ◌<◌, ◌≤◌}
use native.Mathlib.Omega.{arith}
use native.Mathlib.Numerals.{add-one}
use lib.ListN.{length, get_or, drop}
use lib.Seq.{drop-cons, drop-length}
use lib.Dec.{leb}
use borrow.Author.Tests.{leb-true, leb-false}
use Rattle.words.specs.Limits.{nodes_most}
use Rattle.words.specs.Postfix.{arity, is_ancestor, roots_of, value_on}
use Rattle.words.proofs.TestLaws.{Tested, holds, fails, tested}
use Rattle.words.proofs.HoldingLaws.{HoldingTree, holding-first, takes-others, holding-others, takes-holding, holding-ancestor}
use Rattle.automaton.specs.StateSet.{StateSet}
use Rattle.operations.specs.Marks.{size_of, node_set, stored_set, same_words}
use Rattle.operations.specs.Totals.{Totals}
use Rattle.operations.specs.Exchange.{Outcome, kept, recomputed, propagate}
use Rattle.operations.proofs.PropagateLaws.{propagate-beside, propagate-last, propagate-onward}
use Rattle.totals.specs.TotalsIn.{totals_in}
use Rattle.forecast.specs.declared.behind.Place.{Place}
use Rattle.forecast.specs.declared.behind.Passing.{Passing}
use Rattle.forecast.specs.declared.pile.Pile.{Pile}
use Rattle.forecast.specs.declared.pile.Work.{Work}
use Rattle.forecast.specs.Pile.{stack_of}
use Rattle.forecast.specs.Sum.{with_set, with_sets, Plausible}
use Rattle.forecast.specs.Behind.{sets_where, outcomes_from, with_ancestors, place_totals, KeptAt, Passable, passed_set, Passed, NodesPassable}
use Rattle.forecast.proofs.RunFacts.{run-tree, run-few, run_room}
use Rattle.forecast.proofs.TreeLaws.{tree-node, tree-fits, tree-roots}

-- ---- one node

module _ (a table : List ℕ) (stored : ℕ → StateSet) (above : ℕ → Bool) (j w : ℕ) (ws : List ℕ) (stack : List StateSet) where
  abbrev new : StateSet
  new = value_on a (node_set table) w stack

  abbrev rest : Bool → StateSet → List Outcome
  rest active v = outcomes_from a table stored above active (suc j) ws (v ∷ drop (arity a w) stack)

  from-beside : (active : Bool) → above j ≡ false
      → outcomes_from a table stored above active j (w ∷ ws) stack ≡ kept (stored j) ∷ rest active (stored j)
  unfolding outcomes_from
  from-beside true e = propagate-beside a table stored above j w ws stack e
  from-beside false e = refl

  from-ended : outcomes_from a table stored above false j (w ∷ ws) stack ≡ kept (stored j) ∷ rest false (stored j)
  unfolding outcomes_from
  from-ended = refl

  from-ancestor : above j ≡ true
      → outcomes_from a table stored above true j (w ∷ ws) stack ≡ recomputed new ∷ rest (not (same_words new (stored j))) new
  unfolding outcomes_from
  from-ancestor e = go (tested (same_words new (stored j)))
    where
      go : Tested (same_words new (stored j))
          → propagate a table stored above j (w ∷ ws) stack ≡ recomputed new ∷ rest (not (same_words new (stored j))) new
      go (holds s) = rw s (propagate-last a table stored above j w ws stack e s)
      go (fails s) = rw s (propagate-onward a table stored above j w ws stack e s)

  -- what is added of it and of those behind it
  abbrev later : Bool → StateSet → List StateSet
  later active v = sets_where above (suc j) (rest active v)

  sets-beside : (active : Bool) → above j ≡ false
      → sets_where above j (outcomes_from a table stored above active j (w ∷ ws) stack) ≡ later active (stored j)
  unfolding sets_where
  sets-beside active e =
      ap (sets_where above j) (from-beside active e)
      ∙ ap (λ (b : Bool). cond b (stored j ∷ later active (stored j)) (later active (stored j))) e

  sets-ended : above j ≡ true
      → sets_where above j (outcomes_from a table stored above false j (w ∷ ws) stack) ≡ stored j ∷ later false (stored j)
  unfolding sets_where
  sets-ended e =
      ap (sets_where above j) from-ended ∙ ap (λ (b : Bool). cond b (stored j ∷ later false (stored j)) (later false (stored j))) e

  sets-ancestor : above j ≡ true
      → sets_where above j (outcomes_from a table stored above true j (w ∷ ws) stack) ≡ new ∷ later (not (same_words new (stored j))) new
  unfolding sets_where
  sets-ancestor e =
      let x = not (same_words new (stored j)) in
      ap (sets_where above j) (from-ancestor e) ∙ ap (λ (b : Bool). cond b (new ∷ later x new) (later x new)) e

  -- the totals with all, where this node is passed
  passed-totals : (b active : Bool) → above j ≡ b → (t : Totals)
      → with_sets table t (sets_where above j (outcomes_from a table stored above active j (w ∷ ws) stack))
      ≡ with_sets table (cond b (with_set table t (passed_set a table w (stored j) stack active b)) t)
      (later (cond b (active && not (same_words (passed_set a table w (stored j) stack active b) (stored j))) active)
      (passed_set a table w (stored j) stack active b))
  unfolding passed_set with_sets
  passed-totals false active e t = ap (with_sets table t) (sets-beside active e)
  passed-totals true true e t = ap (with_sets table t) (sets-ancestor e)
  passed-totals true false e t = ap (with_sets table t) (sets-ended e)

-- ---- all nodes

pub record PassingNodes (p : Place) (whole : Totals) (pile : Pile) (t : Passing) (work : Work) (j : ℕ) : Type 0 where
  pub high : j ≤ length p.nodes.now
  pub kept : KeptAt p work
  pub height-is : pile.height ≡ length (roots_of p.alphabet.now p.nodes.now j)
  pub holding : HoldingTree (arity p.alphabet.now) p.nodes.now p.element j (t.reach - 1)
  pub some : 0 < t.reach
  pub reached : t.reach ≤ j
  pub plausible : Plausible t.totals
  pub counted : t.totals.elements ≤ nodes_most + j
  pub same : with_ancestors p.alphabet.now p.indexed.table.now p.nodes.now p.element p.marks.now j
      (stack_of (size_of p.indexed.table.now) pile) t.active (totals_in t.totals)
      ≡ whole

module _ {place : Place} {pile₀ : Pile} {t₀ : Passing} {work₀ : Work} (pre : NodesPassable place pile₀ t₀ work₀) where
  abbrev a : List ℕ
  a = place.alphabet.now

  abbrev table : List ℕ
  table = place.indexed.table.now

  abbrev ch : List ℕ
  ch = place.nodes.now

  abbrev i : ℕ
  i = place.element

  abbrev marks : List ℕ
  marks = place.marks.now

  abbrev whole₀ : Totals
  whole₀ = place_totals place (stack_of (size_of table) pile₀) t₀.active (totals_in t₀.totals)

  pub passing-none : PassingNodes place whole₀ pile₀ t₀ work₀ (i + 1)
  passing-none =
      let z : t₀.reach - 1 ≡ 0 = omega (arith, pre.reach-is) in
      let inside = pre.inside in
      record {
        high = omega arith;
        kept = pre.kept;
        height-is = pre.height-is;
        holding = rw z (holding-first (arity a) ch i);
        some = omega (arith, pre.reach-is);
        reached = omega (arith, pre.reach-is);
        plausible = pre.plausible;
        counted = omega (arith, pre.counted);
        same = refl;
      }

  module _ {whole : Totals} {pile : Pile} {t : Passing} {work : Work} {j : ℕ}
      (g : PassingNodes place whole pile t work j) where
    module _ (l : j < length ch) where
      abbrev w : ℕ
      w = get_or ch j 0

      roots-next : pile.height - arity a w + 1 ≡ length (roots_of a ch (j + 1))
      roots-next =
          ap (λ (h : ℕ). h - arity a w + 1) g.height-is ∙ sym (tree-roots a ch (run-tree pre.marked) j l)

      pub passing-at : (part : StateSet) → length part ≡ size_of table
          → Passable place (get_or ch j 0) part pile t work
      passing-at part s =
          let few = run-few pre.marked in
          let r = g.reached in
          let k = g.counted in
          record {
            step = record {
              kept = g.kept;
              node = tree-node a ch (run-tree pre.marked) j l;
              fits = rw g.height-is (tree-fits a ch (run-tree pre.marked) j l);
              high = rw g.height-is (run_room pre.marked j);
              low = omega (arith, roots-next, run_room pre.marked (j + 1));
            };
            size = s;
            reached = omega arith;
            plausible = g.plausible;
            counted = omega arith;
          }

      -- who is above the place is told by the reach
      told : (b : Bool) → leb t.reach (arity a w) ≡ b → is_ancestor a ch i j ≡ b
      told true e =
          let h = leb-true t.reach (arity a w) e in
          let s = g.some in
          takes-holding (arity a) ch i j (t.reach - 1) g.holding (omega arith)
      told false e =
          let h = leb-false t.reach (arity a w) e in
          takes-others (arity a) ch i j (t.reach - 1) g.holding (omega arith)

      holding-next : (b : Bool) → leb t.reach (arity a w) ≡ b
          → HoldingTree (arity a) ch i (j + 1) (cond b 1 (t.reach - arity a w + 1) - 1) × (0 < cond b 1 (t.reach - arity a w + 1))
          × (cond b 1 (t.reach - arity a w + 1) ≤ j + 1)
      holding-next true e =
          let h = leb-true t.reach (arity a w) e in
          let s = g.some in
          (rw (add-one j) (holding-ancestor (arity a) ch i j (t.reach - 1) g.holding (omega arith)), omega arith, omega arith)
      holding-next false e =
          let h = leb-false t.reach (arity a w) e in
          let m = g.reached in
          let z : t.reach - arity a w + 1 - 1 ≡ t.reach - 1 - arity a w + 1 = omega arith in
          (rw (add-one j, z) (holding-others (arity a) ch i j (t.reach - 1) g.holding (omega arith)), omega arith, omega arith)

      few-more : (b : Bool) (r : Passing) (v : StateSet)
          → totals_in r.totals ≡ cond b (with_set table (totals_in t.totals) v) (totals_in t.totals)
          → r.totals.elements ≤ nodes_most + (j + 1)
      unfolding with_set
      few-more true r v e = omega (arith, ap (λ (x : Totals). x.elements) e, g.counted)
      few-more false r v e = omega (arith, ap (λ (x : Totals). x.elements) e, g.counted)

      pub passing-more : {pile' : Pile} {r : Passing} {work' : Work} (part : StateSet)
          → part ≡ stored_set (size_of table) marks j → Passed a table (get_or ch j 0) part pile t (leb t.reach (arity a (get_or ch j 0))) pile' r
          → KeptAt place work'
          → PassingNodes place whole pile' r work' (j + 1)
      unfolding with_ancestors
      passing-more {pile'} {r} part p d later-kept =
          let b = leb t.reach (arity a w) in
          let stack = stack_of (size_of table) pile in
          let stored = stored_set (size_of table) marks in
          let hold = holding-next b refl in
          let n : j + 1 ≡ suc j = add-one j in
          let v = passed_set a table w part stack t.active b in
          let all : ℕ → List StateSet → Bool → Totals → Totals = λ k s x u. with_sets table u
          (sets_where (is_ancestor a ch i) k (outcomes_from a table stored (is_ancestor a ch i) x k (drop k ch) s)) in
          let step : (q : StateSet) → q ≡ stored j
          → all (suc j) (passed_set a table w q stack t.active b ∷ drop (arity a w) stack)
          (cond b (t.active && not (same_words (passed_set a table w q stack t.active b) q)) t.active)
          (cond b (with_set table (totals_in t.totals) (passed_set a table w q stack t.active b)) (totals_in t.totals))
          ≡ all j stack t.active (totals_in t.totals)
          = λ q e. rw e (sym (passed-totals a table stored (is_ancestor a ch i) j w (drop (suc j) ch) stack b t.active (told b refl)
          (totals_in t.totals))
          ∙ ap (λ (ws : List ℕ). with_sets table (totals_in t.totals)
          (sets_where (is_ancestor a ch i) j (outcomes_from a table stored (is_ancestor a ch i) t.active j ws stack)))
          (sym (drop-cons ch j 0 l))) in
          record {
            high = omega arith;
            kept = later-kept;
            height-is = d.height-is ∙ roots-next;
            holding = subst (λ (k : ℕ). HoldingTree (arity a) ch i (j + 1) (k - 1)) (sym d.reach-is) hold.0;
            some = rw d.reach-is hold.1;
            reached = rw d.reach-is hold.2;
            plausible = d.plausible;
            counted = few-more b r v d.totals-are;
            same =
                ap (λ (k : ℕ). all k (stack_of (size_of table) pile') r.active (totals_in r.totals)) n
                ∙ ap₂ (λ (s : List StateSet) (x : Bool). all (suc j) s x (totals_in r.totals)) d.stack_is d.active-is
                ∙ ap (all (suc j) (v ∷ drop (arity a w) stack) _) d.totals-are
                ∙ step part p ∙ g.same;
          }

    pub passing-end : length ch ≤ j → totals_in t.totals ≡ whole
    unfolding with_ancestors sets_where outcomes_from with_sets propagate
    passing-end l = go t.active g.same
      where
        q : drop j ch ≡ []
        q =
            let high = g.high in
            let e : j ≡ length ch = omega arith in
            ap (λ (k : ℕ). drop k ch) e ∙ drop-length ch

        go : (b : Bool) → with_ancestors a table ch i marks j (stack_of (size_of table) pile) b (totals_in t.totals) ≡ whole
            → totals_in t.totals ≡ whole
        go true e = rw q at e
        go false e = rw q at e
