-- A tree that is worked out alone: before each node what is still to be counted gives the totals of all, and what is still to be read
-- leaves the root's set.
use mathlib.Core.Path.{◌≡◌, refl, ap, ap₂, ◌∙◌, sym, subst}
use mathlib.Core.Bool.{true}
use mathlib.Core.List.{List, [], ◌∷◌, ◌++◌}
use Prim.Native.Nat.{ℕ, zero, suc, ◌+◌, ◌-◌, ◌<◌, ◌≤◌}
use native.Mathlib.Omega.{arith}
use native.Mathlib.Numerals.{add-one}
use lib.ListN.{length, get_or, take, drop, replicate, length-append, length-drop}
use lib.Seq.{split_at, drop-cons, drop-length, take_at}
use Rattle.words.specs.Lists.{all}
use Rattle.words.specs.Shape.{values_by, stack_after_by, value_on_by, stack_given_by}
use Rattle.words.specs.Chapter.{is_node, tree_fault}
use Rattle.words.specs.Postfix.{arity, roots_of, value_on, values, stack_after}
use Rattle.words.proofs.TestLaws.{and-true, all_right}
use Rattle.words.proofs.AcceptedTree.{tree-accepted}
use Rattle.words.proofs.ChildLaws.{roots-more, arity-fits}
use Rattle.words.proofs.StackLaws.{read}
use Rattle.automaton.specs.StateSet.{StateSet}
use Rattle.operations.specs.Marks.{size_of, node_set, node_sets, stored_set}
use Rattle.operations.specs.Totals.{Totals, totals_of}
use Rattle.operations.specs.Exchange.{root_set}
use Rattle.operations.proofs.MarksLaws.{length-node_set}
use Rattle.sets.specs.Size.{set_most}
use Rattle.sets.proofs.SizeLaws.{set-small}
use Rattle.totals.specs.declared.Totals.{Totals as Record}
use Rattle.totals.specs.TotalsIn.{totals_in}
use Rattle.forecast.specs.declared.pile.Pile.{Pile}
use Rattle.forecast.specs.declared.pile.Work.{Work}
use Rattle.forecast.specs.Pile.{stack_in, stack_of, Kept, Steppable}
use Rattle.forecast.specs.Sum.{with_set, with_sets, Plausible, Addable}
use Rattle.forecast.specs.Tree.{TreeCountable}
use Rattle.forecast.proofs.StackInLaws.{length-stack_in}
use Rattle.forecast.proofs.SumLaws.{with_sets-none}

-- ---- one node of a tree

module _ (a ch : List ℕ) (tree : tree_fault a ch ≡ 0) (i : ℕ) (l : i < length ch) where
  pub tree-node : is_node a (get_or ch i 0) ≡ true
  tree-node =
      let w = get_or ch i 0 in
      let t = subst (λ (k : List ℕ). all (is_node a) k ≡ true) (split_at ch i 0 l) (tree-accepted a ch tree).nodes in
      (and-true (is_node a w) (all (is_node a) (drop (suc i) ch)) (all_right (is_node a) (take i ch) (w ∷ drop (suc i) ch) t)).0

  pub tree-fits : arity a (get_or ch i 0) ≤ length (roots_of a ch i)
  tree-fits = arity-fits (arity a) ch i (tree-accepted a ch tree).shape l

  -- one root in the place of its children's
  pub tree-roots : length (roots_of a ch (i + 1)) ≡ length (roots_of a ch i) - arity a (get_or ch i 0) + 1
  tree-roots =
      ap (λ (j : ℕ). length (roots_of a ch j)) (add-one i) ∙ ap length (roots-more (arity a) ch i l)
      ∙ ap suc (length-drop (arity a (get_or ch i 0)) (roots_of a ch i)) ∙ sym (add-one _)

-- the first words of a set that was worked out
module _ (a table : List ℕ) (checked : size_of table ≤ set_most) (w : ℕ) (stack : List StateSet) (set : StateSet)
    (e : set ≡ value_on a (node_set table) w stack ++ replicate (set_most - size_of table) 0) (size : ℕ) (s : size ≡ size_of table) where
  pub value-length : length (value_on a (node_set table) w stack) ≡ size
  unfolding value_on_by
  value-length = length-node_set table w _ ∙ sym s

  pub value-front : take size set ≡ value_on a (node_set table) w stack
  value-front = ap (take size) e ∙ take_at _ _ size value-length

  pub value-inside : size ≤ length set
  value-inside =
      rw (e, length-append (value_on a (node_set table) w stack) (replicate (set_most - size_of table) 0)) (omega (arith, value-length))

  pub value-size : size ≡ length (take size set)
  value-size = sym (ap length value-front ∙ value-length)

  pub value-short : length (take size set) ≤ set_most
  value-short = omega (arith, value-size, s, checked)

-- ---- all nodes

pub record Counting (a table index ch : List ℕ) (pile : Pile) (t : Record) (work : Work) (i : ℕ) : Type 0 where
  pub high : i ≤ length ch
  pub kept : Kept a table index work
  pub height-is : pile.height ≡ length (roots_of a ch i)
  pub counted : t.elements ≡ i
  pub plausible : Plausible t
  pub totals : with_sets table (totals_in t) (values a (node_set table) (drop i ch) (stack_of (size_of table) pile))
      ≡ totals_of table (node_sets a table ch)
  pub stack : stack_after a (node_set table) (drop i ch) (stack_of (size_of table) pile) ≡ stack_after a (node_set table) ch []

module _ {a table index ch : List ℕ} {work₀ : Work} (pre : TreeCountable a table index ch work₀) where
  pub counting-none : {pile : Pile} {t : Record} → pile.height ≡ 0 → (t.elements ≡ 0) × ((t.hits ≡ 0) × (t.cells ≡ 0))
      → Counting a table index ch pile t work₀ 0
  unfolding stack_in node_sets stack_given_by
  counting-none {pile} {t} e (x, (y, z)) =
      let nothing : totals_in t ≡ record { elements = 0; hits = 0; cells = 0 } = rw (x, y, z) refl in
      record {
        high = omega arith;
        kept = pre.kept;
        height-is = e;
        counted = x;
        plausible = record { hits = omega arith; cells = omega arith };
        totals =
            ap₂ (λ (u : Totals) (h : ℕ). with_sets table u (values a (node_set table) ch (stack_in (size_of table) pile.sets h))) nothing e
            ∙ with_sets-none table (values a (node_set table) ch []);
        stack = ap (λ (h : ℕ). stack_after a (node_set table) ch (stack_in (size_of table) pile.sets h)) e;
      }

  pub small-set : size_of table ≤ set_most
  small-set = set-small a table pre.kept.checked

  module _ {pile : Pile} {t : Record} {work : Work} {i : ℕ}
      (g : Counting a table index ch pile t work i) where
    module _ (l : i < length ch) where
      abbrev w : ℕ
      w = get_or ch i 0

      abbrev old : List StateSet
      old = stack_of (size_of table) pile

      roots-next : pile.height - arity a w + 1 ≡ length (roots_of a ch (i + 1))
      roots-next = ap (λ (h : ℕ). h - arity a w + 1) g.height-is ∙ sym (tree-roots a ch pre.tree i l)

      pub counting-steppable : Steppable a table index (get_or ch i 0) pile work
      counting-steppable = record {
        kept = g.kept;
        node = tree-node a ch pre.tree i l;
        fits = rw g.height-is (tree-fits a ch pre.tree i l);
        high = rw g.height-is (pre.room i g.high);
        low = omega (arith, roots-next, pre.room (i + 1) (omega arith));
      }

      pub counting-addable : {set : StateSet} → length set ≤ set_most → Addable t set
      counting-addable h = record { plausible = g.plausible; few = omega (arith, g.counted, pre.few); short = h }

      module _ {pile' : Pile} {t' : Record} {work' : Work}
          (h : pile'.height ≡ pile.height - arity a (get_or ch i 0) + 1)
          (pushed : stack_of (size_of table) pile'
          ≡ value_on a (node_set table) (get_or ch i 0) (stack_of (size_of table) pile)
          ∷ drop (arity a (get_or ch i 0)) (stack_of (size_of table) pile))
          (kept : Kept a table index work') (set : StateSet)
          (e : set ≡ value_on a (node_set table) (get_or ch i 0) (stack_of (size_of table) pile))
          (added : totals_in t' ≡ with_set table (totals_in t) set) (plausible : Plausible t') where
        pub counting_more : Counting a table index ch pile' t' work' (i + 1)
        unfolding values_by stack_after_by with_sets with_set
        counting_more =
            let n : i + 1 ≡ suc i = add-one i in
            let more : ℕ → List StateSet → Totals = λ j s. with_sets table (totals_in t') (values a (node_set table) (drop j ch) s) in
            record {
              high = omega arith;
              kept = kept;
              height-is = h ∙ roots-next;
              counted = ap (λ (x : Totals). x.elements) added ∙ ap (λ (k : ℕ). k + 1) g.counted;
              plausible = plausible;
              totals =
                  ap₂ more n pushed
                  ∙ ap (λ (x : Totals). with_sets table x (values a (node_set table) (drop (suc i) ch)
                  (value_on a (node_set table) w old ∷ drop (arity a w) old))) (added ∙ ap (with_set table (totals_in t)) e)
                  ∙ sym (ap (λ (ws : List ℕ). with_sets table (totals_in t) (values a (node_set table) ws old)) (drop-cons ch i 0 l))
                  ∙ g.totals;
              stack =
                  ap₂ (λ (j : ℕ) (x : List StateSet). stack_after a (node_set table) (drop j ch) x) n pushed
                  ∙ sym (ap (λ (ws : List ℕ). stack_after a (node_set table) ws old) (drop-cons ch i 0 l))
                  ∙ g.stack;
            }

    module _ (l : length ch ≤ i) where
      none_left : drop i ch ≡ []
      none_left =
          let high = g.high in
          let q : i ≡ length ch = omega arith in
          ap (λ (j : ℕ). drop j ch) q ∙ drop-length ch

      pub counting-totals : totals_in t ≡ totals_of table (node_sets a table ch)
      unfolding values_by with_sets
      counting-totals =
          sym
          (ap (λ (ws : List ℕ). with_sets table (totals_in t) (values a (node_set table) ws (stack_of (size_of table) pile)))
          none_left)
          ∙ g.totals

      pub counting-root : stored_set (size_of table) pile.sets 0 ≡ root_set a table ch
      unfolding stack_after_by root_set stack_in
      counting-root = go pile.height stack_is
        where
          stack_is : stack_of (size_of table) pile ≡ stack_after a (node_set table) ch []
          stack_is = sym (ap (λ (ws : List ℕ). stack_after a (node_set table) ws (stack_of (size_of table) pile)) none_left) ∙ g.stack

          alone : length (stack_after a (node_set table) ch []) ≡ 1
          alone = ap length (read (arity a) (node_set table) ch (tree-accepted a ch pre.tree).shape).alone

          go : (h : ℕ) → stack_in (size_of table) pile.sets h ≡ stack_after a (node_set table) ch []
              → stored_set (size_of table) pile.sets 0 ≡ root_set a table ch
          go zero e = absurd (omega (arith, ap length e, alone))
          go (suc zero) e = ap (λ (s : List StateSet). get_or s 0 []) e
          go (suc (suc h)) e = absurd (omega (arith, length-stack_in (size_of table) pile.sets (suc (suc h)), ap length e, alone))
