-- Laws of one node in the loop over the replacement's root and the nodes behind it.
use mathlib.Core.Path.{◌≡◌, refl, ap, ap₂, ◌∙◌, sym, subst}
use mathlib.Core.Bool.{Bool, true, false, not, cond}
use mathlib.Core.List.{List, ◌++◌}
use Prim.Native.Nat.{ℕ, suc, ◌+◌, ◌-◌, ◌*◌, ◌<◌, ◌≤◌}
use native.Mathlib.Omega.{arith}
use lib.ListN.{length, get_or, set, take, drop, length-drop}
use lib.Seq.{paste, take-take, take_at, length-take-le}
use lib.Dec.{ltb}
use borrow.Author.Tests.{lt-ltb, le-ltb}
use Rattle.std.specs.declared.ops.ControlFlow.{ControlFlow}
use Rattle.std.specs.declared.ops.ControlFlow.TheVariants.{Continue, Break}
use Rattle.words.specs.Postfix.{arity}
use Rattle.automaton.specs.StateSet.{StateSet}
use Rattle.operations.specs.Marks.{size_of, stored_set, same_words}
use Rattle.operations.proofs.MarksLaws.{same-words}
use Rattle.slices.proofs.CopyLaws.{paste-same}
use Rattle.sets.specs.Size.{marks_most, set_most}
use Rattle.sets.proofs.StoredLaws.{row_inside, stored-part, stored-written}
use Rattle.sets.proofs.SizeLaws.{words-few}
use Rattle.memo.proofs.MemoLaws.{remembered-later}
use Rattle.nodes.specs.declared.stack.Roots.{Roots}
use Rattle.nodes.specs.declared.marking.Marking.{Marking}
use Rattle.nodes.specs.Nodes.{set_from, marked_at}
use Rattle.nodes.specs.Marking.{NodeMarkable, Maintained}
use Rattle.nodes.proofs.WorkableLaws.{workable-size, bounded-tree, workable-marks}
use Rattle.nodes.proofs.RootStackLaws.{represented-more}
use Rattle.nodes.proofs.MarkLaws.{length-set_from}
use Rattle.propagation.specs.declared.Progress.{Progress}
use Rattle.propagation.specs.Propagation.{recompute_at, propagate_step, behind_step, propagate_from}

-- ---- one node is recomputed

module _ (a table ch : List ℕ) (i : ℕ) (marks : List ℕ) where
  marked-same : same_words (set_from a table ch marks i) (stored_set (size_of table) marks i) ≡ true → marked_at a table ch i marks ≡ marks
  unfolding marked_at stored_set
  marked-same h =
      let at = i * size_of table in
      ap (λ (r : StateSet). paste marks at r (size_of table)) (same-words (set_from a table ch marks i) (stored_set (size_of table) marks i) h)
      ∙ ap (λ (u : List ℕ). (take at marks ++ u) ++ drop (at + size_of table) marks)
      (take-take (size_of table) (size_of table) (drop at marks) (omega arith))
      ∙ sym (paste-same marks at at (size_of table) refl)

  pub recomputed-is : (b : Bool) → same_words (set_from a table ch marks i) (stored_set (size_of table) marks i) ≡ b
      → (marked_at a table ch i marks, not b) ≡ recompute_at a table ch i marks
  unfolding recompute_at
  recomputed-is b h = sym (ap (λ (x : Bool). (marked_at a table ch i marks, not x)) h)

  pub recomputed-same : same_words (set_from a table ch marks i) (stored_set (size_of table) marks i) ≡ true
      → (marks, false) ≡ recompute_at a table ch i marks
  recomputed-same h = ap (λ (m : List ℕ). (m, false)) (sym (marked-same h)) ∙ recomputed-is true h

-- the node's words lie inside the marks, and their places are small numbers
module _ {a table index ch : List ℕ} {i : ℕ} {marks : List ℕ} {marking : Marking}
    (g : NodeMarkable a table index ch i marks marking) (size : ℕ)
    (s : size ≡ size_of table) where
  pub row_fits : i * size + size ≤ length marks
  row_fits = rw s (row_inside i (length ch) (size_of table) (length marks) g.inside (workable-marks g.workable))

  pub row_small : i * size + size ≤ marks_most
  row_small =
      row_inside i (length ch) size marks_most g.inside
      (words-few (length ch) size (bounded-tree g.workable).few (rw s (workable-size g.workable)))

  pub row-few : size ≤ set_most
  row-few = rw s (workable-size g.workable)

  pub row-part : length (take (i * size + size - i * size) (drop (i * size) marks)) ≤ set_most
  row-part =
      let n : i * size + size - i * size ≡ size = omega arith in
      let l = row_fits in
      rw (n, length-take-le size (drop (i * size) marks) (omega (arith, length-drop (i * size) marks))) row-few

  -- the words that are kept beside are the node's as they stood
  module _ (before rest : List ℕ) (e : before ≡ take (i * size + size - i * size) (drop (i * size) marks) ++ rest) where
    row-length : length (stored_set (size_of table) marks i) ≡ size
    unfolding stored_set
    row-length =
        let l = row_fits in
        rw (← s) (length-take-le size (drop (i * size) marks) (omega (arith, length-drop (i * size) marks)))

    before-is : take size before ≡ stored_set (size_of table) marks i
    before-is =
        ap (take size) (e ∙ ap (λ (l : List ℕ). l ++ rest) (stored-part size (size_of table) marks i s))
        ∙ take_at (stored_set (size_of table) marks i) rest size row-length

    pub before-length : size ≡ length (take size before)
    before-length = sym (ap length before-is ∙ row-length)

    -- the node's words in the marks are compared with them
    pub node-recomputed : (marks' : List ℕ) → marks' ≡ marked_at a table ch i marks
        → (b : Bool) → b ≡ same_words (take (i * size + size - i * size) (drop (i * size) marks')) (take size before)
        → (marks', not b) ≡ recompute_at a table ch i marks
    unfolding recompute_at marked_at
    node-recomputed marks' m b q =
        let new : take (i * size + size - i * size) (drop (i * size) marks') ≡ set_from a table ch marks i
        = written marks' m in
        ap₂ (λ (l : List ℕ) (x : Bool). (l, not x)) m (q ∙ ap₂ same_words new before-is)
      where
        written : (marks' : List ℕ) → marks' ≡ paste marks (i * size_of table) (set_from a table ch marks i) (size_of table)
            → take (i * size + size - i * size) (drop (i * size) marks') ≡ set_from a table ch marks i
        written marks' m = stored-part size (size_of table) marks' i s ∙ ap (λ (l : List ℕ). stored_set (size_of table) l i) m
            ∙ stored-written (size_of table) marks i (set_from a table ch marks i) (length-set_from a table ch marks i) (rw (← s) row_fits)

-- ---- one node is passed

module _ {a table index ch : List ℕ} {i : ℕ} {marks : List ℕ} {marking : Marking}
    (g : NodeMarkable a table index ch i marks marking) (k : ℕ)
    (e : k ≡ arity a (get_or ch i 0)) where
  -- the node is put on the stack, and its words stay
  pub node-passed : {roots' : Roots} → roots'.height ≡ marking.roots.height - k + 1
      → roots'.nodes ≡ set marking.roots.nodes (marking.roots.height - k) i
      → Maintained a table ch (i + 1) marks (record { roots = roots'; memo = marking.memo })
  node-passed p q =
      record {
        represented =
            represented-more g.maintained.represented (bounded-tree g.workable) g.inside k e i (omega arith) marks
            (λ j l. refl) refl p q;
        remembered = remembered-later g.maintained.remembered;
      }

module _ (a table ch : List ℕ) (i : ℕ) (marks : List ℕ) (t : Progress) where
  abbrev beside : ℕ → List ℕ × ControlFlow ℕ Progress
  beside r = (marks, Continue (record { reach = t.reach - r + 1; recomputed = t.recomputed }))

  abbrev ancestor : List ℕ × Bool → List ℕ × ControlFlow ℕ Progress
  ancestor p = (p.0, cond p.1 (Continue (record { reach = 1; recomputed = t.recomputed + 1 })) (Break (t.recomputed + 1)))

  abbrev r : ℕ
  r = arity a (get_or ch i 0)

  pub step-beside : (k : ℕ) → k ≡ arity a (get_or ch i 0) → k < t.reach → beside k ≡ propagate_step a table ch i marks t
  unfolding propagate_step
  step-beside k e h =
      ap beside e
      ∙ sym (ap (λ (x : Bool). cond x (beside r) (ancestor (recompute_at a table ch i marks)))
      (lt-ltb r t.reach (subst (λ (x : ℕ). x < t.reach) e h)))

  pub step-ancestor : (k : ℕ) → k ≡ arity a (get_or ch i 0) → t.reach ≤ k → (p : List ℕ × Bool) → p ≡ recompute_at a table ch i marks
      → ancestor p ≡ propagate_step a table ch i marks t
  unfolding propagate_step
  step-ancestor k e h p q =
      ap ancestor q
      ∙ sym (ap (λ (x : Bool). cond x (beside r) (ancestor (recompute_at a table ch i marks)))
      (le-ltb r t.reach (subst (λ (x : ℕ). t.reach ≤ x) e h)))

  -- whether its words changed
  module _ (k : ℕ) (e : k ≡ arity a (get_or ch i 0)) (h : t.reach ≤ k) {m : List ℕ} {b : Bool} (q : (m, b) ≡ recompute_at a table ch i marks) where
    abbrev answer : Bool → List ℕ × ControlFlow ℕ Progress
    answer x = ancestor (m, x)

    pub step-last : b ≡ false → (m, Break (t.recomputed + 1)) ≡ propagate_step a table ch i marks t
    step-last f = ap answer (sym f) ∙ step-ancestor k e h (m, b) q

    pub step-onward : b ≡ true → (m, Continue (record { reach = 1; recomputed = t.recomputed + 1 })) ≡ propagate_step a table ch i marks t
    step-onward f = ap answer (sym f) ∙ step-ancestor k e h (m, b) q

  -- what one node adds to the counts
  pub record Small (next : Progress) : Type 0 where
    pub reach : next.reach ≤ t.reach + 1
    pub recomputed : next.recomputed ≤ t.recomputed + 1

  abbrev SmallOn : ControlFlow ℕ Progress → Type 0
  SmallOn (Continue next) = Small next
  SmallOn (Break count) = Unit {0}

  pub step_small : (m : List ℕ) (next : Progress) → (m, Continue next) ≡ propagate_step a table ch i marks t → Small next
  unfolding propagate_step
  step_small m next e =
      subst SmallOn (sym (ap (λ (p : List ℕ × ControlFlow ℕ Progress). p.1) e))
      (go (ltb r t.reach) (recompute_at a table ch i marks).0 (recompute_at a table ch i marks).1)
    where
      go : (x : Bool) (m : List ℕ) (b : Bool) → SmallOn (cond x (beside r) (ancestor (m, b))).1
      go true m b = record { reach = omega arith; recomputed = omega arith }
      go false m true = record { reach = omega arith; recomputed = omega arith }
      go false m false = tt

  module _ (n : ℕ) (m : List ℕ) where
    turn : (next : ControlFlow ℕ Progress) → (m, next) ≡ propagate_step a table ch i marks t
        → propagate_from a table ch i (suc n) marks t ≡ behind_step m (λ t'. propagate_from a table ch (suc i) n m t') next
    unfolding propagate_from
    turn next e =
        ap (λ (p : List ℕ × ControlFlow ℕ Progress). behind_step p.0 (λ t'. propagate_from a table ch (suc i) n p.0 t') p.1) (sym e)

    pub propagate-continues : (next : Progress) → (m, Continue next) ≡ propagate_step a table ch i marks t
        → propagate_from a table ch i (suc n) marks t ≡ propagate_from a table ch (suc i) n m next
    propagate-continues next e = turn (Continue next) e

    pub propagate-stops : (count : ℕ) → (m, Break count) ≡ propagate_step a table ch i marks t
        → propagate_from a table ch i (suc n) marks t ≡ (m, count)
    propagate-stops count e = turn (Break count) e
