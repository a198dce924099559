-- Run's accepted calls: what its parts ask, and that the marks and the totals are those of the definition.
use mathlib.Core.Path.{◌≡◌, refl, ap, ap₂, ◌∙◌, sym}
use mathlib.Core.List.{List, [], ◌∷◌, ◌++◌, flatten, append-nil}
use Prim.Native.Nat.{ℕ, ◌+◌, ◌-◌, ◌*◌, ◌≤◌}
use native.Mathlib.Omega.{arith}
use native.Mathlib.Nat.{zero-add}
use lib.ListN.{length, take, drop, drop_of_length-le}
use lib.Seq.{take-length}
use borrow.Author.Tests.{ne_eqb}
use Rattle.words.specs.Lists.{list_from}
use Rattle.words.specs.Shape.{stack_given_by}
use Rattle.words.specs.Postfix.{values}
use Rattle.words.specs.Answer.{refused, accepted}
use Rattle.words.proofs.ListLaws.{length-list_from}
use Rattle.words.specs.Decoded.{number_in}
use Rattle.words.specs.declared.refusal.Refusal.{Refusal}
use Rattle.words.proofs.NumberLaws.{number_some}
use Rattle.words.proofs.AnswerLaws.{answer-refused, answer-accepted, exit-refused, exit-accepted}
use Rattle.automaton.specs.StateSet.{StateSet}
use Rattle.operations.specs.Marks.{size_of, node_set, node_sets, stored_set}
use Rattle.operations.specs.Run.{cells_in, run_fault, run_marks, run_answer, run_exit}
use Rattle.operations.specs.Totals.{Totals, totals_of, run_totals}
use Rattle.operations.proofs.MarksLaws.{length-node_sets, stored-node_sets}
use Rattle.operations.proofs.RunLaws.{run-writes, run_length}
use Rattle.totals.specs.Countable.{Countable}
use Rattle.nodes.specs.Nodes.{marked_from, Workable}
use Rattle.nodes.proofs.LoopLaws.{Recomputing}
use Rattle.nodes.proofs.MarkedSets.{marked_sets, marked_sets-recomputing}
use Rattle.nodes.proofs.MarkLaws.{holding-stored, marked_from-rows}
use Rattle.nodes.proofs.WorkableLaws.{workable-size, bounded-tree, workable-marks}
use Rattle.propagation.specs.Propagation.{propagate_from}
use Rattle.updates.specs.Updating.{updated_from, Updatable}

-- ---- all nodes

pub tree-updatable : {a table ch marks : List ℕ} → Workable a table ch (length marks) → Updatable a table ch 0 (length ch) marks
tree-updatable g = record { workable = g; order = omega arith; inside = omega arith }

-- no node is left behind the last one
tree-marked : (a table ch marks marks' : List ℕ) (count : ℕ) → (marks', count) ≡ updated_from a table ch 0 (length ch) marks
    → marks' ≡ marked_from a table ch 0 (length ch) marks
unfolding updated_from propagate_from
tree-marked a table ch marks marks' count e =
    let none : length ch - length ch ≡ 0 = omega arith in
    let all : length ch - 0 ≡ length ch = omega arith in
    ap (λ (p : List ℕ × ℕ). p.0) (rw (none, all) at e)

-- the nodes one after the other leave what the definition says
marked-run : (a table ch marks : List ℕ) → length ch * size_of table ≤ length marks
    → marked_from a table ch 0 (length ch) marks ≡ run_marks a table ch marks
unfolding run_marks node_sets stack_given_by
marked-run a table ch marks h =
    let size = size_of table in
    let n = length ch in
    let old = list_from (stored_set size marks) 0 n in
    let rest = drop (n * size) marks in
    let m : length old ≡ n = length-list_from (stored_set size marks) n 0 in
    let z : 0 + n ≡ n = zero-add n in
    let w : Recomputing a table ch old 0 [] n (marked_sets a table ch 0 n old) =
    marked_sets-recomputing a table ch old 0 [] n (omega arith) (omega arith) refl in
    (marked_from-rows a table ch marks old rest 0 n (holding-stored size marks n h) (omega arith) (omega arith)).words
    ∙ ap (λ (rows : List StateSet). flatten rows ++ rest)
    (w.sets-are
    ∙ ap₂ (λ (l : List ℕ) (r : List StateSet). values a (node_set table) l [] ++ r)
    (ap (λ (i : ℕ). take i ch) z ∙ take-length ch)
    (ap (λ (i : ℕ). drop i old) z ∙ drop_of_length-le old {i = n} (omega arith))
    ∙ append-nil (values a (node_set table) ch []))

module _ (a table ch marks : List ℕ) (h : run_fault a table ch (length marks) ≡ 0) where
  pub workable : Workable a table ch (length marks)
  workable = record { accepted = h }

  module _ (marks' : List ℕ) (count : ℕ) (e : (marks', count) ≡ updated_from a table ch 0 (length ch) marks) where
    pub run-left : marks' ≡ run_marks a table ch marks
    run-left = tree-marked a table ch marks marks' count e ∙ marked-run a table ch marks (workable-marks workable)

    run_fits : length ch * size_of table ≤ length marks'
    run_fits = rw (run-left, run_length a table ch marks (workable-marks workable)) (workable-marks workable)

    pub run-countable : Countable (length marks') (size_of table) 0 (length ch)
    run-countable = record {
      order = omega arith;
      few = (bounded-tree workable).few;
      small = workable-size workable;
      inside = run_fits;
    }

    pub run-totals : (t : Totals) → t ≡ totals_of table (list_from (stored_set (size_of table) marks') 0 (length ch - 0))
        → t ≡ totals_of table (node_sets a table ch)
    run-totals t q =
        let all : length ch - 0 ≡ length ch = omega arith in
        let written : take (length ch * size_of table) marks' ≡ flatten (node_sets a table ch) =
        ap (take (length ch * size_of table)) run-left ∙ run-writes a table ch marks in
        q ∙ ap (λ (n : ℕ). totals_of table (list_from (stored_set (size_of table) marks') 0 n)) all
        ∙ ap (totals_of table) (stored-node_sets a table ch marks' written)

-- ---- the answer, the marks and the record at exit

module _ (a table ch marks : List ℕ) where
  pub run-refused : (refusal : Refusal) → number_in refusal ≡ run_fault a table ch (length marks)
      → (refused (number_in refusal) ≡ run_answer a table ch marks)
      × ((marks ≡ run_exit a table ch marks) × ((before : Totals) → before ≡ run_totals a table ch marks before))
  unfolding run_answer run_exit run_totals
  run-refused refusal e =
      let some = number_some refusal in
      (answer-refused e _ some, (exit-refused e _ marks some, λ before. sym (rw (← e, ne_eqb (number_in refusal) 0 some))))

  pub run-accepts : 0 ≡ run_fault a table ch (length marks) → (totals : Totals) (marks' : List ℕ)
      → totals ≡ totals_of table (node_sets a table ch) → marks' ≡ run_marks a table ch marks
      → (accepted (totals.elements ∷ totals.cells ∷ []) ≡ run_answer a table ch marks)
      × ((marks' ≡ run_exit a table ch marks) × ((before : Totals) → totals ≡ run_totals a table ch marks before))
  unfolding run_answer run_exit run_totals totals_of
  run-accepts e totals marks' c m = (
    ap (λ (t : Totals). accepted (t.elements ∷ t.cells ∷ [])) c
        ∙ ap (λ (n : ℕ). accepted (n ∷ cells_in (flatten (node_sets a table ch)) ∷ [])) (length-node_sets a table ch)
        ∙ answer-accepted e _ refl,
    (m ∙ exit-accepted e _ marks refl, λ before. c ∙ sym (rw (← e))),
  )
