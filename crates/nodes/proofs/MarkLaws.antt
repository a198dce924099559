-- State sets that are worked out in the marks are those worked out over a list of state sets.
use mathlib.Core.Path.{◌≡◌, ap, ap₂, ◌∙◌, sym}
use mathlib.Core.List.{List, ◌++◌, flatten}
use Prim.Native.Nat.{ℕ, zero, suc, ◌+◌, ◌*◌, ◌<◌, ◌≤◌}
use native.Mathlib.Omega.{arith}
use native.Mathlib.Nat.{zero-add}
use lib.ListN.{length, get_or, drop, set}
use lib.Seq.{paste}
use Rattle.words.specs.Lists.{list_from}
use Rattle.words.specs.Postfix.{arity, children_of}
use Rattle.words.specs.Chapter.{symbol_of}
use Rattle.words.proofs.AllLaws.{map_below}
use Rattle.words.proofs.ChildLaws.{children-below}
use Rattle.automaton.specs.StateSet.{StateSet, state_set}
use Rattle.automaton.specs.Transition.{automaton_of}
use Rattle.operations.specs.Marks.{size_of, node_set, stored_set}
use Rattle.operations.proofs.MarksLaws.{Sized, stored_set-flatten}
use Rattle.sets.proofs.RowLaws.{paste-row, sized_set, sized-stored, stored-split}
use Rattle.memo.specs.Memo.{set_over}
use Rattle.memo.proofs.NodeWritingLaws.{length-set_over}
use Rattle.nodes.specs.Nodes.{set_from, marked_at, marked_from}
use Rattle.nodes.proofs.LoopLaws.{node_set_at}
use Rattle.nodes.proofs.LoopLaws as loops
use Rattle.nodes.proofs.MarkedSets.{marked_sets, length-marked_sets}

-- the marks begin with these state sets
pub record MarksHolding (size : ℕ) (marks : List ℕ) (rows : List StateSet) (rest : List ℕ) : Type 0 where
  pub words : marks ≡ flatten rows ++ rest
  pub sized : Sized size rows

-- the first n sets of a slice that is long enough
pub holding-stored : (size : ℕ) (marks : List ℕ) (n : ℕ) → n * size ≤ length marks
    → MarksHolding size marks (list_from (stored_set size marks) 0 n) (drop (n * size) marks)
holding-stored size marks n h = record {
  words = stored-split size marks n;
  sized = sized-stored size marks n 0 (rw (zero-add n) h);
}

pub holding-set : (size : ℕ) (marks : List ℕ) (rows : List StateSet) (rest : List ℕ) (k : ℕ) → MarksHolding size marks rows rest
    → k < length rows
    → stored_set size marks k ≡ node_set_at rows k
holding-set size marks rows rest k g l =
    ap (λ (m : List ℕ). stored_set size m k) g.words ∙ stored_set-flatten size rows rest k g.sized l

holding-write : (size : ℕ) (marks : List ℕ) (rows : List StateSet) (rest : List ℕ) (i : ℕ) (v : StateSet)
    → MarksHolding size marks rows rest
    → length v ≡ size → i < length rows → MarksHolding size (paste marks (i * size) v size) (set rows i v) rest
holding-write size marks rows rest i v g e l = record {
  words =
      ap₂ (λ (m : List ℕ) (n : ℕ). paste m (i * size) v n) g.words (sym e)
      ∙ paste-row size rows rest i v g.sized e l;
  sized = sized_set size rows i v g.sized e;
}

module _ (a table ch : List ℕ) where
  abbrev size : ℕ
  size = size_of table

  pub length-set_from : (marks : List ℕ) (i : ℕ) → length (set_from a table ch marks i) ≡ size_of table
  unfolding set_from
  length-set_from marks i = length-set_over table _ marks _

  -- node i's state set from the marks is the one from the list of state sets
  pub set_from-rows : (marks : List ℕ) (rows : List StateSet) (rest : List ℕ) (i : ℕ) → MarksHolding (size_of table) marks rows rest
      → i ≤ length rows
      → i ≤ length ch → set_from a table ch marks i ≡ loops.set_from_sets a table ch i rows
  unfolding set_from set_over node_set loops.set_from_sets
  set_from-rows marks rows rest i g l h =
      ap (state_set (automaton_of table) (symbol_of (get_or ch i 0)))
      (map_below (stored_set size marks) (node_set_at rows) i (children_of a ch i) (children-below (arity a) ch i h)
      (λ k m. holding-set size marks rows rest k g (omega arith)))

  -- node i, worked out and written
  pub marked_at-rows : (marks : List ℕ) (rows : List StateSet) (rest : List ℕ) (i : ℕ) → MarksHolding (size_of table) marks rows rest
      → i < length rows
      → i ≤ length ch → MarksHolding (size_of table) (marked_at a table ch i marks) (set rows i (loops.set_from_sets a table ch i rows)) rest
  unfolding marked_at
  marked_at-rows marks rows rest i g l h =
      rw (← set_from-rows marks rows rest i g (omega arith) h)
      (holding-write size marks rows rest i (set_from a table ch marks i) g (length-set_from marks i) l)

  pub marked_from-rows : (marks : List ℕ) (rows : List StateSet) (rest : List ℕ) (i n : ℕ) → MarksHolding (size_of table) marks rows rest
      → i + n ≤ length rows → i + n ≤ length ch
      → MarksHolding (size_of table) (marked_from a table ch i n marks) (marked_sets a table ch i n rows) rest
  unfolding marked_from marked_sets
  marked_from-rows marks rows rest i zero g l h = g
  marked_from-rows marks rows rest i (suc n) g l h =
      marked_at-rows (marked_from a table ch i n marks) (marked_sets a table ch i n rows) rest (i + n)
      (marked_from-rows marks rows rest i n g (omega arith) (omega arith)) (rw (length-marked_sets a table ch i n rows) (omega arith))
      (omega arith)
