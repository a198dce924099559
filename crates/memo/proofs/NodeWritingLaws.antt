-- A node's words are written: where they are worked out, what the parts of this ask, and that the marks and the representative
-- are right; and a set of one word that is copied.
use mathlib.Core.Path.{◌≡◌, ap, ap₂, ◌∙◌, sym}
use mathlib.Core.List.{List, ◌++◌}
use Prim.Native.Nat.{ℕ, ◌+◌, ◌-◌, ◌*◌, ◌≤◌}
use native.Mathlib.Omega.{arith}
use native.Mathlib.Nat.{mul-one}
use lib.ListN.{length, take, drop, replicate, length-append}
use lib.Seq.{paste, take_at}
use Rattle.automaton.specs.Transition.{automaton_of}
use Rattle.automaton.specs.StateSet.{StateSet, state_set}
use Rattle.automaton.proofs.SetLength.{length-state_set}
use Rattle.operations.specs.Marks.{size_of, stored_set}
use Rattle.sets.specs.Copyable.{Copyable}
use Rattle.sets.specs.Size.{set_most}
use Rattle.sets.proofs.StoredLaws.{stored-written, stored-before}
use Rattle.sets.proofs.SizeLaws.{set-small}
use Rattle.step.specs.NodeSteppable.{child_sets}
use Rattle.memo.specs.declared.Memo.{Memo as MemoWords}
use Rattle.memo.specs.Memo.{set_over, Represents, itself, earlier, NewMarkable, MarkedNew}

pub length-set_over : (table : List ℕ) (f : ℕ) (marks cs : List ℕ) → length (set_over table f marks cs) ≡ size_of table
unfolding set_over size_of
length-set_over table f marks cs = length-state_set _ f _

pub size_few : {table index : List ℕ} {f : ℕ} {marks cs : List ℕ} {i : ℕ} {words : MemoWords}
    → NewMarkable table index f marks cs i words
    → size_of table ≤ set_most
size_few {table} g = let r = g.steppable.node.indexed in set-small r.alphabet table r.checked

module _ {table index : List ℕ} {f : ℕ} {marks cs : List ℕ} {i : ℕ} {words : MemoWords}
    (g : NewMarkable table index f marks cs i words)
    (set : StateSet) (e : set ≡ state_set (automaton_of table) f (child_sets (size_of table) marks cs) ++ replicate (set_most - size_of table) 0)
    (size : ℕ) (s : size ≡ size_of table) where
  abbrev v : StateSet
  v = set_over table f marks cs

  set_is : set ≡ set_over table f marks cs ++ replicate (set_most - size_of table) 0
  unfolding set_over
  set_is = e

  set_front : take size set ≡ set_over table f marks cs
  set_front = ap (take size) set_is ∙ take_at v _ size (length-set_over table f marks cs ∙ sym s)

  pub set-length : size ≡ length (take size set)
  set-length = sym (ap length set_front ∙ length-set_over table f marks cs ∙ sym s)

  pub set_long : size ≤ length set
  set_long =
      let n = length-set_over table f marks cs in
      rw (set_is, length-append v (replicate (set_most - size_of table) 0)) (omega arith)

  pub set-fits : i * size + length (take size set) ≤ length marks
  set-fits = rw (← set-length, s) g.row

  pub set_new : (r : ℕ) → Represents marks (take size set) i r → (marks' : List ℕ)
      → marks' ≡ paste marks (i * size) (take size set) (length (take size set)) → MarkedNew table f marks cs i marks' r
  set_new r p marks' q = go p
    where
      written : marks' ≡ paste marks (i * size_of table) (set_over table f marks cs) (size_of table)
      written =
          q ∙ ap₂ (λ (l : List ℕ) (n : ℕ). paste marks (i * size) l n) set_front (sym set-length)
          ∙ ap (λ (n : ℕ). paste marks (i * n) v n) s

      go : Represents marks (take size set) i r → MarkedNew table f marks cs i marks' r
      go (itself h) = record {
        words = written;
        low = omega arith;
        same =
            ap₂ (λ (l : List ℕ) (j : ℕ). stored_set (size_of table) l j) written h
            ∙ stored-written (size_of table) marks i v (length-set_over table f marks cs) g.row;
      }
      go (earlier h t) = record {
        words = written;
        low = omega arith;
        same =
            ap (λ (l : List ℕ). stored_set (size_of table) l r) written
            ∙ stored-before (size_of table) marks i v (length-set_over table f marks cs) g.row r h
            ∙ ap (λ (n : ℕ). stored_set n marks r) (sym s ∙ set-length) ∙ t ∙ set_front;
      }

-- ---- a set of one word is copied

module _ (marks : List ℕ) (node i size : ℕ) (g : Copyable marks (node * size) (i * size) size) (e : size ≡ 1) where
  times-one : (n : ℕ) → n * size ≡ n
  times-one n = ap (λ (k : ℕ). n * k) e ∙ mul-one n

  pub one-copied : (marks' : List ℕ) → marks' ≡ paste marks i (take 1 (drop node marks)) 1
      → marks' ≡ paste marks (i * size) (take size (drop (node * size) marks)) size
  one-copied marks' q =
      q ∙ ap (λ (n : ℕ). paste marks i (take n (drop node marks)) n) (sym e)
      ∙ ap₂ (λ (j k : ℕ). paste marks j (take size (drop k marks)) size) (sym (times-one i)) (sym (times-one node))
