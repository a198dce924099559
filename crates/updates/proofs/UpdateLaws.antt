-- Laws of the steps that bring marks up to date: what each step asks, shown of what the first one asks, and what they give
-- together.
use mathlib.Core.Path.{◌≡◌, refl, ap, ◌∙◌}
use mathlib.Core.List.{List, reverse}
use Prim.Native.Nat.{ℕ, ◌-◌}
use native.Mathlib.Omega.{arith}
use lib.ListN.{length, replicate}
use Rattle.words.specs.Postfix.{roots_of}
use Rattle.index.specs.Index.{index_length, index_of, Indexable}
use Rattle.memo.specs.declared.Memo.{Memo}
use Rattle.nodes.specs.declared.stack.Roots.{Roots}
use Rattle.nodes.specs.declared.marking.Marking.{Marking}
use Rattle.nodes.specs.Nodes.{stack_length, Held, Stackable, marked_from}
use Rattle.nodes.specs.Marking.{Maintained, NodesMarkable, empty_memo}
use Rattle.nodes.proofs.WorkableLaws.{table-few, workable-long, bounded-tree}
use Rattle.nodes.proofs.NodeLoopLaws.{nothing-maintained}
use Rattle.propagation.specs.Propagation.{propagate_from, initial, PropagationStartable}
use Rattle.updates.specs.Updating.{updated_from, Updatable}

module _ {a table ch : List ℕ} {start root : ℕ} {marks : List ℕ} (g : Updatable a table ch start root marks) where
  pub nodes-index : Indexable table (replicate index_length 0)
  nodes-index = record { few = table-few g.workable; zeros = refl }

  pub nodes-stack : Stackable a ch start (replicate stack_length 0)
  nodes-stack =
      let order = g.order in
      let inside = g.inside in
      record { tree = bounded-tree g.workable; within = omega arith; zeros = refl }

  pub nodes-marks : {index : List ℕ} → index ≡ index_of table → {roots : Roots} {memo : Memo} → memo ≡ empty_memo
      → Held roots.nodes roots.height (reverse (roots_of a ch start))
      → NodesMarkable a table index ch start root marks (record { roots = roots; memo = memo })
  nodes-marks q e s =
      let order = g.order in
      let inside = g.inside in
      record {
        workable = g.workable;
        indexed = q;
        order = order;
        inside = omega arith;
        maintained = rw e (nothing-maintained (omega arith) s);
      }

  pub nodes-propagate : {index : List ℕ} → index ≡ index_of table
      → {marks' : List ℕ} {marking : Marking}
      → length marks' ≡ length marks → Maintained a table ch root marks' marking
      → PropagationStartable a table index ch root marks' marking (root - start)
  nodes-propagate q m p =
      let inside = g.inside in
      let few = (bounded-tree g.workable).few in
      record {
        nodes = record {
          workable = workable-long m g.workable;
          indexed = q;
          order = omega arith;
          inside = omega arith;
          maintained = p;
        };
        few = omega arith;
      }

pub nodes-updated : (a table ch : List ℕ) (start root : ℕ) (marks work : List ℕ) → work ≡ marked_from a table ch start (root - start) marks
    → (r : List ℕ × ℕ) → r ≡ propagate_from a table ch root (length ch - root) work (initial (root - start))
    → r ≡ updated_from a table ch start root marks
unfolding updated_from
nodes-updated a table ch start root marks work w r p =
    p ∙ ap (λ (m : List ℕ). propagate_from a table ch root (length ch - root) m (initial (root - start))) w
