-- `propagation::recompute` meets its contract: the words that the node gets are compared with those that stood there and are
-- kept beside.
use native.Mathlib.Omega.{arith}
use Prim.Native.Nat.{ℕ}
use lib.ListN.{length-replicate}
use Rattle.sets.specs.Size.{set_most}
use Rattle.propagation.proofs.PropagateNodeLaws.{row_fits, row_small, row-few, row-part, before-length, node-recomputed}
use Rattle.propagation.proofs.recompute.Goals as goal

pub overflow_mul-at : goal.overflow_mul-at
overflow_mul-at c = let l = row_small c.requires _ c.set_size-size.ensures in omega arith

pub overflow_add-at : goal.overflow_add-at
overflow_add-at c = let l = row_small c.requires _ c.set_size-size.ensures in omega arith

pub offset_bounds-marks-at : goal.offset_bounds-marks-at
offset_bounds-marks-at c = let l = row_small c.requires _ c.set_size-size.ensures in omega arith

pub slice_bounds-write_set-end-2 : goal.slice_bounds-write_set-end-2
slice_bounds-write_set-end-2 c = row_fits c.requires _ c.set_size-size.ensures

pub write_set-requires : goal.write_set-requires
write_set-requires c = row-part c.requires _ c.set_size-size.ensures

pub slice_bounds-before-end : goal.slice_bounds-before-end
slice_bounds-before-end c =
    omega (arith, row-few c.requires _ c.set_size-size.ensures, c.write_set.auto.part, length-replicate {A = ℕ} set_most 0)

pub slice_bounds-same_words-end-2 : goal.slice_bounds-same_words-end-2
slice_bounds-same_words-end-2 c = before-length c.requires _ c.set_size-size.ensures _ _ c.write_set.ensures

pub returns : goal.returns
returns c = record {
  marks =
      node-recomputed c.requires _ c.set_size-size.ensures _ _ c.write_set.ensures _ c.mark_node.ensures.marks _
      c.same_words.ensures;
  maintained = c.mark_node.ensures.maintained;
}
