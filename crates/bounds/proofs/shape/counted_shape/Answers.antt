-- `bounds::shape::counted_shape` meets its contract: the check tells the fault, no tree is higher than it has words, and every word is
-- looked at for a hole.
use Rattle.bounds.proofs.ShapeLaws.{shape-counted}
use Rattle.bounds.proofs.shape.counted_shape.Goals as goal

pub returns : goal.returns
returns c = shape-counted _ _ _ c.tree_fault-fault.ensures _ c.holes_in-holes.ensures _ c.and.ensures
