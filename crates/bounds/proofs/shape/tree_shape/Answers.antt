-- `bounds::shape::tree_shape` meets its contract: the check alone tells it, or a bound that the runs give holds for the tree.
use Rattle.bounds.proofs.ShapeLaws.{shape-bounded}
use Rattle.bounds.proofs.shape.tree_shape.Goals as goal

pub returns-in-Some : goal.returns-in-Some
returns-in-Some c =
    shape-bounded _ _ _ c.write_ranks.ensures _ c.in-Some.ensures _ c.min.ensures
