-- `slices::moves::move_up` meets its contract: a word is read below the places that are written already, so it is still as it was.
use Rattle.slices.proofs.MoveLaws.{moved_up-none, moved_up-more, moved_up-end}
use Rattle.slices.proofs.moves.move_up.Goals as goal

pub loop-k-init : goal.loop-k-init
loop-k-init c = moved_up-none _ _ _ _ c.requires.movable c.requires.from_le_to

pub loop-k-preserved : goal.loop-k-preserved
loop-k-preserved c =
    moved_up-more _ _ _ _ c.requires.movable c.requires.from_le_to _ _ c.loop-k.invariant c.loop-k-test.true

pub returns : goal.returns
returns c = moved_up-end _ _ _ _ c.requires.movable c.requires.from_le_to _ _ c.loop-k.invariant c.loop-k-test.false
