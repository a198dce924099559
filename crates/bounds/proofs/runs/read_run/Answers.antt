-- `bounds::runs::read_run` meets its contract: all words are elements, and the loop keeps that the words so far have their children, and
-- how high the trees are that they leave.
use Rattle.std.proofs.Common.{refl}
use Rattle.bounds.proofs.RunLaws.{so-far-none, so_far_more, so-far-end}
use Rattle.bounds.proofs.runs.read_run.Goals as goal

pub loop-word-init : goal.loop-word-init
loop-word-init c = so-far-none _ _ _

pub loop-word-preserved : goal.loop-word-preserved
loop-word-preserved c =
    so_far_more c.loop-word.invariant c.requires c.loop-word-test.true _ c.count_elements.ensures
    c.if-count_elements-words.false _ refl c.if-made-children.false _ c.wrapping_add_u32-made.ensures.value _ c.from-joined.ensures _ c.min-low.ensures

pub returns : goal.returns
returns c = so-far-end c.loop-word.invariant c.requires c.loop-word-test.false
