-- `propagation::propagate` meets its contract: the loop keeps that what is still to be done gives what the whole gives, and that the stack
-- and what is kept from node to node are right.
use mathlib.Core.Path.{◌∙◌}
use Rattle.propagation.proofs.ProgressLaws.{propagating-none, propagating-at}
use Rattle.propagation.proofs.ProgressLaws.{propagating-stops, propagating-more, propagating-end}
use Rattle.propagation.proofs.propagate.Goals as goal

pub loop-i-init : goal.loop-i-init
loop-i-init c = propagating-none c.requires

pub propagate_node-requires : goal.propagate_node-requires
propagate_node-requires c = propagating-at c.requires c.loop-i.invariant c.loop-i-test.true

pub shape_of-marks-in-Break : goal.shape_of-marks-in-Break
shape_of-marks-in-Break c = c.propagate_node.auto.marks ∙ c.loop-i.invariant.marks-long

pub returns-in-Break : goal.returns-in-Break
returns-in-Break c = propagating-stops c.requires c.loop-i.invariant c.loop-i-test.true c.in-Break.ensures.marks

pub loop-i-preserved : goal.loop-i-preserved
loop-i-preserved c =
    propagating-more c.requires c.loop-i.invariant c.loop-i-test.true c.in-Continue.ensures.marks c.propagate_node.auto.marks
    c.in-Continue.ensures.maintained

pub shape_of-marks : goal.shape_of-marks
shape_of-marks c = c.loop-i.invariant.marks-long

pub returns : goal.returns
returns c = propagating-end c.requires c.loop-i.invariant c.loop-i-test.false
