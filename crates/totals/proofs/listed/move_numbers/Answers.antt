-- `totals::listed::move_numbers` meets its contract: before each turn the first k numbers are moved.
use native.Mathlib.Omega.{arith}
use Rattle.totals.proofs.MovedNumbers.{moved_none, moved_at, moved_more, moved-end}
use Rattle.totals.proofs.listed.move_numbers.Goals as goal

pub loop-number-init : goal.loop-number-init
loop-number-init c = moved_none _ _ _

pub overflow_sub-number : goal.overflow_sub-number
overflow_sub-number c =
    (moved_at _ _ _ _ _ c.loop-number.invariant c.loop-number-test.true c.requires).0

pub overflow_add-number : goal.overflow_add-number
overflow_add-number c =
    let at = moved_at _ _ _ _ _ c.loop-number.invariant c.loop-number-test.true c.requires in
    omega (arith, at.1)

pub overflow_cast-number-in-loop-number : goal.overflow_cast-number-in-loop-number
overflow_cast-number-in-loop-number c =
    let at = moved_at _ _ _ _ _ c.loop-number.invariant c.loop-number-test.true c.requires in
    omega (arith, at.1)

pub loop-number-preserved : goal.loop-number-preserved
loop-number-preserved c = moved_more _ _ _ _ _ c.loop-number.invariant c.loop-number-test.true

pub shape_of-list : goal.shape_of-list
shape_of-list c = c.loop-number.invariant.long

pub returns : goal.returns
returns c = moved-end _ _ _ _ _ c.loop-number.invariant c.loop-number-test.false
