-- `totals::nodes::count_hits` meets its contract: before each turn the hits before node i are counted.
use native.Mathlib.Omega.{arith}
use Rattle.totals.proofs.HitLaws.{counting-none, counting-small, counting_more, counting-end}
use Rattle.totals.proofs.nodes.count_hits.Goals as goal

pub loop-i-init : goal.loop-i-init
loop-i-init c = counting-none _ _ _ _ _ c.requires

pub overflow_mul-at : goal.overflow_mul-at
overflow_mul-at c = omega (arith, counting-small c.requires _ c.loop-i-test.true)

pub overflow_add-at : goal.overflow_add-at
overflow_add-at c = omega (arith, counting-small c.requires _ c.loop-i-test.true)

pub offset_bounds-marks-at : goal.offset_bounds-marks-at
offset_bounds-marks-at c = omega (arith, counting-small c.requires _ c.loop-i-test.true)

pub overflow_add-hits : goal.overflow_add-hits
overflow_add-hits c =
    let more =
    counting_more _ _ _ _ _ c.requires _ c.loop-i-test.true _ _
    c.loop-i.invariant c.hit_of-hits.ensures in
    omega (arith, more.few, more.high, c.requires.few)

pub loop-i-preserved : goal.loop-i-preserved
loop-i-preserved c =
    counting_more _ _ _ _ _ c.requires _ c.loop-i-test.true _ _
    c.loop-i.invariant c.hit_of-hits.ensures

pub returns : goal.returns
returns c = counting-end _ _ _ _ _ c.requires _ _ c.loop-i.invariant c.loop-i-test.false
