-- `forecast::tree::tree_totals` meets its contract: before each node the totals of those so far are counted, and the sets of the pending
-- roots are on the pile.
use mathlib.Core.Path.{refl}
use Rattle.forecast.proofs.TreeLaws.{value-front, value-inside, value-size, value-short, counting-none, small-set}
use Rattle.forecast.proofs.TreeLaws.{counting-steppable, counting-addable, counting_more, counting-totals, counting-root}
use Rattle.forecast.proofs.tree.tree_totals.Goals as goal

pub loop-w-init : goal.loop-w-init
loop-w-init c = counting-none c.requires refl c.default-totals.ensures

pub step-set-requires : goal.step-set-requires
step-set-requires c = counting-steppable c.requires c.loop-w.invariant c.loop-w-test.true

pub slice_bounds-set-end : goal.slice_bounds-set-end
slice_bounds-set-end c =
    value-inside _ _ (small-set c.requires) _ _ _ c.step-set.ensures.answer _ c.set_size-size.ensures

pub slice_bounds-add_set-end : goal.slice_bounds-add_set-end
slice_bounds-add_set-end c =
    value-size _ _ (small-set c.requires) _ _ _ c.step-set.ensures.answer _ c.set_size-size.ensures

pub add_set-totals-requires : goal.add_set-totals-requires
add_set-totals-requires c =
    counting-addable c.requires c.loop-w.invariant c.loop-w-test.true
    (value-short _ _ (small-set c.requires) _ _ _ c.step-set.ensures.answer _ c.set_size-size.ensures)

pub loop-w-preserved : goal.loop-w-preserved
loop-w-preserved c =
    counting_more c.requires c.loop-w.invariant c.loop-w-test.true c.step-set.ensures.height
    c.step-set.ensures.sets c.step-set.ensures.kept _
    (value-front _ _ (small-set c.requires) _ _ _ c.step-set.ensures.answer _ c.set_size-size.ensures) c.add_set-totals.ensures.answer
    c.add_set-totals.ensures.plausible

pub returns : goal.returns
returns c = let g = c.loop-w.invariant in
    let pre = c.requires in
    record { answer = counting-totals pre g c.loop-w-test.false; plausible = g.plausible; root = counting-root pre g c.loop-w-test.false; kept = g.kept }
