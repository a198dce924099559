-- `sets::whole::count_cells` meets its contract: before each turn the words of the pairs so far are counted; one may be left.
use Rattle.std.proofs.Common.{◌≡◌, ℕ, ◌*◌, ◌/◌, length, drop, arith, ap, ◌∙◌}
use borrow.Author.Rules.{rules}
use borrow.Author.Tests.{tests}
use Rattle.sets.proofs.CellCountLaws.{summed-none, summed-more, summed-end, last-cells}
use Rattle.sets.proofs.whole.count_cells.Goals as goal

pub loop-pair-init : goal.loop-pair-init
loop-pair-init c = summed-none _

pub loop-pair-preserved : goal.loop-pair-preserved
loop-pair-preserved c =
    let taken = c.loop-pair-test.true in
    let pairs = c.as_chunks.ensures.front_len in
    summed-more _ _ _ _ _ c.as_chunks.ensures.front c.loop-pair.invariant (omega arith) (λ k. (c.type_inv.words k).fits)
    c.count_pair-cells.ensures

pub returns : goal.returns
returns c =
    let ended = c.loop-pair-test.false in
    let most = c.loop-pair.auto.pair-index-end in
    let pairs = c.as_chunks.ensures.front_len in
    let left = c.as_chunks.ensures.back_len in
    let k : length c.args.words.now / 2 * 2 ≡ 2 * c.loop-pair.pair-index = omega arith in
    summed-end _ _ _ _ _ c.loop-pair.invariant (c.as_chunks.ensures.back ∙ ap (λ (i : ℕ). drop i c.args.words.now) k)
    (last-cells _ (omega arith) _ _ _ c.first.ensures.item c.map_or.ensures (λ x k. search (rules, tests)))
