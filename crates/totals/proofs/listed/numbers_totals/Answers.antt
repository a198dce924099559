-- `totals::listed::numbers_totals` meets its contract: before each turn the first k nodes of the list are counted.
use Prim.Native.Nat.{◌+◌}
use native.Mathlib.Omega.{arith}
use Rattle.totals.proofs.ListedTotals.{counted_none, counted-small, counted-part, hits_next, cells-next, hits-small, cells-small, counted-end}
use Rattle.totals.proofs.listed.numbers_totals.Goals as goal

pub loop-number-init : goal.loop-number-init
loop-number-init c = counted_none _ _ _ _

pub overflow_cast-at : goal.overflow_cast-at
overflow_cast-at c = omega (arith, c.type_inv.list c.loop-number.number-index)

pub overflow_mul-at : goal.overflow_mul-at
overflow_mul-at c = omega (arith, counted-small c.args.marks.now c.args.size c.args.last c.args.list.now c.requires _ c.loop-number-test.true)

pub overflow_add-set : goal.overflow_add-set
overflow_add-set c = omega (arith, counted-small c.args.marks.now c.args.size c.args.last c.args.list.now c.requires _ c.loop-number-test.true)

pub offset_bounds-marks-at : goal.offset_bounds-marks-at
offset_bounds-marks-at c = omega (arith, counted-small c.args.marks.now c.args.size c.args.last c.args.list.now c.requires _ c.loop-number-test.true)

pub overflow_add-hits : goal.overflow_add-hits
overflow_add-hits c =
    let a = c.args in
    let k = c.loop-number.number-index in
    let more =
    hits_next a.marks.now a.size a.last a.list.now c.requires k c.loop-number-test.true _ _
    c.loop-number.invariant.same-hits c.hit_of-hits.ensures in
    omega (arith, hits-small a.marks.now a.size a.last a.list.now c.requires (k + 1) _ more)

pub count_cells-cells-requires : goal.count_cells-cells-requires
count_cells-cells-requires c =
    let a = c.args in
    counted-part a.marks.now a.size a.last a.list.now c.requires _ c.loop-number-test.true

pub overflow_add-cells : goal.overflow_add-cells
overflow_add-cells c =
    let a = c.args in
    let k = c.loop-number.number-index in
    let more =
    cells-next a.marks.now a.size a.last a.list.now c.requires k c.loop-number-test.true _ _
    c.loop-number.invariant.same-cells c.count_cells-cells.ensures in
    omega (
      arith,
      cells-small a.marks.now a.size a.last a.list.now c.requires (k + 1)
          (λ i. (c.type_inv.marks i).fits) _ more,
    )

pub loop-number-preserved : goal.loop-number-preserved
loop-number-preserved c =
    let a = c.args in
    let inv = c.loop-number.invariant in
    record {
      high = omega (arith, c.loop-number-test.true);
      same-hits =
          hits_next a.marks.now a.size a.last a.list.now c.requires _ c.loop-number-test.true _ _
          inv.same-hits c.hit_of-hits.ensures;
      same-cells =
          cells-next a.marks.now a.size a.last a.list.now c.requires _ c.loop-number-test.true _ _
          inv.same-cells c.count_cells-cells.ensures;
    }

pub overflow_cast-result : goal.overflow_cast-result
overflow_cast-result c = omega (arith, c.requires.short)

pub overflow_cast-result-2 : goal.overflow_cast-result-2
overflow_cast-result-2 c =
    let a = c.args in
    let loop = c.loop-number in
    omega (
      arith,
      hits-small a.marks.now a.size a.last a.list.now c.requires loop.number-index loop.hits loop.invariant.same-hits,
    )

pub overflow_cast-result-3 : goal.overflow_cast-result-3
overflow_cast-result-3 c =
    let a = c.args in
    let loop = c.loop-number in
    omega (
      arith,
      cells-small a.marks.now a.size a.last a.list.now c.requires loop.number-index
          (λ i. (c.type_inv.marks i).fits) loop.cells loop.invariant.same-cells,
    )

pub returns : goal.returns
returns c = counted-end _ _ _ _ _ _ _ c.loop-number.invariant c.loop-number-test.false
