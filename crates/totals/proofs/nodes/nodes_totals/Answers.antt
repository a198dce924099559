-- `totals::nodes::nodes_totals` meets its contract: the hits are counted node by node, and the ones in the part of the marks that is
-- theirs.
use native.Mathlib.Omega.{arith}
use Rattle.totals.proofs.HitLaws.{rows-countable, part-order, part_small, part-few, part-totals, part-fits}
use Rattle.totals.proofs.nodes.nodes_totals.Goals as goal

pub count_hits-hits-requires : goal.count_hits-hits-requires
count_hits-hits-requires c = rows-countable c.requires _ c.set_size-size.ensures

pub overflow_mul-begin : goal.overflow_mul-begin
overflow_mul-begin c =
    let size = c.set_size-size.ensures in
    omega (arith, part-order c.requires _ size, part_small c.requires _ size)

pub overflow_mul-end : goal.overflow_mul-end
overflow_mul-end c = omega (arith, part_small c.requires _ c.set_size-size.ensures)

pub offset_bounds-marks-begin : goal.offset_bounds-marks-begin
offset_bounds-marks-begin c =
    let size = c.set_size-size.ensures in
    omega (arith, part-order c.requires _ size, part_small c.requires _ size)

pub slice_bounds-count_cells-count : goal.slice_bounds-count_cells-count
slice_bounds-count_cells-count c = part-order c.requires _ c.set_size-size.ensures

pub count_cells-cells-requires : goal.count_cells-cells-requires
count_cells-cells-requires c =
    part-few c.requires _ c.set_size-size.ensures _

pub overflow_cast-result-2 : goal.overflow_cast-result-2
overflow_cast-result-2 c =
    let few =
    part-fits c.args.table.now c.args.marks.now c.args.from c.args.to _ _ _ _ c.set_size-size.ensures
    c.final_state-last.ensures c.count_hits-hits.ensures c.count_cells-cells.ensures c.requires
    (λ i. (c.type_inv.marks i).fits) in
    omega (arith, few.hits_few)

pub overflow_cast-result-3 : goal.overflow_cast-result-3
overflow_cast-result-3 c =
    let few =
    part-fits c.args.table.now c.args.marks.now c.args.from c.args.to _ _ _ _ c.set_size-size.ensures
    c.final_state-last.ensures c.count_hits-hits.ensures c.count_cells-cells.ensures c.requires
    (λ i. (c.type_inv.marks i).fits) in
    omega (arith, few.cells-few)

pub returns : goal.returns
returns c =
    part-totals c.args.table.now c.args.marks.now c.args.from c.args.to _ _ _ _ c.set_size-size.ensures
    c.final_state-last.ensures c.count_hits-hits.ensures c.count_cells-cells.ensures
