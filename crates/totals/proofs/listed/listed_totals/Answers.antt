-- `totals::listed::listed_totals` meets its contract: the totals of both parts together are those of all the nodes.
use Rattle.totals.proofs.ListedTotals.{numbers-countable, listed-addable, listed-sum}
use Rattle.totals.proofs.listed.listed_totals.Goals as goal

pub numbers_totals-listed-requires : goal.numbers_totals-listed-requires
numbers_totals-listed-requires c =
    let args = c.args in
    numbers-countable args.table.now args.marks.now args.from args.to args.list.now _ _ c.set_size-size.ensures
    c.final_state-last.ensures c.requires

pub add_totals-requires : goal.add_totals-requires
add_totals-requires c =
    let args = c.args in
    listed-addable args.table.now args.marks.now args.from args.to args.list.now _ _
    c.set_size-size.ensures c.final_state-last.ensures _ _ c.nodes_totals-run.ensures
    c.numbers_totals-listed.ensures c.requires (λ i. (c.type_inv.marks i).fits)

pub returns : goal.returns
returns c =
    let args = c.args in
    listed-sum args.table.now args.marks.now args.from args.to args.list.now _ _
    c.set_size-size.ensures c.final_state-last.ensures _ _
    c.nodes_totals-run.ensures c.numbers_totals-listed.ensures _ c.add_totals.ensures
