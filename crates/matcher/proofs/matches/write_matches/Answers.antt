-- `matcher::matches::write_matches` meets its contract: the loop keeps that the matches among the first nodes are written.
use native.Mathlib.Omega.{arith}
use Rattle.operations.proofs.AcceptedLaws.{list-accepted}
use Rattle.operations.proofs.MatchLaws.{matches_of-few}
use Rattle.sets.proofs.StoredLaws.{stored-part}
use Rattle.matcher.proofs.AcceptedCallLaws.{list-row}
use Rattle.matcher.proofs.ListingLaws.{found_none, found-more, found-end}
use Rattle.matcher.proofs.matches.write_matches.Goals as goal

pub loop-node-init : goal.loop-node-init
loop-node-init c = found_none _ _ _

-- node i's words lie inside the marks
pub overflow_mul-at : goal.overflow_mul-at
overflow_mul-at c = omega (arith, list-row _ _ _ _ _ c.requires _ c.set_size-size.ensures _ c.loop-node-test.true)

pub overflow_add-at : goal.overflow_add-at
overflow_add-at c = omega (arith, list-row _ _ _ _ _ c.requires _ c.set_size-size.ensures _ c.loop-node-test.true)

pub offset_bounds-marks-at : goal.offset_bounds-marks-at
offset_bounds-marks-at c = omega (arith, list-row _ _ _ _ _ c.requires _ c.set_size-size.ensures _ c.loop-node-test.true)

pub slice_bounds-list_node-end : goal.slice_bounds-list_node-end
slice_bounds-list_node-end c = omega (arith, list-row _ _ _ _ _ c.requires _ c.set_size-size.ensures _ c.loop-node-test.true)

pub list_node-found-requires : goal.list_node-found-requires
list_node-found-requires c =
    let call = list-accepted _ _ _ _ _ c.requires in
    let few = matches_of-few c.args.table.now c.args.marks.now c.loop-node.node in
    let found = c.loop-node.invariant in
    (omega (arith, call.list, found.count, found.long), omega (arith, call.counted.few))

pub loop-node-preserved : goal.loop-node-preserved
loop-node-preserved c =
    let call = list-accepted _ _ _ _ _ c.requires in
    found-more _ _ _ _ _ _ _ _ _ _ c.loop-node.invariant (stored-part _ _ _ c.loop-node.node c.set_size-size.ensures)
    c.final_state-last.ensures (omega (arith, c.loop-node-test.true, call.list)) c.list_node-found.ensures.answer
    c.list_node-found.ensures.list c.list_node-found.auto.list

pub returns : goal.returns
returns c =
    let end = found-end _ _ _ _ _ _ _ c.loop-node.invariant (omega arith) c.loop-node-test.false in record {
      answer = end.count;
      list = end.words;
    }
