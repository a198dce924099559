-- `report::report_hits` meets its contract: List accepts the marks that Run left, and the lines are those of what it names.
use mathlib.Core.Path.{sym}
use native.Mathlib.Omega.{arith}
use lib.Seq.{length-take-le}
use Rattle.report.proofs.ReportLaws.{hits-most, elements-few, never-refused, lines-written}
use Rattle.report.proofs.report_hits.Goals as goal

pub slice_bounds-hits-end : goal.slice_bounds-hits-end
slice_bounds-hits-end c = let n = hits-most _ _ _ _ c.in_ok-count.ensures.answer in omega arith

pub slice_bounds-write_lines-end : goal.slice_bounds-write_lines-end
slice_bounds-write_lines-end c =
    let n = hits-most _ _ _ _ c.in_ok-count.ensures.answer in
    sym (length-take-le c.in_ok-count.count c.list.new.list (omega arith))

pub write_lines-requires : goal.write_lines-requires
write_lines-requires c = elements-few _ _ _ _ c.in_ok-count.ensures.answer

pub returns : goal.returns
returns c = λ rule m.
    lines-written m c.in_ok-count.ensures.answer c.list.ensures.list c.state_count-states.ensures c.write_lines.ensures

pub returns-in_err-count : goal.returns-in_err-count
returns-in_err-count c = λ rule m. absurd (never-refused m c.in_err-count.ensures.answer)
