-- `report::report_chapter` meets its contract: each return writes or answers what the laws of Run say of its answer.
use mathlib.Core.Path.{refl}
use native.Mathlib.Omega.{arith}
use Rattle.std.proofs.lemmas.Result.{err_from_is_err_and}
use Rattle.report.proofs.ReportLaws.{refused-ran, marked}
use Rattle.report.proofs.report_chapter.Goals as goal

pub returns : goal.returns
returns c = λ rule t.
    c.report_hits.ensures rule
    (marked t _ (omega arith) c.in_ok-run_counted.ensures.answer c.run_counted.ensures.marks)

pub returns-in_err-run_counted : goal.returns-in_err-run_counted
returns-in_err-run_counted c = λ rule t.
    let p = err_from_is_err_and c.from_residual.result c.from_residual.ensures.1 in
    rw (p.1, p.2) (refused-ran t _ (omega arith) _ c.in_err-run_counted.ensures.answer, refl)
