-- `report::report_rule` meets its contract: Compile's refusals are told, and its table is that of the rule.
use mathlib.Core.Path.{refl}
use Rattle.std.proofs.lemmas.Result.{err_from_is_err_and}
use Rattle.report.proofs.ReportLaws.{refused-compiled}
use Rattle.report.proofs.report_rule.Goals as goal

pub returns-in_err-compile : goal.returns-in_err-compile
returns-in_err-compile c =
    let p = err_from_is_err_and c.from_residual.result c.from_residual.ensures.1 in
    rw (p.1, p.2) (refused-compiled _ _ _ _ c.in_err-compile.ensures.answer, refl)
