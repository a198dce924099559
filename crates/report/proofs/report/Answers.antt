-- `report::report` meets its contract: what is written or told is the output, and the output fits the slice, so all of it is
-- written.
use Rattle.report.proofs.ReportLaws.{complete-whole, early-whole, refused-whole}
use Rattle.report.proofs.report.Goals as goal

pub returns-then-not-complete : goal.returns-then-not-complete
returns-then-not-complete c =
    let whole = early-whole c.args.complete _ _ _ c.requires c.if-not-complete.true c.write_refused.ensures in
    record { answer = whole.0; out = whole.1 }

pub returns-in-Ok : goal.returns-in-Ok
returns-in-Ok c =
    let whole = complete-whole c.args.complete _ _ _ c.requires c.if-not-complete.false c.in-Ok.ensures in
    record { answer = whole.0; out = whole.1 }

pub returns-in-Err : goal.returns-in-Err
returns-in-Err c =
    let told = rw c.into.ensures at c.write_refused-in-Err.ensures in
    let whole = refused-whole c.args.complete _ _ _ c.requires _ c.if-not-complete.false c.in-Err.ensures told in
    record { answer = whole.0; out = whole.1 }
