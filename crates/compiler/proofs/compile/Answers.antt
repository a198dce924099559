-- `compiler::compile` meets its contract: where no refusal applies the table fits the slice, and the words behind it stay.
use Rattle.std.proofs.lemmas.Result.{err_from_is_err_and}
use Rattle.compiler.proofs.FaultLaws.{compile-refused, compile-accepts}
use Rattle.compiler.proofs.compile.Goals as goal

pub returns-in_err-compile_fault : goal.returns-in_err-compile_fault
returns-in_err-compile_fault c =
    let both = compile-refused _ _ _ _ c.in_err-compile_fault.ensures in
    let p = err_from_is_err_and c.from_residual.result c.from_residual.ensures.1 in
    record { answer = rw (p.1, p.2) both.0; table = both.1 }

pub returns : goal.returns
returns c =
    let w = c.write_table.ensures in
    let both = compile-accepts _ _ _ c.in_ok-compile_fault.ensures _ _ w.next w.words in
    record { answer = both.0; table = both.1 }
