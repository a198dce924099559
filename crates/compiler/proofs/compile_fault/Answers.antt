-- `compiler::compile_fault` meets its contract: the refusals of a rule stand before those of its table.
use Rattle.std.proofs.lemmas.Result.{err_from_is_err_and}
use Rattle.words.proofs.RefusalLaws.{found-refusal, refuses}
use Rattle.operations.specs.Compile.{rule_refusals, compile_refusals}
use Rattle.compiler.proofs.FaultLaws.{number-some}
use Rattle.compiler.proofs.compile_fault.Goals as goal

pub returns-in_err-rule_fault : goal.returns-in_err-rule_fault
returns-in_err-rule_fault c =
    let p = err_from_is_err_and c.from_residual.result c.from_residual.ensures.1 in
    rw (p.1, p.2)
    (found-refusal (compile_refusals c.args.alphabet.now c.args.expression.now c.args.table_length)
    (refuses (rule_refusals _ _) _ c.in_err-rule_fault.ensures (number-some _)))
