-- `compiler::rule_fault` meets its contract: the states of an accepted rule are counted, and a rule's refusal
-- stands behind those of its alphabet.
use mathlib.Core.Path.{refl, sym}
use Rattle.std.proofs.lemmas.Result.{err_from_is_err_and}
use Rattle.words.specs.Alphabet.{alphabet_refusals}
use Rattle.words.specs.ExpressionWords.{expression_refusals}
use Rattle.words.proofs.RefusalLaws.{found-refusal, refuses, passes}
use Rattle.operations.specs.Compile.{rule_refusals}
use Rattle.compiler.proofs.FaultLaws.{number-some}
use Rattle.words.proofs.AcceptedAlphabet.{alphabet-accepted}
use Rattle.words.proofs.AcceptedExpression.{expression-accepted}
use Rattle.compiler.proofs.AcceptedRuleLaws.{states-countable}
use Rattle.compiler.proofs.rule_fault.Goals as goal

pub states_after-states-requires : goal.states_after-states-requires
states_after-states-requires c =
    record {
      states_countable =
          states-countable _ _ (alphabet-accepted _ (sym c.in_ok-alphabet_fault.ensures)) c.count_constants-count.ensures;
      expression_len_bound = (expression-accepted _ _ (sym c.in_ok-expression_fault.ensures)).counted.few;
    }

pub returns-in_err-expression_fault : goal.returns-in_err-expression_fault
returns-in_err-expression_fault c =
    let p = err_from_is_err_and c.from_residual-in_err-expression_fault.result c.from_residual-in_err-expression_fault.ensures.1 in
    rw (p.1, p.2)
    (found-refusal (rule_refusals c.args.alphabet.now c.args.expression.now)
    (passes (alphabet_refusals _) refl c.in_ok-alphabet_fault.ensures refl
    (refuses (expression_refusals _ _) _ c.in_err-expression_fault.ensures (number-some _))))
