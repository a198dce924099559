-- What is known of an accepted Compile: the table in the slice is that of the numbered automaton, which is one over
-- the alphabet, and the decoder reads that automaton back.
use Prim.Native.Nat.{ℕ, ◌≤◌}
use mathlib.Core.Path.{◌≡◌}
use mathlib.Core.Bool.{true}
use mathlib.Core.List.{List, [], ◌∷◌}
use native.Mathlib.Omega.{arith}
use lib.ListN.{length, drop}
use Rattle.words.specs.Limits.{alphabet_most, table_most}
use Rattle.words.specs.ExactlyOne.{ExactlyOne}
use Rattle.words.specs.Answer.{accepted}
use Rattle.words.proofs.AcceptedAlphabet.{alphabet-accepted}
use Rattle.words.proofs.AcceptedExpression.{expression-accepted}
use Rattle.words.proofs.AnswerLaws.{accepted-values}
use Rattle.language.specs.Expression.{ExpressionOf}
use Rattle.language.proofs.ExpressionLaws.{exactly-one-expression}
use Rattle.automaton.specs.Transition.{automaton_of}
use Rattle.automaton.specs.Numbering.{compiled}
use Rattle.automaton.specs.Table.{table_in, is_table, AutomatonOver}
use Rattle.automaton.proofs.DecodeLaws.{automaton_of-words}
use Rattle.automaton.proofs.CompiledOver.{compiled-over}
use Rattle.automaton.proofs.CompiledTable.{compiled-is_table}
use Rattle.automaton.proofs.TableLaws.{is_table-in}
use Rattle.operations.specs.Compile.{compiled_table, compile_fault, compile_answer, compile_exit}
use Rattle.operations.proofs.AcceptedLaws.{rule-accepted, compile-accepted}

-- an accepted call that answers k
pub record CompileResult (a e slice : List ℕ) (k : ℕ) : Type 0 where
  pub few : length a ≤ alphabet_most
  pub expression : ExactlyOne (ExpressionOf a e)
  pub over : AutomatonOver a (compiled a e)
  pub count : k ≡ length (compiled_table a e)
  -- "A rule that Compile accepts becomes exactly the numbered Thompson tree automaton of the rules."
  pub table : table_in (compile_exit a e slice) ≡ compiled_table a e
  pub automaton : automaton_of (compiled_table a e) ≡ compiled a e
  -- 8 lets it pass
  pub checked : is_table a (compiled_table a e) ≡ true
  -- 25 does not apply
  pub most : length (compiled_table a e) ≤ table_most

pub compile-result : (a e slice : List ℕ) (k : ℕ) → compile_answer a e slice ≡ accepted (k ∷ []) → CompileResult a e slice k
unfolding compile_answer compile_exit
compile-result a e slice k h =
    let v = accepted-values (compile_fault a e (length slice)) (length (compiled_table a e) ∷ []) (k ∷ []) h in
    let t = (compile-accepted a e (length slice) v.0).rule_table in
    let f = rule-accepted a e t.rule in
    let few = (alphabet-accepted a f.alphabet).counted.few in
    let words = expression-accepted a e f.expression in
    let over = compiled-over a e f.expression f.states in
    let n : k ≡ length (compiled_table a e) = cc in
    let checked = compiled-is_table a e f.alphabet f.expression f.states t.words in
    record {
      few = few;
      expression = exactly-one-expression a few e words.words words.shape;
      over = over;
      count = n;
      table = rw v.0 (is_table-in a (compiled_table a e) checked (drop (length (compiled_table a e)) slice));
      automaton = automaton_of-words a (omega arith) over;
      checked = checked;
      most = t.words;
    }
