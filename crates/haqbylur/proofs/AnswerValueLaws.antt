-- Every value of an answer fits 32 bits: what the answer's number and values are is given by its definition.
use mathlib.Core.Path.{◌≡◌}
use mathlib.Core.List.{List}
use Prim.Native.Nat.{ℕ, ◌<◌}
use Rattle.std.specs.Prelude.{Result, Ok}
use Rattle.words.specs.Word.{word_range}
use Rattle.words.specs.declared.refusal.Refusal.{Refusal}
use Rattle.operations.specs.Compile.{compile_answer}
use Rattle.operations.specs.Run.{run_answer}
use Rattle.operations.specs.Totals.{Totals}
use Rattle.operations.specs.Listing.{list_answer}
use Rattle.operations.specs.ExchangeCall.{ExchangeCall}
use Rattle.operations.specs.Exchange.{exchange_answer}
use Rattle.operations.proofs.ValueLaws.{compile-value, run-values, list-value, exchange-values}
use Rattle.matcher.specs.declared.Marked.{Marked}
use Rattle.matcher.specs.MatcherAnswers.{answer_in_ran, answer_in_listed}
use Rattle.exchanger.specs.declared.Replaced.{Replaced}
use Rattle.exchanger.specs.ExchangeAnswer.{answer_in_exchanged}
use Rattle.compiler.specs.CompileAnswer.{answer_in_compiled}

pub compile-small : (a e slice : List ℕ) {k : ℕ} (r : Result ℕ Refusal) → r ≡ Ok k → answer_in_compiled r ≡ compile_answer a e slice
    → k < word_range
compile-small a e slice r told answer = compile-value a e slice (rw told at answer)

pub run_small : (a table ch marks : List ℕ) {m : Marked} (r : Result Marked Refusal) → r ≡ Ok m → answer_in_ran r ≡ run_answer a table ch marks
    → (m.elements < word_range) × (m.cells < word_range)
run_small a table ch marks r told answer = run-values a table ch marks (rw told at answer)

pub list-small : (a table : List ℕ) (n : ℕ) (marks list : List ℕ) {k : ℕ} (r : Result ℕ Refusal) → r ≡ Ok k
    → answer_in_listed r ≡ list_answer a table n marks list → k < word_range
list-small a table n marks list r told answer = list-value a table n marks list (rw told at answer)

pub exchange_small : (c : ExchangeCall) (t : Totals) {m : Replaced} (r : Result Replaced Refusal) → r ≡ Ok m
    → answer_in_exchanged r ≡ exchange_answer c t → (m.elements < word_range) × (m.worked_out < word_range)
exchange_small c t r told answer = exchange-values c t (rw told at answer)
