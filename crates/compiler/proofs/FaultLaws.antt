-- The answer and the table slice of a call of Compile, refused or accepted.
use mathlib.Core.Path.{◌≡◌, refl, ap, ◌∙◌, sym}
use mathlib.Core.List.{List, [], ◌∷◌}
use Prim.Native.Nat.{ℕ, ◌+◌}
use native.Mathlib.Omega.{arith}
use native.Mathlib.Nat.{zero-add}
use lib.ListN.{length}
use lib.Seq.{sets}
use Rattle.words.specs.Decoded.{number_in}
use Rattle.words.specs.declared.refusal.Refusal.{Refusal}
use Rattle.words.specs.declared.refusal.Refusal.TheVariants.{NoAlphabet, WrongConstants, WrongLength, NotExpressionWords, NotOneExpression, TooManyStates, TableTooLong, NoTable, WrongCount, NotNodes}
use Rattle.words.specs.declared.refusal.Refusal.TheVariants.{NotOneTree, MarksTooShort, ListTooShort, NoElement, NoReplacement, ResultTooLong, TooHigh, TooManyWords, HasHoles, WrongTotals}
use Rattle.words.specs.Answer.{refused, accepted}
use Rattle.words.proofs.ListLaws.{sets-whole}
use Rattle.words.proofs.AnswerLaws.{answer-refused, answer-accepted, exit-refused, exit-accepted}
use Rattle.operations.specs.Compile.{compiled_table, compile_fault}
use Rattle.operations.specs.Compile.{compile_answer, compile_exit}
use Rattle.operations.proofs.AcceptedLaws.{compile-accepted}

-- ---- the answer and the table slice at exit

pub number-some : (d : Refusal) → number_in d ≡ 0 → ⊥
number-some NoAlphabet h = omega arith
number-some WrongConstants h = omega arith
number-some WrongLength h = omega arith
number-some NotExpressionWords h = omega arith
number-some NotOneExpression h = omega arith
number-some TooManyStates h = omega arith
number-some TableTooLong h = omega arith
number-some NoTable h = omega arith
number-some WrongCount h = omega arith
number-some NotNodes h = omega arith
number-some NotOneTree h = omega arith
number-some MarksTooShort h = omega arith
number-some ListTooShort h = omega arith
number-some NoElement h = omega arith
number-some NoReplacement h = omega arith
number-some ResultTooLong h = omega arith
number-some TooHigh h = omega arith
number-some TooManyWords h = omega arith
number-some HasHoles h = omega arith
number-some WrongTotals h = omega arith

module _ (a e slice : List ℕ) where
  pub compile-refused : (d : Refusal) → number_in d ≡ compile_fault a e (length slice)
      → (refused (number_in d) ≡ compile_answer a e slice) × (slice ≡ compile_exit a e slice)
  unfolding compile_answer compile_exit
  compile-refused d h = (answer-refused h _ (number-some d), exit-refused h _ slice (number-some d))

  module _ (h : 0 ≡ compile_fault a e (length slice)) where
    pub compile-accepts : (n : ℕ) (out : List ℕ) → n ≡ 0 + length (compiled_table a e) → out ≡ sets slice 0 (compiled_table a e)
        → (accepted (n ∷ []) ≡ compile_answer a e slice) × (out ≡ compile_exit a e slice)
    unfolding compile_answer compile_exit
    compile-accepts n out t w = (
      ap (λ (k : ℕ). accepted (k ∷ [])) (t ∙ zero-add _) ∙ answer-accepted h _ refl,
      w ∙ sets-whole (compiled_table a e) slice (compile-accepted a e (length slice) (sym h)).fits ∙ exit-accepted h _ slice refl,
    )
