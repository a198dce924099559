-- Compile's answer as document 01 has it: a refusal's number, or the table's word count.
use Rattle.std.specs.Prelude.{ℕ, [], ◌∷◌, Result}
use Rattle.words.specs.Answer.{Answer}
use Rattle.words.specs.Decoded.{answer_in}
use Rattle.words.specs.declared.refusal.Refusal.{Refusal}

abbrev pub answer_in_compiled : Result ℕ Refusal → Answer
answer_in_compiled = answer_in (λ count. count ∷ [])
