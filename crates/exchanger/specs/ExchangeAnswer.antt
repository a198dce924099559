-- Exchange's answer as document 01 has it: a refusal's number, or the new element count and the number worked out.
use Rattle.std.specs.Prelude.{[], ◌∷◌, Result}
use Rattle.words.specs.Answer.{Answer}
use Rattle.words.specs.Decoded.{answer_in}
use Rattle.words.specs.declared.refusal.Refusal.{Refusal}
use Rattle.exchanger.specs.declared.Replaced.{Replaced}

abbrev pub answer_in_exchanged : Result Replaced Refusal → Answer
answer_in_exchanged = answer_in (λ replaced. replaced.elements ∷ replaced.worked_out ∷ [])
