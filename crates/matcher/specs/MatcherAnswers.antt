-- What Run and List answer: document 01's refusal number, or its values; and the record of totals behind a Run.
use Rattle.std.specs.Prelude.{ℕ, [], ◌∷◌, Result, Ok, Err}
use Rattle.words.specs.Answer.{Answer}
use Rattle.words.specs.Decoded.{answer_in}
use Rattle.words.specs.declared.refusal.Refusal.{Refusal}
use Rattle.operations.specs.Totals.{Totals}
use Rattle.totals.specs.TotalsIn.{totals_in}
use Rattle.totals.specs.declared.Totals.{Totals as Record}
use Rattle.matcher.specs.declared.Marked.{Marked}

-- "Run answers the element count and the cells"
abbrev pub answer_in_ran : Result Marked Refusal → Answer
answer_in_ran = answer_in (λ marked. marked.elements ∷ marked.cells ∷ [])

-- the same of a Run that answers the totals
abbrev pub answer_in_counted : Result Record Refusal → Answer
answer_in_counted = answer_in (λ totals. totals.elements ∷ totals.cells ∷ [])

-- the record behind a Run: the totals that it answers, or what the record was
abbrev pub totals_behind : Result Record Refusal → Totals → Totals
totals_behind (Ok totals) before = totals_in totals
totals_behind (Err refusal) before = before

-- List "answers how many"
abbrev pub answer_in_listed : Result ℕ Refusal → Answer
answer_in_listed = answer_in (λ found. found ∷ [])
