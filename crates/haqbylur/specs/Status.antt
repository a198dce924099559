-- The status that a C caller gets of an answer. The values go through its out-parameters: at exit out-parameter i is `value_or` of
-- the answer (words, Answer).
use Rattle.std.specs.Prelude.{ℕ}
use Rattle.words.specs.Answer.{Answer, refused, accepted}

-- 0 for an accepted call, and otherwise the documents' number of the refusal
abbrev pub status_of : Answer → ℕ
status_of (refused number) = number
status_of (accepted values) = 0
