-- Answers of the four operations (document 01, "Refused calls").
use Rattle.std.specs.Prelude.{ℕ, List, cond, eqb, get_or}

-- a refusal's number, or the values of an accepted call
pub data Answer : Type 0 where
  refused : ℕ → Answer
  accepted : List ℕ → Answer

-- the answer of a call with that refusal, 0 for none, and those values
abbrev pub answer_of : ℕ → List ℕ → Answer
answer_of fault values = cond (eqb fault 0) (accepted values) (refused fault)

-- a lent slice at exit: "no lent word changes" in a refused call
abbrev pub exit_of : ℕ → List ℕ → List ℕ → List ℕ
exit_of fault after before = cond (eqb fault 0) after before

-- value i of an accepted call, where it has one; of a refused call, what stood before
abbrev pub value_or : Answer → ℕ → ℕ → ℕ
value_or (refused number) i before = before
value_or (accepted values) i before = get_or values i before
