-- Lists of Exchange calls on one chapter, and the plain chapter beside them (document 01, "Marks", demand 3).
use Rattle.std.specs.Prelude.{ℕ, ◌≡◌, List, [], ◌∷◌, cond, length, eqb}
use Rattle.words.specs.Postfix.{splice}
use Rattle.words.specs.Answer.{Answer, refused, value_or}
use Rattle.operations.specs.ExchangeCall.{ExchangeCall, exchange_call}
use Rattle.operations.specs.Totals.{Totals}
use Rattle.operations.specs.Exchange.{exchange_fault, exchange_answer, exchange_chapter, exchange_marks, exchange_totals}

-- "element and replacement are its own"
pub record Call : Type 0 where
  pub element : ℕ
  pub replacement : List ℕ

-- the two slices, the element count that Run or the last accepted Exchange answered, and "the record as Run or the call before left it"
-- (document 02, U10)
pub record Memory : Type 0 where
  pub chapter : List ℕ
  pub marks : List ℕ
  pub count : ℕ
  pub totals : Totals

-- "Each call gets Run's alphabet and table and the same two slices, .. with the element count"
abbrev pub call_on : List ℕ → List ℕ → Memory → Call → ExchangeCall
call_on a table s c = exchange_call a table s.chapter s.marks s.count c.element c.replacement

abbrev pub answer_at : List ℕ → List ℕ → Memory → Call → Answer
answer_at a table s c = exchange_answer (call_on a table s c) s.totals

-- the memory behind one call
unfoldable pub exchange : List ℕ → List ℕ → Memory → Call → Memory
exchange a table s c = record {
  chapter = exchange_chapter (call_on a table s c) s.totals;
  marks = exchange_marks (call_on a table s c) s.totals;
  count = value_or (answer_at a table s c) 0 s.count;
  totals = exchange_totals (call_on a table s c) s.totals;
}

-- the memory behind a list of calls, "as the call before left them"
unfoldable pub exchanges : List ℕ → List ℕ → List Call → Memory → Memory
exchanges a table [] s = s
exchanges a table (c ∷ cs) s = exchanges a table cs (exchange a table s c)

-- no call of the list is refused by number n
abbrev pub NeverRefused : ℕ → List ℕ → List ℕ → List Call → Memory → Type 0
NeverRefused n a table [] s = Unit {0}
NeverRefused n a table (c ∷ cs) s = (answer_at a table s c ≡ refused n → ⊥) × NeverRefused n a table cs (exchange a table s c)

-- "A call that 'Refused calls' refuses with the plain chapter as the used elements: it stays. Any other: the words of the
-- element's subtree give way to the replacement's words". It has no record, "and so never 27" (document 02, U10).
unfoldable pub plain : List ℕ → List ℕ → ℕ → ℕ → List ℕ → Call → List ℕ
plain a table chapter_length marks_length p c =
    cond (eqb (exchange_fault a table (length p) p chapter_length marks_length c.element c.replacement) 0)
    (splice a p c.element c.replacement)
    p

-- the plain chapter behind a list of calls: it is "fed the calls alone, and no answers"
unfoldable pub plains : List ℕ → List ℕ → ℕ → ℕ → List Call → List ℕ → List ℕ
plains a table chapter_length marks_length [] p = p
plains a table chapter_length marks_length (c ∷ cs) p =
    plains a table chapter_length marks_length cs (plain a table chapter_length marks_length p c)
