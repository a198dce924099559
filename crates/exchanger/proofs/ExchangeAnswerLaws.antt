-- The answer, both slices and the record of a call: as they were where it is refused, by its words or by 27, and otherwise what the new
-- tree and its outcomes give.
use mathlib.Core.Path.{◌≡◌, refl, ap, ◌∙◌, sym}
use mathlib.Core.Bool.{true, false}
use mathlib.Core.List.{List}
use Rattle.std.specs.Prelude.{Result, Ok, Err}
use Prim.Native.Nat.{ℕ}
use native.Mathlib.Omega.{arith}
use lib.ListN.{take}
use borrow.Author.Tests.{ne_eqb}
use Rattle.words.specs.Answer.{Answer, refused, accepted}
use Rattle.words.specs.Refusal.{refusal}
use Rattle.words.specs.Decoded.{number_in, fault_in}
use Rattle.words.specs.declared.refusal.Refusal.{Refusal}
use Rattle.words.proofs.NumberLaws.{number_some}
use Rattle.words.proofs.AnswerLaws.{answer-refused, answer-accepted, exit-refused, exit-accepted}
use Rattle.automaton.specs.Table.{table_word_count, table_in}
use Rattle.automaton.proofs.LengthWordLaws.{cut_in}
use Rattle.operations.specs.Totals.{Totals, moved_totals, wrong_totals}
use Rattle.operations.specs.ExchangeCall.{ExchangeCall, exchange_call}
use Rattle.operations.specs.Exchange.{words_refusals, words_fault, exchange_values, new_chapter, new_marks, old_totals, new_totals, fault}
use Rattle.operations.specs.Exchange.{exchange_answer, exchange_chapter, exchange_marks, exchange_totals}
use Rattle.operations.proofs.AcceptedLaws.{call-fault, words-first, totals-last}

module _ (c : ExchangeCall) where
  pub call-passes : {r : Result ℕ Refusal} {start : ℕ} → fault_in r ≡ refusal (words_refusals c) → r ≡ Ok start → words_fault c ≡ 0
  unfolding words_fault
  call-passes q e = sym q ∙ ap fault_in e

  module _ (t : Totals) where
    -- the contract of Exchange
    abbrev Exits : Answer → List ℕ → List ℕ → Totals → Type 0
    Exits answer chapter marks totals =
        (answer ≡ exchange_answer c t)
        × ((chapter ≡ exchange_chapter c t) × ((marks ≡ exchange_marks c t) × (totals ≡ exchange_totals c t)))

    refused-by : (r : ℕ) → r ≡ fault c t → (r ≡ 0 → ⊥) → Exits (refused r) c.chapter c.marks t
    unfolding exchange_answer exchange_chapter exchange_marks exchange_totals
    refused-by r q h = (
      answer-refused q _ h,
      (exit-refused q _ c.chapter h, (exit-refused q _ c.marks h, sym (rw (← q, ne_eqb r 0 h)))),
    )

    pub call-refused : (d : Refusal) → number_in d ≡ refusal (words_refusals c) → Exits (refused (number_in d)) c.chapter c.marks t
    unfolding words_fault
    call-refused d q =
        let some = number_some d in
        refused-by (number_in d) (q ∙ sym (words-first c t (λ z. some (q ∙ z)))) some

    pub totals-refused : words_fault c ≡ 0 → wrong_totals t (old_totals c) (new_totals c) ≡ true → Exits (refused 27) c.chapter c.marks t
    totals-refused ok w = refused-by 27 (sym (totals-last c t ok w)) (λ z. omega arith)

    pub call-replaced : words_fault c ≡ 0 → wrong_totals t (old_totals c) (new_totals c) ≡ false
        → (answer : Answer) (chapter marks : List ℕ) (totals : Totals)
        → answer ≡ accepted (exchange_values c) → chapter ≡ new_chapter c → marks ≡ new_marks c
        → totals ≡ moved_totals t (old_totals c) (new_totals c)
        → Exits answer chapter marks totals
    unfolding exchange_answer exchange_chapter exchange_marks exchange_totals
    call-replaced ok w answer chapter marks totals x y z u =
        let none : fault c t ≡ 0 = call-fault c t w ∙ ok in (
          x ∙ answer-accepted refl _ none,
          (y ∙ exit-accepted refl _ c.chapter none, (z ∙ exit-accepted refl _ c.marks none, u ∙ sym (rw none))),
        )

-- a call that its words refuse, by the table in its slice
module _ (a slice ch ms : List ℕ) (n i : ℕ) (xs : List ℕ) (t : Totals) where
  pub refused-cut : {k : ℕ} {r : Result ℕ Refusal} {d : Refusal} → k ≡ table_word_count slice
      → fault_in r ≡ refusal (words_refusals (exchange_call a (take k slice) ch ms n i xs)) → r ≡ Err d
      → Exits (exchange_call a (table_in slice) ch ms n i xs) t (refused (number_in d)) ch ms t
  refused-cut {k} {d = d} e q h =
      rw (← cut_in slice e) (call-refused (exchange_call a (take k slice) ch ms n i xs) t d (sym (ap fault_in h) ∙ q))
