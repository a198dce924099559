-- Document 02's U1 holds: the compiled table is document 01's with the length word behind its head; 8 where the length word is
-- missing, wrong or given again; and what follows the table makes no difference to Run, List and Exchange.
use Prim.Native.Nat.{ℕ, suc, ◌+◌, ◌<◌, ◌≤◌}
use mathlib.Core.Path.{◌≡◌, ap, ◌∙◌, sym}
use mathlib.Core.Bool.{true, not, true≢false}
use mathlib.Core.List.{List, ◌∷◌}
use native.Mathlib.Omega.{arith}
use lib.ListN.{length, get_or}
use lib.Seq.{get_or-take}
use Rattle.words.specs.Word.{length_kind, has_kind}
use Rattle.words.proofs.TestLaws.{Tested, holds, fails, tested}
use Rattle.automaton.specs.Transition.{transitions_words, head_word, length_word}
use Rattle.automaton.specs.Numbering.{compiled}
use Rattle.automaton.specs.Table.{table_word_count, table_in, is_table, no_table}
use Rattle.automaton.proofs.CompiledTable.{table-most}
use Rattle.automaton.proofs.LengthWordLaws.{count_none, length-table_in, followed}
use Rattle.automaton.proofs.TableLaws.{length-once}
use Rattle.operations.specs.Run.{run_answer, run_exit}
use Rattle.operations.specs.Listing.{list_answer, list_exit}
use Rattle.operations.specs.ExchangeCall.{exchange_call}
use Rattle.operations.specs.Totals.{run_totals}
use Rattle.operations.specs.Exchange.{exchange_answer, exchange_chapter, exchange_marks, exchange_totals}
use Rattle.operations.specs.Demands.{CalledAlike, TableSlices}
use Rattle.operations.proofs.AcceptedLaws.{rule-accepted}
use Rattle.operations.proofs.CompileLaws.{compile-result}

-- no words are no table
none-missing : (a slice : List ℕ) → table_word_count slice ≡ 0 → no_table a (table_in slice) ≡ true
unfolding table_in no_table is_table
none-missing a slice e = rw e

-- a word of the table in a slice
word_in : (slice : List ℕ) (i : ℕ) → i < table_word_count slice → get_or (table_in slice) i 0 ≡ get_or slice i 0
unfolding table_in
word_in slice i inside = get_or-take (table_word_count slice) slice i 0 inside

-- 8 where a word behind the second is a length word
none-once : (a slice : List ℕ) (i : ℕ) → 2 ≤ i → i < table_word_count slice → has_kind length_kind (get_or slice i 0) ≡ true
    → no_table a (table_in slice) ≡ true
unfolding no_table
none-once a slice i l inside h = go (tested (is_table a (table_in slice)))
  where
    go : Tested (is_table a (table_in slice)) → not (is_table a (table_in slice)) ≡ true
    go (holds e) =
        let none = length-once a (table_in slice) e i l (rw (length-table_in slice) inside) in
        absurd (true≢false (sym h ∙ ap (has_kind length_kind) (sym (word_in slice i inside)) ∙ none))
    go (fails e) = rw e

-- the same table is the same call
alike : (a : List ℕ) {table table' : List ℕ} → table ≡ table' → CalledAlike a table table'
alike a {table} {table'} e = record {
  run = λ ch marks r. (ap (λ t. run_answer a t ch marks) e, ap (λ t. run_exit a t ch marks) e, ap (λ t. run_totals a t ch marks r) e);
  list = λ n marks l. (ap (λ t. list_answer a t n marks l) e, ap (λ t. list_exit a t n marks l) e);
  exchange = λ ch marks n i xs r. (
    ap (λ t. exchange_answer (exchange_call a t ch marks n i xs) r) e,
    ap (λ t. exchange_chapter (exchange_call a t ch marks n i xs) r) e,
    ap (λ t. exchange_marks (exchange_call a t ch marks n i xs) r) e,
    ap (λ t. exchange_totals (exchange_call a t ch marks n i xs) r) e,
  );
}

pub table-slices : TableSlices
unfolding no_table
table-slices = record {
  words = λ a rule.
      let A = compiled a rule in
      let ms = transitions_words A.transitions in
      let e : 2 + length ms ≡ suc (length ms) + 1 = omega arith in
      ap (λ (n : ℕ). head_word A ∷ length_word n ∷ ms) e;
  most = λ a rule h n. let f = rule-accepted a rule h in table-most a rule f.alphabet f.expression f.states n;
  compiles = λ a rule slice n h.
      let c = compile-result a rule slice n h in
      (c.table, rw (c.table, c.checked));
  missing = λ a slice h. none-missing a slice (count_none slice h);
  once = none-once;
  follows = λ a slice behind h. alike a (followed slice h behind);
}
