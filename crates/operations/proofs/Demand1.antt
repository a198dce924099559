-- Demand 1 holds: a call's answer is made of the first of its refusals whose condition holds, and so are its slices at exit. That
-- each number is attained is shown in Attained.
use Prim.Native.Nat.{ℕ}
use mathlib.Core.Path.{◌≡◌, refl, sym}
use mathlib.Core.Bool.{true}
use mathlib.Core.List.{List, [], ◌∷◌, flatten}
use native.Mathlib.Omega.{arith}
use lib.ListN.{length}
use borrow.Author.Tests.{ne_eqb}
use Rattle.words.specs.Lists.{written_over}
use Rattle.words.specs.Refusal.{Refusals, refusal}
use Rattle.words.specs.Answer.{refused, answer_of}
use Rattle.words.proofs.RefusalLaws.{positive, none-refusal, refusal-none, refusal-is-first, first-is-refusal, first-positive}
use Rattle.words.proofs.AnswerLaws.{answer-refused, answer-accepted, refused-number, accepted-values, refused-exit}
use Rattle.automaton.specs.Table.{table_in}
use Rattle.operations.specs.Compile.{compiled_table, compile_refusals, compile_answer, compile_exit}
use Rattle.operations.specs.Marks.{node_sets}
use Rattle.operations.specs.Run.{run_refusals, run_answer, run_exit, run_marks, cells_in}
use Rattle.operations.specs.Listing.{list_refusals, list_answer, list_exit, matches_of}
use Rattle.operations.specs.Totals.{Totals, totals_words, totals_of, totals_exit, run_totals, moved_totals}
use Rattle.operations.specs.Exchange.{exchange_values, new_chapter, new_marks, old_totals, new_totals, refusals_of, fault}
use Rattle.operations.specs.Exchange.{exchange_answer, exchange_chapter, exchange_marks, exchange_totals}
use Rattle.operations.specs.Demands.{Unchanged, SameLength, Judged, Demand1}
use Rattle.operations.proofs.LengthLaws.{compile-length, run-exit-length, list-length, chapter-length, marks-length}

-- ---- any call

module _ (vs : List ℕ) where
  judged : (rs : Refusals) (slices : List (List ℕ × List ℕ)) → positive rs ≡ true
      → ((n : ℕ) → answer_of (refusal rs) vs ≡ refused n → Unchanged slices) → SameLength slices
      → Judged rs (answer_of (refusal rs) vs) vs slices
  judged rs slices p k l = record {
    refuses = λ n. (
      (λ h. let q = refused-number (refusal rs) vs n h in refusal-is-first rs n q.0 q.1),
      (λ h. let q = first-positive p h in sym (answer-refused (sym (first-is-refusal h)) vs (λ z. omega arith))),
    );
    accepts = (
      (λ h. refusal-none rs p (accepted-values (refusal rs) vs vs h).0),
      (λ h. sym (answer-accepted {f = refusal rs} refl vs (none-refusal rs h))),
    );
    unchanged = k;
    lengths = l;
  }

-- a refused call leaves the record's words alone
refused-totals : (rs : Refusals) (vs : List ℕ) (n : ℕ) (after t : Totals) → answer_of (refusal rs) vs ≡ refused n
    → totals_words (totals_exit (refusal rs) after t) ≡ totals_words t
refused-totals rs vs n after t h =
    let q = refused-number (refusal rs) vs n h in
    rw (ne_eqb (refusal rs) 0 (λ z. omega arith))

-- ---- the four operations

pub demand1 : Demand1
unfolding compile_answer compile_exit run_answer run_exit run_totals list_answer list_exit fault exchange_answer exchange_chapter exchange_marks
    exchange_totals
demand1 = record {
  compile = λ a rule slice.
      let vs = length (compiled_table a rule) ∷ [] in
      let rs = compile_refusals a rule (length slice) in
      judged vs rs _ refl
      (λ n h. (refused-exit (refusal rs) vs n (written_over (compiled_table a rule) slice) slice h, tt))
      (compile-length a rule slice, tt);
  run = λ a table_slice ch marks t.
      let table = table_in table_slice in
      let vs = length ch ∷ cells_in (flatten (node_sets a table ch)) ∷ [] in
      let rs = run_refusals a table ch (length marks) in
      judged vs rs _ refl
      (λ n h. (
        refused-exit (refusal rs) vs n (run_marks a table ch marks) marks h,
        (refused-totals rs vs n (totals_of table (node_sets a table ch)) t h, tt),
      ))
      (run-exit-length a table ch marks, (refl, tt));
  list = λ a table_slice n marks slice.
      let table = table_in table_slice in
      let vs = length (matches_of table n marks) ∷ [] in
      let rs = list_refusals a table n (length marks) (length slice) in
      judged vs rs _ refl
      (λ k h. (refused-exit (refusal rs) vs k (written_over (matches_of table n marks) slice) slice h, tt))
      (list-length a table n marks slice, tt);
  exchange = λ c t.
      let vs = exchange_values c in
      let rs = refusals_of c t in
      judged vs rs _ refl
      (λ n h. (
        refused-exit (refusal rs) vs n (new_chapter c) c.chapter h,
        (
          refused-exit (refusal rs) vs n (new_marks c) c.marks h,
          (refused-totals rs vs n (moved_totals t (old_totals c) (new_totals c)) t h, tt),
        ),
      )) (
        chapter-length c t,
        (marks-length c t, (refl, tt)),
      );
}
