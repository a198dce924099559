-- Document 02's U10 holds: Run sets the record, an exchange moves it by the difference that it makes, and a right record stays right and
-- meets no 27.
use mathlib.Core.Path.{◌≡◌, refl, ap, ◌∙◌, sym}
use mathlib.Core.List.{List, [], ◌∷◌, map, head-eq_of_cons-eq, flatten}
use Prim.Native.Nat.{ℕ, ◌+◌, ◌-◌, ◌≤◌}
use native.Mathlib.Omega.{arith}
use lib.ListN.{length, get_or, length-map, get_or-map}
use Rattle.words.specs.Word.{word_range}
use Rattle.words.specs.Limits.{cells_most}
use Rattle.words.specs.Lists.{All, AllBelow, list_from}
use Rattle.words.specs.Answer.{accepted, refused}
use Rattle.words.proofs.TestLaws.{or-false}
use Rattle.words.proofs.RefusalLaws.{without-never}
use Rattle.words.proofs.AnswerLaws.{accepted-values, refused-number}
use Rattle.words.proofs.ListLaws.{list_from-get_or, list_from-below}
use Rattle.operations.specs.Marks.{size_of, node_sets, stored_set}
use Rattle.operations.specs.Run.{run_fault, run_answer, run_exit, cells_in}
use Rattle.operations.specs.Listing.{list_fault, list_answer, matches_of}
use Rattle.operations.specs.Totals.{Totals, totals_of, run_totals, moved_totals, wrong_totals}
use Rattle.operations.specs.ExchangeCall.{ExchangeCall}
use Rattle.operations.specs.Exchange.{kept, set_in, stored_in, outcomes, words_refusals, words_fault}
use Rattle.operations.specs.Exchange.{new_marks, exchange_values, old_totals, new_totals, fault}
use Rattle.operations.specs.Exchange.{exchange_answer, exchange_marks, exchange_totals}
use Rattle.operations.specs.Demands.{RightTotals, Difference, TotalsOnHand}
use Rattle.operations.proofs.MarksLaws.{length-node_sets, stored-node_sets}
use Rattle.operations.proofs.RunLaws.{run-writes, run-exit}
use Rattle.operations.proofs.AcceptedLaws.{call-words, call-totals}
use Rattle.operations.proofs.Recomputed.{nodes, written}
use Rattle.operations.proofs.TotalsLaws.{range-in, right-moved, right-fault}

-- ---- Run and List

module _ (a table ch marks : List ℕ) (t : Totals) (n cells : ℕ) (h : run_answer a table ch marks ≡ accepted (n ∷ cells ∷ [])) where
  ran : (run_fault a table ch (length marks) ≡ 0) × (length ch ∷ cells_in (flatten (node_sets a table ch)) ∷ [] ≡ n ∷ cells ∷ [])
  unfolding run_answer
  ran = accepted-values (run_fault a table ch (length marks)) _ _ h

  set-by-run : run_totals a table ch marks t ≡ totals_of table (node_sets a table ch)
  unfolding run_totals
  set-by-run = rw ran.0

  run-elements : (run_totals a table ch marks t).elements ≡ n
  unfolding totals_of
  run-elements = ap (λ (x : Totals). x.elements) set-by-run ∙ length-node_sets a table ch ∙ head-eq_of_cons-eq ran.1

  run-cells : (run_totals a table ch marks t).cells ≡ cells
  unfolding totals_of
  run-cells = let e = ran.1 in ap (λ (x : Totals). x.cells) set-by-run ∙ cc

  run-right : RightTotals table n (run_exit a table ch marks) (run_totals a table ch marks t)
  run-right =
      set-by-run
      ∙ ap (totals_of table)
      (sym (stored-node_sets a table ch (run_exit a table ch marks)
      (rw (run-exit a table ch marks ran.0) (run-writes a table ch marks)))
      ∙ ap (list_from (stored_set (size_of table) (run_exit a table ch marks)) 0) (head-eq_of_cons-eq ran.1))

list-hits : (a table : List ℕ) (n : ℕ) (marks slice : List ℕ) (t : Totals) (found : ℕ)
    → list_answer a table n marks slice ≡ accepted (found ∷ []) → RightTotals table n marks t → t.hits ≡ found
unfolding list_answer matches_of totals_of
list-hits a table n marks slice t found h e =
    let v = accepted-values (list_fault a table n (length marks) (length slice)) _ (found ∷ []) h in
    ap (λ (x : Totals). x.hits) e ∙ head-eq_of_cons-eq v.1

-- ---- Exchange

module _ (c : ExchangeCall) (t : Totals) (n m : ℕ) (h : exchange_answer c t ≡ accepted (n ∷ m ∷ [])) where
  answered : (fault c t ≡ 0) × (exchange_values c ≡ n ∷ m ∷ [])
  unfolding exchange_answer
  answered = accepted-values (fault c t) _ _ h

  moves : exchange_totals c t ≡ moved_totals t (old_totals c) (new_totals c)
  unfolding exchange_totals
  moves = rw answered.0

  difference : {t old new after : ℕ} → (old ≤ t + new) × (t + new - old ≤ cells_most) → after ≡ t + new - old → Difference t old new after
  difference p e = record { moves = omega (arith, p.0, e); most = rw e p.1 }

  differences : Difference t.elements (old_totals c).elements (new_totals c).elements (exchange_totals c t).elements
      × Difference t.hits (old_totals c).hits (new_totals c).hits (exchange_totals c t).hits
      × Difference t.cells (old_totals c).cells (new_totals c).cells (exchange_totals c t).cells
  unfolding wrong_totals
  differences =
      let w = call-totals c t answered.0 in
      let p = or-false _ _ w in
      let q = or-false _ _ p.0 in (
        difference (range-in _ _ _ q.0) (ap (λ (x : Totals). x.elements) moves),
        difference (range-in _ _ _ q.1) (ap (λ (x : Totals). x.hits) moves),
        difference (range-in _ _ _ p.1) (ap (λ (x : Totals). x.cells) moves),
      )

  -- the used marks behind the call are the outcomes' sets
  new-right : RightTotals c.table n (exchange_marks c t) (new_totals c)
  unfolding new_totals exchange_marks
  new-right =
      let ok = call-words c t answered.0 in
      let size = size_of c.table in
      let many : length (map set_in (outcomes c)) ≡ n = length-map (outcomes c) set_in ∙ nodes c ok ∙ head-eq_of_cons-eq answered.1 in
      rw answered.0
      (ap (totals_of c.table)
      (sym (list_from-get_or [] (map set_in (outcomes c)))
      ∙ ap (list_from (λ i. get_or (map set_in (outcomes c)) i []) 0) many
      ∙ list_from-below (λ i. get_or (map set_in (outcomes c)) i []) (stored_set size (new_marks c)) n 0
      (λ i l. sym (written c ok i (omega (arith, head-eq_of_cons-eq answered.1)) ∙ sym (get_or-map set_in (outcomes c) i (kept []))))))

  old-right : RightTotals c.table c.count c.marks (old_totals c)
  unfolding old_totals
  old-right = refl

  stays-right : RightTotals c.table c.count c.marks t → RightTotals c.table n (exchange_marks c t) (exchange_totals c t)
  stays-right e = moves ∙ right-moved c t (e ∙ sym old-right) ∙ new-right

never : (c : ExchangeCall) (t : Totals) → All (AllBelow word_range) (list_from (stored_in c) 0 c.count)
    → RightTotals c.table c.count c.marks t → exchange_answer c t ≡ refused 27 → ⊥
unfolding exchange_answer old_totals words_fault
never c t words e h =
    let q = refused-number (fault c t) _ 27 h in
    without-never 27 (words_refusals c) (omega arith) (sym (right-fault c words t e) ∙ q.1)

pub totals-on-hand : TotalsOnHand
totals-on-hand = record {
  run = λ a table ch marks t n cells h.
      (run-elements a table ch marks t n cells h, run-cells a table ch marks t n cells h, run-right a table ch marks t n cells h);
  list = list-hits;
  exchange = differences;
  used = λ c t n m h. (old-right c t n m h, new-right c t n m h);
  right = stays-right;
  never = never;
}
