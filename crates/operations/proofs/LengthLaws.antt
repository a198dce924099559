-- Every call, accepted or refused, leaves each lent slice as long as it was. What an accepted call writes fits the slice: the
-- table by 7, the state sets by 12 and 16, the matches by 13, since there are at most as many as elements.
use Prim.Native.Nat.{ℕ, ◌*◌, ◌<◌}
use mathlib.Core.Path.{◌≡◌, ap, ◌∙◌}
use mathlib.Core.List.{List, [], map, flatten}
use native.Mathlib.Omega.{arith}
use native.Mathlib.Nat.{mul-le-mul_right}
use lib.ListN.{length, length-map}
use lib.Seq.{length-take-le}
use Rattle.words.specs.Lists.{written_over}
use Rattle.words.proofs.ListLaws.{length_over}
use Rattle.words.proofs.AnswerLaws.{length-exit}
use Rattle.automaton.specs.StateSet.{StateSet}
use Rattle.operations.specs.Compile.{compiled_table, compile_fault, compile_exit}
use Rattle.operations.specs.Marks.{size_of}
use Rattle.operations.specs.Run.{run_fault, run_marks, run_exit}
use Rattle.operations.specs.Listing.{list_fault, matches_of, list_exit}
use Rattle.operations.specs.ExchangeCall.{ExchangeCall}
use Rattle.operations.specs.Totals.{Totals}
use Rattle.operations.specs.Exchange.{set_in, used, stored_in, new_tree, outcomes, new_chapter, new_marks}
use Rattle.operations.specs.Exchange.{fault, exchange_chapter, exchange_marks}
use Rattle.operations.proofs.AcceptedLaws.{compile-accepted, run-accepted, list-accepted, CallAccepted, call-accepted}
use Rattle.operations.proofs.MarksLaws.{Sized, length-node_set, length-stored_set, length-flatten, length-refit}
use Rattle.operations.proofs.MatchLaws.{matches_of-few}
use Rattle.operations.proofs.RunLaws.{run_length}
use Rattle.operations.proofs.FromChildren.{follows-length, follows-outcomes}
use Rattle.operations.proofs.OutcomeSizes.{whole-outcomes}

-- ---- Compile, Run and List

pub compile-length : (a e slice : List ℕ) → length (compile_exit a e slice) ≡ length slice
unfolding compile_exit
compile-length a e slice =
    length-exit (compile_fault a e (length slice)) (written_over (compiled_table a e) slice) slice
    (λ h. length_over (compiled_table a e) slice (compile-accepted a e (length slice) h).fits)

pub run-exit-length : (a table ch marks : List ℕ) → length (run_exit a table ch marks) ≡ length marks
unfolding run_exit
run-exit-length a table ch marks =
    length-exit (run_fault a table ch (length marks)) (run_marks a table ch marks) marks
    (λ h. run_length a table ch marks (run-accepted a table ch (length marks) h).marked.marks)

pub list-length : (a table : List ℕ) (n : ℕ) (marks slice : List ℕ) → length (list_exit a table n marks slice) ≡ length slice
unfolding list_exit
list-length a table n marks slice =
    length-exit (list_fault a table n (length marks) (length slice)) (written_over (matches_of table n marks) slice) slice
    (λ h. let l = (list-accepted a table n (length marks) (length slice) h).list in
    length_over (matches_of table n marks) slice (omega (arith, matches_of-few table marks n)))

-- ---- Exchange

module _ (c : ExchangeCall) where
  abbrev size : ℕ
  size = size_of c.table

  abbrev sets : List StateSet
  sets = map set_in (outcomes c)

  there : CallAccepted c → c.element < length (used c)
  there k = rw (length-take-le c.count c.chapter k.count.within) k.change.element

  -- the stored sets of the used elements are whole by 12
  pub sized-outcomes : CallAccepted c → Sized (size_of c.table) (map set_in (outcomes c))
  unfolding outcomes
  sized-outcomes k =
      let many = length-take-le c.count c.chapter k.count.within in
      whole-outcomes (λ r. length r ≡ size_of c.table) c.alphabet c.table (length-node_set c.table) (stored_in c) c.count
      (λ i l. length-stored_set size c.marks i (omega (arith, mul-le-mul_right size l, k.marked.marks)))
      (used c) c.element c.replacement (there k) (omega arith)

  length-sets : CallAccepted c → length (flatten sets) ≡ length (new_tree c) * size
  unfolding outcomes new_tree
  length-sets k =
      length-flatten size sets (sized-outcomes k)
      ∙ ap (λ (i : ℕ). i * size)
      (length-map (outcomes c) set_in
      ∙ follows-length c.alphabet c.table (new_tree c) [] (outcomes c)
      (follows-outcomes c.alphabet c.table (stored_in c) (used c) c.element c.replacement (there k)
      k.change.replacement.tree.shape))

  -- the new elements fit by 16
  pub chapter-length : (t : Totals) → length (exchange_chapter c t) ≡ length c.chapter
  unfolding exchange_chapter new_tree new_chapter
  chapter-length t =
      length-exit (fault c t) (new_chapter c) c.chapter
      (λ h. let k = call-accepted c t h in
      length-refit c.count (new_tree c) c.chapter k.count.within k.change.fits.elements)

  -- and so do their state sets
  pub marks-length : (t : Totals) → length (exchange_marks c t) ≡ length c.marks
  unfolding exchange_marks new_tree new_marks
  marks-length t =
      length-exit (fault c t) (new_marks c) c.marks
      (λ h. let k = call-accepted c t h in
      length-refit (c.count * size) (flatten sets) c.marks k.marked.marks
      (omega (arith, length-sets k, k.change.fits.marks)))
