-- Demand 3: behind any list of Exchange calls, accepted and refused in any order, the memory is faithful to the plain
-- chapter. The memory and the plain chapter are related (`Related`) at the start and behind each call; by recursion over the
-- list they are behind all of them, and all that is claimed follows.
use mathlib.Core.Path.{◌≡◌, refl, ap, ap₂, ◌∙◌, sym}
use mathlib.Core.List.{List, [], ◌∷◌, map, flatten, head-eq_of_cons-eq}
use Prim.Native.Nat.{ℕ, ◌*◌}
use native.Mathlib.Omega.{arith}
use lib.ListN.{length, take}
use lib.Dec.{eqb}
use borrow.Author.Tests.{eqb-true}
use Rattle.words.specs.Postfix.{splice}
use Rattle.words.specs.Word.{word_range}
use Rattle.words.specs.Lists.{AllBelow, list_from, written_over}
use Rattle.words.specs.Answer.{answer_of, exit_of, refused}
use Rattle.words.proofs.TestLaws.{Tested, holds, fails, tested}
use Rattle.words.proofs.AcceptedTree.{tree-accepted}
use Rattle.words.proofs.RefusalLaws.{without-never}
use Rattle.words.proofs.AnswerLaws.{accepted-values, refused-number}
use Rattle.automaton.specs.StateSet.{StateSet}
use Rattle.automaton.specs.Table.{table_in}
use Rattle.operations.specs.Marks.{size_of, node_sets, stored_set, refit}
use Rattle.operations.specs.Run.{run_fault, run_marks, run_answer, run_exit, cells_in}
use Rattle.operations.specs.Listing.{matches_of, list_fault, list_answer, list_exit}
use Rattle.operations.specs.Totals.{totals_of, moved_totals, run_totals}
use Rattle.operations.specs.Exchange.{set_in, outcomes_after, exchange_refusals, exchange_fault, words_fault, fault, new_tree, stored_in}
use Rattle.operations.specs.Exchange.{outcomes, new_chapter, new_marks, old_totals, new_totals}
use Rattle.operations.specs.Exchange.{exchange_answer, exchange_chapter, exchange_marks, exchange_totals}
use Rattle.operations.specs.History.{Call, Memory, call_on, answer_at, exchange, exchanges, NeverRefused, plain, plains}
use Rattle.operations.specs.Demands.{Start, Fresh, Faithful, Demand3}
use Rattle.operations.proofs.MarksLaws.{each-node_sets, stored-node_sets, stored-right, take-refit, length-refit}
use Rattle.operations.proofs.RunLaws.{length-words, run-writes, run_length, run-exit, matches-node_sets}
use Rattle.operations.proofs.AcceptedLaws.{run-accepted, accepted-run}
use Rattle.operations.proofs.ResultLaws.{result-accepted}
use Rattle.operations.proofs.AcceptedLaws.{ResultFits, ExchangeAccepted, exchange-accepted}
use Rattle.operations.proofs.OutcomeLaws.{outcomes-right}
use Rattle.operations.proofs.CellLaws.{words-node_set}
use Rattle.operations.proofs.TotalsLaws.{right-fault, right-moved}

-- the memory s and the plain chapter p, over slices of these lengths
pub record Related (a table : List ℕ) (chapter_length marks_length : ℕ) (p : List ℕ) (s : Memory) : Type 0 where
  pub count : s.count ≡ length p
  pub elements : take s.count s.chapter ≡ p
  pub chapter-long : length s.chapter ≡ chapter_length
  pub marks-long : length s.marks ≡ marks_length
  -- Run accepts p, and the used marks are its state sets
  pub run : run_fault a table p marks_length ≡ 0
  pub marks : take (length p * size_of table) s.marks ≡ flatten (node_sets a table p)
  -- and the record is right
  pub totals : s.totals ≡ totals_of table (node_sets a table p)

module _ (a table : List ℕ) (chapter_length marks_length : ℕ) where
  -- an accepted call with the plain chapter as the used elements
  abbrev PlainAccepted : List ℕ → Call → Type 0
  PlainAccepted p c = ExchangeAccepted a table (length p) p chapter_length marks_length c.element c.replacement

  -- the new tree passes Run's checks
  run-spliced : (p : List ℕ) (c : Call) → PlainAccepted p c → run_fault a table (splice a p c.element c.replacement) marks_length ≡ 0
  run-spliced p c k =
      accepted-run a table (splice a p c.element c.replacement) marks_length
      (result-accepted a table p chapter_length marks_length c.element c.replacement k)

  -- ---- one call

  module _ (p : List ℕ) (s : Memory) (c : Call) (g : Related a table chapter_length marks_length p s) where
    abbrev tree : List ℕ
    tree = new_tree (call_on a table s c)

    abbrev sets : List StateSet
    sets = map set_in (outcomes (call_on a table s c))

    -- the memory behind an accepted call
    abbrev exchanged : Memory
    exchanged = record {
      chapter = refit s.count tree s.chapter;
      marks = refit (s.count * size_of table) (flatten sets) s.marks;
      count = length tree;
      totals = moved_totals s.totals (old_totals (call_on a table s c)) (new_totals (call_on a table s c));
    }

    abbrev p' : List ℕ
    p' = splice a p c.element c.replacement

    abbrev call_fault : ℕ
    call_fault = exchange_fault a table (length p) p chapter_length marks_length c.element c.replacement

    -- the stored sets of the used elements
    stored : list_from (stored_in (call_on a table s c)) 0 s.count ≡ node_sets a table p
    stored = ap (list_from (stored_in (call_on a table s c)) 0) g.count ∙ stored-node_sets a table p s.marks g.marks

    right : s.totals ≡ old_totals (call_on a table s c)
    unfolding old_totals
    right = g.totals ∙ sym (ap (totals_of table) stored)

    -- so 27 does not apply
    words-decide : fault (call_on a table s c) s.totals ≡ words_fault (call_on a table s c)
    words-decide =
        right-fault (call_on a table s c)
        (rw stored (each-node_sets a table (AllBelow word_range) (words-node_set table) p)) s.totals right

    -- and the plain chapter is refused as the memory is
    same-fault : fault (call_on a table s c) s.totals ≡ call_fault
    unfolding words_fault
    same-fault =
        words-decide
        ∙ ap (λ (u : List ℕ). exchange_fault a table s.count u (length s.chapter) (length s.marks) c.element c.replacement)
        g.elements
        ∙ ap (λ (n : ℕ). exchange_fault a table n p (length s.chapter) (length s.marks) c.element c.replacement) g.count
        ∙ ap₂ (λ (n m : ℕ). exchange_fault a table (length p) p n m c.element c.replacement) g.chapter-long g.marks-long

    same-tree : tree ≡ p'
    unfolding new_tree
    same-tree = ap (λ (u : List ℕ). splice a u c.element c.replacement) g.elements

    same-sets : PlainAccepted p c → sets ≡ node_sets a table p'
    unfolding outcomes
    same-sets k =
        ap (λ (u : List ℕ). map set_in (outcomes_after a table (stored_set (size_of table) s.marks) u c.element c.replacement))
        g.elements
        ∙ outcomes-right a table (stored_set (size_of table) s.marks) p c.element c.replacement
        (tree-accepted a p k.marked.tree).shape k.change.element k.change.replacement.tree.shape
        (stored-right a table p s.marks g.marks)

    related-exchanged : PlainAccepted p c → Related a table chapter_length marks_length p' exchanged
    unfolding new_totals
    related-exchanged k = record {
      count = ap length same-tree;
      elements = take-refit s.count tree s.chapter ∙ same-tree;
      chapter-long =
          length-refit s.count tree s.chapter (omega (arith, k.count.within, g.count, g.chapter-long))
          (rw same-tree (omega (arith, fits.elements, g.chapter-long)))
          ∙ g.chapter-long;
      marks-long =
          length-refit (s.count * size_of table) (flatten sets) s.marks (rw g.count (omega (arith, k.marked.marks, g.marks-long)))
          (omega (arith, many, fits.marks, g.marks-long))
          ∙ g.marks-long;
      run = run-spliced p c k;
      marks =
          ap (λ (n : ℕ). take n (refit (s.count * size_of table) (flatten sets) s.marks)) (sym many)
          ∙ take-refit (s.count * size_of table) (flatten sets) s.marks ∙ ap flatten (same-sets k);
      totals = right-moved (call_on a table s c) s.totals right ∙ new k;
    }
      where
        fits : ResultFits table (length p') chapter_length marks_length
        fits = k.change.fits

        new : PlainAccepted p c → new_totals (call_on a table s c) ≡ totals_of table (node_sets a table p')
        new k = ap (totals_of table) (same-sets k)

        many : length (flatten sets) ≡ length p' * size_of table
        many = ap (λ (l : List StateSet). length (flatten l)) (same-sets k) ∙ length-words a table p'

    related-call : Related a table chapter_length marks_length (plain a table chapter_length marks_length p c) (exchange a table s c)
    unfolding plain exchange exchange_chapter exchange_marks exchange_answer exchange_totals new_chapter new_marks
    related-call = go (tested (eqb call_fault 0))
      where
        go : Tested (eqb call_fault 0)
            → Related a table chapter_length marks_length (plain a table chapter_length marks_length p c) (exchange a table s c)
        go (holds b) =
            rw (same-fault, b)
            (related-exchanged
            (exchange-accepted a table (length p) p chapter_length marks_length c.element c.replacement (eqb-true call_fault 0 b)))
        go (fails b) = rw (same-fault, b) g

    not-27 : answer_at a table s c ≡ refused 27 → ⊥
    unfolding exchange_answer
    not-27 h =
        let q = refused-number (fault (call_on a table s c) s.totals) _ 27 h in
        without-never 27 (exchange_refusals a table (length p) p chapter_length marks_length c.element c.replacement) (omega arith)
        (sym same-fault ∙ q.1)

  -- ---- all calls

  related-calls : (cs : List Call) (p : List ℕ) (s : Memory) → Related a table chapter_length marks_length p s
      → Related a table chapter_length marks_length (plains a table chapter_length marks_length cs p) (exchanges a table cs s)
  unfolding plains exchanges
  related-calls [] p s g = g
  related-calls (c ∷ cs) p s g =
      related-calls cs (plain a table chapter_length marks_length p c) (exchange a table s c) (related-call p s c g)

  never-27 : (cs : List Call) (p : List ℕ) (s : Memory) → Related a table chapter_length marks_length p s → NeverRefused 27 a table cs s
  never-27 [] p s g = tt
  never-27 (c ∷ cs) p s g =
      (not-27 p s c g, never-27 cs (plain a table chapter_length marks_length p c) (exchange a table s c) (related-call p s c g))

  -- ---- what follows

  related-faithful : (p : List ℕ) (s : Memory) → Related a table chapter_length marks_length p s → Faithful a table p s
  unfolding list_answer list_exit run_answer run_totals
  related-faithful p s g = record { count = g.count; elements = g.elements; fresh = fresh }
    where
      fresh : (slice : List ℕ) → length slice ≡ length s.marks → Fresh a table p s slice
      fresh slice n = record {
        cells = cells_in (flatten (node_sets a table p));
        answer = rw (run, g.count);
        marks =
            ap (λ (i : ℕ). take (i * size_of table) s.marks) g.count ∙ g.marks ∙ sym written
            ∙ ap (λ (i : ℕ). take (i * size_of table) (run_exit a table p slice)) (sym g.count);
        totals = λ t. g.totals ∙ sym (rw run refl);
        answers = λ l. ap₂ (λ (i : ℕ) (ms : List ℕ). answer_of (list_fault a table s.count i (length l)) (length ms ∷ [])) lengths matches;
        lists =
            λ l. ap₂ (λ (i : ℕ) (ms : List ℕ). exit_of (list_fault a table s.count i (length l)) (written_over ms l) l)
            lengths matches;
      }
        where
          long : length slice ≡ marks_length
          long = n ∙ g.marks-long

          run : run_fault a table p (length slice) ≡ 0
          run = ap (run_fault a table p) long ∙ g.run

          written : take (length p * size_of table) (run_exit a table p slice) ≡ flatten (node_sets a table p)
          written = ap (take (length p * size_of table)) (run-exit a table p slice run) ∙ run-writes a table p slice

          lengths : length s.marks ≡ length (run_exit a table p slice)
          lengths =
              sym n ∙ sym (ap length (run-exit a table p slice run)
              ∙ run_length a table p slice (run-accepted a table p (length slice) run).marked.marks)

          matches : matches_of table s.count s.marks ≡ matches_of table s.count (run_exit a table p slice)
          matches =
              ap (λ (i : ℕ). matches_of table i s.marks) g.count
              ∙ matches-node_sets a table p s.marks g.marks
              ∙ sym (matches-node_sets a table p (run_exit a table p slice) written)
              ∙ ap (λ (i : ℕ). matches_of table i (run_exit a table p slice)) (sym g.count)

-- ---- an accepted Run begins it

related-start : (a table ch : List ℕ) (s : Memory) → Start a table ch s → Related a table (length s.chapter) (length s.marks) ch s
unfolding run_answer run_totals
related-start a table ch s h = record {
  count = count;
  elements = ap (λ (i : ℕ). take i s.chapter) count ∙ h.begins;
  chapter-long = refl;
  marks-long = refl;
  run = ap (run_fault a table ch) same ∙ run;
  marks = ap (take (length ch * size_of table)) left ∙ run-writes a table ch h.before;
  totals = h.totals ∙ rw run refl;
}
  where
    facts : (run_fault a table ch (length h.before) ≡ 0)
        × (length ch ∷ cells_in (flatten (node_sets a table ch)) ∷ [] ≡ s.count ∷ h.cells ∷ [])
    facts = accepted-values (run_fault a table ch (length h.before)) _ _ h.answer

    run : run_fault a table ch (length h.before) ≡ 0
    run = facts.0

    count : s.count ≡ length ch
    count = sym (head-eq_of_cons-eq facts.1)

    left : s.marks ≡ run_marks a table ch h.before
    left = h.marks ∙ run-exit a table ch h.before run

    same : length s.marks ≡ length h.before
    same = ap length left ∙ run_length a table ch h.before (run-accepted a table ch (length h.before) run).marked.marks

related-end : (a table ch : List ℕ) (s : Memory) (calls : List Call) → Start a table ch s
    → Related a table (length s.chapter) (length s.marks) (plains a table (length s.chapter) (length s.marks) calls ch)
    (exchanges a table calls s)
related-end a table ch s calls h =
    related-calls a table (length s.chapter) (length s.marks) calls ch s (related-start a table ch s h)

-- demand 3
pub demand3 : Demand3
demand3 a table_slice ch s calls h =
    let table = table_in table_slice in
    let m = length s.chapter in
    let n = length s.marks in (
      related-faithful a table m n (plains a table m n calls ch) (exchanges a table calls s) (related-end a table ch s calls h),
      never-27 a table m n calls ch s (related-start a table ch s h),
    )

-- and the two slices keep their lengths
pub record SameLengths (s t : Memory) : Type 0 where
  pub chapter : length t.chapter ≡ length s.chapter
  pub marks : length t.marks ≡ length s.marks

pub exchanges-lengths : (a table ch : List ℕ) (s : Memory) (calls : List Call) → Start a table ch s
    → SameLengths s (exchanges a table calls s)
exchanges-lengths a table ch s calls h =
    let g = related-end a table ch s calls h in
    record { chapter = g.chapter-long; marks = g.marks-long }
