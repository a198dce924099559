-- `matcher::run_counted` meets its contract: the slice is cut behind its table, a refused call leaves the marks and the record, and an
-- accepted one is that of `mark_chapter`.
use mathlib.Core.Path.{sym}
use native.Mathlib.Omega.{arith}
use lib.Seq.{length-take-le}
use Rattle.std.proofs.lemmas.Result.{err_from_is_err_and}
use Rattle.automaton.proofs.LengthWordLaws.{table_word_count-inside, cut_in}
use Rattle.totals.specs.TotalsIn.{totals_in}
use Rattle.matcher.proofs.RunCallLaws.{run-refused, run-accepts}
use Rattle.matcher.proofs.run_counted.Goals as goal

pub slice_bounds-table-end : goal.slice_bounds-table-end
slice_bounds-table-end c =
    let inside = table_word_count-inside c.args.table_slice.now in
    sym (length-take-le _ _ (omega (arith, c.table_word_count-words.ensures)))

pub returns-in_err-run_fault : goal.returns-in_err-run_fault
returns-in_err-run_fault c =
    let done = run-refused _ _ _ c.args.marks.now _ c.in_err-run_fault.ensures in
    let p = err_from_is_err_and c.from_residual.result c.from_residual.ensures.1 in
    record {
      answer = rw (p.1, p.2, ← cut_in _ c.table_word_count-words.ensures) done.0;
      marks = rw (← cut_in _ c.table_word_count-words.ensures) done.1.0;
      totals = λ before. rw (p.1, ← cut_in _ c.table_word_count-words.ensures) (done.1.1 (totals_in before));
    }

pub mark_chapter-requires : goal.mark_chapter-requires
mark_chapter-requires c = sym c.in_ok-run_fault.ensures

pub returns : goal.returns
returns c =
    let done =
    run-accepts _ _ _ c.args.marks.now c.in_ok-run_fault.ensures _ _ c.mark_chapter.ensures.answer c.mark_chapter.ensures.marks in
    record {
      answer = rw (← cut_in _ c.table_word_count-words.ensures) done.0;
      marks = rw (← cut_in _ c.table_word_count-words.ensures) done.1.0;
      totals = λ before. rw (← cut_in _ c.table_word_count-words.ensures) (done.1.1 (totals_in before));
    }
