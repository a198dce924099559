-- `matcher::list` meets its contract: the slice is cut behind its table, a refused call leaves the list, and an accepted one is that
-- of `write_matches`.
use mathlib.Core.Path.{sym}
use native.Mathlib.Omega.{arith}
use lib.Seq.{length-take-le}
use Rattle.std.proofs.lemmas.Result.{err_from_is_err_and}
use Rattle.automaton.proofs.LengthWordLaws.{table_word_count-inside, cut_in}
use Rattle.matcher.proofs.ListingLaws.{list-refused, list-accepts}
use Rattle.matcher.proofs.list.Goals as goal

pub slice_bounds-table-end : goal.slice_bounds-table-end
slice_bounds-table-end c =
    let inside = table_word_count-inside c.args.table_slice.now in
    sym (length-take-le _ _ (omega (arith, c.table_word_count-words.ensures)))

pub returns-in_err-list_fault : goal.returns-in_err-list_fault
returns-in_err-list_fault c =
    let done = list-refused _ _ _ c.args.marks.now c.args.list.now _ c.in_err-list_fault.ensures in
    let p = err_from_is_err_and c.from_residual.result c.from_residual.ensures.1 in
    record {
      answer = rw (p.1, p.2, ← cut_in _ c.table_word_count-words.ensures) done.0;
      list = rw (← cut_in _ c.table_word_count-words.ensures) done.1;
    }

pub write_matches-requires : goal.write_matches-requires
write_matches-requires c = sym c.in_ok-list_fault.ensures

pub returns : goal.returns
returns c =
    let done =
    list-accepts _ _ _ c.args.marks.now c.args.list.now c.in_ok-list_fault.ensures _ _ c.write_matches.ensures.answer
    c.write_matches.ensures.list in
    record {
      answer = rw (← cut_in _ c.table_word_count-words.ensures) done.0;
      list = rw (← cut_in _ c.table_word_count-words.ensures) done.1;
    }
