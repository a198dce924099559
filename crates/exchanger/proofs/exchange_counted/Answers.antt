-- `exchanger::exchange_counted` meets its contract: the slice is cut behind its table, a refused call changes nothing, and an accepted
-- one does what the definitions say.
use mathlib.Core.Path.{sym}
use native.Mathlib.Omega.{arith}
use lib.ListN.{take}
use lib.Seq.{length-take-le}
use Rattle.std.proofs.lemmas.Result.{IfOk-at_ok}
use Rattle.automaton.proofs.LengthWordLaws.{table_word_count-inside, cut_in}
use Rattle.operations.specs.ExchangeCall.{exchange_call}
use Rattle.totals.specs.TotalsIn.{totals_in}
use Rattle.exchanger.proofs.ExchangeAnswerLaws.{call-passes, refused-cut}
use Rattle.exchanger.proofs.exchange_counted.Goals as goal

pub slice_bounds-table-end : goal.slice_bounds-table-end
slice_bounds-table-end c =
    let inside = table_word_count-inside c.args.table_slice.now in
    sym (length-take-le _ _ (omega (arith, c.table_word_count-words.ensures)))

pub returns-in-Err : goal.returns-in-Err
returns-in-Err c =
    let all =
    refused-cut c.args.alphabet.now c.args.table_slice.now c.args.chapter.now c.args.marks.now c.args.count c.args.element
    c.args.replacement.now (totals_in c.args.before) c.table_word_count-words.ensures c.exchange_fault-judged.ensures.fault
    c.in-Err.is in
    record {
      answer = all.0;
      chapter = all.1.0;
      marks = all.1.1.0;
      totals = all.1.1.1;
    }

pub replace_counted-requires : goal.replace_counted-requires
replace_counted-requires c =
    let q =
    exchange_call c.args.alphabet.now (take c.table_word_count-words.result c.args.table_slice.now) c.args.chapter.now
    c.args.marks.now c.args.count c.args.element c.args.replacement.now in
    record {
      passes = call-passes q c.exchange_fault-judged.ensures.fault c.in-Ok.is;
      begins = IfOk-at_ok _ c.in-Ok.is c.exchange_fault-judged.ensures.begins;
    }

pub returns : goal.returns
returns c = record {
  answer = rw (← cut_in _ c.table_word_count-words.ensures) c.replace_counted.ensures.answer;
  chapter = rw (← cut_in _ c.table_word_count-words.ensures) c.replace_counted.ensures.chapter;
  marks = rw (← cut_in _ c.table_word_count-words.ensures) c.replace_counted.ensures.marks;
  totals = rw (← cut_in _ c.table_word_count-words.ensures) c.replace_counted.ensures.totals;
}
