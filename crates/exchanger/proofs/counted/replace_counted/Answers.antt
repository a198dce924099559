-- `exchanger::counted::replace_counted` meets its contract: where 27 applies nothing has changed; otherwise the exchange is made, and the
-- record is moved by what the totals at the place were and are.
use mathlib.Core.Path.{◌≡◌, ap, ap₂, ◌∙◌, sym}
use Prim.Native.Nat.{◌≤◌}
use native.Mathlib.Omega.{arith}
use lib.ListN.{length}
use lib.Seq.{length-take-le, take_at}
use Rattle.words.specs.Answer.{accepted}
use Rattle.forecast.specs.ChangeIn.{call_in}
use Rattle.operations.specs.Totals.{moved_totals}
use Rattle.totals.specs.TotalsIn.{totals_in}
use Rattle.totals.specs.Place.{fallen_totals, added_totals}
use Rattle.totals.proofs.ExchangedTotals.{same-moved}
use Rattle.totals.proofs.ListedExchange.{above-few, above-listable, above-movable, fallen-countable, fallen-listed}
use Rattle.totals.proofs.ListedExchange.{added-countable, added-listed}
use Rattle.exchanger.proofs.ExchangeAnswerLaws.{totals-refused, call-replaced}
use Rattle.exchanger.proofs.CountedLaws.{listed-words, place-numbers, place-small, added-decides}
use Rattle.exchanger.proofs.counted.replace_counted.Goals as goal

pub slice_bounds-list_ancestors-end : goal.slice_bounds-list_ancestors-end
slice_bounds-list_ancestors-end c =
    let q = call_in c.args.change c.args.chapter.now c.args.marks.now in
    (place-numbers q c.requires.passes c.args.change.start c.requires.begins).within

pub slice_bounds-list_ancestors-end-2 : goal.slice_bounds-list_ancestors-end-2
slice_bounds-list_ancestors-end-2 c =
    let q = call_in c.args.change c.args.chapter.now c.args.marks.now in
    sym (length-take-le _ _ (place-numbers q c.requires.passes c.args.change.start c.requires.begins).within)

pub list_ancestors-many-requires : goal.list_ancestors-many-requires
list_ancestors-many-requires c =
    let q = call_in c.args.change c.args.chapter.now c.args.marks.now in
    above-listable q c.requires.passes _ (omega arith)

pub overflow_add-end : goal.overflow_add-end
overflow_add-end c =
    let q = call_in c.args.change c.args.chapter.now c.args.marks.now in
    let f = place-numbers q c.requires.passes c.args.change.start c.requires.begins in
    omega arith

pub listed_totals-fallen-requires : goal.listed_totals-fallen-requires
listed_totals-fallen-requires c =
    let q = call_in c.args.change c.args.chapter.now c.args.marks.now in
    fallen-countable q c.requires.passes _ (listed-words _ _ _ _ c.list_ancestors-many.ensures.answer c.list_ancestors-many.ensures.list) _ c.requires.begins

pub wrong_totals-requires-clause-fallen_value : goal.wrong_totals-requires-clause-fallen_value
wrong_totals-requires-clause-fallen_value c =
    let q = call_in c.args.change c.args.chapter.now c.args.marks.now in
    fallen-listed q c.requires.passes _ (listed-words _ _ _ _ c.list_ancestors-many.ensures.answer c.list_ancestors-many.ensures.list) _ c.requires.begins _
    c.listed_totals-fallen.ensures

pub returns-then-wrong_totals : goal.returns-then-wrong_totals
returns-then-wrong_totals c =
    let q = call_in c.args.change c.args.chapter.now c.args.marks.now in
    let all =
    totals-refused q (totals_in c.args.before) c.requires.passes (rw (← c.wrong_totals.ensures) c.if-wrong_totals.true) in
    record { answer = all.0; chapter = all.1.0; marks = all.1.1.0; totals = all.1.1.1 }

pub overflow_add-behind : goal.overflow_add-behind
overflow_add-behind c =
    let q = call_in c.args.change c.args.chapter.now c.args.marks.now in
    omega (arith, place-small q c.requires.passes c.args.change.start c.requires.begins)

pub move_numbers-requires : goal.move_numbers-requires
move_numbers-requires c =
    let q = call_in c.args.change c.args.chapter.now c.args.marks.now in
    above-movable q c.requires.passes _ (listed-words _ _ _ _ c.list_ancestors-many.ensures.answer c.list_ancestors-many.ensures.list) _ c.requires.begins

pub listed_totals-added-requires : goal.listed_totals-added-requires
listed_totals-added-requires c =
    let q = call_in c.args.change c.args.chapter.now c.args.marks.now in
    let few = above-few q c.requires.passes in
    let k = c.list_ancestors-many.auto.list in
    let room : c.list_ancestors-many.result ≤ length c.list_ancestors-many.new.list =
    omega (arith, c.list_ancestors-many.ensures.answer) in
    let moved-long : length c.move_numbers.new.list ≡ c.list_ancestors-many.result =
    c.move_numbers.auto.list ∙ length-take-le _ _ room in
    added-countable q c.requires.passes _ (listed-words _ _ _ _ c.list_ancestors-many.ensures.answer c.list_ancestors-many.ensures.list) _ c.requires.begins _
    (take_at c.move_numbers.new.list _ _ moved-long ∙ c.move_numbers.ensures) _ c.replace_subtree-replaced.auto.marks

pub moved_totals-requires : goal.moved_totals-requires
moved_totals-requires c =
    let q = call_in c.args.change c.args.chapter.now c.args.marks.now in
    let few = above-few q c.requires.passes in
    let k = c.list_ancestors-many.auto.list in
    let room : c.list_ancestors-many.result ≤ length c.list_ancestors-many.new.list =
    omega (arith, c.list_ancestors-many.ensures.answer) in
    let moved-long : length c.move_numbers.new.list ≡ c.list_ancestors-many.result =
    c.move_numbers.auto.list ∙ length-take-le _ _ room in
    let fallen-is : totals_in c.listed_totals-fallen.result ≡ fallen_totals q =
    fallen-listed q c.requires.passes _ (listed-words _ _ _ _ c.list_ancestors-many.ensures.answer c.list_ancestors-many.ensures.list) _ c.requires.begins _
    c.listed_totals-fallen.ensures in
    let added-is : totals_in c.listed_totals-added.result ≡ added_totals q =
    added-listed q c.requires.passes _ (listed-words _ _ _ _ c.list_ancestors-many.ensures.answer c.list_ancestors-many.ensures.list) _ c.requires.begins _
    (take_at c.move_numbers.new.list _ _ moved-long ∙ c.move_numbers.ensures) _ c.replace_subtree-replaced.ensures.marks _ c.listed_totals-added.ensures in
    added-decides q c.requires.passes c.args.change.start c.requires.begins (totals_in c.listed_totals-fallen.result) fallen-is
    (totals_in c.args.before) (totals_in c.listed_totals-added.result) added-is
    ∙ rw (← c.wrong_totals.ensures) c.if-wrong_totals.false

pub returns : goal.returns
returns c =
    let q = call_in c.args.change c.args.chapter.now c.args.marks.now in
    let few = above-few q c.requires.passes in
    let k = c.list_ancestors-many.auto.list in
    let room : c.list_ancestors-many.result ≤ length c.list_ancestors-many.new.list =
    omega (arith, c.list_ancestors-many.ensures.answer) in
    let moved-long : length c.move_numbers.new.list ≡ c.list_ancestors-many.result =
    c.move_numbers.auto.list ∙ length-take-le _ _ room in
    let fallen-is : totals_in c.listed_totals-fallen.result ≡ fallen_totals q =
    fallen-listed q c.requires.passes _ (listed-words _ _ _ _ c.list_ancestors-many.ensures.answer c.list_ancestors-many.ensures.list) _ c.requires.begins _
    c.listed_totals-fallen.ensures in
    let added-is : totals_in c.listed_totals-added.result ≡ added_totals q =
    added-listed q c.requires.passes _ (listed-words _ _ _ _ c.list_ancestors-many.ensures.answer c.list_ancestors-many.ensures.list) _ c.requires.begins _
    (take_at c.move_numbers.new.list _ _ moved-long ∙ c.move_numbers.ensures) _ c.replace_subtree-replaced.ensures.marks _ c.listed_totals-added.ensures in
    let t = totals_in c.args.before in
    let all =
    call-replaced q t c.requires.passes (rw (← c.wrong_totals.ensures) c.if-wrong_totals.false) _ _ _ _
    (ap accepted c.replace_subtree-replaced.ensures.answer) c.replace_subtree-replaced.ensures.chapter c.replace_subtree-replaced.ensures.marks
    (c.moved_totals.ensures ∙ ap₂ (moved_totals t) fallen-is added-is ∙ sym (same-moved q c.requires.passes t)) in
    record { answer = all.0; chapter = all.1.0; marks = all.1.1.0; totals = all.1.1.1 }
