-- `exchanger::counted::wrong_totals` meets its contract: the totals at the place decide, elements, hits and cells in their order.
use mathlib.Core.Path.{◌≡◌, ap, ◌∙◌, sym}
use native.Mathlib.Omega.{arith}
use Rattle.forecast.specs.ChangeIn.{call_in}
use Rattle.operations.specs.Totals.{out_of_range}
use Rattle.totals.specs.TotalsIn.{totals_in}
use Rattle.totals.specs.Place.{added_totals}
use Rattle.totals.proofs.MoveLaws.{wrong-elements}
use Rattle.exchanger.proofs.CountedLaws.{place-numbers, subtree-fallen, place-elements, place-decides, figures-decide, figures-fit, added-few, cells-few, cells-room, hits-room}
use Rattle.exchanger.proofs.counted.wrong_totals.Goals as goal

pub overflow_add-ancestors : goal.overflow_add-ancestors
overflow_add-ancestors c =
    let q = call_in c.args.change c.args.chapter.now c.args.marks.now in
    let f = place-numbers q c.requires.replaceable.passes c.args.change.start c.requires.replaceable.begins in
    omega arith

pub overflow_sub-ancestors : goal.overflow_sub-ancestors
overflow_sub-ancestors c =
    let q = call_in c.args.change c.args.chapter.now c.args.marks.now in
    let f = place-numbers q c.requires.replaceable.passes c.args.change.start c.requires.replaceable.begins in
    omega arith

pub overflow_sub-ancestors-2 : goal.overflow_sub-ancestors-2
overflow_sub-ancestors-2 c =
    let q = call_in c.args.change c.args.chapter.now c.args.marks.now in
    subtree-fallen q c.requires.replaceable.passes c.args.change.start c.requires.replaceable.begins (totals_in c.args.fallen) c.requires.fallen_value

pub overflow_cast-many : goal.overflow_cast-many
overflow_cast-many c =
    let q = call_in c.args.change c.args.chapter.now c.args.marks.now in
    let many = place-elements q c.requires.replaceable.passes c.args.change.start c.requires.replaceable.begins (totals_in c.args.fallen) c.requires.fallen_value in
    omega (arith, many, added-few q c.requires.replaceable.passes)

pub returns-then-is_out_of_range : goal.returns-then-is_out_of_range
returns-then-is_out_of_range c =
    let q = call_in c.args.change c.args.chapter.now c.args.marks.now in
    let elements : c.is_out_of_range.result
    ≡ out_of_range (totals_in c.args.before).elements (totals_in c.args.fallen).elements (added_totals q).elements =
    c.is_out_of_range.ensures
    ∙ ap (out_of_range (totals_in c.args.before).elements (totals_in c.args.fallen).elements)
    (place-elements q c.requires.replaceable.passes c.args.change.start c.requires.replaceable.begins (totals_in c.args.fallen) c.requires.fallen_value) in
    wrong-elements _ _ _ _ elements c.if-is_out_of_range.true
    ∙ place-decides q c.requires.replaceable.passes c.args.change.start c.requires.replaceable.begins (totals_in c.args.fallen) c.requires.fallen_value _

pub overflow_mul-bits : goal.overflow_mul-bits
overflow_mul-bits c =
    let q = call_in c.args.change c.args.chapter.now c.args.marks.now in
    let many = place-elements q c.requires.replaceable.passes c.args.change.start c.requires.replaceable.begins (totals_in c.args.fallen) c.requires.fallen_value in
    let few = cells-few q c.requires.replaceable.passes c.set_size-size.result c.set_size-size.ensures in
    rw many (omega (arith, few))

pub overflow_mul-bits-2 : goal.overflow_mul-bits-2
overflow_mul-bits-2 c =
    let q = call_in c.args.change c.args.chapter.now c.args.marks.now in
    let many = place-elements q c.requires.replaceable.passes c.args.change.start c.requires.replaceable.begins (totals_in c.args.fallen) c.requires.fallen_value in
    let few = cells-few q c.requires.replaceable.passes c.set_size-size.result c.set_size-size.ensures in
    rw many (omega (arith, few))

pub has_room-hits_fit-requires : goal.has_room-hits_fit-requires
has_room-hits_fit-requires c =
    let q = call_in c.args.change c.args.chapter.now c.args.marks.now in
    let many = place-elements q c.requires.replaceable.passes c.args.change.start c.requires.replaceable.begins (totals_in c.args.fallen) c.requires.fallen_value in
    omega (arith, many, added-few q c.requires.replaceable.passes)

pub has_room-cells_fit-requires : goal.has_room-cells_fit-requires
has_room-cells_fit-requires c =
    let q = call_in c.args.change c.args.chapter.now c.args.marks.now in
    let many = place-elements q c.requires.replaceable.passes c.args.change.start c.requires.replaceable.begins (totals_in c.args.fallen) c.requires.fallen_value in
    rw many (cells-few q c.requires.replaceable.passes c.set_size-size.result c.set_size-size.ensures)

pub returns-then-cells_fit : goal.returns-then-cells_fit
returns-then-cells_fit c =
    let q = call_in c.args.change c.args.chapter.now c.args.marks.now in
    let many = place-elements q c.requires.replaceable.passes c.args.change.start c.requires.replaceable.begins (totals_in c.args.fallen) c.requires.fallen_value in
    let elements : c.is_out_of_range.result
    ≡ out_of_range (totals_in c.args.before).elements (totals_in c.args.fallen).elements (added_totals q).elements =
    c.is_out_of_range.ensures
    ∙ ap (out_of_range (totals_in c.args.before).elements (totals_in c.args.fallen).elements) many in
    figures-fit (totals_in c.args.before) (totals_in c.args.fallen) (added_totals q) (sym elements ∙ c.if-is_out_of_range.false)
    (hits-room q c.requires.replaceable.passes _ _ (rw (← many) (sym c.has_room-hits_fit.ensures ∙ c.if-hits_fit.true)))
    (cells-room q c.requires.replaceable.passes c.set_size-size.result c.set_size-size.ensures (λ i. (c.type_inv.marks i).fits) _ _
    (rw (← many) (sym c.has_room-cells_fit.ensures ∙ c.if-cells_fit.true)))
    ∙ place-decides q c.requires.replaceable.passes c.args.change.start c.requires.replaceable.begins (totals_in c.args.fallen) c.requires.fallen_value _

pub returns : goal.returns
returns c =
    let q = call_in c.args.change c.args.chapter.now c.args.marks.now in
    let elements : c.is_out_of_range.result
    ≡ out_of_range (totals_in c.args.before).elements (totals_in c.args.fallen).elements (added_totals q).elements =
    c.is_out_of_range.ensures
    ∙ ap (out_of_range (totals_in c.args.before).elements (totals_in c.args.fallen).elements)
    (place-elements q c.requires.replaceable.passes c.args.change.start c.requires.replaceable.begins (totals_in c.args.fallen) c.requires.fallen_value) in
    c.wrong_figures.ensures
    ∙ figures-decide (totals_in c.args.before) (totals_in c.args.fallen) (added_totals q) (sym elements ∙ c.if-is_out_of_range.false)
    ∙ place-decides q c.requires.replaceable.passes c.args.change.start c.requires.replaceable.begins (totals_in c.args.fallen) c.requires.fallen_value _
