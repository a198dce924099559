-- `alphabet::write_constants` meets its contract: before each turn the constants of the first `symbol` entries are stored from
-- the first word of the list on, as far as it reaches, and `n` is their number.
use mathlib.Core.Path.{◌∙◌, sym}
use Rattle.alphabet.proofs.ConstantScanLaws.{written_none, written-length, written-more}
use Rattle.alphabet.proofs.ConstantScanLaws.{written-past, written-skip, written-end}
use Rattle.alphabet.proofs.write_constants.Goals as goal
use Rattle.alphabet.proofs.write_constants.Goals.{then-is_constant, then-n-list, else-n-list, else-is_constant}

pub loop-symbol-init : goal.loop-symbol-init
loop-symbol-init c = written_none _ _

pub loop-symbol-preserved : goal.loop-symbol-preserved
loop-symbol-preserved c =
    let inv = c.loop-symbol.invariant in
    let h = c.loop-symbol-test.true in
    let e = sym c.is_constant.ensures in
    elim c.if-is_constant.branch [
      | then-is_constant w ↦ rw (w.list-is, w.n-is) (elim w.if-n-list.branch [
        | then-n-list v ↦ rw v.list-is (written-more inv h (e ∙ w.if-is_constant.true))
        | else-n-list v ↦ rw v.list-is (written-past inv h (e ∙ w.if-is_constant.true) v.if-n-list.false)
      ])
      | else-is_constant w ↦ rw (w.list-is, w.n-is) (written-skip inv h (e ∙ w.if-is_constant.false))
    ]

pub shape_of-list : goal.shape_of-list
shape_of-list c = written-length c.loop-symbol.invariant

pub returns : goal.returns
returns c = let both = written-end c.loop-symbol.invariant c.loop-symbol-test.false in record { answer = both.0; list = both.1 }
