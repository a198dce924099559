-- `slices::moves::move_down` meets its contract: a word is read at or behind the place that is written next, so it is still as it was.
use Prim.Native.Nat.{◌≤◌}
use mathlib.Core.Path.{refl, sym, ◌∙◌}
use native.Mathlib.Omega.{arith}
use lib.ListN.{length, drop, length-drop}
use lib.Seq.{get_or-drop}
use Rattle.slices.proofs.CopyLaws.{copied_none, copied_more, copied-end, copied_behind}
use Rattle.slices.proofs.moves.move_down.Goals as goal

pub loop-k-init : goal.loop-k-init
loop-k-init c = copied_none _ _ _ _

pub loop-k-preserved : goal.loop-k-preserved
loop-k-preserved c =
    let words = c.args.words.now in
    let from = c.args.from in
    let k = c.loop-k.k in
    let inside = c.requires.movable in
    let low = c.requires.to_le_from in
    let inv = c.loop-k.invariant in
    let taken = c.loop-k-test.true in
    let enough : c.args.count ≤ length (drop from words) = rw (length-drop from words) (omega (arith, inside.source)) in
    copied_more _ _ _ _ _ _ _ _ inv taken inside.target enough refl
    (copied_behind _ _ _ _ _ _ _ inv (omega arith) (omega (arith, inside.target)) enough ∙ sym (get_or-drop from words k 0))

pub returns : goal.returns
returns c = copied-end _ _ _ _ _ _ c.loop-k.invariant c.loop-k-test.false
