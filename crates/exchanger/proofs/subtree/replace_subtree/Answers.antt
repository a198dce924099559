-- `exchanger::subtree::replace_subtree` meets its contract: both tails move, the replacement fills the chapter's gap, and the loops
-- recompute what the definition says, with the old element's words at the root's place.
use mathlib.Core.Path.{ap₂}
use mathlib.Core.List.{[], ◌∷◌}
use Prim.Native.Nat.{ℕ}
use native.Mathlib.Omega.{arith}
use Rattle.forecast.specs.ChangeIn.{call_in}
use Rattle.exchanger.proofs.CallNumberLaws.{call-numbers, chapter-movable, marks-movable}
use Rattle.exchanger.proofs.ReplaceLaws.{chapter-exit, chapter-count, call-updatable, marks-exit}
use Rattle.exchanger.proofs.subtree.replace_subtree.Goals as goal

pub overflow_add-behind : goal.overflow_add-behind
overflow_add-behind c =
    let q = call_in c.args.change c.args.chapter.now c.args.marks.now in
    let f = call-numbers q c.requires.passes c.args.change.start c.requires.begins c.set_size-size.result c.set_size-size.ensures in
    omega arith

pub overflow_sub-root : goal.overflow_sub-root
overflow_sub-root c =
    let q = call_in c.args.change c.args.chapter.now c.args.marks.now in
    let f = call-numbers q c.requires.passes c.args.change.start c.requires.begins c.set_size-size.result c.set_size-size.ensures in
    omega arith

pub overflow_sub-total : goal.overflow_sub-total
overflow_sub-total c =
    let q = call_in c.args.change c.args.chapter.now c.args.marks.now in
    let f = call-numbers q c.requires.passes c.args.change.start c.requires.begins c.set_size-size.result c.set_size-size.ensures in
    omega arith

pub overflow_sub-total-2 : goal.overflow_sub-total-2
overflow_sub-total-2 c =
    let q = call_in c.args.change c.args.chapter.now c.args.marks.now in
    let f = call-numbers q c.requires.passes c.args.change.start c.requires.begins c.set_size-size.result c.set_size-size.ensures in
    omega arith

pub overflow_add-total : goal.overflow_add-total
overflow_add-total c =
    let q = call_in c.args.change c.args.chapter.now c.args.marks.now in
    let f = call-numbers q c.requires.passes c.args.change.start c.requires.begins c.set_size-size.result c.set_size-size.ensures in
    omega arith

pub overflow_add-element : goal.overflow_add-element
overflow_add-element c =
    let q = call_in c.args.change c.args.chapter.now c.args.marks.now in
    let f = call-numbers q c.requires.passes c.args.change.start c.requires.begins c.set_size-size.result c.set_size-size.ensures in
    omega arith

pub move_tail-requires : goal.move_tail-requires
move_tail-requires c =
    let q = call_in c.args.change c.args.chapter.now c.args.marks.now in
    chapter-movable q c.requires.passes c.args.change.start c.requires.begins c.set_size-size.result c.set_size-size.ensures

pub copy_words-requires : goal.copy_words-requires
copy_words-requires c =
    let q = call_in c.args.change c.args.chapter.now c.args.marks.now in
    let f = call-numbers q c.requires.passes c.args.change.start c.requires.begins c.set_size-size.result c.set_size-size.ensures in
    let k = c.move_tail.auto.words in
    omega arith

pub overflow_mul-count : goal.overflow_mul-count
overflow_mul-count c =
    let q = call_in c.args.change c.args.chapter.now c.args.marks.now in
    let f = call-numbers q c.requires.passes c.args.change.start c.requires.begins c.set_size-size.result c.set_size-size.ensures in
    omega arith

pub overflow_mul-element : goal.overflow_mul-element
overflow_mul-element c =
    let q = call_in c.args.change c.args.chapter.now c.args.marks.now in
    let f = call-numbers q c.requires.passes c.args.change.start c.requires.begins c.set_size-size.result c.set_size-size.ensures in
    omega arith

pub overflow_mul-root : goal.overflow_mul-root
overflow_mul-root c =
    let q = call_in c.args.change c.args.chapter.now c.args.marks.now in
    let f = call-numbers q c.requires.passes c.args.change.start c.requires.begins c.set_size-size.result c.set_size-size.ensures in
    omega arith

pub move_tail-requires-2 : goal.move_tail-requires-2
move_tail-requires-2 c =
    let q = call_in c.args.change c.args.chapter.now c.args.marks.now in
    marks-movable q c.requires.passes c.args.change.start c.requires.begins c.set_size-size.result c.set_size-size.ensures

pub slice_bounds-update_marks-end : goal.slice_bounds-update_marks-end
slice_bounds-update_marks-end c =
    let q = call_in c.args.change c.args.chapter.now c.args.marks.now in
    let f = call-numbers q c.requires.passes c.args.change.start c.requires.begins c.set_size-size.result c.set_size-size.ensures in
    let k = c.move_tail.auto.words in
    let k₂ = c.copy_words.auto.words in
    omega arith

pub slice_bounds-update_marks-end-2 : goal.slice_bounds-update_marks-end-2
slice_bounds-update_marks-end-2 c =
    let q = call_in c.args.change c.args.chapter.now c.args.marks.now in
    chapter-count q c.requires.passes c.args.change.start c.requires.begins c.set_size-size.result c.set_size-size.ensures
    _ _ c.move_tail.ensures c.copy_words.ensures

pub update_marks-recomputed-requires : goal.update_marks-recomputed-requires
update_marks-recomputed-requires c =
    let q = call_in c.args.change c.args.chapter.now c.args.marks.now in
    call-updatable q c.requires.passes c.args.change.start c.requires.begins c.set_size-size.result c.set_size-size.ensures
    _ _ c.move_tail.ensures c.copy_words.ensures _ c.move_tail-2.ensures c.move_tail-2.auto.words

pub returns : goal.returns
returns c =
    let q = call_in c.args.change c.args.chapter.now c.args.marks.now in
    let f = call-numbers q c.requires.passes c.args.change.start c.requires.begins c.set_size-size.result c.set_size-size.ensures in
    let left =
    marks-exit q c.requires.passes c.args.change.start c.requires.begins c.set_size-size.result c.set_size-size.ensures
    _ _ c.move_tail.ensures c.copy_words.ensures _ c.move_tail-2.ensures c.move_tail-2.auto.words
    _ _ c.update_marks-recomputed.ensures in
    record {
      answer = ap₂ (λ (i j : ℕ). i ∷ j ∷ []) f.total left.count-is;
      chapter = chapter-exit q c.requires.passes c.args.change.start c.requires.begins c.set_size-size.result c.set_size-size.ensures _ _ c.move_tail.ensures c.copy_words.ensures;
      marks = left.words;
    }
