-- From what is judged of a chapter's elements to the number of the first refusal, and the height of a result from its parts.
use mathlib.Core.Path.{◌≡◌, ap, ap₂, ◌∙◌, sym}
use mathlib.Core.Bool.{true, false}
use mathlib.Core.List.{List, ◌++◌}
use Prim.Native.Nat.{ℕ, ◌+◌, ◌-◌, ◌<◌, ◌≤◌}
use native.Mathlib.Omega.{arith}
use lib.ListN.{length, take, drop}
use lib.Seq.{length-take-le}
use lib.Dec.{ltb}
use borrow.Author.Tests.{lt-ltb, le-ltb}
use Rattle.words.specs.Limits.{nodes_most, height_most}
use Rattle.words.specs.Shape.{splice_by}
use Rattle.words.specs.Postfix.{arity, height_of, splice}
use Rattle.words.specs.Chapter.{tree_fault, too_high}
use Rattle.words.proofs.AcceptedTree.{tree-accepted}
use Rattle.words.proofs.PostfixLaws.{start-le, length-splice}
use Rattle.words.proofs.ScanLaws.{drop-part}
use Rattle.words.proofs.HeightLaws.{height-few, splice-height-most, splice-height-kept}
use Rattle.refusals.specs.Judged.{Spliceable}

-- ---- 10, 11 and 24

-- what a test on a height decides
pub low_height : (a ch : List ℕ) → height_of a ch ≤ height_most → too_high a ch ≡ false
unfolding too_high
low_height a ch h = le-ltb height_most (height_of a ch) h

pub high_height : (a ch : List ℕ) → height_most < height_of a ch → too_high a ch ≡ true
unfolding too_high
high_height a ch h = lt-ltb height_most (height_of a ch) h

-- ---- the height of a result

module _ {a used : List ℕ} {bound start high i : ℕ} {xs : List ℕ} (g : Spliceable a used bound start high i xs) where
  -- a replacement of no more words than the replaced subtree is high
  pub result-kept : length xs ≤ high → false ≡ too_high a (splice a used i xs)
  unfolding too_high
  result-kept h =
      let old = tree-accepted a used g.chapter.tree in
      let new = tree-accepted a xs g.replacement in
      let few = height-few (arity a) xs in
      let kept = splice-height-kept (arity a) used i xs old.shape g.inside new.shape (omega (arith, g.high_is)) in
      sym (le-ltb height_most (height_of a (splice a used i xs)) (omega (arith, kept, g.chapter.low, g.chapter.most)))

  -- a low chapter and a short replacement
  pub result_low : bound + length xs ≤ height_most → false ≡ too_high a (splice a used i xs)
  unfolding too_high
  result_low h =
      let old = tree-accepted a used g.chapter.tree in
      let new = tree-accepted a xs g.replacement in
      let most = splice-height-most (arity a) used i xs old.shape g.inside new.shape in
      let few = height-few (arity a) xs in
      sym (le-ltb height_most (height_of a (splice a used i xs)) (omega (arith, g.chapter.low)))

  pub start-inside : start ≤ length used
  start-inside = omega (arith, g.inside, g.begins, start-le (arity a) used i)

  -- the words behind the element, as a part of the slice
  abbrev behind : List ℕ
  behind = take (length used - (i + 1)) (drop (i + 1) used)

  pub parts-few : length (take start used) + length xs + length behind ≤ nodes_most
  parts-few =
      let n = length-take-le start used start-inside in
      let m = length-splice (arity a) used i xs g.inside in
      let k = ap length (drop-part used (i + 1)) in
      omega (arith, g.fits, g.begins)

  pub result-judged : {high : ℕ} → high ≡ height_of a (take start used ++ (xs ++ behind))
      → ltb height_most high ≡ too_high a (splice a used i xs)
  unfolding too_high splice_by
  result-judged k =
      ap (ltb height_most)
      (k ∙ ap₂ (λ (s : ℕ) (l : List ℕ). height_of a (take s used ++ (xs ++ l))) g.begins (drop-part used (i + 1)))

-- where the chapter's height and the replacement's words together are few, the result is low
pub low_result : (a used : List ℕ) (i : ℕ) (xs : List ℕ) → tree_fault a used ≡ 0 → i < length used → tree_fault a xs ≡ 0
    → height_of a used + length xs ≤ height_most → too_high a (splice a used i xs) ≡ false
unfolding too_high
low_result a used i xs old-tree inside new-tree h =
    let old = tree-accepted a used old-tree in
    let new = tree-accepted a xs new-tree in
    let most = splice-height-most (arity a) used i xs old.shape inside new.shape in
    let few = height-few (arity a) xs in
    le-ltb height_most (height_of a (splice a used i xs)) (omega arith)
