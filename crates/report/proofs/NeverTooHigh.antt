-- `marklist` never says 24: a chapter of at most 256 elements is not too high, and of more it says 9 first (document 02, U6).
use mathlib.Core.Path.{◌≡◌, sym, ◌∙◌}
use mathlib.Core.Bool.{true, false}
use mathlib.Core.List.{List, [], ◌∷◌, ◌++◌}
use Prim.Native.Nat.{ℕ, ◌≤◌}
use native.Mathlib.Omega.{arith}
use lib.ListN.{length}
use borrow.Author.Tests.{le-ltb}
use Rattle.words.specs.Limits.{height_most}
use Rattle.words.specs.Refusal.{refusal, without}
use Rattle.words.specs.Postfix.{arity, height_of}
use Rattle.words.specs.Chapter.{too_high}
use Rattle.words.proofs.TestLaws.{Tested, holds, fails, tested}
use Rattle.words.proofs.LimitLaws.{not-outside}
use Rattle.words.proofs.RefusalLaws.{found-refusal, holds-ends, without-never}
use Rattle.words.proofs.HeightLaws.{height-few}
use Rattle.operations.specs.Compile.{rule_table_refusals}
use Rattle.operations.specs.Run.{element_refusals}
use Rattle.report.specs.Output.{chapter_most, wrong_chapter, marklist_refusals, marklist_fault}

module _ (a e ch : List ℕ) where
  few-low : length ch ≤ chapter_most → too_high a ch ≡ false
  unfolding too_high
  few-low h = le-ltb height_most (height_of a ch) (omega (arith, height-few (arity a) ch))

  pub marklist-never-24 : marklist_fault a e ch ≡ 24 → ⊥
  unfolding wrong_chapter
  marklist-never-24 h = go (tested (wrong_chapter ch))
    where
      go : Tested (wrong_chapter ch) → ⊥
      go (holds w) =
          let q = found-refusal (marklist_refusals a e ch) (holds-ends (rule_table_refusals a e) (element_refusals a ch) 9 w) in
          without-never 24 (rule_table_refusals a e ++ ((9, true) ∷ [])) (omega arith) (q ∙ h)
      go (fails w) =
          let low = few-low (not-outside chapter_most (length ch) w).few in
          let q : marklist_fault a e ch ≡ refusal (without 24 (marklist_refusals a e ch)) = rw low in
          without-never 24 (marklist_refusals a e ch) (omega arith) (sym q ∙ h)
