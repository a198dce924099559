-- The output depends only on the words that are kept of the alphabet, the rule and the chapter.
use mathlib.Core.Path.{◌≡◌, refl, ap, ◌∙◌, sym}
use mathlib.Core.Bool.{Bool, true, false}
use mathlib.Core.List.{List}
use Prim.Native.Nat.{ℕ, ◌+◌, ◌<◌, ◌≤◌}
use native.Mathlib.Omega.{arith}
use native.Mathlib.Decide.{dec_le}
use lib.ListN.{length, take}
use lib.Seq.{take_all, length-take-le}
use borrow.Author.Tests.{ne_eqb}
use Rattle.words.specs.Limits.{alphabet_most, expression_most}
use Rattle.words.specs.Alphabet.{no_alphabet, alphabet_refusals}
use Rattle.words.specs.ExpressionWords.{wrong_length}
use Rattle.words.proofs.TestLaws.{or_left}
use Rattle.words.proofs.LimitLaws.{over-outside}
use Rattle.words.proofs.RefusalLaws.{here, found-refusal, refusal_or, holds-ends, refusal_or-some}
use Rattle.operations.specs.Compile.{rule_table_refusals}
use Rattle.lines.specs.Line.{refused_line}
use Rattle.report.specs.Stages.{alphabet_kept, rule_kept, chapter_kept}
use Rattle.report.specs.Output.{chapter_most, wrong_chapter, marklist_refusals, marklist_fault, report_lines, marklist_output, output_of}

-- ---- a refused call prints its number, any other the lines

pub refused-output : (a e ch : List ℕ) (n : ℕ) → marklist_fault a e ch ≡ n → 0 < n → marklist_output a e ch ≡ refused_line n
unfolding marklist_output
refused-output a e ch n f h = rw (f, ne_eqb n 0 (λ z. omega arith))

pub accepted-output : (a e ch : List ℕ) → marklist_fault a e ch ≡ 0 → marklist_output a e ch ≡ report_lines a e ch
unfolding marklist_output
accepted-output a e ch f = rw f

pub complete-output : (complete : Bool) (a e ch : List ℕ) → complete ≡ true → output_of complete a e ch ≡ marklist_output a e ch
unfolding output_of
complete-output complete a e ch t = rw t

pub early-output : (complete : Bool) (a e ch : List ℕ) → complete ≡ false → output_of complete a e ch ≡ refused_line 0
unfolding output_of
early-output complete a e ch t = rw t

-- ---- a list that is too long is refused whatever its words are

alphabet-long : (a e ch : List ℕ) → alphabet_most < length a → marklist_fault a e ch ≡ 1
unfolding no_alphabet
alphabet-long a e ch h = sym (found-refusal (marklist_refusals a e ch) (here (or_left _ _ (over-outside alphabet_most (length a) h))))

rule-long : (a e ch : List ℕ) → expression_most < length e → marklist_fault a e ch ≡ refusal_or (alphabet_refusals a) 3
unfolding wrong_length
rule-long a e ch h =
    sym (found-refusal (marklist_refusals a e ch) (holds-ends (alphabet_refusals a) _ 3 (over-outside expression_most (length e) h)))

chapter-long : (a e ch : List ℕ) → chapter_most < length ch → marklist_fault a e ch ≡ refusal_or (rule_table_refusals a e) 9
unfolding wrong_chapter
chapter-long a e ch h =
    sym (found-refusal (marklist_refusals a e ch) (holds-ends (rule_table_refusals a e) _ 9 (over-outside chapter_most (length ch) h)))

rule-number : (a : List ℕ) → 0 < refusal_or (alphabet_refusals a) 3
rule-number a = refusal_or-some (alphabet_refusals a) 3 (omega arith) refl

chapter-number : (a e : List ℕ) → 0 < refusal_or (rule_table_refusals a e) 9
chapter-number a e = refusal_or-some (rule_table_refusals a e) 9 (omega arith) refl

-- ---- the words that are kept

kept-one-more : (l : List ℕ) (k : ℕ) → k < length l → k < length (take (k + 1) l)
kept-one-more l k h = rw (length-take-le (k + 1) l (omega arith)) (omega arith)

keep-alphabet : (a e ch : List ℕ) → marklist_output (take alphabet_kept a) e ch ≡ marklist_output a e ch
keep-alphabet a e ch = go (dec_le (length a) alphabet_most)
  where
    go : Dec (length a ≤ alphabet_most) → marklist_output (take alphabet_kept a) e ch ≡ marklist_output a e ch
    go (yes h) = ap (λ (l : List ℕ). marklist_output l e ch) (take_all alphabet_kept a (omega arith))
    go (no h) =
        refused-output (take alphabet_kept a) e ch 1
        (alphabet-long (take alphabet_kept a) e ch (kept-one-more a alphabet_most (omega arith))) (omega arith)
        ∙ sym (refused-output a e ch 1 (alphabet-long a e ch (omega arith)) (omega arith))

keep-rule : (a e ch : List ℕ) → marklist_output a (take rule_kept e) ch ≡ marklist_output a e ch
keep-rule a e ch = go (dec_le (length e) expression_most)
  where
    go : Dec (length e ≤ expression_most) → marklist_output a (take rule_kept e) ch ≡ marklist_output a e ch
    go (yes h) = ap (λ (l : List ℕ). marklist_output a l ch) (take_all rule_kept e (omega arith))
    go (no h) =
        refused-output a (take rule_kept e) ch _
        (rule-long a (take rule_kept e) ch (kept-one-more e expression_most (omega arith))) (rule-number a)
        ∙ sym (refused-output a e ch _ (rule-long a e ch (omega arith)) (rule-number a))

keep-chapter : (a e ch : List ℕ) → marklist_output a e (take chapter_kept ch) ≡ marklist_output a e ch
keep-chapter a e ch = go (dec_le (length ch) chapter_most)
  where
    go : Dec (length ch ≤ chapter_most) → marklist_output a e (take chapter_kept ch) ≡ marklist_output a e ch
    go (yes h) = ap (marklist_output a e) (take_all chapter_kept ch (omega arith))
    go (no h) =
        refused-output a e (take chapter_kept ch) _
        (chapter-long a e (take chapter_kept ch) (kept-one-more ch chapter_most (omega arith))) (chapter-number a e)
        ∙ sym (refused-output a e ch _ (chapter-long a e ch (omega arith)) (chapter-number a e))

pub kept-output : (a e ch : List ℕ) → marklist_output (take alphabet_kept a) (take rule_kept e) (take chapter_kept ch) ≡ marklist_output a e ch
kept-output a e ch = keep-alphabet a (take rule_kept e) (take chapter_kept ch) ∙ keep-rule a e (take chapter_kept ch) ∙ keep-chapter a e ch
