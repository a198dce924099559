-- The output of the whole program is what its functions give of what it read: the words that are kept, and input that ends
-- early.
use mathlib.Core.Path.{◌≡◌, ap, ◌∙◌, sym}
use mathlib.Core.Bool.{Bool, true, cond}
use mathlib.Core.List.{List, ◌∷◌, ◌++◌}
use Prim.Native.Nat.{ℕ, suc, ◌+◌, ◌*◌, ◌<◌, ◌≤◌}
use native.Mathlib.Omega.{arith}
use lib.ListN.{length, take, drop, length-append}
use lib.Seq.{drop-drop, take_at, drop_at}
use borrow.Author.Tests.{le-leb, lt-leb}
use Rattle.encoding.specs.Words.{word_bytes, words_in}
use Rattle.encoding.proofs.WordByteLaws.{length-words_in}
use Rattle.lines.specs.Line.{refused_line}
use Rattle.report.specs.Output.{marklist_output, output_of}
use Rattle.report.specs.Input.{count_in, announced, complete, alphabet_in, rule_in, chapter_in, program_output}
use Rattle.report.specs.Stages.{alphabet_kept, rule_kept, chapter_kept}
use Rattle.report.proofs.KeptLaws.{kept-output}

-- ---- the whole program

module _ (input : List ℕ) where
  -- "input that ends early is number 0": a part of the announced words is missing
  pub program-early : (j : ℕ) → j ≤ announced input → length input < word_bytes * j → program_output input ≡ refused_line 0
  unfolding program_output output_of complete
  program-early j h l =
      let e = length-words_in input in
      let t = lt-leb (announced input) (length (words_in input)) (omega arith) in
      ap (λ (b : Bool). cond b (marklist_output (alphabet_in input) (rule_in input) (chapter_in input)) (refused_line 0)) t

  -- the announced words are there: the output is that of the words that the program keeps, whatever follows them
  module _ (n m k : ℕ) (a e ch rest : List ℕ) (words : words_in input ≡ n ∷ m ∷ k ∷ (a ++ (e ++ (ch ++ rest))))
      (alphabet : length a ≡ n) (rule : length e ≡ m) (chapter : length ch ≡ k) where
    first_count : count_in input 0 ≡ n
    first_count = rw words

    second-count : count_in input 1 ≡ m
    second-count = rw words

    third-count : count_in input 2 ≡ k
    third-count = rw words

    all_there : complete input ≡ true
    unfolding complete
    all_there =
        le-leb (announced input) (length (words_in input))
        (rw (first_count, second-count, third-count, words)
        (let p = length-append a (e ++ (ch ++ rest)) in
        let q = length-append e (ch ++ rest) in
        let r = length-append ch rest in
        omega arith))

    -- the words behind the counts and behind a list
    behind-counts : (j : ℕ) → drop (3 + j) (words_in input) ≡ drop j (a ++ (e ++ (ch ++ rest)))
    behind-counts j = let q : 3 + j ≡ suc (suc (suc j)) = omega arith in rw (words, q)

    alphabet-in : alphabet_in input ≡ a
    unfolding alphabet_in
    alphabet-in = rw (first_count, words) (take_at a (e ++ (ch ++ rest)) n alphabet)

    rule-in : rule_in input ≡ e
    unfolding rule_in
    rule-in =
        rw (first_count, second-count, behind-counts n, drop_at a (e ++ (ch ++ rest)) n alphabet) (take_at e (ch ++ rest) m rule)

    chapter-in : chapter_in input ≡ ch
    unfolding chapter_in
    chapter-in =
        let q : 3 + n + m ≡ 3 + (n + m) = omega arith in
        rw (first_count, second-count, third-count, q, behind-counts (n + m))
        (ap (take k)
        (sym (drop-drop m n (a ++ (e ++ (ch ++ rest)))) ∙ ap (drop m) (drop_at a (e ++ (ch ++ rest)) n alphabet)
        ∙ drop_at e (ch ++ rest) m rule)
        ∙ take_at ch rest k chapter)

    pub program-complete : program_output input ≡ output_of true (take alphabet_kept a) (take rule_kept e) (take chapter_kept ch)
    unfolding program_output output_of
    program-complete = rw (all_there, alphabet-in, rule-in, chapter-in) (sym (kept-output a e ch))
