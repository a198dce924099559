-- What Compile, Run and List answer on slices that are long enough is what the output is made of: no number of a short slice can
-- arise.
use mathlib.Core.Path.{◌≡◌, refl, ap, ◌∙◌, sym}
use mathlib.Core.Bool.{false}
use mathlib.Core.List.{List, [], ◌∷◌, ◌++◌, head-eq_of_cons-eq}
use Prim.Native.Nat.{ℕ, zero, suc, ◌<◌, ◌≤◌}
use native.Mathlib.Omega.{arith}
use native.Mathlib.Nat.{mul-le-mul}
use lib.ListN.{length, take}
use borrow.Author.Tests.{le-ltb}
use Rattle.words.specs.Limits.{table_most, nodes_most}
use Rattle.words.specs.Refusal.{Refusals, refusal}
use Rattle.words.specs.Answer.{refused, accepted}
use Rattle.words.proofs.TestLaws.{false-or}
use Rattle.words.proofs.ListLaws.{take-over}
use Rattle.words.proofs.LimitLaws.{over-outside}
use Rattle.words.proofs.RefusalLaws.{Found, none, here, next, found-refusal, refusal-found, refuses, passes}
use Rattle.words.proofs.RefusalLaws.{found_alike, none-behind, behind_number}
use Rattle.words.proofs.AnswerLaws.{refused-number, accepted-values}
use Rattle.automaton.specs.Transition.{Automaton, automaton_of}
use Rattle.automaton.specs.Numbering.{compiled}
use Rattle.operations.specs.Compile.{compiled_table, table_too_long, rule_table_refusals, compile_refusals, compile_fault, compile_answer}
use Rattle.operations.specs.Marks.{final_of, node_sets}
use Rattle.operations.specs.Run.{wrong_count, marks_too_short, table_refusals, run_refusals, run_fault, run_marks, run_answer, run_exit}
use Rattle.operations.specs.Listing.{list_fault, matches_in, matches_of, list_answer, list_exit}
use Rattle.operations.proofs.AcceptedLaws.{RuleAccepted, rule-accepted, rule-table-accepted}
use Rattle.operations.proofs.AcceptedLaws.{accepted-table, fit-marks, run-accepted, accepted-list}
use Rattle.operations.proofs.RunLaws.{run-exit, run-writes, run_length, matches-node_sets}
use Rattle.operations.proofs.CompileLaws.{CompileResult, compile-result}
use Rattle.sets.proofs.SizeLaws.{set-small}
use Rattle.lines.specs.Line.{refused_line, head_line, hit_lines}
use Rattle.report.specs.Stages.{marks_length}
use Rattle.report.specs.Output.{chapter_most, wrong_chapter, chapter_refusals, marklist_refusals, marklist_fault, hits_of, marklist_output}
use Rattle.report.proofs.KeptLaws.{refused-output, accepted-output}

-- ---- Compile, with a table slice for the longest table

module _ (a e : List ℕ) where
  -- 7 cannot arise, since 25 does not
  table-enough : refusal (rule_table_refusals a e) ≡ 0 → table_too_long a e table_most ≡ false
  unfolding table_too_long
  table-enough h = le-ltb table_most (length (compiled_table a e)) (rule-table-accepted a e h).words

  compile-rule : compile_fault a e table_most ≡ refusal (rule_table_refusals a e)
  compile-rule = go (refusal (rule_table_refusals a e)) refl
    where
      go : (n : ℕ) → refusal (rule_table_refusals a e) ≡ n → compile_fault a e table_most ≡ refusal (rule_table_refusals a e)
      go (suc n) h =
          sym (found-refusal (compile_refusals a e table_most) (refuses (rule_table_refusals a e) _ refl (λ z. omega arith)))
      go zero h =
          sym
          (found-refusal (compile_refusals a e table_most) (passes (rule_table_refusals a e) refl (sym h) refl (next (table-enough h) none)))
          ∙ sym h

  -- a refused Compile: its number is printed
  pub compile-refusal : (ch slice : List ℕ) (n : ℕ) → length slice ≡ table_most → refused n ≡ compile_answer a e slice
      → marklist_output a e ch ≡ refused_line n
  unfolding compile_answer
  compile-refusal ch slice n l h =
      let q = refused-number (compile_fault a e (length slice)) (length (compiled_table a e) ∷ []) n (sym h) in
      let f : n ≡ refusal (rule_table_refusals a e) = sym q.1 ∙ ap (compile_fault a e) l ∙ compile-rule in
      let some = q.0 in
      refused-output a e ch n
      (sym (found-refusal (marklist_refusals a e ch) (refuses (rule_table_refusals a e) _ f (λ z. omega arith)))) q.0

  -- ---- an accepted Compile, and Run

  module _ (ch slice : List ℕ) (k : ℕ) (l : length slice ≡ table_most) (h : accepted (k ∷ []) ≡ compile_answer a e slice) where
    rule-none : refusal (rule_table_refusals a e) ≡ 0
    unfolding compile_answer
    rule-none =
        sym compile-rule ∙ ap (compile_fault a e) (sym l)
        ∙ (accepted-values (compile_fault a e (length slice)) (length (compiled_table a e) ∷ []) (k ∷ []) (sym h)).0

    rule : RuleAccepted a e
    rule = rule-accepted a e (rule-table-accepted a e rule-none).rule

    known : CompileResult a e slice k
    known = compile-result a e slice k (sym h)

    -- the refusals that are left
    left-fault : marklist_fault a e ch ≡ refusal (chapter_refusals a ch)
    left-fault =
        sym
        (found-refusal (marklist_refusals a e ch)
        (passes (rule_table_refusals a e) refl (sym rule-none) refl (refusal-found (chapter_refusals a ch) refl)))

    -- "Over 256 elements it says 9"
    pub chapter-over : chapter_most < length ch → marklist_output a e ch ≡ refused_line 9
    unfolding wrong_chapter
    chapter-over g =
        refused-output a e ch 9
        (left-fault ∙ sym (found-refusal (chapter_refusals a ch) (here (over-outside chapter_most (length ch) g)))) (omega arith)

    -- the state count of the head
    pub compiled-states : (automaton_of (compiled_table a e)).states ≡ (compiled a e).states
    compiled-states = ap (λ A. A.states) known.automaton

    module _ (few : length ch ≤ chapter_most) where
      marks-enough : marks_too_short (compiled_table a e) (length ch) marks_length ≡ false
      marks-enough =
          fit-marks (compiled_table a e) (length ch) marks_length (mul-le-mul few (set-small a (compiled_table a e) known.checked))

      -- 9 is judged alike
      same_count : wrong_count (length ch) ≡ wrong_chapter ch
      unfolding wrong_count wrong_chapter
      same_count = rw (le-ltb nodes_most (length ch) (omega arith), le-ltb chapter_most (length ch) few)

      -- 8 and 12 cannot arise
      run-fault : run_fault a (compiled_table a e) ch marks_length ≡ marklist_fault a e ch
      run-fault =
          let T = compiled_table a e in
          sym
          (found-refusal asked
          (passes (table_refusals a T) refl
          (sym (accepted-table a T (record { alphabet = rule.alphabet; automaton = known.checked }))) refl
          (go (refusal-found (chapter_refusals a ch) left-fault))))
        where
          asked : Refusals
          asked = run_refusals a (compiled_table a e) ch marks_length

          go : {f : ℕ} → Found (chapter_refusals a ch) f → Found (behind_number 8 asked) f
          go r = found_alike same_count (none-behind r (behind_number 26 asked) (false-or _ false marks-enough refl))

      -- a refused Run: its number is printed
      pub run-refusal : (marks : List ℕ) (n : ℕ) → length marks ≡ marks_length → refused n ≡ run_answer a (compiled_table a e) ch marks
          → marklist_output a e ch ≡ refused_line n
      unfolding run_answer
      run-refusal marks n m g =
          let q = refused-number (run_fault a (compiled_table a e) ch (length marks)) _ n (sym g) in
          refused-output a e ch n (sym run-fault ∙ ap (run_fault a (compiled_table a e) ch) (sym m) ∙ q.1) q.0

      -- ---- an accepted Run, and List with a slice of a word an element

      module _ (marks list : List ℕ) (m : length marks ≡ marks_length) (r : length list ≡ chapter_most) (n cells : ℕ)
          (runs : accepted (n ∷ cells ∷ []) ≡ run_answer a (compiled_table a e) ch marks) where
        abbrev left : List ℕ
        left = run_exit a (compiled_table a e) ch marks

        run_none : run_fault a (compiled_table a e) ch (length marks) ≡ 0
        unfolding run_answer
        run_none = (accepted-values (run_fault a (compiled_table a e) ch (length marks)) _ (n ∷ cells ∷ []) (sym runs)).0

        none_left : marklist_fault a e ch ≡ 0
        none_left = sym run-fault ∙ ap (run_fault a (compiled_table a e) ch) (sym m) ∙ run_none

        left-long : length left ≡ marks_length
        left-long =
            ap length (run-exit a (compiled_table a e) ch marks run_none)
            ∙ run_length a (compiled_table a e) ch marks (run-accepted a (compiled_table a e) ch (length marks) run_none).marked.marks ∙ m

        -- 13 cannot arise either
        list-none : list_fault a (compiled_table a e) (length ch) (length left) (length list) ≡ 0
        list-none =
            let g = run-accepted a (compiled_table a e) ch (length marks) run_none in
            accepted-list a (compiled_table a e) (length ch) (length left) (length list)
            (record {
              checked = g.checked;
              counted = g.counted;
              marks = rw (left-long, ← m) g.marked.marks;
              list = rw r few;
            })

        pub list-not-refused : (f : ℕ) → refused f ≡ list_answer a (compiled_table a e) (length ch) left list → ⊥
        unfolding list_answer
        list-not-refused f g =
            let q = refused-number (list_fault a (compiled_table a e) (length ch) (length left) (length list)) _ f (sym g) in
            omega (arith, list-none)

        module _ (hits : ℕ) (lists : accepted (hits ∷ []) ≡ list_answer a (compiled_table a e) (length ch) left list) where
          matches-are : matches_of (compiled_table a e) (length ch) left ≡ hits_of a e ch
          unfolding hits_of final_of
          matches-are =
              ap (matches_of (compiled_table a e) (length ch)) (run-exit a (compiled_table a e) ch marks run_none)
              ∙ matches-node_sets a (compiled_table a e) ch (run_marks a (compiled_table a e) ch marks)
              (run-writes a (compiled_table a e) ch marks)
              ∙ ap (λ (A : Automaton). matches_in A.final 0 (node_sets a (compiled_table a e) ch)) known.automaton

          hit-count : length (matches_of (compiled_table a e) (length ch) left) ≡ hits
          unfolding list_answer
          hit-count =
              let v = accepted-values (list_fault a (compiled_table a e) (length ch) (length left) (length list)) _ (hits ∷ []) (sym lists) in
              head-eq_of_cons-eq v.1

          listed : take hits (list_exit a (compiled_table a e) (length ch) left list) ≡ matches_of (compiled_table a e) (length ch) left
          unfolding list_exit
          listed =
              let ms = matches_of (compiled_table a e) (length ch) left in
              rw list-none (take-over ms list hits hit-count)

          pub listed-long : hits ≡ length (take hits (list_exit a (compiled_table a e) (length ch) left list))
          listed-long = sym (ap length listed ∙ hit-count)

          -- the head line and the hit lines of what List wrote
          pub listed-output : marklist_output a e ch
              ≡ head_line (length ch) (automaton_of (compiled_table a e)).states hits
              ++ hit_lines a ch (take hits (list_exit a (compiled_table a e) (length ch) left list))
          listed-output =
              accepted-output a e ch none_left
              ∙ rw (listed, ← matches-are, hit-count, compiled-states)
