-- The output never has more bytes than a buffer.
use mathlib.Core.Path.{◌≡◌, refl}
use mathlib.Core.Bool.{Bool, true, false, cond}
use mathlib.Core.List.{List, [], ◌∷◌, ◌++◌}
use Prim.Native.Nat.{ℕ, ◌+◌, ◌-◌, ◌*◌, ◌<◌, ◌≤◌}
use native.Mathlib.Omega.{arith}
use lib.ListN.{length, get_or, length-append}
use lib.Dec.{eqb}
use borrow.Author.Tests.{eqb-true}
use Rattle.words.specs.Limits.{states_most}
use Rattle.words.specs.Chapter.{symbol_of}
use Rattle.words.specs.Postfix.{span_of}
use Rattle.words.specs.Lists.{AllBelow}
use Rattle.words.proofs.LimitLaws.{Within, not-outside}
use Rattle.words.proofs.RefusalLaws.{none-applies, part-passes, refusal-most}
use Rattle.automaton.specs.Numbering.{compiled}
use Rattle.operations.specs.Compile.{compiled_table, rule_refusals}
use Rattle.operations.specs.Marks.{node_sets}
use Rattle.operations.proofs.AcceptedLaws.{RuleAccepted, rule-accepted}
use Rattle.operations.proofs.MatchLaws.{matches-few, matches-below}
use Rattle.operations.proofs.MarksLaws.{length-node_sets}
use Rattle.encoding.proofs.DecimalLaws.{decimal-most}
use Rattle.lines.specs.Line.{refused_line, head_line, hit_line, hit_lines}
use Rattle.report.specs.Stages.{buffer_length}
use Rattle.report.specs.Output.{chapter_most, wrong_chapter, marklist_refusals, marklist_fault, hits_of, marklist_output, output_of}

-- ---- how long a line is

refused-short : (n : ℕ) → n < 100 → length (refused_line n) ≤ 11
unfolding refused_line
refused-short n h = let d = decimal-most 1 n h in simp length-append (omega arith)

head-short : (nodes states hits : ℕ) → nodes ≤ chapter_most → states ≤ states_most → hits ≤ chapter_most
    → length (head_line nodes states hits) ≤ 31
unfolding head_line
head-short nodes states hits n s h =
    let x = decimal-most 2 nodes (omega arith) in
    let y = decimal-most 3 states (omega arith) in
    let z = decimal-most 2 hits (omega arith) in
    simp length-append (omega arith)

hit-short : (a ch : List ℕ) (i : ℕ) → i < chapter_most → length (hit_line a ch i) ≤ 12
unfolding hit_line
hit-short a ch i h =
    let x = decimal-most 2 i (omega arith) in
    let y = decimal-most 2 (symbol_of (get_or ch i 0)) (omega arith) in
    let z = decimal-most 2 (i + 1 - (span_of a ch i).start) (omega arith) in
    simp length-append (omega arith)

hits-short : (a ch is : List ℕ) → AllBelow chapter_most is → length (hit_lines a ch is) ≤ 12 * length is
unfolding hit_lines
hits-short a ch [] h = omega arith
hits-short a ch (i ∷ is) h =
    let x = hit-short a ch i h.0 in
    let y = hits-short a ch is h.1 in
    simp length-append (omega arith)

-- ---- the whole output

hits_few : (a e ch : List ℕ) → length (hits_of a e ch) ≤ length ch
unfolding hits_of
hits_few a e ch =
    let n = length-node_sets a (compiled_table a e) ch in
    omega (arith, matches-few (compiled a e).final (node_sets a (compiled_table a e) ch) 0)

hits-below : (a e ch : List ℕ) → length ch ≤ chapter_most → AllBelow chapter_most (hits_of a e ch)
unfolding hits_of
hits-below a e ch h =
    let n = length-node_sets a (compiled_table a e) ch in
    matches-below (compiled a e).final (node_sets a (compiled_table a e) ch) 0 chapter_most (omega arith)

-- what is known where the program refuses nothing
record MarklistAccepted (a e ch : List ℕ) : Type 0 where
  -- 1 to 6
  rule : RuleAccepted a e
  -- 9
  counted : Within chapter_most (length ch)

marklist-accepted : (a e ch : List ℕ) → marklist_fault a e ch ≡ 0 → MarklistAccepted a e ch
unfolding wrong_chapter
marklist-accepted a e ch f =
    let rs = marklist_refusals a e ch in
    record {
      rule = rule-accepted a e (part-passes rs refl f (rule_refusals a e) refl);
      counted = not-outside chapter_most (length ch) (none-applies rs refl f 9);
    }

marklist-short : (a e ch : List ℕ) → length (marklist_output a e ch) ≤ buffer_length
unfolding marklist_output
marklist-short a e ch = go (eqb (marklist_fault a e ch) 0) refl
  where
    go : (b : Bool) → eqb (marklist_fault a e ch) 0 ≡ b
        → length
        (cond b (head_line (length ch) (compiled a e).states (length (hits_of a e ch)) ++ hit_lines a ch (hits_of a e ch))
        (refused_line (marklist_fault a e ch)))
        ≤ buffer_length
    go true q =
        let f = eqb-true (marklist_fault a e ch) 0 q in
        let g = marklist-accepted a e ch f in
        let few = g.counted.few in
        let n = hits_few a e ch in
        let x = head-short (length ch) (compiled a e).states (length (hits_of a e ch)) few g.rule.states (omega arith) in
        let y = hits-short a ch (hits_of a e ch) (hits-below a e ch few) in
        simp length-append (omega arith)
    go false q =
        let m = refusal-most 99 (marklist_refusals a e ch) refl in
        let x = refused-short (marklist_fault a e ch) (omega arith) in
        omega arith

pub output-short : (complete : Bool) (a e ch : List ℕ) → length (output_of complete a e ch) ≤ buffer_length
unfolding output_of
output-short true a e ch = marklist-short a e ch
output-short false a e ch = omega (arith, refused-short 0 (omega arith))
