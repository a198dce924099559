-- What the report knows after each call of Compile, Run and List, and what it may write then.
use mathlib.Core.Path.{◌≡◌, ap, ap₂, ◌∙◌, sym}
use mathlib.Core.Bool.{Bool, true, false}
use mathlib.Core.List.{List, [], ◌∷◌, ◌++◌, head-eq_of_cons-eq}
use Prim.Native.Nat.{ℕ, ◌<◌, ◌≤◌}
use native.Mathlib.Omega.{arith}
use lib.ListN.{length, take, drop, replicate, length-replicate}
use Rattle.words.specs.Limits.{table_most, nodes_most}
use Rattle.words.specs.Answer.{refused, accepted}
use Rattle.words.proofs.AnswerLaws.{accepted-values}
use Rattle.automaton.specs.Transition.{automaton_of}
use Rattle.automaton.specs.Table.{table_in}
use Rattle.operations.specs.Compile.{compiled_table, compile_fault, compile_answer, compile_exit}
use Rattle.operations.specs.Run.{run_answer, run_exit}
use Rattle.operations.specs.Listing.{matches_of, list_fault, list_answer, list_exit}
use Rattle.operations.proofs.AcceptedLaws.{list-accepted}
use Rattle.operations.proofs.CompileLaws.{compile-result}
use Rattle.operations.proofs.MatchLaws.{matches_of-few}
use Rattle.encoding.specs.ByteWriting.{BytesWritten}
use Rattle.encoding.proofs.ByteWritingLaws.{bytes-written-same, bytes-written-whole}
use Rattle.lines.specs.Line.{refused_line, head_line, hit_lines}
use Rattle.report.specs.Output.{chapter_most, marklist_output, output_of}
use Rattle.report.specs.Stages.{buffer_length, marks_length, ChapterReportable, HitsReportable}
use Rattle.report.proofs.KeptLaws.{complete-output, early-output}
use Rattle.report.proofs.OutputLength.{output-short}
use Rattle.report.proofs.ReportedAnswerLaws.{compile-refusal, chapter-over, run-refusal}
use Rattle.report.proofs.ReportedAnswerLaws.{list-not-refused, listed-long, listed-output}

-- the slices as they are lent first
abbrev pub zeros : ℕ → List ℕ
zeros n = replicate n 0

pub many : (n : ℕ) → length (zeros n) ≡ n
many n = length-replicate {A = ℕ} n 0

-- ---- the whole output, in a slice that it fits

whole : (bs out out' : List ℕ) (r : ℕ) → length bs ≤ buffer_length → buffer_length ≤ length out → BytesWritten 0 bs out out' r
    → (r ≡ length bs) × (out' ≡ bs ++ drop r out)
whole bs out out' r s fits w =
    let p = bytes-written-whole bs out out' r w (omega arith) in
    (p.0, p.1 ∙ ap (λ (n : ℕ). bs ++ drop n out) (sym p.0))

module _ (complete : Bool) (a e ch : List ℕ) {out out' : List ℕ} {r : ℕ} (fits : buffer_length ≤ length out) where
  pub complete-whole : complete ≡ true → BytesWritten 0 (marklist_output a e ch) out out' r
      → (r ≡ length (output_of complete a e ch)) × (out' ≡ output_of complete a e ch ++ drop r out)
  complete-whole t w =
      whole (output_of complete a e ch) out out' r (output-short complete a e ch) fits
      (bytes-written-same w (sym (complete-output complete a e ch t)))

  -- a refusal is told, where nothing was written before
  pub refused-whole : {before : List ℕ} (n : ℕ) → complete ≡ true → (marklist_output a e ch ≡ refused_line n) × (before ≡ out)
      → BytesWritten 0 (refused_line n) before out' r
      → (r ≡ length (output_of complete a e ch)) × (out' ≡ output_of complete a e ch ++ drop r out)
  refused-whole n t told w = complete-whole t (bytes-written-same (rw told.1 at w) (sym told.0))

  pub early-whole : complete ≡ false → BytesWritten 0 (refused_line 0) out out' r
      → (r ≡ length (output_of complete a e ch)) × (out' ≡ output_of complete a e ch ++ drop r out)
  early-whole t w =
      whole (output_of complete a e ch) out out' r (output-short complete a e ch) fits
      (bytes-written-same w (sym (early-output complete a e ch t)))

-- ---- Compile

module _ (a e : List ℕ) where
  pub refused-compiled : (ch : List ℕ) (n : ℕ) → refused n ≡ compile_answer a e (zeros table_most) → marklist_output a e ch ≡ refused_line n
  refused-compiled ch n h = compile-refusal a e ch (zeros table_most) n (many table_most) h

  pub chapter-reportable : {table : List ℕ} {k : ℕ} → accepted (k ∷ []) ≡ compile_answer a e (zeros table_most)
      → table ≡ compile_exit a e (zeros table_most) → ChapterReportable a e table
  chapter-reportable {k = k} h exit =
      record { slice = zeros table_most; long = many table_most; words = k; answer = h; same = exit }

-- the table in the slice is the compiled one, and the slice begins with its head
module _ {a e table : List ℕ} (t : ChapterReportable a e table) where
  table-in : table_in table ≡ compiled_table a e
  table-in = ap table_in t.same ∙ (compile-result a e t.slice t.words (sym t.answer)).table

  table-states : (automaton_of table).states ≡ (automaton_of (compiled_table a e)).states
  unfolding compile_answer compile_exit automaton_of
  table-states =
      let v = accepted-values (compile_fault a e (length t.slice)) (length (compiled_table a e) ∷ []) (t.words ∷ []) (sym t.answer) in
      ap (λ (l : List ℕ). (automaton_of l).states) t.same ∙ rw v.0

-- ---- Run

-- a chapter that is too long, for `grind`
pub over_output : (a e ch slice : List ℕ) (words : ℕ) → chapter_most < length ch → accepted (words ∷ []) ≡ compile_answer a e slice
    → length slice ≡ table_most → marklist_output a e ch ≡ refused_line 9
over_output a e ch slice words h answer long = chapter-over a e ch slice words long answer h

module _ {a e table : List ℕ} (t : ChapterReportable a e table) (ch : List ℕ) where
  module _ (few : length ch ≤ chapter_most) where
    pub refused-ran : (n : ℕ) → refused n ≡ run_answer a (table_in table) ch (zeros marks_length) → marklist_output a e ch ≡ refused_line n
    refused-ran n h =
        run-refusal a e ch t.slice t.words t.long t.answer few (zeros marks_length) n (many marks_length)
        (h ∙ ap (λ (l : List ℕ). run_answer a l ch (zeros marks_length)) (table-in t))

    pub marked : {n cells : ℕ} {marks : List ℕ} → accepted (n ∷ cells ∷ []) ≡ run_answer a (table_in table) ch (zeros marks_length)
        → marks ≡ run_exit a (table_in table) ch (zeros marks_length) → HitsReportable a e table ch marks
    marked {n} {cells} h exit = record {
      chapter = t;
      few = few;
      slice = zeros marks_length;
      long = many marks_length;
      nodes = n;
      cells = cells;
      answer = h;
      same = exit;
    }

-- ---- List

-- an accepted List has at most as many elements as its slice has places, and names no more
record ListedFew (n k : ℕ) : Type 0 where
  elements : n ≤ chapter_most
  hits : k ≤ chapter_most

module _ (a table : List ℕ) (n : ℕ) (marks : List ℕ) {k : ℕ}
    (h : accepted (k ∷ []) ≡ list_answer a table n marks (zeros chapter_most)) where
  listed-few : ListedFew n k
  unfolding list_answer
  listed-few =
      let v =
      accepted-values (list_fault a table n (length marks) (length (zeros chapter_most))) (length (matches_of table n marks) ∷ [])
      (k ∷ []) (sym h) in
      let fits = (list-accepted a table n (length marks) (length (zeros chapter_most)) v.0).list in
      let long = many chapter_most in
      let few = matches_of-few table marks n in
      let count : length (matches_of table n marks) ≡ k = head-eq_of_cons-eq v.1 in
      record { elements = omega arith; hits = omega arith }

  pub hits-most : k ≤ chapter_most
  hits-most = listed-few.hits

  -- so a span can be asked of its elements
  pub elements-few : n ≤ nodes_most
  elements-few = omega (arith, listed-few.elements)

module _ {a e table ch marks : List ℕ} (m : HitsReportable a e table ch marks) where
  -- the table is the compiled one
  abbrev t : ChapterReportable a e table
  t = m.chapter

  abbrev left : List ℕ
  left = run_exit a (compiled_table a e) ch m.slice

  runs : accepted (m.nodes ∷ m.cells ∷ []) ≡ run_answer a (compiled_table a e) ch m.slice
  runs = m.answer ∙ ap (λ (l : List ℕ). run_answer a l ch m.slice) (table-in t)

  marks-are : marks ≡ left
  marks-are = m.same ∙ ap (λ (l : List ℕ). run_exit a l ch m.slice) (table-in t)

  same_answer : list_answer a (table_in table) (length ch) marks (zeros chapter_most)
      ≡ list_answer a (compiled_table a e) (length ch) left (zeros chapter_most)
  same_answer = ap₂ (λ (l ms : List ℕ). list_answer a l (length ch) ms (zeros chapter_most)) (table-in t) marks-are

  pub never-refused : {f : ℕ} → refused f ≡ list_answer a (table_in table) (length ch) marks (zeros chapter_most) → ⊥
  never-refused {f} h =
      list-not-refused a e ch t.slice t.words t.long t.answer m.few
      m.slice (zeros chapter_most) m.long (many chapter_most)
      m.nodes m.cells runs f
      (h ∙ same_answer)

  pub lines-written : {hits states x : ℕ} {out out' list : List ℕ}
      → accepted (hits ∷ []) ≡ list_answer a (table_in table) (length ch) marks (zeros chapter_most)
      → list ≡ list_exit a (table_in table) (length ch) marks (zeros chapter_most)
      → states ≡ (automaton_of table).states
      → BytesWritten 0 (head_line (length ch) states (length (take hits list)) ++ hit_lines a ch (take hits list)) out out' x
      → BytesWritten 0 (marklist_output a e ch) out out' x
  lines-written {hits} {states} {list = list} h wrote s w =
      let l : list ≡ list_exit a (compiled_table a e) (length ch) left (zeros chapter_most) =
      wrote ∙ ap₂ (λ (l ms : List ℕ). list_exit a l (length ch) ms (zeros chapter_most)) (table-in t) marks-are in
      let z : states ≡ (automaton_of (compiled_table a e)).states = s ∙ table-states t in
      let n : hits ≡ length (take hits list) =
      listed-long a e ch t.slice t.words t.long t.answer m.few
      m.slice (zeros chapter_most) m.long (many chapter_most) m.nodes
      m.cells runs hits
      (h ∙ same_answer)
      ∙ sym (ap (λ (ls : List ℕ). length (take hits ls)) l) in
      bytes-written-same w
      (sym
      (listed-output a e ch t.slice t.words t.long t.answer m.few
      m.slice (zeros chapter_most) m.long (many chapter_most) m.nodes
      m.cells runs hits
      (h ∙ same_answer)
      ∙ rw (← l, ← n, z)))
