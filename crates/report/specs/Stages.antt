-- What the functions between Compile and the lines are given, and what they leave. It serves the inner functions.
use Rattle.std.specs.Prelude.{ℕ, ◌+◌, ◌*◌, ◌/◌, ◌≤◌, ◌≡◌, List, [], ◌∷◌, length, Result, Ok, Err}
use Rattle.words.specs.Limits.{alphabet_most, expression_most, table_most}
use Rattle.words.specs.Answer.{accepted}
use Rattle.words.specs.Decoded.{number_in}
use Rattle.words.specs.declared.refusal.Refusal.{Refusal}
use Rattle.automaton.specs.Table.{table_in}
use Rattle.operations.specs.Compile.{compile_answer, compile_exit}
use Rattle.operations.specs.Run.{run_answer, run_exit}
use Rattle.sets.specs.Size.{set_most}
use Rattle.encoding.specs.Words.{word_bytes}
use Rattle.encoding.specs.ByteWriting.{BytesWritten}
use Rattle.lines.specs.Line.{refused_line}
use Rattle.report.specs.Output.{chapter_most, marklist_output}

-- how many words are kept of what is read: one more than the most that is accepted
abbrev pub alphabet_kept : ℕ
alphabet_kept = alphabet_most + 1

abbrev pub rule_kept : ℕ
rule_kept = expression_most + 1

abbrev pub chapter_kept : ℕ
chapter_kept = chapter_most + 1

-- the bytes of a buffer, from which words are read and into which the output is written, and the words that it holds
abbrev pub buffer_length : ℕ
buffer_length = 4096

abbrev pub buffer_words : ℕ
buffer_words = buffer_length / word_bytes

-- the words of the marks slice
abbrev pub marks_length : ℕ
marks_length = chapter_most * set_most

-- the slice that Compile leaves where it accepts a rule, with room for the longest table
pub record ChapterReportable (a e table : List ℕ) : Type 0 where
  pub slice : List ℕ
  pub long : length slice ≡ table_most
  pub words : ℕ
  pub answer : accepted (words ∷ []) ≡ compile_answer a e slice
  pub same : table ≡ compile_exit a e slice

-- the marks that Run leaves with the table in that slice, where it accepts a chapter of no more elements than `marklist` takes
pub record HitsReportable (a e table ch marks : List ℕ) : Type 0 where
  pub chapter : ChapterReportable a e table
  pub few : length ch ≤ chapter_most
  pub slice : List ℕ
  pub long : length slice ≡ marks_length
  pub nodes : ℕ
  pub cells : ℕ
  pub answer : accepted (nodes ∷ cells ∷ []) ≡ run_answer a (table_in table) ch slice
  pub same : marks ≡ run_exit a (table_in table) ch slice

-- what a function leaves that writes the output, or writes nothing and answers the refusal that is to be told
abbrev pub Reported : List ℕ → List ℕ → List ℕ → List ℕ → List ℕ → Result ℕ Refusal → Type 0
Reported a e ch out out' (Ok next) = BytesWritten 0 (marklist_output a e ch) out out' next
Reported a e ch out out' (Err why) = (marklist_output a e ch ≡ refused_line (number_in why)) × (out' ≡ out)
