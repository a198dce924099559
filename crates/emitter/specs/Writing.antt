-- Words written one after the other into a slice, as far as it reaches. It serves the inner functions that write a table.
use Rattle.std.specs.Prelude.{ℕ, ◌+◌, ◌≤◌, ◌≡◌, List, length}
use Rattle.std.proofs.lemmas.List.Edits.{sets}
use Rattle.emitter.specs.declared.writer.Writer.{Writer}

-- What a writer leaves: the words ws stand from index `at` on, those past the end of the slice are left out, and r is the next
-- index in both cases. So a slice of no words serves to count. There are at most `most` words.
pub record WordsWritten (most at : ℕ) (ws out out' : List ℕ) (r : ℕ) : Type 0 where
  pub words : out' ≡ sets out at ws
  pub next : r ≡ at + length ws
  pub short : length ws ≤ most

-- the same of a writer
abbrev pub Written : ℕ → List ℕ → Writer → Writer → Type 0
Written most ws w w' = WordsWritten most w.at ws w.out.now w'.out.now w'.at

-- how far a writer may come
abbrev pub last_index : ℕ
last_index = 65536
