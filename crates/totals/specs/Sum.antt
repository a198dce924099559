-- Two totals together. It serves inner functions.
use Rattle.std.specs.Prelude.{◌+◌, ◌<◌}
use Rattle.words.specs.Word.{word_range}
use Rattle.operations.specs.Totals.{Totals}

abbrev pub sum_totals : Totals → Totals → Totals
sum_totals s t = record { elements = s.elements + t.elements; hits = s.hits + t.hits; cells = s.cells + t.cells }

-- each sum is a word
pub record Addable (s t : Totals) : Type 0 where
  pub elements-fit : s.elements + t.elements < word_range
  pub hits-fit : s.hits + t.hits < word_range
  pub cells_fit : s.cells + t.cells < word_range
