-- What the functions that read leave. A contract cannot say which bytes a call of the C library gives, so these are some
-- bytes, as many as asked for. It serves inner functions.
use Rattle.std.specs.Prelude.{ℕ, ◌*◌, ◌≡◌, true, List, ◌++◌, length, get_or, drop}
use Rattle.std.proofs.lemmas.List.Edits.{sets}
use Rattle.encoding.specs.Words.{are_bytes, word_bytes, words_in}
use Rattle.report.specs.Input.{program_output}

-- some bytes of `count` words, and a slice into which their words were stored, as far as it reaches
pub record InputStored (count : ℕ) (before after : List ℕ) : Type 0 where
  pub bytes : List ℕ
  pub small : are_bytes bytes ≡ true
  pub whole : length bytes ≡ word_bytes * count
  pub same : after ≡ sets before 0 (words_in bytes)

-- of each part as many words as its count says
pub record PartsStored (counts₀ counts alphabet₀ alphabet rule₀ rule chapter₀ chapter : List ℕ) : Type 0 where
  pub counts_stored : InputStored 3 counts₀ counts
  pub alphabet_stored : InputStored (get_or counts 0 0) alphabet₀ alphabet
  pub rule_stored : InputStored (get_or counts 1 0) rule₀ rule
  pub chapter_stored : InputStored (get_or counts 2 0) chapter₀ chapter

-- the slice begins with the output of some input, and the answer is its length
pub record Printed (before after : List ℕ) (r : ℕ) : Type 0 where
  pub input : List ℕ
  pub small : are_bytes input ≡ true
  pub long : r ≡ length (program_output input)
  pub same : after ≡ program_output input ++ drop r before
