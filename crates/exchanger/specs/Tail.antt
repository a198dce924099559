-- Which words of a slice may move as its tail: a condition that callers show. It serves inner functions.
use Rattle.std.specs.Prelude.{ℕ, ◌+◌, ◌-◌, ◌≤◌, List, length}

-- the words from index `end` up to `used`, and the places from index `at` on, lie inside the slice
pub record TailMovable (words : List ℕ) (used end at : ℕ) : Type 0 where
  pub some : end ≤ used
  pub inside : used ≤ length words
  pub fits : at + (used - end) ≤ length words
