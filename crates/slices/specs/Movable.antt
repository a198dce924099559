-- Which words of a slice may be moved: a condition that callers show. It serves inner functions.
use Rattle.std.specs.Prelude.{ℕ, ◌+◌, ◌≤◌, List, length}

-- `count` words from index `from` on, and the places from index `to` on, lie inside the slice
pub record Movable (words : List ℕ) (from to count : ℕ) : Type 0 where
  pub source : from + count ≤ length words
  pub target : to + count ≤ length words
