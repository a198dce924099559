-- Which set of a slice may be copied: a condition that callers show. It serves inner functions.
use Rattle.std.specs.Prelude.{ℕ, ◌≤◌, List}
use Rattle.slices.specs.Movable.{Movable}
use Rattle.sets.specs.Size.{set_most}

-- one set from index `from` on, and its places from index `to` on, lie inside the slice
pub record Copyable (words : List ℕ) (from to size : ℕ) : Type 0 where
  pub small : size ≤ set_most
  pub inside : Movable words from to size
