-- The ranks of an alphabet's symbols in a list, by the symbol's number, but for holes.
use Rattle.std.specs.Prelude.{ℕ, ◌<◌, ◌≤◌, ◌≡◌, true, false, List, length, get_or}
use Rattle.words.specs.Alphabet.{rank_of, is_hole}

-- the list has the ranks of the alphabet's symbols, as far as it reaches; at a hole's number, and at that of a symbol which the
-- alphabet lacks, it is what it was
pub record RanksWritten (a ranks₀ ranks : List ℕ) : Type 0 where
  pub known : (s : ℕ) → s < length a → s < length ranks₀ → is_hole a s ≡ false → get_or ranks s 0 ≡ rank_of a s
  pub holes : (s : ℕ) → is_hole a s ≡ true → get_or ranks s 0 ≡ get_or ranks₀ s 0
  pub unknown : (s : ℕ) → length a ≤ s → get_or ranks s 0 ≡ get_or ranks₀ s 0
