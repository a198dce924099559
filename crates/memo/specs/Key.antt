-- The key of a node step: one number for a symbol and a list of nodes. It serves inner functions.
use Rattle.std.specs.Prelude.{ℕ, ◌+◌, ◌*◌, ◌<◌, ◌≤◌, ◌≡◌, List, [], ◌∷◌, length}
use Rattle.words.specs.Limits.{rank_most, nodes_most}
use Rattle.words.specs.Word.{symbol_range}
use Rattle.words.specs.Lists.{AllBelow}

-- a node's number and 1 is below this, and so is a digit
abbrev pub digit_range : ℕ
digit_range = 2 * nodes_most

-- the nodes as the digits of one number, the first one lowest; no digit is 0
abbrev pub packed : List ℕ → ℕ
packed [] = 0
packed (c ∷ cs) = packed cs * digit_range + c + 1

-- a symbol's number and 1 is below this
abbrev pub last_digit_range : ℕ
last_digit_range = 2 * symbol_range

-- the key of a step: the symbol is the last digit
unfoldable pub step_key : ℕ → List ℕ → ℕ
step_key f cs = packed cs * last_digit_range + f + 1

-- four nodes, of which the last `rank` are asked for
pub record Packable (four : List ℕ) (rank : ℕ) : Type 0 where
  pub length-is : length four ≡ rank_most
  pub below : AllBelow nodes_most four
  pub few : rank ≤ rank_most

-- the same, and a symbol
pub record Keyable (f : ℕ) (four : List ℕ) (rank : ℕ) : Type 0 where
  pub symbol : f < symbol_range
  pub nodes : Packable four rank
