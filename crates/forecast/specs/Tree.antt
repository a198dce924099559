-- What working out a tree alone asks. It serves inner functions.
use Rattle.std.specs.Prelude.{ℕ, ◌≤◌, ◌≡◌, List, length}
use Rattle.words.specs.Limits.{nodes_most}
use Rattle.words.specs.Chapter.{tree_fault}
use Rattle.words.specs.Postfix.{roots_of}
use Rattle.forecast.specs.declared.pile.Work.{Work}
use Rattle.forecast.specs.Room.{sets_most}
use Rattle.forecast.specs.Pile.{Kept}

-- the sets of all pending roots have room
pub record TreeCountable (a table index ch : List ℕ) (work : Work) : Type 0 where
  pub kept : Kept a table index work
  pub tree : tree_fault a ch ≡ 0
  pub few : length ch ≤ nodes_most
  pub room : (i : ℕ) → i ≤ length ch → length (roots_of a ch i) ≤ sets_most
