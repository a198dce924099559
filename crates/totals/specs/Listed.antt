-- The ancestors of a place listed by their numbers, and what listing and counting them ask. These definitions serve inner functions.
use Rattle.std.specs.Prelude.{ℕ, ◌+◌, ◌-◌, ◌<◌, ◌≤◌, ◌≡◌, cond, List, [], ◌∷◌, length, get_or, ltb}
use Rattle.words.specs.Word.{word_range, node_kind, kind_of}
use Rattle.words.specs.Limits.{nodes_most}
use Rattle.words.specs.Lists.{All, AllBelow}
use Rattle.words.specs.Postfix.{arity}
use Rattle.words.specs.Chapter.{tree_fault}
use Rattle.totals.specs.Countable.{Countable}
use Rattle.totals.specs.Place.{ancestors_of}

-- ---- the list

-- how many roots reach back to the one whose tree holds the place, behind node j: it takes only roots behind that one, or it is an
-- ancestor
unfoldable pub reach_past : List ℕ → List ℕ → ℕ → ℕ → ℕ
reach_past a ch j reach = let children = arity a (get_or ch j 0) in cond (ltb children reach) (reach - children + 1) 1

-- its number, if it is an ancestor
unfoldable pub number_at : List ℕ → List ℕ → ℕ → ℕ → List ℕ
number_at a ch j reach = cond (ltb (arity a (get_or ch j 0)) reach) [] (j ∷ [])

-- the ancestors of node i of a tree may be listed: they are fewer than the tree is high
pub record Listable (a ch : List ℕ) (i list_length : ℕ) : Type 0 where
  pub tree : tree_fault a ch ≡ 0
  pub inside : i < length ch
  pub few : length ch ≤ nodes_most
  pub room : length (ancestors_of a ch i) ≤ list_length

-- node j may be listed behind `found` others
pub record NodeListable (a ch : List ℕ) (j list_length reach found : ℕ) : Type 0 where
  pub kind : kind_of (get_or ch j 0) ≡ node_kind
  pub inside : j < length ch
  pub small : j < nodes_most
  pub few-reached : reach ≤ nodes_most
  pub room : found + length (number_at a ch j reach) ≤ list_length

-- the numbers from `from` on may be moved to those from `to` on
abbrev pub Movable : ℕ → ℕ → List ℕ → Type 0
Movable from to = All (λ j. (from ≤ j) × (j - from + to < word_range))

-- ---- the totals

-- the sets of `size` words of the nodes with these numbers lie inside the marks
pub record NumbersCountable (marks_length size : ℕ) (list : List ℕ) : Type 0 where
  pub bound : ℕ
  pub nodes : Countable marks_length size 0 bound
  pub below : AllBelow bound list
  pub short : length list ≤ nodes_most

-- and those of the nodes from `from` to before `to`
pub record ListedCountable (marks_length size from to : ℕ) (list : List ℕ) : Type 0 where
  pub run : Countable marks_length size from to
  pub numbers : NumbersCountable marks_length size list
