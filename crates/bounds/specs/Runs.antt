-- Bounds of heights that are found run by run, while the words of a chapter are checked. These definitions serve inner functions.
--
-- A stack of heights has the last tree on top; a tree's place is 1 at the bottom. Over a run of words, `fewest` is the fewest trees at
-- any time. Trees on lower places are as they were; those on higher places are made of the run's words alone. On place `fewest`
-- stands a tree over one of those that were there from this place on, and `joined` words of the run stand one over the other on it.
use Rattle.std.specs.Prelude.{◌≡◌, ℕ, suc, ◌+◌, ◌<◌, ◌≤◌, true, false, List, [], ◌∷◌, length, slice_index}
use Rattle.words.specs.Lists.{all}
use Rattle.words.specs.Limits.{nodes_most}
use Rattle.words.specs.Word.{symbol_range}
use Rattle.words.specs.Alphabet.{rank_of, is_hole}
use Rattle.words.specs.Postfix.{trees, height_of}
use Rattle.words.specs.Chapter.{is_node, tree_fault, holes_in}
use Rattle.syntax.specs.HeightStack.{heights_after}
use Rattle.bounds.specs.declared.runs.RunFigures.{RunFigures}

-- the most words of a run
abbrev pub run_most : ℕ
run_most = 64

-- a list with the rank of each symbol, and for a hole and a symbol that the alphabet lacks with more than there can be trees
pub record RanksOf (a ranks : List ℕ) : Type 0 where
  pub known : (s : ℕ) → s < symbol_range → s < length a → is_hole a s ≡ false → slice_index ranks s ≡ rank_of a s
  pub hole : (s : ℕ) → s < symbol_range → is_hole a s ≡ true → nodes_most < slice_index ranks s
  pub unknown : (s : ℕ) → s < symbol_range → length a ≤ s → nodes_most < slice_index ranks s

-- ---- places

-- the property holds of each tree of the stack, of its place and its height
abbrev pub AtPlaces : (ℕ → ℕ → Type 0) → List ℕ → Type 0
AtPlaces P [] = Unit {0}
AtPlaces P (h ∷ s) = P (suc (length s)) h × AtPlaces P s

-- each tree is at most as high as the bound of its place
abbrev pub BelowBound : (ℕ → ℕ) → List ℕ → Type 0
BelowBound bound = AtPlaces (λ p h. h ≤ bound p)

-- ---- a run

-- a tree's place and height behind n words of a run; `bound` held before it
pub record InRun (bound : ℕ → ℕ) (fewest most n p h : ℕ) : Type 0 where
  pub kept : p < fewest → h ≤ bound p
  pub low : fewest ≤ p → h ≤ most
  pub fresh : fewest < p → h ≤ n

-- the words are nodes, no holes, and make `made` trees of `before`; and how high these are, where no tree that the run can take was
-- over `high`
pub record RunRead (a ws : List ℕ) (before made fewest joined : ℕ) : Type 0 where
  pub nodes : all (is_node a) ws ≡ true
  pub free : holes_in a ws ≡ false
  pub shape : trees a before ws made ≡ true
  pub long : (s : List ℕ) → length s ≡ before → length (heights_after a ws s) ≡ made
  pub heights : (bound : ℕ → ℕ) (high : ℕ) (s : List ℕ) → length s ≡ before → BelowBound bound s → length ws ≤ high
      → ((p : ℕ) → fewest ≤ p → p ≤ before → bound p ≤ high)
      → AtPlaces (InRun bound fewest (high + joined) (length ws)) (heights_after a ws s)

-- what reading a run asks
pub record RunReadable (ranks ws : List ℕ) (before : ℕ) : Type 0 where
  pub symbols : symbol_range ≤ length ranks
  pub few : before + length ws ≤ nodes_most

-- what it answers where no word fails
pub record RunOf (ranks ws : List ℕ) (before : ℕ) (run : RunFigures) : Type 0 where
  pub made-most : run.made ≤ before + length ws
  pub fewest-most : run.fewest ≤ before
  pub joined-most : run.joined ≤ length ws
  pub some : 0 < length ws → 0 < run.made
  pub read : (a : List ℕ) → RanksOf a ranks → RunRead a ws before run.made run.fewest run.joined

-- ---- the tree

-- the words make a tree without holes that is at most so high
pub record TreeWithin (a ws : List ℕ) (bound : ℕ) : Type 0 where
  pub fault : tree_fault a ws ≡ 0
  pub free : holes_in a ws ≡ false
  pub low : height_of a ws ≤ bound

-- what finding a bound asks
pub record TreeReadable (ranks ws : List ℕ) : Type 0 where
  pub symbols : symbol_range ≤ length ranks
  pub some : 0 < length ws
  pub few : length ws ≤ nodes_most

-- a bound of the tree
pub record BoundOf (ranks ws : List ℕ) (bound : ℕ) : Type 0 where
  pub tree : (a : List ℕ) → RanksOf a ranks → TreeWithin a ws bound
