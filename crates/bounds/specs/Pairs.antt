-- Bounds of heights by pairs of a place and a bound. These definitions serve inner functions.
use Rattle.std.specs.Prelude.{◌≡◌, ℕ, zero, suc, ◌+◌, ◌-◌, ◌<◌, ◌≤◌, max, cond, List, map, take, drop, nat_le, slice_index}
use Rattle.words.specs.Lists.{highest}
use Rattle.syntax.specs.HeightStack.{word_most}
use Rattle.bounds.specs.Runs.{run_most}
use Rattle.bounds.specs.declared.pairs.Pair.{Pair}
use Rattle.bounds.specs.declared.pairs.Pairs.{Pairs}

-- room for the pairs: the first, and two for each run of 4,096 words, are 129
abbrev pub pairs_room : ℕ
pairs_room = 130

abbrev pub places_of : List Pair → List ℕ
places_of = map (λ pair. pair.place)

abbrev pub bounds_of : List Pair → List ℕ
bounds_of = map (λ pair. pair.bound)

-- the bounds of the pairs from one to another
abbrev pub bounds_in : List Pair → ℕ → ℕ → List ℕ
bounds_in pairs first last = take (last + 1 - first) (drop first (bounds_of pairs))

-- the last pair up to `top` whose place is at most p; the first pair where no other one is
unfoldable pub last_at : List ℕ → ℕ → ℕ → ℕ
last_at places p zero = zero
last_at places p (suc t) = cond (nat_le (slice_index places (suc t)) p) (suc t) (last_at places p t)

pub record LastPair (places : List ℕ) (p top k : ℕ) : Type 0 where
  pub most : k ≤ top
  pub same : k ≡ last_at places p top

-- the bound that the pairs give a place
unfoldable pub bound_at : Pairs → ℕ → ℕ
bound_at pairs p = slice_index (bounds_of pairs.pairs) (last_at (places_of pairs.pairs) p pairs.top)

-- no run is put yet
pub record FirstPair (pairs : Pairs) : Type 0 where
  pub first : pairs.top ≡ 0
  pub low : highest (bounds_of pairs.pairs) ≡ 0

-- what putting a run's pairs in place asks
pub record RunPuttable (pairs : Pairs) (fewest joined : ℕ) : Type 0 where
  pub room : pairs.top + 2 < pairs_room
  pub fewest-low : fewest < word_most
  pub bounds-low : max run_most (highest (bounds_of pairs.pairs)) + joined ≤ word_most

-- what the pairs say behind a run: `high` bounds the trees that it can take and those of its words alone
pub record RunPut (pairs : Pairs) (fewest joined : ℕ) (pairs' : Pairs) : Type 0 where
  pub high : ℕ
  pub taken : (p : ℕ) → fewest ≤ p → bound_at pairs p ≤ high
  pub words : run_most ≤ high
  pub kept : (p : ℕ) → p < fewest → bound_at pairs' p ≡ bound_at pairs p
  pub at : bound_at pairs' fewest ≡ high + joined
  pub fresh : (p : ℕ) → fewest < p → bound_at pairs' p ≡ run_most
  pub few : pairs'.top ≤ pairs.top + 2
  pub low : highest (bounds_of pairs'.pairs) ≤ max run_most (highest (bounds_of pairs.pairs)) + joined
