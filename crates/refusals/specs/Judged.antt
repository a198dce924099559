-- What is judged of a chapter on the way to its refusals. These definitions serve inner functions.
use Rattle.std.specs.Prelude.{ℕ, ◌<◌, ◌≤◌, ◌≡◌, List, length, Result, IfOk}
use Rattle.words.specs.Decoded.{fault_in}
use Rattle.words.specs.Limits.{nodes_most, height_most}
use Rattle.words.specs.Postfix.{height_of, span_of, splice}
use Rattle.words.specs.Chapter.{tree_fault}
use Rattle.words.specs.declared.refusal.Refusal.{Refusal}

-- a refusal with its number, or a height that the chapter does not exceed
pub record JudgedBound (number : ℕ) (a ch : List ℕ) (r : Result ℕ Refusal) : Type 0 where
  pub fault : fault_in r ≡ number
  pub low : IfOk r (λ bound. height_of a ch ≤ bound)
  pub most : IfOk r (λ bound. bound ≤ height_most)

-- a refusal with its number, or where the element's subtree begins
pub record JudgedChange (number : ℕ) (a used : List ℕ) (i : ℕ) (r : Result ℕ Refusal) : Type 0 where
  pub fault : fault_in r ≡ number
  pub begins : IfOk r (λ start. start ≡ (span_of a used i).start)

-- what judging a change asks: a chapter of no more elements than it may have, which is at most `bound` high
pub record Changeable (a used : List ℕ) (bound : ℕ) : Type 0 where
  pub few : length used ≤ nodes_most
  pub tree : tree_fault a used ≡ 0
  pub low : height_of a used ≤ bound
  pub most : bound ≤ height_most

-- what judging the result's height asks besides: an element, where its subtree begins, its height, and a replacement that fits
pub record Spliceable (a used : List ℕ) (bound start high i : ℕ) (xs : List ℕ) : Type 0 where
  pub chapter : Changeable a used bound
  pub inside : i < length used
  pub begins : start ≡ (span_of a used i).start
  pub high_is : high ≡ (span_of a used i).height
  pub replacement : tree_fault a xs ≡ 0
  pub fits : length (splice a used i xs) ≤ nodes_most
