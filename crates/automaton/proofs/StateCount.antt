-- How many states a compiled automaton has: one for each constant or empty word, and for any other word one more than there
-- are constants.
use Prim.Native.Nat.{ℕ, suc, ◌+◌, ◌*◌}
use mathlib.Core.Path.{◌≡◌, refl, ◌∙◌}
use mathlib.Core.Bool.{Bool, true, false, not, cond}
use mathlib.Core.List.{List, [], ◌∷◌}
use native.Mathlib.Omega.{arith}
use lib.ListN.{length}
use Rattle.words.specs.Lists.{count}
use Rattle.words.specs.Alphabet.{constants_of}
use Rattle.automaton.specs.Numbering.{has_entries, states_of, states_after, compiled}

-- the words with entries, and the others
abbrev pub inner_words : List ℕ → List ℕ → ℕ
inner_words a ws = count (has_entries a) ws

abbrev pub leaf_words : List ℕ → List ℕ → ℕ
leaf_words a ws = count (λ w. not (has_entries a w)) ws

module _ (a : List ℕ) where
  pub inner-leaf : (ws : List ℕ) → inner_words a ws + leaf_words a ws ≡ length ws
  inner-leaf [] = refl
  inner-leaf (w ∷ ws) = go (has_entries a w) (inner-leaf ws)
    where
      go : (b : Bool) → inner_words a ws + leaf_words a ws ≡ length ws
          → cond b 1 0 + inner_words a ws + (cond (not b) 1 0 + leaf_words a ws) ≡ suc (length ws)
      go true e = omega arith
      go false e = omega arith

  states-from : (ws : List ℕ) (n : ℕ) → states_after a n ws ≡ n + (inner_words a ws * suc (length (constants_of a)) + leaf_words a ws)
  unfolding states_after states_of
  states-from [] n = omega arith
  states-from (w ∷ ws) n = states-from ws (n + states_of a w) ∙ go (has_entries a w)
    where
      k : ℕ
      k = length (constants_of a)

      go : (b : Bool)
          → n + suc (cond b k 0) + (inner_words a ws * suc k + leaf_words a ws)
          ≡ n + ((cond b 1 0 + inner_words a ws) * suc k + (cond (not b) 1 0 + leaf_words a ws))
      go true = omega arith
      go false = omega arith

  -- "A constant or empty word gets one, its exit. Any other word gets its exit, then one entry for each constant"
  pub states-counted : (e : List ℕ) → (compiled a e).states ≡ inner_words a e * suc (length (constants_of a)) + leaf_words a e
  unfolding compiled
  states-counted e = omega (arith, states-from e 0)
