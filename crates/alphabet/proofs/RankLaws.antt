-- Ranks written into a list, symbol by symbol, but for holes.
use mathlib.Core.Path.{◌≡◌, refl, ◌∙◌}
use mathlib.Core.Bool.{true, false, cond}
use mathlib.Core.List.{List}
use Prim.Native.Nat.{ℕ, ◌+◌, ◌<◌, ◌≤◌, min}
use native.Mathlib.Omega.{arith}
use native.Mathlib.Decide.{ℕ_discrete}
use lib.ListN.{length, get_or, set, length-set}
use lib.Seq.{get_or-set_same, get_or-set_other}
use Rattle.words.specs.Alphabet.{entry_rank, marks_hole, rank_of, is_hole}
use Rattle.alphabet.specs.Ranks.{RanksWritten}

-- the ranks of the first k symbols are written
pub record RanksSoFar (a ranks₀ ranks : List ℕ) (k : ℕ) : Type 0 where
  pub long : length ranks ≡ length ranks₀
  pub within : k ≤ length a
  pub known : (s : ℕ) → s < k → is_hole a s ≡ false → get_or ranks s 0 ≡ rank_of a s
  pub holes : (s : ℕ) → is_hole a s ≡ true → get_or ranks s 0 ≡ get_or ranks₀ s 0
  pub rest : (s : ℕ) → k ≤ s → get_or ranks s 0 ≡ get_or ranks₀ s 0

pub ranks-none : (a ranks : List ℕ) → RanksSoFar a ranks ranks 0
ranks-none a ranks = record {
  long = refl;
  within = omega arith;
  known = λ s h. absurd (omega arith);
  holes = λ s h. refl;
  rest = λ s h. refl;
}

module _ {a ranks₀ ranks : List ℕ} {k : ℕ} (g : RanksSoFar a ranks₀ ranks k) where
  pub ranks-more : k < length a → k < length ranks → (v : ℕ) → v ≡ cond (marks_hole (get_or a k 0)) (get_or ranks k 0) (entry_rank (get_or a k 0))
      → RanksSoFar a ranks₀ (set ranks k v) (k + 1)
  unfolding rank_of is_hole
  ranks-more h l v ev =
      record {
        long = length-set ranks k v ∙ g.long;
        within = omega arith;
        known = λ s b e. here s b e (ℕ_discrete s k);
        holes = λ s e. left s e (ℕ_discrete s k);
        rest = λ s b. get_or-set_other ranks k s v 0 (λ e. omega arith) ∙ g.rest s (omega arith);
      }
    where
      here : (s : ℕ) → s < k + 1 → marks_hole (get_or a s 0) ≡ false → Dec (s ≡ k) → get_or (set ranks k v) s 0 ≡ entry_rank (get_or a s 0)
      here s b e (yes q) = rw q (get_or-set_same ranks k v 0 l ∙ ev ∙ rw (rw q at e))
      here s b e (no q) = get_or-set_other ranks k s v 0 q ∙ g.known s (omega arith) e

      left : (s : ℕ) → marks_hole (get_or a s 0) ≡ true → Dec (s ≡ k) → get_or (set ranks k v) s 0 ≡ get_or ranks₀ s 0
      left s e (yes q) = rw q (get_or-set_same ranks k v 0 l ∙ ev ∙ rw (rw q at e) (g.holes k (rw q at e)))
      left s e (no q) = get_or-set_other ranks k s v 0 q ∙ g.holes s e

  -- every symbol is written, or the list is full
  pub ranks-end : min (length a) (length ranks₀) ≤ k → RanksWritten a ranks₀ ranks
  ranks-end h = record {
    known = λ s b l. g.known s (omega arith);
    holes = g.holes;
    unknown = λ s b. g.rest s (let w = g.within in omega arith);
  }
