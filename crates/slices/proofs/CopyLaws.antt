-- Laws of words that are copied into a slice one after the other, the first one first.
use mathlib.Core.Path.{◌≡◌, refl, ap, ap₂, ◌∙◌, sym}
use mathlib.Core.List.{List, ◌++◌, append_assoc}
use Prim.Native.Nat.{ℕ, ◌+◌, ◌-◌, ◌<◌, ◌≤◌}
use native.Mathlib.Omega.{arith}
use native.Mathlib.Numerals.{add-one}
use lib.ListN.{length, get_or, take, drop, set, length-set, take-append-drop}
use lib.Seq.{paste, paste-zero, paste-suc, get_or-drop, drop-drop, drop-paste}

-- k of n words stand from index `at` on; the rest of the slice is as it was
pub record Copied (s₀ : List ℕ) (at : ℕ) (ws : List ℕ) (n : ℕ) (s : List ℕ) (k : ℕ) : Type 0 where
  pub few : k ≤ n
  pub long : length s ≡ length s₀
  pub same : s ≡ paste s₀ at ws k

module _ (s₀ : List ℕ) (at : ℕ) (ws : List ℕ) (n : ℕ) where
  pub copied_none : Copied s₀ at ws n s₀ 0
  copied_none = record { few = omega arith; long = refl; same = paste-zero s₀ at ws }

  pub copied_more : (s : List ℕ) (k i v : ℕ) → Copied s₀ at ws n s k → k < n → at + n ≤ length s₀ → n ≤ length ws
      → i ≡ at + k → v ≡ get_or ws k 0 → Copied s₀ at ws n (set s i v) (k + 1)
  copied_more s k i v g l fits enough ei ev = record {
    few = omega arith;
    long = length-set s i v ∙ g.long;
    same =
        ap₂ (λ (j x : ℕ). set s j x) ei ev ∙ ap (λ (t : List ℕ). set t (at + k) (get_or ws k 0)) g.same
        ∙ paste-suc s₀ at ws k 0 (omega arith) (omega arith) ∙ ap (paste s₀ at ws) (sym (add-one k));
  }

  pub copied-end : (s : List ℕ) (k : ℕ) → Copied s₀ at ws n s k → n ≤ k → s ≡ paste s₀ at ws n
  copied-end s k g l =
      let few = g.few in
      let q : k ≡ n = omega arith in
      g.same ∙ ap (paste s₀ at ws) q

-- a word at or behind the place of the next one is as it was
pub copied_behind : (s₀ : List ℕ) (at : ℕ) (ws : List ℕ) (n : ℕ) (s : List ℕ) (k i : ℕ) → Copied s₀ at ws n s k
    → at + k ≤ i → at ≤ length s₀ → n ≤ length ws → get_or s i 0 ≡ get_or s₀ i 0
copied_behind s₀ at ws n s k i g l fits enough =
    let few = g.few in
    let q : at + k + (i - (at + k)) ≡ i = omega arith in
    ap₂ (λ (t : List ℕ) (j : ℕ). get_or t j 0) g.same (sym q)
    ∙ sym (get_or-drop (at + k) (paste s₀ at ws k) (i - (at + k)) 0)
    ∙ ap (λ (t : List ℕ). get_or t (i - (at + k)) 0) (drop-paste s₀ at ws k fits (omega arith))
    ∙ get_or-drop (at + k) s₀ (i - (at + k)) 0 ∙ ap (λ (j : ℕ). get_or s₀ j 0) q

-- ---- words copied onto themselves

pub paste-same : (l : List ℕ) (from at n : ℕ) → from ≡ at → l ≡ paste l at (drop from l) n
paste-same l from at n e =
    sym
    (rw e (append_assoc (take at l) (take n (drop at l)) (drop (at + n) l))
    ∙ ap (λ (t : List ℕ). take at l ++ (take n (drop at l) ++ t)) (sym (drop-drop n at l))
    ∙ ap (λ (t : List ℕ). take at l ++ t) (take-append-drop n (drop at l))
    ∙ take-append-drop at l)

-- for `move_words`, by a name that its source can write
pub ruleset same_place = (paste-same)
