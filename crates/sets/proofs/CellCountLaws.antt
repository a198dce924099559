-- The ones in a list of words are counted word by word.
use mathlib.Core.Path.{◌≡◌, refl, ap, ap₂, ◌∙◌, sym}
use mathlib.Core.List.{List, [], ◌∷◌}
use Prim.Native.Nat.{ℕ, zero, suc, ◌+◌, ◌*◌, ◌/◌, ◌<◌, ◌≤◌}
use native.Mathlib.Omega.{arith}
use native.Mathlib.Nat.{add-zero, add_comm}
use native.Mathlib.Numerals.{add-one}
use lib.ListN.{length, get_or, take, drop, take-append-drop}
use lib.Seq.{take-suc, get_or-take, get_or-drop}
use denote.Ref.{Bor}
use Rattle.std.specs.Option.{MatchOption}
use Rattle.std.specs.declared.option.Option.{Option}
use Rattle.std.specs.declared.option.Option.TheVariants.{None, Some}
use Rattle.std.specs.Slice.{IsItemAt}
use Rattle.std.specs.Simd.{first_chunks}
use lib.Count.{ones, ones-le, ones_cat}
use Rattle.words.specs.Word.{word_range}
use Rattle.operations.specs.Run.{cells_in}
use Rattle.operations.proofs.CellLaws.{cells-append}

-- two words of 32 bits as one of 64
pub pair-ones : (low high : ℕ) → low < word_range → ones (high * word_range + low) ≡ ones low + ones high
pair-ones low high h = ones_cat 32 high low h ∙ add_comm (ones high) (ones low)

-- for `count_pair`, by a name that its source can write
pub ruleset pair_laws = (pair-ones)

-- the ones of the first k words; each word has at most 32
pub record Summed (ws : List ℕ) (n k : ℕ) : Type 0 where
  pub few : k ≤ length ws
  pub small : n ≤ 32 * k
  pub same : n ≡ cells_in (take k ws)

module _ (ws : List ℕ) where
  pub summed-none : Summed ws 0 0
  unfolding cells_in
  summed-none = record { few = omega arith; small = omega arith; same = refl }

  summed-word : (n k : ℕ) → Summed ws n k → k < length ws → get_or ws k 0 < word_range → Summed ws (n + ones (get_or ws k 0)) (k + 1)
  unfolding cells_in
  summed-word n k g h word =
      let small = g.small in
      let few = ones-le 32 (get_or ws k 0) word in
      record {
        few = omega arith;
        small = omega arith;
        same =
            ap₂ (λ (x y : ℕ). x + y) g.same (sym (add-zero (ones (get_or ws k 0))))
            ∙ sym (ap (λ (i : ℕ). cells_in (take i ws)) (add-one k) ∙ ap cells_in (take-suc ws k 0 h)
            ∙ cells-append (take k ws) (get_or ws k 0 ∷ []));
      }

  -- two words at once
  summed-pair : (n k r : ℕ) → Summed ws n k → k + 1 < length ws → get_or ws k 0 < word_range → get_or ws (k + 1) 0 < word_range
      → r ≡ ones (get_or ws k 0) + ones (get_or ws (k + 1) 0) → Summed ws (n + r) (k + 2)
  summed-pair n k r g h first second e =
      let sum : n + ones (get_or ws k 0) + ones (get_or ws (k + 1) 0) ≡ n + r = omega arith in
      let place : k + 1 + 1 ≡ k + 2 = omega arith in
      rw (← sum, ← place) (summed-word (n + ones (get_or ws k 0)) (k + 1) (summed-word n k g (omega arith) first) h second)

  -- the words behind them
  pub summed-end : (n k r : ℕ) (last : List ℕ) → Summed ws n k → last ≡ drop k ws → r ≡ cells_in last → n + r ≡ cells_in ws
  summed-end n k r last g e h =
      ap₂ (λ (x y : ℕ). x + y) g.same (h ∙ ap cells_in e) ∙ sym (cells-append (take k ws) (drop k ws)) ∙ ap cells_in (take-append-drop k ws)

-- a word of a pair is one of the list's
pub pair-word : (ws : List ℕ) (n i j : ℕ) (d : List ℕ) → i < n → j < 2 → get_or (get_or (first_chunks 2 n ws) i d) j 0 ≡ get_or ws (2 * i + j) 0
pair-word ws zero i j d h l = absurd (omega arith)
pair-word ws (suc n) zero j d h l = get_or-take 2 ws j 0 l ∙ ap (λ (k : ℕ). get_or ws k 0) (omega arith)
pair-word ws (suc n) (suc i) j d h l =
    pair-word (drop 2 ws) n i j d (omega arith) l ∙ get_or-drop 2 ws (2 * i + j) 0 ∙ ap (λ (k : ℕ). get_or ws k 0) (omega arith)

-- a pair more
pub summed-more : (ws : List ℕ) (pairs : List (List ℕ)) (n i r : ℕ) → pairs ≡ first_chunks 2 (length ws / 2) ws → Summed ws n (2 * i)
    → i < length ws / 2 → ((k : ℕ) → get_or ws k 0 < word_range) → r ≡ ones (get_or (get_or pairs i []) 0 0) + ones (get_or (get_or pairs i []) 1 0)
    → Summed ws (n + r) (2 * (i + 1))
summed-more ws pairs n i r e g h words er =
    let low = ap ones (ap (λ (l : List (List ℕ)). get_or (get_or l i []) 0 0) e ∙ pair-word ws (length ws / 2) i 0 [] h (omega arith)) in
    let high = ap ones (ap (λ (l : List (List ℕ)). get_or (get_or l i []) 1 0) e ∙ pair-word ws (length ws / 2) i 1 [] h (omega arith)) in
    let zero : 2 * i + 0 ≡ 2 * i = omega arith in
    let place : 2 * i + 2 ≡ 2 * (i + 1) = omega arith in
    rw (← place)
    (summed-pair ws n (2 * i) r g (omega arith) (words (2 * i)) (words (2 * i + 1)) (er ∙ ap₂ (λ (x y : ℕ). x + y) (rw zero at low) high))

-- at most one word is left, and what is counted of it is Q
pub last-cells : (last : List ℕ) → length last ≤ 1 → (o : Option (Bor ℕ)) (r : ℕ) (Q : Bor ℕ → Type 0) → IsItemAt last 0 o
    → MatchOption o (r ≡ 0) Q → ((x : Bor ℕ) → Q x → r ≡ ones x.now) → r ≡ cells_in last
unfolding cells_in
last-cells [] few None r Q h g f = g
last-cells [] few (Some x) r Q h g f = absurd (omega (arith, h.3.0))
last-cells (w ∷ []) few None r Q h g f = absurd (omega (arith, h.3))
last-cells (w ∷ []) few (Some x) r Q h g f = f x g ∙ ap ones (h.3.1 0) ∙ omega arith
last-cells (w ∷ v ∷ ws) few o r Q h g f = absurd (omega arith)
