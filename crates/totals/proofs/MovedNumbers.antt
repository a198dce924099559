-- Numbers of a list that are moved one after the other, and the ancestors of the replacement's root: those of the replaced element, moved.
use mathlib.Core.Path.{◌≡◌, refl, ap, ap₂, ◌∙◌, sym, subst}
use mathlib.Core.Bool.{Bool, true, false, cond, false≢true}
use mathlib.Core.List.{List, [], ◌∷◌, map}
use Prim.Native.Nat.{ℕ, zero, suc, ◌+◌, ◌-◌, ◌<◌, ◌≤◌}
use native.Mathlib.Omega.{arith}
use native.Mathlib.Nat.{add-zero, add-suc}
use native.Mathlib.Numerals.{add-one}
use lib.ListN.{length, get_or, set}
use Rattle.words.specs.Word.{word_range}
use Rattle.words.specs.Limits.{nodes_most}
use Rattle.words.specs.Lists.{All, AllBelow}
use Rattle.words.specs.Postfix.{is_ancestor}
use Rattle.words.proofs.AllLaws.{each-get_or, each_map, each_both}
use Rattle.operations.specs.ExchangeCall.{ExchangeCall}
use Rattle.operations.specs.Exchange.{used, new_tree, words_fault}
use Rattle.operations.specs.Recomputation.{start_in, behind_in}
use Rattle.operations.proofs.Recomputed.{there}
use Rattle.totals.specs.Listed.{Movable}
use Rattle.totals.specs.Place.{numbers_where, ancestors_of, root_in}
use Rattle.totals.proofs.NumberLaws.{numbers-below, numbers-few}
use Rattle.totals.proofs.SameAncestors.{length-new, length-old, behind-root, ancestors-same}

-- ---- the loop

module _ (f : ℕ → ℕ) where
  -- the first k numbers of a list are moved
  unfoldable pub map_first : ℕ → List ℕ → List ℕ
  map_first zero l = l
  map_first (suc k) [] = []
  map_first (suc k) (x ∷ l) = f x ∷ map_first k l

  length-first : (k : ℕ) (l : List ℕ) → length (map_first k l) ≡ length l
  unfolding map_first
  length-first zero l = refl
  length-first (suc k) [] = refl
  length-first (suc k) (x ∷ l) = ap suc (length-first k l)

  first-at : (k : ℕ) (l : List ℕ) → get_or (map_first k l) k 0 ≡ get_or l k 0
  unfolding map_first
  first-at zero l = refl
  first-at (suc k) [] = refl
  first-at (suc k) (x ∷ l) = first-at k l

  first_more : (k : ℕ) (l : List ℕ) → k < length l → set (map_first k l) k (f (get_or l k 0)) ≡ map_first (suc k) l
  unfolding map_first
  first_more zero [] h = absurd (omega arith)
  first_more zero (x ∷ l) h = refl
  first_more (suc k) [] h = absurd (omega arith)
  first_more (suc k) (x ∷ l) h = ap (λ (t : List ℕ). f x ∷ t) (first_more k l (omega arith))

  first-all : (k : ℕ) (l : List ℕ) → length l ≤ k → map_first k l ≡ map f l
  unfolding map_first
  first-all zero [] h = refl
  first-all zero (x ∷ l) h = absurd (omega arith)
  first-all (suc k) [] h = refl
  first-all (suc k) (x ∷ l) h = ap (λ (t : List ℕ). f x ∷ t) (first-all k l (omega arith))

module _ (from to : ℕ) where
  abbrev pub move_number : ℕ → ℕ
  move_number j = j - from + to

  pub record MovedTo (list₀ list : List ℕ) (k : ℕ) : Type 0 where
    pub long : length list ≡ length list₀
    pub words : list ≡ map_first (λ j. j - from + to) k list₀

  module _ (list₀ : List ℕ) where
    pub moved_none : MovedTo list₀ list₀ 0
    unfolding map_first
    moved_none = record { long = refl; words = refl }

    module _ (list : List ℕ) (k : ℕ) (g : MovedTo list₀ list k) where
      number-here : get_or list k 0 ≡ get_or list₀ k 0
      number-here = ap (λ (l : List ℕ). get_or l k 0) g.words ∙ first-at move_number k list₀

      module _ (l : k < length list₀) where
        pub moved_at : Movable from to list₀ → (from ≤ get_or list k 0) × (get_or list k 0 - from + to < word_range)
        moved_at pre = rw number-here (each-get_or (λ j. (from ≤ j) × (j - from + to < word_range)) 0 list₀ k pre l)

        pub moved_more : MovedTo list₀ (set list k (get_or list k 0 - from + to)) (k + 1)
        moved_more =
            let w : set list k (move_number (get_or list k 0)) ≡ map_first move_number (k + 1) list₀
            = ap₂ (λ (t : List ℕ) (x : ℕ). set t k (move_number x)) g.words number-here ∙ first_more move_number k list₀ l
            ∙ ap (λ (n : ℕ). map_first move_number n list₀) (sym (add-one k)) in
            record { long = ap length w ∙ length-first move_number (k + 1) list₀; words = w }

      pub moved-end : length list₀ ≤ k → list ≡ map (λ j. j - from + to) list₀
      moved-end l = g.words ∙ first-all move_number k list₀ l

-- ---- ancestors

-- numbers that pass tests which agree at places equally far on
moved-numbers : (f g : ℕ → Bool) (from to n d : ℕ) → ((k : ℕ) → k < d + n → f (to + k) ≡ g (from + k))
    → map (λ j. j - from + to) (numbers_where g (from + d) n) ≡ numbers_where f (to + d) n
moved-numbers f g from to zero d h = refl
moved-numbers f g from to (suc n) d h =
    let here : f (to + d) ≡ g (from + d) = h d (omega arith) in
    let number : from + d - from + to ≡ to + d = omega arith in
    let ih : map (λ j. j - from + to) (numbers_where g (suc (from + d)) n) ≡ numbers_where f (suc (to + d)) n
    = rw (← add-suc from d, ← add-suc to d) (moved-numbers f g from to n (suc d) (λ k l. h k (omega arith))) in
    go (g (from + d)) (f (to + d)) (sym here) number ih
  where
    go : (b c : Bool) → b ≡ c → from + d - from + to ≡ to + d
        → map (λ j. j - from + to) (numbers_where g (suc (from + d)) n) ≡ numbers_where f (suc (to + d)) n
        → map (λ j. j - from + to) (cond b ((from + d) ∷ numbers_where g (suc (from + d)) n) (numbers_where g (suc (from + d)) n))
        ≡ cond c ((to + d) ∷ numbers_where f (suc (to + d)) n) (numbers_where f (suc (to + d)) n)
    go true true e number ih = ap₂ (λ (x : ℕ) (l : List ℕ). x ∷ l) number ih
    go true false e number ih = absurd (false≢true (sym e))
    go false true e number ih = absurd (false≢true e)
    go false false e number ih = ih

-- a number of them is not lower than the first
numbers-from : (f : ℕ → Bool) (n i j : ℕ) → i < j → All (λ k. i < k) (numbers_where f j n)
numbers-from f zero i j l = tt
numbers-from f (suc n) i j l = go (f j) (numbers-from f n i (suc j) (omega arith))
  where
    go : (b : Bool) → All (λ k. i < k) (numbers_where f (suc j) n)
        → All (λ k. i < k) (cond b (j ∷ numbers_where f (suc j) n) (numbers_where f (suc j) n))
    go true h = (l, h)
    go false h = h

module _ (a ch : List ℕ) (i : ℕ) where
  -- the ancestors of a node stand behind it
  pub ancestors-from : All (λ j. i < j) (ancestors_of a ch i)
  unfolding ancestors_of
  ancestors-from = numbers-from (is_ancestor a ch i) (length ch - (i + 1)) i (i + 1) (omega arith)

  pub ancestors-below : i < length ch → AllBelow (length ch) (ancestors_of a ch i)
  unfolding ancestors_of
  ancestors-below l =
      let e : i + 1 + (length ch - (i + 1)) ≡ length ch = omega arith in
      subst (λ (n : ℕ). AllBelow n (numbers_where (is_ancestor a ch i) (i + 1) (length ch - (i + 1)))) e
      (numbers-below (is_ancestor a ch i) (length ch - (i + 1)) (i + 1))

  pub ancestors-few : length (ancestors_of a ch i) ≤ length ch
  unfolding ancestors_of
  ancestors-few = let h = numbers-few (is_ancestor a ch i) (length ch - (i + 1)) (i + 1) in omega arith

module _ (c : ExchangeCall) (fine : words_fault c ≡ 0) where
  abbrev from : ℕ
  from = c.element + 1

  abbrev to : ℕ
  to = start_in c + length c.replacement

  pub ancestors-moved : map (λ j. j - (c.element + 1) + (start_in c + length c.replacement))
      (ancestors_of c.alphabet (used c) c.element) ≡ ancestors_of c.alphabet (new_tree c) (root_in c)
  unfolding ancestors_of
  ancestors-moved =
      let old = is_ancestor c.alphabet (used c) c.element in
      let new = is_ancestor c.alphabet (new_tree c) (root_in c) in
      let before : length (used c) - from ≡ behind_in c = omega (arith, length-old c fine) in
      let behind : length (new_tree c) - (root_in c + 1) ≡ behind_in c = omega (arith, length-new c fine, behind-root c fine) in
      ap (λ (n : ℕ). map (λ j. j - from + to) (numbers_where old from n)) before
      ∙ ap (λ (k : ℕ). map (λ j. j - from + to) (numbers_where old k (behind_in c))) (sym (add-zero from))
      ∙ moved-numbers new old from to (behind_in c) 0 (λ k l. ancestors-same c fine k)
      ∙ ap (λ (k : ℕ). numbers_where new k (behind_in c)) (add-zero to ∙ sym (behind-root c fine))
      ∙ ap (numbers_where new (root_in c + 1)) (sym behind)

  -- they may be moved, where the new tree is small
  pub ancestors-movable : length (new_tree c) ≤ nodes_most
      → Movable (c.element + 1) (start_in c + length c.replacement) (ancestors_of c.alphabet (used c) c.element)
  ancestors-movable few =
      let h = there c fine in
      let ns = ancestors_of c.alphabet (used c) c.element in
      each_map (λ j. (c.element < j) × (j < length (used c))) (λ j. (from ≤ j) × (j - from + to < word_range))
      (λ j p. (omega (arith, p.0), omega (arith, p.0, p.1, length-old c fine, length-new c fine))) ns
      (each_both (λ j. c.element < j) (λ j. j < length (used c)) ns (ancestors-from c.alphabet (used c) c.element)
      (ancestors-below c.alphabet (used c) c.element h))
