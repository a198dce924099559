-- How many epsilon transitions lead from a word's entries: at most one into each entry of a child, because the entries'
-- constants are distinct.
use Prim.Native.Nat.{ℕ, suc, ◌+◌, ◌≤◌}
use mathlib.Core.Path.{◌≡◌, refl, ◌∙◌, sym}
use mathlib.Core.Bool.{Bool, true, false, cond}
use mathlib.Core.List.{List, [], ◌∷◌, ◌++◌, flat_map}
use native.Mathlib.Omega.{arith}
use native.Mathlib.Nat.{zero-add}
use lib.ListN.{length, length-append}
use lib.Dec.{eqb}
use borrow.Author.Tests.{eqb-true}
use Rattle.words.specs.Lists.{count}
use Rattle.words.proofs.Ascending.{Ascending, count-once}
use Rattle.automaton.specs.Numbering.{Port, lookup, entry_for, symbol_targets, union_targets, product_targets, closure_targets}
use Rattle.automaton.proofs.PortStates.{constants_in}

-- the number of all targets of the constants
abbrev pub total : (ℕ → List ℕ) → List ℕ → ℕ
total targets [] = 0
total targets (c ∷ cs) = length (targets c) + total targets cs

-- one more than the entries of each of the ports
abbrev pub weight : List Port → ℕ
weight [] = 0
weight (P ∷ Ps) = suc (length P.entries) + weight Ps

-- ---- laws of the number

total-append : (f g : ℕ → List ℕ) (cs : List ℕ) → total (λ c. f c ++ g c) cs ≡ total f cs + total g cs
total-append f g [] = refl
total-append f g (c ∷ cs) = omega (arith, length-append (f c) (g c), total-append f g cs)

total-none : (cs : List ℕ) → total (λ c. []) cs ≡ 0
total-none [] = refl
total-none (c ∷ cs) = zero-add (total (λ c. []) cs) ∙ total-none cs

-- each constant that passes a test has one target more
total-tested : (t : ℕ → Bool) (x : ℕ) (f : ℕ → List ℕ) (cs : List ℕ) → total (λ c. cond (t c) (x ∷ f c) (f c)) cs ≡ count t cs + total f cs
total-tested t x f [] = refl
total-tested t x f (c ∷ cs) = go (t c) (total-tested t x f cs)
  where
    go : (b : Bool) → total (λ d. cond (t d) (x ∷ f d) (f d)) cs ≡ count t cs + total f cs
        → length (cond b (x ∷ f c) (f c)) + total (λ d. cond (t d) (x ∷ f d) (f d)) cs
        ≡ cond b 1 0 + count t cs + (length (f c) + total f cs)
    go true e = omega arith
    go false e = omega arith

total-some : (t : ℕ → Bool) (f : ℕ → List ℕ) (cs : List ℕ) → total (λ c. cond (t c) [] (f c)) cs ≤ total f cs
total-some t f [] = omega arith
total-some t f (c ∷ cs) = go (t c) (total-some t f cs)
  where
    go : (b : Bool) → total (λ d. cond (t d) [] (f d)) cs ≤ total f cs
        → length (cond b [] (f c)) + total (λ d. cond (t d) [] (f d)) cs ≤ length (f c) + total f cs
    go true e = omega arith
    go false e = omega arith

-- ---- the targets of a word, by its kind

-- at most one entry for a constant
pub lookup-once : {lo hi : ℕ} (es : List (ℕ × ℕ)) (c : ℕ) → Ascending lo hi (constants_in es) → length (lookup es c) ≤ 1
lookup-once es c s = rw (counted es) (count-once (λ b. eqb b c) c (λ b h. eqb-true b c h) s)
  where
    counted : (es : List (ℕ × ℕ)) → length (lookup es c) ≡ count (λ b. eqb b c) (constants_in es)
    counted [] = refl
    counted (e ∷ es) = go (eqb e.0 c) (counted es)
      where
        go : (b : Bool) → length (lookup es c) ≡ count (λ b. eqb b c) (constants_in es)
            → length (cond b (e.1 ∷ lookup es c) (lookup es c)) ≡ cond b 1 0 + count (λ b. eqb b c) (constants_in es)
        go true h = omega arith
        go false h = omega arith

module _ {lo hi : ℕ} {cs : List ℕ} (s : Ascending lo hi cs) where
  total-lookup : (es : List (ℕ × ℕ)) → total (lookup es) cs ≤ length es
  total-lookup [] = omega (arith, total-none cs)
  total-lookup (e ∷ es) =
      let o = count-once (λ c. eqb e.0 c) e.0 (λ c h. sym (eqb-true e.0 c h)) s in
      omega (arith, total-tested (λ c. eqb e.0 c) e.1 (lookup es) cs, total-lookup es)

  pub total-symbol : (Ps : List Port) → total (symbol_targets Ps) cs + length Ps ≤ weight Ps
  unfolding flat_map
  total-symbol [] = omega (arith, total-none cs)
  total-symbol (P ∷ Ps) = omega (arith, total-append (entry_for P) (symbol_targets Ps) cs, total-lookup P.entries, total-symbol Ps)

  pub total-union : (F G : Port) → total (union_targets F G) cs ≤ length F.entries + length G.entries
  total-union F G = omega (arith, total-append (entry_for F) (entry_for G) cs, total-lookup F.entries, total-lookup G.entries)

  pub total-product : (c : ℕ) (F G : Port) → total (product_targets c F G) cs ≤ length F.entries + length G.entries
  total-product c F G =
      let f = total-some (λ b. eqb b c) (entry_for F) cs in
      omega (
        arith,
        total-append (λ b. cond (eqb b c) [] (entry_for F b)) (entry_for G) cs,
        total-lookup F.entries,
        total-lookup G.entries,
      )

  pub total-closure : (c x : ℕ) (F : Port) → total (closure_targets c x F) cs ≤ length F.entries + 1
  total-closure c x F =
      let o = count-once (λ b. eqb b c) c (λ b h. eqb-true b c h) s in
      let t = total-tested (λ b. eqb b c) x (λ b. []) cs in
      omega (arith, total-append (entry_for F) (λ b. cond (eqb b c) (x ∷ []) []) cs, total-lookup F.entries, total-none cs)
