-- The targets of a word's entry for a constant: the states found for the constant in its children's entries, and how they
-- ascend.
use Prim.Native.Nat.{ℕ, suc, ◌≤◌}
use mathlib.Core.Bool.{Bool, true, false, cond}
use mathlib.Core.List.{List, [], ◌∷◌, flat_map}
use native.Mathlib.Omega.{arith}
use native.Mathlib.Nat.{le_refl, le_trans, le_of_lt, le-suc}
use lib.Dec.{eqb}
use Rattle.words.proofs.Ascending.{Ascending, end, next, ascending-from, ascending-append, ascending-one}
use Rattle.automaton.specs.Numbering.{Port, lookup, entry_for, symbol_targets, union_targets, product_targets, closure_targets}
use Rattle.automaton.proofs.PortStates.{states_in, PortIn, Children, no_child, child}

lookup-ascending : {lo hi : ℕ} (c : ℕ) (es : List (ℕ × ℕ)) → Ascending lo hi (states_in es) → Ascending lo hi (lookup es c)
lookup-ascending c [] h = h
lookup-ascending {lo} {hi} c (e ∷ es) (next l h) = go (eqb e.0 c) (lookup-ascending c es h)
  where
    go : (b : Bool) → Ascending (suc e.1) hi (lookup es c) → Ascending lo hi (cond b (e.1 ∷ lookup es c) (lookup es c))
    go true r = next l r
    go false r = ascending-from (omega arith) r

module _ {a : List ℕ} where
  pub entry_for-ascending : {lo hi : ℕ} (c : ℕ) (P : Port) → PortIn a lo hi P → Ascending lo hi (entry_for P c)
  entry_for-ascending c P p = ascending-from p.from (lookup-ascending c P.entries p.states)

  pub symbol-ascending : {lo hi : ℕ} {Ps : List Port} → Children a lo hi Ps → (b : ℕ) → Ascending lo hi (symbol_targets Ps b)
  unfolding flat_map
  symbol-ascending (no_child l) b = end l
  symbol-ascending (child {P} p ps) b = ascending-append (entry_for-ascending b P p) (symbol-ascending ps b)

  pub union-ascending : {lo m hi : ℕ} {F G : Port} → PortIn a lo m F → PortIn a m hi G → (b : ℕ) → Ascending lo hi (union_targets F G b)
  union-ascending {F} {G} p q b = ascending-append (entry_for-ascending b F p) (entry_for-ascending b G q)

  pub product-ascending : {lo m hi : ℕ} (c : ℕ) {F G : Port} → PortIn a lo m F → PortIn a m hi G → (b : ℕ)
      → Ascending lo hi (product_targets c F G b)
  product-ascending {lo} {m} c {F} {G} p q b = ascending-append (go (eqb b c)) (entry_for-ascending b G q)
    where
      go : (t : Bool) → Ascending lo m (cond t [] (entry_for F b))
      go true = end (le_trans p.from (le_of_lt p.below))
      go false = entry_for-ascending b F p

  pub closure-ascending : {lo hi x : ℕ} (c : ℕ) {F : Port} → PortIn a lo hi F → hi ≤ x → (b : ℕ)
      → Ascending lo (suc x) (closure_targets c x F b)
  closure-ascending {hi} {x} c {F} p l b = ascending-append (entry_for-ascending b F p) (go (eqb b c))
    where
      go : (t : Bool) → Ascending hi (suc x) (cond t (x ∷ []) [])
      go true = ascending-one l (le_refl (suc x))
      go false = end (le_trans l (le-suc x))
