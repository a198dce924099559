-- What one state more keeps of a state set, a pass over transitions keeps.
use mathlib.Core.Bool.{Bool, true, false, cond, ◌&&◌}
use mathlib.Core.List.{List, [], ◌∷◌}
use Prim.Native.Nat.{ℕ, zero, suc}
use lib.Dec.{eqb}
use Rattle.automaton.specs.Transition.{Transition, on_symbol, epsilon}
use Rattle.automaton.specs.StateSet.{StateSet, contains, insert, all_contained, symbol_step}
use Rattle.automaton.specs.StateSet.{epsilon_step, symbol_pass, epsilon_pass, is_closed, epsilon_closure}

module _ (Q : StateSet → Type 0) (kept : (r : StateSet) (q : ℕ) → Q r → Q (insert r q)) where
  kept_either : (b : Bool) (r s : StateSet) → Q r → Q s → Q (cond b r s)
  kept_either true r s h k = h
  kept_either false r s h k = k

  kept_if : (b : Bool) (r : StateSet) (q : ℕ) → Q r → Q (cond b (insert r q) r)
  kept_if b r q h = kept_either b (insert r q) r (kept r q h) h

  pub epsilon_step-keeps : (t : Transition) (r : StateSet) → Q r → Q (epsilon_step t r)
  epsilon_step-keeps (on_symbol g ps q) r h = h
  epsilon_step-keeps (epsilon p q) r h = kept_if (contains r p) r q h

  pub symbol_step-keeps : (f : ℕ) (rs : List StateSet) (t : Transition) (r : StateSet) → Q r → Q (symbol_step f rs t r)
  symbol_step-keeps f rs (on_symbol g ps q) r h = kept_if (eqb g f && all_contained ps rs) r q h
  symbol_step-keeps f rs (epsilon p q) r h = h

  pub epsilon_pass-keeps : (ts : List Transition) (r : StateSet) → Q r → Q (epsilon_pass ts r)
  unfolding epsilon_pass
  epsilon_pass-keeps [] r h = h
  epsilon_pass-keeps (t ∷ ts) r h = epsilon_pass-keeps ts (epsilon_step t r) (epsilon_step-keeps t r h)

  pub epsilon_closure-keeps : (n : ℕ) (ts : List Transition) (r : StateSet) → Q r → Q (epsilon_closure n ts r)
  unfolding epsilon_closure
  epsilon_closure-keeps zero ts r h = h
  epsilon_closure-keeps (suc n) ts r h =
      kept_either (is_closed ts r) r (epsilon_closure n ts (epsilon_pass ts r)) h
      (epsilon_closure-keeps n ts (epsilon_pass ts r) (epsilon_pass-keeps ts r h))

  pub symbol_pass-keeps : (f : ℕ) (rs : List StateSet) (ts : List Transition) (r : StateSet) → Q r → Q (symbol_pass f rs ts r)
  unfolding symbol_pass
  symbol_pass-keeps f rs [] r h = h
  symbol_pass-keeps f rs (t ∷ ts) r h = symbol_pass-keeps f rs ts (symbol_step f rs t r) (symbol_step-keeps f rs t r h)
