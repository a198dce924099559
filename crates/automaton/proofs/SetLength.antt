-- A state set keeps its number of words, which its automaton's state count gives.
use mathlib.Core.Path.{◌≡◌, refl, ◌∙◌}
use mathlib.Core.List.{List}
use Prim.Native.Nat.{ℕ}
use lib.ListN.{length, length-replicate}
use Rattle.automaton.specs.Transition.{Transition, Automaton}
use Rattle.automaton.specs.StateSet.{StateSet, size_for, insert, symbol_step, epsilon_step}
use Rattle.automaton.specs.StateSet.{symbol_pass, epsilon_pass, epsilon_closure, state_set}
use Rattle.automaton.proofs.BitLaws.{length-insert}
use Rattle.automaton.proofs.KeepLaws.{epsilon_step-keeps, symbol_step-keeps, epsilon_pass-keeps, epsilon_closure-keeps, symbol_pass-keeps}

abbrev Size : ℕ → StateSet → Type 0
Size n r = length r ≡ n

size-kept : (n : ℕ) (r : StateSet) (q : ℕ) → Size n r → Size n (insert r q)
size-kept n r q h = length-insert r q ∙ h

pub length-epsilon_step : (t : Transition) (r : StateSet) → length (epsilon_step t r) ≡ length r
length-epsilon_step t r = epsilon_step-keeps (Size (length r)) (size-kept (length r)) t r refl

pub length-epsilon_pass : (ts : List Transition) (r : StateSet) → length (epsilon_pass ts r) ≡ length r
length-epsilon_pass ts r = epsilon_pass-keeps (Size (length r)) (size-kept (length r)) ts r refl

length-epsilon_closure : (n : ℕ) (ts : List Transition) (r : StateSet) → length (epsilon_closure n ts r) ≡ length r
length-epsilon_closure n ts r = epsilon_closure-keeps (Size (length r)) (size-kept (length r)) n ts r refl

pub length-symbol_step : (f : ℕ) (rs : List StateSet) (t : Transition) (r : StateSet) → length (symbol_step f rs t r) ≡ length r
length-symbol_step f rs t r = symbol_step-keeps (Size (length r)) (size-kept (length r)) f rs t r refl

pub length-symbol_pass : (f : ℕ) (rs : List StateSet) (ts : List Transition) (r : StateSet) → length (symbol_pass f rs ts r) ≡ length r
length-symbol_pass f rs ts r = symbol_pass-keeps (Size (length r)) (size-kept (length r)) f rs ts r refl

pub length-state_set : (A : Automaton) (f : ℕ) (rs : List StateSet) → length (state_set A f rs) ≡ size_for A.states
unfolding state_set
length-state_set A f rs = simp (length-epsilon_closure, length-symbol_pass, length-replicate)
