-- A node's state set holds exactly the states that are reached there.
use mathlib.Core.Path.{◌≡◌, ◌∙◌, sym}
use mathlib.Core.Logic.{◌↔◌}
use mathlib.Core.Bool.{true, false, true≢false}
use mathlib.Core.List.{List, Memᴰ}
use Prim.Native.Nat.{ℕ, ◌<◌, ◌≤◌}
use native.Mathlib.Omega.{arith}
use lib.ListN.{replicate, length-replicate}
use Rattle.words.specs.Lists.{AllBelow}
use Rattle.words.specs.Word.{word_range}
use Rattle.words.proofs.TestLaws.{Tested, holds, fails, tested}
use Rattle.words.proofs.AllLaws.{each_at}
use Rattle.automaton.specs.Transition.{Transition, Automaton, on_symbol, epsilon}
use Rattle.automaton.specs.StateSet.{StateSet, size_for, contains, symbol_pass, state_set}
use Rattle.automaton.specs.Reached.{Reached, by_symbol, by_epsilon}
use Rattle.automaton.specs.Table.{TransitionOver, AutomatonOver}
use Rattle.automaton.proofs.BitLaws.{words-replicate, words-insert, contains-replicate}
use Rattle.automaton.proofs.KeepLaws.{symbol_pass-keeps, epsilon_closure-keeps}
use Rattle.automaton.proofs.SetLength.{length-symbol_pass}
use Rattle.automaton.proofs.PassLaws.{HasTargets, ClosedUnder, StatesWithin, In, epsilon_closure-grows, symbol_pass-adds}
use Rattle.automaton.proofs.PassLaws.{symbol_pass-within, epsilon_closure-within, epsilon_closure-closed}

-- ---- targets

abbrev pub target_of : Transition → ℕ
target_of (on_symbol f ps q) = q
target_of (epsilon p q) = q

-- all that a state set needs of an automaton: every target is one of its states
abbrev pub TargetsBelow : ℕ → List Transition → Type 0
TargetsBelow n ts = (t : Transition) → Memᴰ t ts → target_of t < n

pub targets-below : {a : List ℕ} {A : Automaton} → AutomatonOver a A → TargetsBelow A.states A.transitions
targets-below {a} {A} o t m = go t (each_at (TransitionOver a A.states) A.transitions o.transitions m)
  where
    go : (t : Transition) → TransitionOver a A.states t → target_of t < A.states
    go (on_symbol f ps q) h = h.3
    go (epsilon p q) h = h.1

-- ---- the state set

-- what holds of the targets of the symbol transitions, and is kept along the epsilon transitions, holds of all reached
pub targets-closed-all : (ts : List Transition) (f : ℕ) (rs : List StateSet) (P : ℕ → Type 0)
    → HasTargets ts f rs P → ClosedUnder ts P → {q : ℕ} → Reached ts f rs q → P q
targets-closed-all ts f rs P s c (by_symbol {q = q} {ps = ps} m e) = s ps q m e
targets-closed-all ts f rs P s c (by_epsilon {p = p} {q = q} m d) = c p q m (targets-closed-all ts f rs P s c d)

abbrev empty_set : ℕ → StateSet
empty_set states = replicate (size_for states) 0

module _ (A : Automaton) (f : ℕ) (rs : List StateSet) where
  pub words-state_set : AllBelow word_range (state_set A f rs)
  unfolding state_set
  words-state_set =
      epsilon_closure-keeps (AllBelow word_range) words-insert _ A.transitions (symbol_pass f rs A.transitions (empty_set A.states))
      (symbol_pass-keeps (AllBelow word_range) words-insert f rs A.transitions (empty_set A.states)
      (words-replicate (size_for A.states)))

  -- it holds only what is reached, whatever the targets
  state_set-within : StatesWithin (Reached A.transitions f rs) (state_set A f rs)
  unfolding state_set
  state_set-within =
      let r = empty_set A.states in
      let P = Reached A.transitions f rs in
      epsilon_closure-within P _ A.transitions (symbol_pass f rs A.transitions r) (λ p q m. by_epsilon m)
      (symbol_pass-within P f rs A.transitions r (λ ps q m. by_symbol m)
      (λ q e. absurd (true≢false (sym e ∙ contains-replicate (size_for A.states) q))))

  module _ (below : TargetsBelow A.states A.transitions) where
    state_set-targets : HasTargets A.transitions f rs (In (state_set A f rs))
    unfolding state_set size_for
    state_set-targets ps q m e =
        let r = empty_set A.states in
        let l = below (on_symbol f ps q) m in
        epsilon_closure-grows _ A.transitions (symbol_pass f rs A.transitions r) q
        (symbol_pass-adds f rs A.transitions r ps q m (rw (length-replicate {A = ℕ} (size_for A.states) 0) (omega arith)) e)

    pub state_set-closed : ClosedUnder A.transitions (In (state_set A f rs))
    unfolding state_set size_for
    state_set-closed =
        let r = empty_set A.states in
        epsilon_closure-closed A.states A.transitions (λ p q m. below (epsilon p q) m) (symbol_pass f rs A.transitions r)
        (rw (length-symbol_pass f rs A.transitions r, length-replicate {A = ℕ} (size_for A.states) 0) (omega arith))

    -- "for every state s, bit s mod 32 of word s / 32 is set exactly if s is reached"
    pub state_set-reached : (q : ℕ) → (contains (state_set A f rs) q ≡ true) ↔ Reached A.transitions f rs q
    state_set-reached q = (
      state_set-within q,
      targets-closed-all A.transitions f rs (In (state_set A f rs)) state_set-targets state_set-closed,
    )

    -- only states of the automaton are reached
    pub reached-below : {q : ℕ} → Reached A.transitions f rs q → q < A.states
    reached-below (by_symbol {q = q} {ps = ps} m e) = below (on_symbol f ps q) m
    reached-below (by_epsilon {p = p} {q = q} m d) = below (epsilon p q) m

    -- "Bits beyond the last state are zero."
    pub state_set-beyond : (q : ℕ) → A.states ≤ q → contains (state_set A f rs) q ≡ false
    state_set-beyond q h = go (tested (contains (state_set A f rs) q))
      where
        go : Tested (contains (state_set A f rs) q) → contains (state_set A f rs) q ≡ false
        go (holds e) = absurd (let l = reached-below (state_set-within q e) in omega arith)
        go (fails e) = e
