-- The states of an accepted expression's last word: the compiled automaton's last states, with the constants in symbol order.
use Prim.Native.Nat.{ℕ, suc, ◌+◌, ◌-◌, ◌<◌, ◌≤◌}
use mathlib.Core.Path.{◌≡◌, refl}
use mathlib.Core.List.{List, [], ◌∷◌}
use native.Mathlib.Omega.{arith}
use native.Mathlib.Nat.{le_refl, le_trans}
use lib.ListN.{length}
use Rattle.words.specs.ExpressionWords.{expression_fault}
use Rattle.words.proofs.Ascending.{Ascending}
use Rattle.words.proofs.AcceptedExpression.{expression-accepted}
use Rattle.automaton.specs.Numbering.{Port, states_of, port_of, child_port, ports_from, states_after, last_port}
use Rattle.automaton.proofs.PortStates.{constants_in, PortIn, port_in-from}
use Rattle.automaton.proofs.PortReading.{AllRead, word, expression-reading}

-- the states of the last of the words w and ws, from state n on
abbrev pub last_from : List ℕ → ℕ → ℕ → List ℕ → Port
last_from a n w [] = port_of a n w
last_from a n w (v ∷ ws) = last_from a (n + states_of a w) v ws

module _ (a : List ℕ) where
  pub states_after-le : (ws : List ℕ) (n : ℕ) → n ≤ states_after a n ws
  unfolding states_after
  states_after-le [] n = le_refl n
  states_after-le (w ∷ ws) n = le_trans (omega arith) (states_after-le ws (n + states_of a w))

  last-from : (ws : List ℕ) (n w : ℕ) → child_port (ports_from a n (w ∷ ws)) (length ws) ≡ last_from a n w ws
  unfolding ports_from
  last-from [] n w = refl
  last-from (v ∷ ws) n w = last-from ws (n + states_of a w) v

  pub last_port-from : (w : ℕ) (ws : List ℕ) → last_port a (w ∷ ws) ≡ last_from a 0 w ws
  last_port-from w ws =
      let e : suc (length ws) - 1 ≡ length ws = omega arith in
      rw e (last-from ws 0 w)

  last-in : (ws : List ℕ) {n w : ℕ} {stack : List Port} → AllRead a n (w ∷ ws) stack
      → PortIn a n (states_after a n (w ∷ ws)) (last_from a n w ws)
  unfolding states_after
  last-in [] (word d r) = d.port
  last-in (v ∷ ws) (word d r) = port_in-from (omega arith) (last-in ws r)

  pub last_port-in : (e : List ℕ) → expression_fault a e ≡ 0 → PortIn a 0 (states_after a 0 e) (last_port a e)
  last_port-in e f = go e (expression-accepted a e f).counted.some (expression-reading a e f)
    where
      go : (e : List ℕ) → 0 < length e → AllRead a 0 e [] → PortIn a 0 (states_after a 0 e) (last_port a e)
      go [] l r = absurd (omega arith)
      go (w ∷ ws) l r = rw (last_port-from w ws) (last-in ws r)

  -- "the symbol moves of the constants into the last word's entries, in symbol order"
  pub constants-ordered : (e : List ℕ) → expression_fault a e ≡ 0 → Ascending 0 (length a) (constants_in (last_port a e).entries)
  constants-ordered e f = (last_port-in e f).constants
