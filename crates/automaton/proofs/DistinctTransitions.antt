-- No transition stands twice in a compiled automaton: an epsilon transition starts at an entry of its own word or at the
-- exit of a child, a word is the child of one other, and a symbol transition ends in the exit of its word, which has at most one for
-- each symbol.
use Prim.Native.Nat.{ℕ, ◌+◌, ◌≤◌}
use mathlib.Core.Path.{◌≡◌, refl}
use mathlib.Core.List.{List, [], ◌∷◌, Memᴰ}
use native.Mathlib.Omega.{arith}
use lib.ListN.{length, drop}
use Rattle.words.specs.Postfix.{arity}
use Rattle.words.specs.ExpressionWords.{expression_fault}
use Rattle.words.specs.Lists.{All}
use Rattle.words.proofs.AllLaws.{each_append, each_map}
use Rattle.words.proofs.Ascending.{Ascending, next}
use Rattle.words.proofs.DistinctLaws.{Distinct, distinct_append}
use Rattle.automaton.specs.Transition.{Transition, on_symbol, epsilon}
use Rattle.automaton.specs.Numbering.{Port, states_of, port_of, own_transitions, transitions_from}
use Rattle.automaton.specs.Numbering.{constant_transitions, last_port, compiled}
use Rattle.automaton.proofs.PortStates.{states_in}
use Rattle.automaton.proofs.PortReading.{AllRead, ended, word, children_on, expression-reading}
use Rattle.automaton.proofs.TransitionOrder.{own-ordered}
use Rattle.automaton.proofs.LastPort.{last_port-in}
use Rattle.automaton.proofs.OrderDistinct.{in_order-distinct}
use Rattle.automaton.proofs.TransitionOrigin.{OfWord, OfRest, own_of, word-apart, word-rest, rest-rest}

-- the transitions of the words from state n on
record Apart (n : ℕ) (stack : List Port) (ts : List Transition) : Type 0 where
  rest : All (OfRest n stack) ts
  distinct : Distinct ts

reading-apart : {a : List ℕ} {n : ℕ} {ws : List ℕ} {stack : List Port} → AllRead a n ws stack → Apart n stack (transitions_from a n ws stack)
unfolding transitions_from
reading-apart ended = record { rest = tt; distinct = tt }
reading-apart {a} (word {n} {w} {ws} {stack} d r) =
    let m = n + states_of a w in
    let Ps = children_on a w stack in
    let stack' = port_of a n w ∷ drop (arity a w) stack in
    let ts = own_transitions a w (port_of a n w) Ps in
    let us = transitions_from a m ws stack' in
    let i = reading-apart r in
    let o = own_of d.port d.own in
    record {
      rest =
          each_append (OfRest n stack) ts us (each_map _ (OfRest n stack) (word-rest d) ts o)
          (each_map (OfRest m stack') (OfRest n stack) (rest-rest d) us i.rest);
      distinct =
          distinct_append (OfWord (port_of a n w).exit m Ps) (OfRest m stack') (word-apart d) ts us o i.rest
          (in_order-distinct (own-ordered d.port.from d.children d.own)) i.distinct;
    }

-- ---- the constants, and the whole

-- of the constants
abbrev OfConstants : Transition → Type 0
OfConstants (epsilon p q) = ⊥
OfConstants (on_symbol f ps q) = length ps ≡ 0

constants-of : (es : List (ℕ × ℕ)) → All OfConstants (constant_transitions es)
constants-of [] = tt
constants-of (e ∷ es) = (refl, constants-of es)

constants-behind : {lo hi f q : ℕ} {ps : List ℕ} (es : List (ℕ × ℕ)) → Ascending lo hi (states_in es)
    → Memᴰ (on_symbol f ps q) (constant_transitions es) → lo ≤ q
constants-behind [] _ m = elim m [ ]
constants-behind {q} (e ∷ es) (next h s) (Memᴰ.head g) = let k : q ≡ e.1 = cc in omega arith
constants-behind (e ∷ es) (next h s) (Memᴰ.tail m) = let k = constants-behind es s m in omega arith

constants-distinct : {lo hi : ℕ} (es : List (ℕ × ℕ)) → Ascending lo hi (states_in es) → Distinct (constant_transitions es)
constants-distinct [] s = tt
constants-distinct (e ∷ es) (next h s) = (λ m. omega (arith, constants-behind es s m), constants-distinct es s)

constants-apart : (n : ℕ) (stack : List Port) (t : Transition) → OfConstants t → OfRest n stack t → ⊥
constants-apart n stack (on_symbol f ps q) h k = omega (arith, k.0)
constants-apart n stack (epsilon p q) h k = h

pub compiled-distinct : (a e : List ℕ) → expression_fault a e ≡ 0 → Distinct (compiled a e).transitions
unfolding compiled
compiled-distinct a e f =
    let es = (last_port a e).entries in
    let i = reading-apart (expression-reading a e f) in
    distinct_append OfConstants (OfRest 0 []) (constants-apart 0 []) (constant_transitions es) (transitions_from a 0 e [])
    (constants-of es) i.rest
    (constants-distinct es (last_port-in a e f).states) i.distinct
