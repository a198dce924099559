-- The words of an accepted expression, read one by one with the stack of ports: what holds at every word. Laws of the
-- compiled automaton are proved by induction over such a reading.
use Prim.Native.Nat.{ℕ, suc, ◌+◌, ◌-◌, ◌≤◌}
use mathlib.Core.Path.{◌≡◌, ◌∙◌, subst}
use mathlib.Core.Bool.{true}
use mathlib.Core.List.{List, [], ◌∷◌, reverse}
use native.Mathlib.Numerals.{add-one}
use lib.ListN.{length, take, drop, length-drop, length-reverse}
use lib.Seq.{length-take-le}
use lib.Dec.{leb}
use borrow.Author.Tests.{leb-true}
use Rattle.words.specs.Lists.{all}
use Rattle.words.specs.Shape.{trees_by}
use Rattle.words.specs.Postfix.{arity, trees}
use Rattle.words.specs.ExpressionWords.{is_expression_word, expression_fault}
use Rattle.words.proofs.TestLaws.{and-true, picked}
use Rattle.words.proofs.AcceptedExpression.{expression-accepted}
use Rattle.automaton.specs.Numbering.{Port, states_of, port_of, own_transitions}
use Rattle.automaton.proofs.PortStates.{PortIn, port_of-in, port_in-from, PortStack, bottom, push, Children, children-le, taken}
use Rattle.automaton.proofs.OwnTransitions.{Own, own-transitions}

-- the children of word w
abbrev pub children_on : List ℕ → ℕ → List Port → List Port
children_on a w stack = reverse (take (arity a w) stack)

-- at word w with the states from n on: its children's states lie before n and behind those of the other ports on the stack
pub record WordRead (a : List ℕ) (n w : ℕ) (stack : List Port) : Type 0 where
  pub low : ℕ
  pub rule_word : is_expression_word a w ≡ true
  pub children : Children a low n (children_on a w stack)
  pub number : length (children_on a w stack) ≡ arity a w
  pub rest : PortStack a low (drop (arity a w) stack)
  pub port : PortIn a n (n + states_of a w) (port_of a n w)
  pub own : Own a (n + states_of a w) w (port_of a n w) (children_on a w stack) (own_transitions a w (port_of a n w) (children_on a w stack))

-- the same at each of the words, from state n on
pub data AllRead (a : List ℕ) : ℕ → List ℕ → List Port → Type 0 where
  ended : {n : ℕ} {stack : List Port} → AllRead a n [] stack
  word : {n w : ℕ} {ws : List ℕ} {stack : List Port} → WordRead a n w stack
      → AllRead a (n + states_of a w) ws (port_of a n w ∷ drop (arity a w) stack) → AllRead a n (w ∷ ws) stack

module _ (a : List ℕ) where
  word_read : (n w : ℕ) (stack : List Port) → is_expression_word a w ≡ true → arity a w ≤ length stack → PortStack a n stack
      → WordRead a n w stack
  word_read n w stack h r s =
      let t = taken a (arity a w) n stack s in
      let l : length (children_on a w stack) ≡ arity a w = length-reverse (take (arity a w) stack) ∙ length-take-le (arity a w) stack r in
      record {
        low = t.low;
        rule_word = h;
        children = t.children;
        number = l;
        rest = t.rest;
        port = port_of-in a n w h;
        own = own-transitions a n w (children_on a w stack) h l;
      }

  reading : (ws : List ℕ) (n t : ℕ) (stack : List Port) → all (is_expression_word a) ws ≡ true → trees a (length stack) ws t ≡ true
      → PortStack a n stack → AllRead a n ws stack
  unfolding trees_by
  reading [] n t stack h r s = ended
  reading (w ∷ ws) n t stack h r s =
      let p = and-true (is_expression_word a w) (all (is_expression_word a) ws) h in
      let q = picked (leb (arity a w) (length stack)) (trees a (length stack - arity a w + 1) ws t) r in
      let d = word_read n w stack p.0 (leb-true (arity a w) (length stack) q.0) s in
      let l : length stack - arity a w + 1 ≡ suc (length (drop (arity a w) stack)) =
      rw (length-drop (arity a w) stack) (add-one (length stack - arity a w)) in
      let s' = push (port_in-from (children-le a d.children) d.port) d.rest in
      word d (reading ws (n + states_of a w) t (port_of a n w ∷ drop (arity a w) stack) p.1
      (subst (λ (x : ℕ). trees a x ws t ≡ true) l q.1) s')

  -- the words of an accepted expression
  pub expression-reading : (e : List ℕ) → expression_fault a e ≡ 0 → AllRead a 0 e []
  expression-reading e h = let g = expression-accepted a e h in reading e 0 1 [] g.words g.shape bottom
