-- Where the transitions of a word start and end: an epsilon transition at an entry of the word or at the exit of a child, a
-- symbol transition in the word's exit; and that no word behind it has such a transition.
use Prim.Native.Nat.{ℕ, zero, suc, ◌+◌, ◌<◌, ◌≤◌}
use mathlib.Core.Path.{refl}
use mathlib.Core.Logic.{◌⊎◌, inl, inr}
use mathlib.Core.List.{List, [], ◌∷◌, ◌++◌, map, reverse_aux, Memᴰ}
use native.Mathlib.Omega.{arith}
use native.Mathlib.Nat.{le_refl}
use lib.ListN.{length, take, drop, length-replicate}
use Rattle.words.specs.Word.{low_byte}
use Rattle.words.specs.Alphabet.{rank_of}
use Rattle.words.specs.Postfix.{arity}
use Rattle.words.specs.Lists.{All}
use Rattle.words.proofs.AllLaws.{each_append}
use Rattle.words.proofs.Ascending.{Ascending, next, ascending-le}
use Rattle.automaton.specs.Transition.{Transition, on_symbol, epsilon}
use Rattle.automaton.specs.Numbering.{Port, states_of, port_of, entry_for, epsilons, entry_epsilons, every_symbol}
use Rattle.automaton.specs.Numbering.{symbol_targets, union_targets, product_targets, closure_targets, anything_targets}
use Rattle.automaton.proofs.EveryEntryLaws.{to-epsilons, to-entry_epsilons}
use Rattle.automaton.proofs.EverySymbolLaws.{to-every_symbol}
use Rattle.automaton.proofs.PortStates.{states_in, PortIn, PortStack, bottom, push, Children, no_child, child, children-le}
use Rattle.automaton.proofs.OwnTransitions.{Own, leaf, of_symbol, of_union, of_product, of_closure, of_anything}
use Rattle.automaton.proofs.PortReading.{WordRead, children_on}

abbrev pub exits_of : List Port → List ℕ
exits_of Ps = map (λ P. P.exit) Ps

-- of the word with the states from x to below m: at its entries or at an exit of its children; into a state of its own
abbrev pub OfWord : ℕ → ℕ → List Port → Transition → Type 0
OfWord x m Ps (epsilon p q) = ((x < p) × (p < m)) ⊎ Memᴰ p (exits_of Ps)
OfWord x m Ps (on_symbol f ps q) = (0 < length ps) × (x ≤ q) × (q < m)

-- of the words behind: at a later state or at an exit on the stack; into a later state
abbrev pub OfRest : ℕ → List Port → Transition → Type 0
OfRest n stack (epsilon p q) = (n ≤ p) ⊎ Memᴰ p (exits_of stack)
OfRest n stack (on_symbol f ps q) = (0 < length ps) × (n ≤ q)

exit-child : {a : List ℕ} {lo hi p : ℕ} {Ps : List Port} → Children a lo hi Ps → Memᴰ p (exits_of Ps) → (lo ≤ p) × (p < hi)
exit-child (no_child _) m = elim m [ ]
exit-child (child p c) (Memᴰ.head e) = let l = children-le _ c in (omega arith, omega arith)
exit-child (child p c) (Memᴰ.tail m) = let b = exit-child c m in (omega arith, b.1)

exit-stack : {a : List ℕ} {n p : ℕ} {stack : List Port} → PortStack a n stack → Memᴰ p (exits_of stack) → p < n
exit-stack bottom m = elim m [ ]
exit-stack (push p s) (Memᴰ.head e) = omega arith
exit-stack (push p s) (Memᴰ.tail m) = let b = exit-stack s m in omega arith

exit-taken : {p : ℕ} (r : ℕ) (stack right : List Port) → Memᴰ p (exits_of (reverse_aux (take r stack) right))
    → Memᴰ p (exits_of stack) ⊎ Memᴰ p (exits_of right)
exit-taken zero stack right m = inr m
exit-taken (suc r) [] right m = inr m
exit-taken {p} (suc r) (P ∷ stack) right m = go (exit-taken r stack (P ∷ right) m)
  where
    go : Memᴰ p (exits_of stack) ⊎ Memᴰ p (exits_of (P ∷ right)) → Memᴰ p (exits_of (P ∷ stack)) ⊎ Memᴰ p (exits_of right)
    go (inl k) = inl (Memᴰ.tail k)
    go (inr (Memᴰ.head e)) = inl (Memᴰ.head e)
    go (inr (Memᴰ.tail k)) = inr k

exit-dropped : {p : ℕ} (r : ℕ) (stack : List Port) → Memᴰ p (exits_of (drop r stack)) → Memᴰ p (exits_of stack)
exit-dropped zero stack m = m
exit-dropped (suc r) [] m = m
exit-dropped (suc r) (P ∷ stack) m = Memᴰ.tail (exit-dropped r stack m)

-- ---- the own transitions of a word

everywhere : {A : Type 0} (C : A → Type 0) → ((x : A) → C x) → (xs : List A) → All C xs
everywhere C h [] = tt
everywhere C h (x ∷ xs) = (h x, everywhere C h xs)

module _ (x m : ℕ) (Ps : List Port) where
  from-child : (p : ℕ) (qs : List ℕ) → Memᴰ p (exits_of Ps) → All (OfWord x m Ps) (epsilons p qs)
  from-child p qs k = to-epsilons (OfWord x m Ps) p qs (everywhere (λ q. OfWord x m Ps (epsilon p q)) (λ q. inr k) qs)

  from-own : {lo : ℕ} (targets : ℕ → List ℕ) (es : List (ℕ × ℕ)) → x < lo → Ascending lo m (states_in es)
      → All (OfWord x m Ps) (entry_epsilons es targets)
  from-own targets es h s = to-entry_epsilons (OfWord x m Ps) targets es (go es h s)
    where
      go : {lo : ℕ} (es : List (ℕ × ℕ)) → x < lo → Ascending lo m (states_in es)
          → All (λ e. All (λ q. OfWord x m Ps (epsilon e.1 q)) (targets e.0)) es
      go [] h s = tt
      go (e ∷ es) h (next k s) =
          let l : x < e.1 = omega arith in
          (everywhere (λ q. OfWord x m Ps (epsilon e.1 q)) (λ q. inl (l, ascending-le s)) (targets e.0), go es (omega arith) s)

pub own_of : {a : List ℕ} {hi w n : ℕ} {E : Port} {Ps : List Port} {ts : List Transition} → PortIn a n hi E → Own a hi w E Ps ts
    → All (OfWord E.exit hi Ps) ts
own_of x (leaf l) = tt
own_of {hi} {E} x (of_symbol {P} {Ps} i f r) =
    ((omega arith, omega arith, x.below), from-own E.exit hi (P ∷ Ps) (symbol_targets (P ∷ Ps)) E.entries (omega arith) i.states)
own_of {hi} {E} x (of_union {F} {G} i) =
    let ts = from-own E.exit hi (F ∷ G ∷ []) (union_targets F G) E.entries (omega arith) i.states in
    (inr (Memᴰ.head refl), (inr (Memᴰ.tail (Memᴰ.head refl)), ts))
own_of {hi} {w} {E} x (of_product {F} {G} i) =
    let c = low_byte w in
    let Ps = F ∷ G ∷ [] in
    let us = from-child E.exit hi Ps G.exit (entry_for F c) (Memᴰ.tail (Memᴰ.head refl)) in
    let ts = from-own E.exit hi Ps (product_targets c F G) E.entries (omega arith) i.states in (
      inr (Memᴰ.head refl),
      each_append (OfWord E.exit hi Ps) (epsilons G.exit (entry_for F c)) (entry_epsilons E.entries (product_targets c F G)) us ts,
    )
own_of {hi} {w} {E} x (of_closure {F} i) =
    let c = low_byte w in
    let Ps = F ∷ [] in
    let qs = entry_for F c ++ (E.exit ∷ []) in
    let us = from-child E.exit hi Ps F.exit qs (Memᴰ.head refl) in
    let ts = from-own E.exit hi Ps (closure_targets c E.exit F) E.entries (omega arith) i.states in
    each_append (OfWord E.exit hi Ps) (epsilons F.exit qs) (entry_epsilons E.entries (closure_targets c E.exit F)) us ts
own_of {a} {hi} {E} x (of_anything i e) =
    let y = E.exit in
    each_append (OfWord y hi []) (every_symbol y 0 a) (entry_epsilons E.entries (anything_targets y))
    (to-every_symbol (OfWord y hi []) y a
    (λ f l z. let r = length-replicate {A = ℕ} (rank_of a f) y in (omega (arith, r, z), le_refl y, x.below)))
    (from-own y hi [] (anything_targets y) E.entries (omega arith) i.states)

-- ---- every word

module _ {a : List ℕ} {n w : ℕ} {stack : List Port} (d : WordRead a n w stack) where
  abbrev x : ℕ
  x = (port_of a n w).exit

  abbrev m : ℕ
  m = n + states_of a w

  abbrev Ps : List Port
  Ps = children_on a w stack

  abbrev stack' : List Port
  stack' = port_of a n w ∷ drop (arity a w) stack

  -- a transition of the word is none of the words behind it
  pub word-apart : (t : Transition) → OfWord x m Ps t → OfRest m stack' t → ⊥
  word-apart (on_symbol f ps q) h k = omega (arith, h.2, k.1)
  word-apart (epsilon p q) (inl h) (inl k) = omega arith
  word-apart (epsilon p q) (inl h) (inr (Memᴰ.head e)) = omega arith
  word-apart (epsilon p q) (inl h) (inr (Memᴰ.tail k)) =
      omega (arith, exit-stack d.rest k, children-le a d.children, d.port.from)
  word-apart (epsilon p q) (inr h) (inl k) = omega (arith, exit-child d.children h)
  word-apart (epsilon p q) (inr h) (inr (Memᴰ.head e)) = omega (arith, exit-child d.children h, d.port.from)
  word-apart (epsilon p q) (inr h) (inr (Memᴰ.tail k)) = omega (arith, exit-child d.children h, exit-stack d.rest k)

  pub word-rest : (t : Transition) → OfWord x m Ps t → OfRest n stack t
  word-rest (on_symbol f ps q) h = (h.0, omega (arith, h.1, d.port.from))
  word-rest (epsilon p q) (inl h) = inl (omega (arith, d.port.from))
  word-rest (epsilon p q) (inr h) = go (exit-taken (arity a w) stack [] h)
    where
      go : Memᴰ p (exits_of stack) ⊎ Memᴰ p [] → OfRest n stack (epsilon p q)
      go (inl k) = inr k
      go (inr k) = elim k [ ]

  pub rest-rest : (t : Transition) → OfRest m stack' t → OfRest n stack t
  rest-rest (on_symbol f ps q) h = (h.0, omega (arith, h.1))
  rest-rest (epsilon p q) (inl h) = inl (omega arith)
  rest-rest (epsilon p q) (inr (Memᴰ.head e)) = inl (omega (arith, d.port.from))
  rest-rest (epsilon p q) (inr (Memᴰ.tail k)) = inr (exit-dropped (arity a w) stack k)
