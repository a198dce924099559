-- The compiled automaton of an accepted expression is an automaton over the alphabet: its symbols are known and stand over
-- as many states as their ranks, and every state is below the state count.
use Prim.Native.Nat.{ℕ, zero, suc, ◌+◌, ◌<◌, ◌≤◌}
use mathlib.Core.Path.{◌≡◌, ◌∙◌, sym}
use mathlib.Core.Bool.{true}
use mathlib.Core.List.{List, [], ◌∷◌, ◌++◌, map, Memᴰ}
use native.Mathlib.Omega.{arith}
use native.Mathlib.Nat.{le_refl, le_trans, lt_of_lt_of_le, le_of_lt}
use lib.ListN.{drop, replicate, length-map, length-replicate}
use Rattle.words.specs.Word.{low_byte}
use Rattle.words.specs.Alphabet.{rank_of, constants_of, is_constant}
use Rattle.words.specs.Postfix.{arity}
use Rattle.words.specs.ExpressionWords.{expression_fault}
use Rattle.words.specs.Lists.{All, AllBelow}
use Rattle.words.specs.Limits.{states_most}
use Rattle.words.proofs.AllLaws.{each_append, each_map, each_both, each-self, below_more}
use Rattle.words.proofs.AlphabetLaws.{constants_of-is_constant, is_constant-zero}
use Rattle.words.proofs.Ascending.{Ascending, end, next, ascending-le, ascending-append, ascending-one}
use Rattle.automaton.specs.Transition.{Transition, on_symbol, epsilon}
use Rattle.automaton.specs.Numbering.{Port, states_of, port_of, entry_for, epsilons, entry_epsilons, every_symbol, states_after}
use Rattle.automaton.specs.Numbering.{own_transitions, transitions_from, constant_transitions, last_port}
use Rattle.automaton.specs.Numbering.{compiled, symbol_targets, union_targets, product_targets, closure_targets, anything_targets}
use Rattle.automaton.specs.Table.{TransitionOver, AutomatonOver}
use Rattle.automaton.proofs.EveryEntryLaws.{to-epsilons, to-entry_epsilons, to-constants, numbered-all}
use Rattle.automaton.proofs.EverySymbolLaws.{to-every_symbol}
use Rattle.automaton.proofs.PortStates.{states_in, Entries, every, own, missing, PortIn, Children, no_child, child, children-le}
use Rattle.automaton.proofs.OwnTransitions.{Own, leaf, of_symbol, of_union, of_product, of_closure, of_anything}
use Rattle.automaton.proofs.PortReading.{AllRead, ended, word, children_on, expression-reading}
use Rattle.automaton.proofs.LastPort.{states_after-le, last_port-in}
use Rattle.automaton.proofs.TargetLaws.{entry_for-ascending, symbol-ascending, union-ascending, product-ascending, closure-ascending}

-- ---- states below a bound

below_of : {lo hi : ℕ} (n : ℕ) {xs : List ℕ} → Ascending lo hi xs → hi ≤ n → AllBelow n xs
below_of n (end h) l = tt
below_of n (next h a) l = (lt_of_lt_of_le (ascending-le a) l, below_of n a l)

entries_below : {lo hi : ℕ} (es : List (ℕ × ℕ)) → Ascending lo hi (states_in es) → All (λ e. e.1 < hi) es
entries_below [] h = tt
entries_below (e ∷ es) (next l h) = (ascending-le h, entries_below es h)

exits-below : {a : List ℕ} {lo hi : ℕ} (n : ℕ) {Ps : List Port} → Children a lo hi Ps → hi ≤ n → AllBelow n (map (λ P. P.exit) Ps)
exits-below n (no_child h) l = tt
exits-below n (child p c) l = (omega (arith, p.below, children-le _ c), exits-below n c l)

copies-below : (n x : ℕ) → x < n → (k : ℕ) → AllBelow n (replicate k x)
copies-below n x l zero = tt
copies-below n x l (suc k) = (l, copies-below n x l k)

module _ (a : List ℕ) where
  over-more : (m n : ℕ) → m ≤ n → (t : Transition) → TransitionOver a m t → TransitionOver a n t
  over-more m n l (on_symbol f ps q) h = (h.0, h.1, below_more m n l ps h.2, lt_of_lt_of_le h.3 l)
  over-more m n l (epsilon p q) h = (lt_of_lt_of_le h.0 l, lt_of_lt_of_le h.1 l)

  -- ---- the own transitions of a word

  epsilons-over : {lo hi : ℕ} (n p : ℕ) {qs : List ℕ} → p < n → Ascending lo hi qs → hi ≤ n → All (TransitionOver a n) (epsilons p qs)
  epsilons-over n p {qs} l s h =
      to-epsilons (TransitionOver a n) p qs
      (each_map (λ q. q < n) (λ q. TransitionOver a n (epsilon p q)) (λ q k. (l, k)) qs (below_of n s h))

  entry_epsilons-over : {lo hi l h : ℕ} (targets : ℕ → List ℕ) (es : List (ℕ × ℕ)) → Ascending lo hi (states_in es)
      → ((c : ℕ) → Ascending l h (targets c)) → h ≤ hi → All (TransitionOver a hi) (entry_epsilons es targets)
  entry_epsilons-over {hi} targets es s t k =
      to-entry_epsilons (TransitionOver a hi) targets es
      (each_map (λ e. e.1 < hi) (λ e. All (λ p. TransitionOver a hi (epsilon e.1 p)) (targets e.0))
      (λ e m. each_map (λ q. q < hi) (λ q. (e.1 < hi) × (q < hi)) (λ q j. (m, j)) (targets e.0) (below_of hi (t e.0) k)) es
      (entries_below es s))

  own-over : {hi w lo n : ℕ} {E : Port} {Ps : List Port} {ts : List Transition} → PortIn a n hi E → Children a lo n Ps
      → Own a hi w E Ps ts → All (TransitionOver a hi) ts
  own-over x c (leaf l) = tt
  own-over {hi} {E} x c (of_symbol {P} {Ps} i f r) =
      let l = le_trans x.from (le_of_lt x.below) in (
        (f, r ∙ sym (length-map (P ∷ Ps) (λ Q. Q.exit)), exits-below hi c l, x.below),
        entry_epsilons-over (symbol_targets (P ∷ Ps)) E.entries i.states (symbol-ascending c) l,
      )
  own-over {hi} {E} x (child p (child q (no_child l))) (of_union {F} {G} i) =
      let ts = entry_epsilons-over (union_targets F G) E.entries i.states (union-ascending p q) (omega arith) in
      ((omega arith, x.below), ((omega arith, x.below), ts))
  own-over {hi} {w} {E} x (child p (child q (no_child l))) (of_product {F} {G} i) =
      let c = low_byte w in
      let us = epsilons-over hi G.exit (omega arith) (entry_for-ascending c F p) (omega arith) in
      let ts = entry_epsilons-over (product_targets c F G) E.entries i.states (product-ascending c p q) (omega arith) in (
        (omega arith, x.below),
        each_append (TransitionOver a hi) (epsilons G.exit (entry_for F c)) (entry_epsilons E.entries (product_targets c F G)) us ts,
      )
  own-over {hi} {w} {E} x (child p (no_child l)) (of_closure {F} i) =
      let c = low_byte w in
      let qs = ascending-append (entry_for-ascending c F p) (ascending-one (le_trans l x.from) x.below) in
      let us = epsilons-over hi F.exit (omega arith) qs (le_refl hi) in
      let ts =
      entry_epsilons-over (closure_targets c E.exit F) E.entries i.states (closure-ascending c p (le_trans l x.from))
      x.below in
      each_append (TransitionOver a hi) (epsilons F.exit (entry_for F c ++ (E.exit ∷ [])))
      (entry_epsilons E.entries (closure_targets c E.exit F)) us ts
  own-over {hi} {E} x c (of_anything i e) =
      let y = E.exit in
      each_append (TransitionOver a hi) (every_symbol y 0 a) (entry_epsilons E.entries (anything_targets y))
      (to-every_symbol (TransitionOver a hi) y a
      (λ f l z. (l, sym (length-replicate {A = ℕ} (rank_of a f) y), copies-below hi y x.below (rank_of a f), x.below)))
      (entry_epsilons-over (anything_targets y) E.entries i.states (λ b. ascending-one (le_refl y) (le_refl (suc y))) x.below)

  -- ---- every word

  reading-over : {n : ℕ} {ws : List ℕ} {stack : List Port} → AllRead a n ws stack
      → All (TransitionOver a (states_after a n ws)) (transitions_from a n ws stack)
  unfolding states_after transitions_from
  reading-over ended = tt
  reading-over (word {n} {w} {ws} {stack} d r) =
      let m = n + states_of a w in
      let N = states_after a m ws in
      let ts = own_transitions a w (port_of a n w) (children_on a w stack) in
      each_append (TransitionOver a N) ts (transitions_from a m ws (port_of a n w ∷ drop (arity a w) stack))
      (each_map (TransitionOver a m) (TransitionOver a N) (over-more m N (states_after-le a ws m)) ts
      (own-over d.port d.children d.own))
      (reading-over r)

  -- ---- the transitions on constants

  entries-constants : {x : ℕ} {es : List (ℕ × ℕ)} → Entries a x es → All (λ e. is_constant a e.0 ≡ true) es
  entries-constants {x} every =
      numbered-all (λ c. is_constant a c ≡ true) (suc x) (constants_of a)
      (each_map (λ c. Memᴰ c (constants_of a)) (λ c. is_constant a c ≡ true) (λ c m. (constants_of-is_constant a c).0 m) (constants_of a)
      (each-self (constants_of a)))
  entries-constants (own c h) = (h, tt)
  entries-constants missing = tt

  constants-over : {lo n : ℕ} {P : Port} → PortIn a lo n P → All (TransitionOver a n) (constant_transitions P.entries)
  constants-over {n} {P} p =
      to-constants (TransitionOver a n) P.entries
      (each_map (λ e. (is_constant a e.0 ≡ true) × (e.1 < n)) (λ e. TransitionOver a n (on_symbol e.0 [] e.1))
      (λ e h. let z = is_constant-zero a e.0 h.0 in (z.0, z.1, tt, h.1)) P.entries
      (each_both (λ e. is_constant a e.0 ≡ true) (λ e. e.1 < n) P.entries (entries-constants p.shape)
      (entries_below P.entries p.states)))

  pub compiled-over : (e : List ℕ) → expression_fault a e ≡ 0 → (compiled a e).states ≤ states_most → AutomatonOver a (compiled a e)
  unfolding compiled
  compiled-over e f m =
      let N = states_after a 0 e in
      let p = last_port-in a e f in
      let cs = constant_transitions (last_port a e).entries in
      let ts = transitions_from a 0 e [] in
      record {
        some = omega arith;
        most = m;
        final = p.below;
        transitions =
            each_append (TransitionOver a N) cs ts (constants-over p) (reading-over (expression-reading a e f));
      }
