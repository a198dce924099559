-- The decoder of tables undoes the encoder: the automaton of an automaton's words is the automaton itself.
use mathlib.Core.Path.{◌≡◌, refl, ap, ◌∙◌}
use mathlib.Core.Bool.{true, false}
use mathlib.Core.List.{List, [], ◌∷◌, ◌++◌}
use Prim.Native.Nat.{ℕ, ◌<◌, ◌≤◌}
use native.Mathlib.Omega.{arith}
use lib.ListN.{length}
use borrow.Author.Tests.{eq-eqb, ne_eqb}
use Rattle.words.specs.Word.{transition_kind, epsilon_kind, source_kind, number_of, has_kind, above_state, state_range, symbol_range}
use Rattle.words.specs.Word.{word_of, symbol_above, count_above, state_above, state_below, kind_number}
use Rattle.words.specs.Lists.{AllBelow}
use Rattle.words.specs.Limits.{states_most}
use Rattle.automaton.specs.Transition.{Transition, Automaton, on_symbol, epsilon, source_words, transitions_words}
use Rattle.automaton.specs.Transition.{head_word, table_words, sources_at, transitions_at, automaton_of}
use Rattle.automaton.specs.Table.{TransitionsOver, AutomatonOver}

-- ---- one word

module _ (f q : ℕ) (ws : List ℕ) (lf : f < symbol_range) (lq : q < state_range) where
  at_symbol : transitions_at (word_of transition_kind (above_state f q) ∷ ws) ≡ on_symbol f (sources_at ws) q ∷ transitions_at ws
  unfolding transitions_at
  at_symbol =
      let w = word_of transition_kind (above_state f q) in
      let k : has_kind transition_kind w ≡ true = eq-eqb (number_of w) (kind_number transition_kind) (omega arith) in
      let s : symbol_above w ≡ f = omega arith in
      let t : state_below w ≡ q = omega arith in
      rw (k, s, t)

  no-source-symbol : sources_at (word_of transition_kind (above_state f q) ∷ ws) ≡ []
  no-source-symbol =
      let w = word_of transition_kind (above_state f q) in
      let k : has_kind source_kind w ≡ false = ne_eqb (number_of w) (kind_number source_kind) (omega arith) in
      rw k

module _ (p q : ℕ) (ws : List ℕ) (lp : p < state_range) (lq : q < state_range) where
  at-epsilon : transitions_at (word_of epsilon_kind (above_state p q) ∷ ws) ≡ epsilon p q ∷ transitions_at ws
  unfolding transitions_at
  at-epsilon =
      let w = word_of epsilon_kind (above_state p q) in
      let n : has_kind transition_kind w ≡ false = ne_eqb (number_of w) (kind_number transition_kind) (omega arith) in
      let k : has_kind epsilon_kind w ≡ true = eq-eqb (number_of w) (kind_number epsilon_kind) (omega arith) in
      let s : state_above w ≡ p = omega arith in
      let t : state_below w ≡ q = omega arith in
      rw (n, k, s, t)

  no-source-epsilon : sources_at (word_of epsilon_kind (above_state p q) ∷ ws) ≡ []
  no-source-epsilon =
      let w = word_of epsilon_kind (above_state p q) in
      let k : has_kind source_kind w ≡ false = ne_eqb (number_of w) (kind_number source_kind) (omega arith) in
      rw k

module _ (p : ℕ) (ws : List ℕ) (lp : p < state_range) where
  at_source : transitions_at (word_of source_kind p ∷ ws) ≡ transitions_at ws
  unfolding transitions_at
  at_source =
      let w = word_of source_kind p in
      let n : has_kind transition_kind w ≡ false = ne_eqb (number_of w) (kind_number transition_kind) (omega arith) in
      let m : has_kind epsilon_kind w ≡ false = ne_eqb (number_of w) (kind_number epsilon_kind) (omega arith) in
      rw (n, m)

  source-source : sources_at (word_of source_kind p ∷ ws) ≡ p ∷ sources_at ws
  source-source =
      let w = word_of source_kind p in
      let k : has_kind source_kind w ≡ true = eq-eqb (number_of w) (kind_number source_kind) (omega arith) in
      let t : state_below w ≡ p = omega arith in
      rw (k, t)

-- ---- all words

module _ (a : List ℕ) (n : ℕ) (few : length a ≤ symbol_range) (most : n ≤ states_most) where
  -- the words of source states are skipped where a transition is looked for
  sources-skipped : (ps ws : List ℕ) → AllBelow n ps → transitions_at (source_words ps ++ ws) ≡ transitions_at ws
  sources-skipped [] ws b = refl
  sources-skipped (p ∷ ps) ws b = at_source p (source_words ps ++ ws) (omega (arith, b.0)) ∙ sources-skipped ps ws b.1

  sources-end : (ts : List Transition) → TransitionsOver a n ts → sources_at (transitions_words ts) ≡ []
  sources-end [] o = refl
  sources-end (on_symbol f ps q ∷ ts) o =
      no-source-symbol f q (source_words ps ++ transitions_words ts) (omega (arith, o.0.0)) (omega (arith, o.0.3))
  sources-end (epsilon p q ∷ ts) o = no-source-epsilon p q (transitions_words ts) (omega (arith, o.0.0)) (omega (arith, o.0.1))

  sources-read : (ps : List ℕ) (ts : List Transition) → AllBelow n ps → TransitionsOver a n ts
      → sources_at (source_words ps ++ transitions_words ts) ≡ ps
  sources-read [] ts b o = sources-end ts o
  sources-read (p ∷ ps) ts b o =
      source-source p (source_words ps ++ transitions_words ts) (omega (arith, b.0)) ∙ ap (λ l. p ∷ l) (sources-read ps ts b.1 o)

  transitions_at-words : (ts : List Transition) → TransitionsOver a n ts → transitions_at (transitions_words ts) ≡ ts
  unfolding transitions_at
  transitions_at-words [] o = refl
  transitions_at-words (on_symbol f ps q ∷ ts) o =
      at_symbol f q (source_words ps ++ transitions_words ts) (omega (arith, o.0.0)) (omega (arith, o.0.3))
      ∙ rw (sources-read ps ts o.0.2 o.1, sources-skipped ps (transitions_words ts) o.0.2, transitions_at-words ts o.1)
  transitions_at-words (epsilon p q ∷ ts) o =
      at-epsilon p q (transitions_words ts) (omega (arith, o.0.0)) (omega (arith, o.0.1))
      ∙ ap (λ l. epsilon p q ∷ l) (transitions_at-words ts o.1)

-- an automaton is the one that its table gives back
pub automaton_of-words : (a : List ℕ) → length a ≤ symbol_range → {A : Automaton} → AutomatonOver a A → automaton_of (table_words A) ≡ A
unfolding automaton_of
automaton_of-words a few {A} o =
    let most = o.most in
    let final = o.final in
    let s : count_above (head_word A) ≡ A.states = omega arith in
    let e : state_below (head_word A) ≡ A.final = omega arith in
    rw (s, e, transitions_at-words a A.states few o.most A.transitions o.transitions)
