-- The words that may stand behind a table's length word are exactly the words of transitions over the alphabet.
use mathlib.Core.Path.{◌≡◌, refl, ap, ap₂, ◌∙◌, sym}
use mathlib.Core.Logic.{◌⊎◌, inl, inr}
use mathlib.Core.Bool.{Bool, true, false, ◌&&◌, ◌||◌, or-true as or_right}
use mathlib.Core.List.{List, [], ◌∷◌, ◌++◌}
use Prim.Native.Nat.{ℕ, zero, suc, ◌<◌, ◌≤◌}
use native.Mathlib.Omega.{arith}
use lib.ListN.{length}
use lib.Dec.{ltb}
use borrow.Author.Tests.{eq-eqb, ne_eqb, eqb-true, lt-ltb, ltb-true}
use Rattle.words.specs.Word.{transition_kind, epsilon_kind, source_kind, length_kind, number_of, has_kind, is_of, state_range, symbol_range}
use Rattle.words.specs.Word.{field_range, word_of, symbol_above, state_above, state_below, kind_number, above_state}
use Rattle.words.specs.Alphabet.{is_symbol, rank_of}
use Rattle.words.specs.Lists.{AllBelow}
use Rattle.words.specs.Limits.{states_most}
use Rattle.words.proofs.ListLaws.{length_none}
use Rattle.words.proofs.TestLaws.{and-true, true-and, or-true}
use Rattle.words.proofs.KindLaws.{is_of-facts, is_of-word_of}
use Rattle.automaton.specs.Transition.{Transition, on_symbol, epsilon, source_words, transitions_words}
use Rattle.automaton.specs.Table.{is_table_word, sources_left, are_transitions, TransitionsOver}

-- ---- one word from its fields

source-word : (w : ℕ) → is_of source_kind w ≡ true → w ≡ word_of source_kind (state_below w)
source-word w h = let i = is_of-facts source_kind w h in omega arith

symbol-word : (w : ℕ) → is_of transition_kind w ≡ true → w ≡ word_of transition_kind (above_state (symbol_above w) (state_below w))
symbol-word w h = let i = is_of-facts transition_kind w h in omega arith

epsilon-word : (w : ℕ) → is_of epsilon_kind w ≡ true → w ≡ word_of epsilon_kind (above_state (state_above w) (state_below w))
epsilon-word w h = let i = is_of-facts epsilon_kind w h in omega arith

-- the words of a table behind its length word, where k source states are still to come: source states, and then transitions
record Parsed (a : List ℕ) (n k : ℕ) (ws : List ℕ) : Type 0 where
  sources : List ℕ
  transitions : List Transition
  words : source_words sources ++ transitions_words transitions ≡ ws
  number : length sources ≡ k
  below : AllBelow n sources
  over : TransitionsOver a n transitions

module _ (a : List ℕ) (n : ℕ) where
  abbrev symbol_test : ℕ → Bool
  symbol_test w = is_of transition_kind w && is_symbol a (symbol_above w) && ltb (state_below w) n

  abbrev epsilon_test : ℕ → Bool
  epsilon_test w = is_of epsilon_kind w && ltb (state_above w) n && ltb (state_below w) n

  -- ---- words that pass are the words of transitions

  parsed-symbol : (w : ℕ) (ws : List ℕ) → symbol_test w ≡ true → Parsed a n (rank_of a (symbol_above w)) ws → Parsed a n 0 (w ∷ ws)
  parsed-symbol w ws h i =
      let b = and-true (is_of transition_kind w && is_symbol a (symbol_above w)) (ltb (state_below w) n) h in
      let c = and-true (is_of transition_kind w) (is_symbol a (symbol_above w)) b.0 in
      record {
        sources = [];
        transitions = on_symbol (symbol_above w) i.sources (state_below w) ∷ i.transitions;
        words = ap₂ (λ x l. x ∷ l) (sym (symbol-word w c.0)) i.words;
        number = refl;
        below = tt;
        over = ((ltb-true (symbol_above w) (length a) c.1, sym i.number, i.below, ltb-true (state_below w) n b.1), i.over);
      }

  parsed-epsilon : (w : ℕ) (ws : List ℕ) → epsilon_test w ≡ true → Parsed a n 0 ws → Parsed a n 0 (w ∷ ws)
  parsed-epsilon w ws h i =
      let b = and-true (is_of epsilon_kind w && ltb (state_above w) n) (ltb (state_below w) n) h in
      let c = and-true (is_of epsilon_kind w) (ltb (state_above w) n) b.0 in
      let e : source_words i.sources ++ transitions_words i.transitions ≡ transitions_words i.transitions =
      rw (length_none i.sources i.number) in
      record {
        sources = [];
        transitions = epsilon (state_above w) (state_below w) ∷ i.transitions;
        words = ap₂ (λ x l. x ∷ l) (sym (epsilon-word w c.0)) (sym e ∙ i.words);
        number = refl;
        below = tt;
        over = ((ltb-true (state_above w) n c.1, ltb-true (state_below w) n b.1), i.over);
      }

  parsed-source : (k w : ℕ) (ws : List ℕ) → is_of source_kind w && ltb (state_below w) n ≡ true → Parsed a n k ws → Parsed a n (suc k) (w ∷ ws)
  parsed-source k w ws h i =
      let b = and-true (is_of source_kind w) (ltb (state_below w) n) h in
      record {
        sources = state_below w ∷ i.sources;
        transitions = i.transitions;
        words = ap₂ (λ x l. x ∷ l) (sym (source-word w b.0)) i.words;
        number = ap suc i.number;
        below = (ltb-true (state_below w) n b.1, i.below);
        over = i.over;
      }

  -- a length word may not stand there
  pub no-length-word : (k w : ℕ) → is_table_word a n k w ≡ true → has_kind length_kind w ≡ false
  unfolding is_table_word
  no-length-word (suc k) w h =
      let i = is_of-facts source_kind w (and-true (is_of source_kind w) (ltb (state_below w) n) h).0 in
      ne_eqb (number_of w) (kind_number length_kind) (λ e. omega (arith, i.number))
  no-length-word zero w h = pick (or-true (symbol_test w) (epsilon_test w) h)
    where
      pick : (symbol_test w ≡ true) ⊎ (epsilon_test w ≡ true) → has_kind length_kind w ≡ false
      pick (inl s) =
          let b = and-true (is_of transition_kind w && is_symbol a (symbol_above w)) (ltb (state_below w) n) s in
          let i = is_of-facts transition_kind w (and-true (is_of transition_kind w) (is_symbol a (symbol_above w)) b.0).0 in
          ne_eqb (number_of w) (kind_number length_kind) (λ e. omega (arith, i.number))
      pick (inr s) =
          let b = and-true (is_of epsilon_kind w && ltb (state_above w) n) (ltb (state_below w) n) s in
          let i = is_of-facts epsilon_kind w (and-true (is_of epsilon_kind w) (ltb (state_above w) n) b.0).0 in
          ne_eqb (number_of w) (kind_number length_kind) (λ e. omega (arith, i.number))

  -- how many source states follow a transition of either kind
  left-symbol : (w : ℕ) → symbol_test w ≡ true → sources_left a 0 w ≡ rank_of a (symbol_above w)
  unfolding sources_left
  left-symbol w h =
      let b = and-true (is_of transition_kind w && is_symbol a (symbol_above w)) (ltb (state_below w) n) h in
      let i = is_of-facts transition_kind w (and-true (is_of transition_kind w) (is_symbol a (symbol_above w)) b.0).0 in
      rw (eq-eqb (number_of w) (kind_number transition_kind) i.number)

  left-epsilon : (w : ℕ) → epsilon_test w ≡ true → sources_left a 0 w ≡ 0
  unfolding sources_left
  left-epsilon w h =
      let b = and-true (is_of epsilon_kind w && ltb (state_above w) n) (ltb (state_below w) n) h in
      let i = is_of-facts epsilon_kind w (and-true (is_of epsilon_kind w) (ltb (state_above w) n) b.0).0 in
      rw (ne_eqb (number_of w) (kind_number transition_kind) (omega arith))

  parsed : (ws : List ℕ) (k : ℕ) → are_transitions a n k ws ≡ true → Parsed a n k ws
  unfolding are_transitions is_table_word sources_left
  parsed [] k h = record { sources = []; transitions = []; words = refl; number = sym (eqb-true k 0 h); below = tt; over = tt }
  parsed (w ∷ ws) (suc k) h =
      let b = and-true (is_of source_kind w && ltb (state_below w) n) (are_transitions a n (sources_left a (suc k) w) ws) h in
      parsed-source k w ws b.0 (parsed ws k b.1)
  parsed (w ∷ ws) zero h = go (and-true (symbol_test w || epsilon_test w) (are_transitions a n (sources_left a 0 w) ws) h) (λ k. parsed ws k)
    where
      go : (symbol_test w || epsilon_test w ≡ true) × (are_transitions a n (sources_left a 0 w) ws ≡ true)
          → ((k : ℕ) → are_transitions a n k ws ≡ true → Parsed a n k ws) → Parsed a n 0 (w ∷ ws)
      go (b, h) rest = pick (or-true (symbol_test w) (epsilon_test w) b)
        where
          pick : (symbol_test w ≡ true) ⊎ (epsilon_test w ≡ true) → Parsed a n 0 (w ∷ ws)
          pick (inl s) = parsed-symbol w ws s (rest (rank_of a (symbol_above w)) (rw (left-symbol w s) at h))
          pick (inr e) = parsed-epsilon w ws e (rest 0 (rw (left-epsilon w e) at h))

  -- words that pass are the words of transitions
  pub record WordsOf (ws : List ℕ) : Type 0 where
    pub transitions : List Transition
    pub words : transitions_words transitions ≡ ws
    pub over : TransitionsOver a n transitions

  pub transitions-parsed : (ws : List ℕ) → are_transitions a n 0 ws ≡ true → WordsOf ws
  transitions-parsed ws h =
      let i = parsed ws 0 h in
      let e : source_words i.sources ++ transitions_words i.transitions ≡ transitions_words i.transitions =
      rw (length_none i.sources i.number) in
      record { transitions = i.transitions; words = sym e ∙ i.words; over = i.over }

  -- ---- the words of transitions pass

  module _ (few : length a ≤ symbol_range) (most : n ≤ states_most) where
    sources-pass : (ps ws : List ℕ) → AllBelow n ps → are_transitions a n 0 ws ≡ true
        → are_transitions a n (length ps) (source_words ps ++ ws) ≡ true
    unfolding are_transitions is_table_word sources_left
    sources-pass [] ws b h = h
    sources-pass (p ∷ ps) ws b h =
        let w = word_of source_kind p in
        let l : p < state_range = omega (arith, b.0) in
        let t : state_below w < n = omega (arith, b.0) in
        true-and (is_of source_kind w && ltb (state_below w) n) (are_transitions a n (length ps) (source_words ps ++ ws))
        (true-and (is_of source_kind w) (ltb (state_below w) n) (is_of-word_of source_kind p l) (lt-ltb (state_below w) n t))
        (sources-pass ps ws b.1 h)

    symbol-passes : (f q : ℕ) → f < length a → q < n → symbol_test (word_of transition_kind (above_state f q)) ≡ true
    symbol-passes f q lf lq =
        let w = word_of transition_kind (above_state f q) in
        let lw : above_state f q < field_range transition_kind = omega arith in
        let s : symbol_above w < length a = omega arith in
        let t : state_below w < n = omega arith in
        rw (is_of-word_of transition_kind (above_state f q) lw, lt-ltb (symbol_above w) (length a) s, lt-ltb (state_below w) n t)

    epsilon-passes : (p q : ℕ) → p < n → q < n → epsilon_test (word_of epsilon_kind (above_state p q)) ≡ true
    epsilon-passes p q lp lq =
        let w = word_of epsilon_kind (above_state p q) in
        let lw : above_state p q < field_range epsilon_kind = omega arith in
        let s : state_above w < n = omega arith in
        let t : state_below w < n = omega arith in
        rw (is_of-word_of epsilon_kind (above_state p q) lw, lt-ltb (state_above w) n s, lt-ltb (state_below w) n t)

    pub transitions-pass : (ts : List Transition) → TransitionsOver a n ts → are_transitions a n 0 (transitions_words ts) ≡ true
    unfolding are_transitions is_table_word
    transitions-pass [] o = refl
    transitions-pass (on_symbol f ps q ∷ ts) o =
        let w = word_of transition_kind (above_state f q) in
        let s = symbol-passes f q o.0.0 o.0.3 in
        let lf : f < symbol_range = omega (arith, o.0.0) in
        let lq : q < state_range = omega (arith, o.0.3) in
        let g : symbol_above w ≡ f = omega arith in
        let k : sources_left a 0 w ≡ length ps = left-symbol w s ∙ ap (rank_of a) g ∙ o.0.1 in
        true-and (symbol_test w || epsilon_test w) (are_transitions a n (sources_left a 0 w) (source_words ps ++ transitions_words ts)) (rw s)
        (rw k (sources-pass ps (transitions_words ts) o.0.2 (transitions-pass ts o.1)))
    transitions-pass (epsilon p q ∷ ts) o =
        let w = word_of epsilon_kind (above_state p q) in
        let e = epsilon-passes p q o.0.0 o.0.1 in
        true-and (symbol_test w || epsilon_test w) (are_transitions a n (sources_left a 0 w) (transitions_words ts))
        (rw e (or_right (symbol_test w)))
        (rw (left-epsilon w e) (transitions-pass ts o.1))
