-- The words that refusal 8 lets through are exactly the tables of automata over the alphabet, of at most 2,048 words; and a table
-- in front of any words is the table in them.
use mathlib.Core.Path.{◌≡◌, ap, ap₂, ◌∙◌, sym, subst}
use mathlib.Core.Logic.{◌↔◌}
use mathlib.Core.Bool.{true, false, not, ◌&&◌, false≢true}
use mathlib.Core.List.{List, [], ◌∷◌, ◌++◌}
use Prim.Native.Nat.{ℕ, zero, suc, ◌+◌, ◌<◌, ◌≤◌}
use native.Mathlib.Omega.{arith}
use lib.ListN.{length, get_or, drop}
use lib.Dec.{ltb, eqb}
use borrow.Author.Tests.{lt-ltb, ltb-true, eq-eqb, eqb-true, not-true}
use Rattle.words.specs.Word.{head_kind, length_kind, has_kind, field_range, is_of, word_of, count_above, state_below, above_state}
use Rattle.words.specs.Word.{symbol_range, number_of, kind_number}
use Rattle.words.specs.Limits.{outside, states_most, table_most}
use Rattle.words.proofs.TestLaws.{and-true, true-and}
use Rattle.words.proofs.LimitLaws.{not-outside, is_within}
use Rattle.words.proofs.KindLaws.{is_of-facts, is_of-word_of}
use Rattle.automaton.specs.Transition.{Automaton, transitions_words, head_word, length_word, table_words, automaton_of}
use Rattle.automaton.specs.Table.{table_word_count, table_in, is_head, is_table_word, sources_left, are_transitions, is_table, AutomatonOver}
use Rattle.automaton.proofs.DecodeLaws.{automaton_of-words}
use Rattle.automaton.proofs.TransitionWordLaws.{no-length-word, transitions-parsed, transitions-pass}
use Rattle.automaton.proofs.LengthWordLaws.{Counted, counted, counts, exact-in}

-- ---- the head

-- what `is_head` says: the word of a state count and a final state below it
pub record Head (w : ℕ) : Type 0 where
  pub number : number_of w ≡ kind_number head_kind
  pub some : 0 < count_above w
  pub most : count_above w ≤ states_most
  pub final : state_below w < count_above w
  pub word : word_of head_kind (above_state (count_above w) (state_below w)) ≡ w

head-facts : (w : ℕ) → is_head w ≡ true → Head w
unfolding is_head
head-facts w h =
    let over = outside states_most (count_above w) in
    let b = and-true (is_of head_kind w && not over) (ltb (state_below w) (count_above w)) h in
    let c = and-true (is_of head_kind w) (not over) b.0 in
    let i = is_of-facts head_kind w c.0 in
    let counted = not-outside states_most (count_above w) (not-true over c.1) in
    record {
      number = i.number;
      some = counted.some;
      most = counted.few;
      final = ltb-true (state_below w) (count_above w) b.1;
      word = omega arith;
    }

head-passes : (n f : ℕ) → 0 < n → n ≤ states_most → f < n → is_head (word_of head_kind (above_state n f)) ≡ true
unfolding is_head
head-passes n f some most final =
    let w = word_of head_kind (above_state n f) in
    let lw : above_state n f < field_range head_kind = omega arith in
    let s : 0 < count_above w = omega arith in
    let m : count_above w ≤ states_most = omega arith in
    let t : state_below w < count_above w = omega arith in
    rw (
      is_of-word_of head_kind (above_state n f) lw,
      is_within states_most (count_above w) (record { some = s; few = m }),
      lt-ltb (state_below w) (count_above w) t,
    )

-- ---- tables

-- what `is_table` says: a head, a length word that counts all words, and transitions behind them
pub record TableParts (a : List ℕ) (w : ℕ) (ws : List ℕ) : Type 0 where
  pub exact : table_word_count (w ∷ ws) ≡ length (w ∷ ws)
  pub length-word : Counted (w ∷ ws) (length (w ∷ ws))
  pub head : Head w
  pub rest : are_transitions a (count_above w) 0 (drop 1 ws) ≡ true

pub is_table-parts : (a : List ℕ) (w : ℕ) (ws : List ℕ) → is_table a (w ∷ ws) ≡ true → TableParts a w ws
unfolding is_table
is_table-parts a w ws h =
    let k = table_word_count (w ∷ ws) in
    let b = and-true (eqb k (length (w ∷ ws)) && is_head w) (are_transitions a (count_above w) 0 (drop 1 ws)) h in
    let c = and-true (eqb k (length (w ∷ ws))) (is_head w) b.0 in
    let e = eqb-true k (length (w ∷ ws)) c.0 in
    record {
      exact = e;
      length-word = subst (Counted (w ∷ ws)) e (counted (w ∷ ws) (omega arith));
      head = head-facts w c.1;
      rest = b.1;
    }

-- the table of an automaton over the alphabet, of at most 2,048 words
pub record TableOver (a table : List ℕ) : Type 0 where
  pub automaton : Automaton
  pub over : AutomatonOver a automaton
  pub words : table_words automaton ≡ table
  pub fits : length table ≤ table_most

module _ (a : List ℕ) (few : length a ≤ symbol_range) where
  is_table-over : (table : List ℕ) → is_table a table ≡ true → TableOver a table
  unfolding is_table
  is_table-over [] h = absurd (false≢true h)
  is_table-over (w ∷ []) h = let some = (is_table-parts a w [] h).length-word.some in absurd (omega arith)
  is_table-over (w ∷ l ∷ ws) h =
      let p = is_table-parts a w (l ∷ ws) h in
      let i = p.head in
      let j = transitions-parsed a (count_above w) ws p.rest in
      let moves = j.words in
      let e : length_word (2 + length (transitions_words j.transitions)) ≡ l =
      ap (λ (ms : List ℕ). length_word (2 + length ms)) moves ∙ ap length_word (omega arith) ∙ sym p.length-word.word in
      record {
        automaton = record { states = count_above w; final = state_below w; transitions = j.transitions };
        over = record { some = i.some; most = i.most; final = i.final; transitions = j.over };
        words = ap₂ (λ x ls. x ∷ ls) i.word (ap₂ (λ x ls. x ∷ ls) e moves);
        fits = p.length-word.few;
      }

  pub words-is_table : {A : Automaton} → AutomatonOver a A → length (table_words A) ≤ table_most → is_table a (table_words A) ≡ true
  unfolding is_table
  words-is_table {A} o l =
      let most = o.most in
      let final = o.final in
      let s : count_above (head_word A) ≡ A.states = omega arith in
      let n = length (table_words A) in
      let k : Counted (table_words A) n = record { word = ap length_word (omega arith); some = omega arith; few = l; inside = omega arith } in
      true-and (eqb (table_word_count (table_words A)) n && is_head (head_word A))
      (are_transitions a (count_above (head_word A)) 0 (transitions_words A.transitions))
      (true-and (eqb (table_word_count (table_words A)) n) (is_head (head_word A)) (eq-eqb (table_word_count (table_words A)) n (counts k))
      (head-passes A.states A.final o.some o.most o.final))
      (rw s (transitions-pass a A.states few o.most A.transitions o.transitions))

  -- refusal 8 lets through exactly the tables of automata over the alphabet
  pub is_table-tables : (table : List ℕ) → (is_table a table ≡ true) ↔ TableOver a table
  is_table-tables table = (
    is_table-over table,
    λ i. rw (sym i.words) (words-is_table i.over (subst (λ t. length t ≤ table_most) (sym i.words) i.fits)),
  )

  -- the automaton that is read from a table is the one whose table it is
  automaton_of-table : {table : List ℕ} (i : TableOver a table) → automaton_of table ≡ i.automaton
  automaton_of-table i = ap automaton_of (sym i.words) ∙ automaton_of-words a few i.over

  pub is_table-automaton : (table : List ℕ) → is_table a table ≡ true → AutomatonOver a (automaton_of table)
  is_table-automaton table h = let i = is_table-over table h in subst (AutomatonOver a) (sym (automaton_of-table i)) i.over

-- ---- for any alphabet: the table in a slice that begins with it, and how many states there are

pub is_table-in : (a table : List ℕ) → is_table a table ≡ true → (behind : List ℕ) → table_in (table ++ behind) ≡ table
unfolding is_table
is_table-in a [] h behind = absurd (false≢true h)
is_table-in a (w ∷ ws) h behind = exact-in (w ∷ ws) (omega arith) (is_table-parts a w ws h).exact behind

-- no word behind the second is a length word
transitions-once : (a : List ℕ) (n k : ℕ) (ws : List ℕ) → are_transitions a n k ws ≡ true → (i : ℕ) → i < length ws
    → has_kind length_kind (get_or ws i 0) ≡ false
unfolding are_transitions
transitions-once a n k [] h i l = absurd (omega arith)
transitions-once a n k (w ∷ ws) h zero l =
    no-length-word a n k w (and-true (is_table_word a n k w) (are_transitions a n (sources_left a k w) ws) h).0
transitions-once a n k (w ∷ ws) h (suc i) l =
    transitions-once a n (sources_left a k w) ws (and-true (is_table_word a n k w) (are_transitions a n (sources_left a k w) ws) h).1 i
    (omega arith)

pub length-once : (a table : List ℕ) → is_table a table ≡ true → (i : ℕ) → 2 ≤ i → i < length table
    → has_kind length_kind (get_or table i 0) ≡ false
unfolding is_table
length-once a [] h i l inside = absurd (omega arith)
length-once a (w ∷ []) h i l inside = absurd (omega arith)
length-once a (w ∷ v ∷ ws) h zero l inside = absurd (omega arith)
length-once a (w ∷ v ∷ ws) h (suc zero) l inside = absurd (omega arith)
length-once a (w ∷ v ∷ ws) h (suc (suc i)) l inside =
    transitions-once a (count_above w) 0 ws (is_table-parts a w (v ∷ ws) h).rest i (omega arith)

pub is_table-states : (a table : List ℕ) → is_table a table ≡ true → (automaton_of table).states ≤ states_most
unfolding is_table automaton_of
is_table-states a [] h = absurd (false≢true h)
is_table-states a (w ∷ ws) h = (is_table-parts a w ws h).head.most
