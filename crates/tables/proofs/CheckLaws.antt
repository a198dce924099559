-- What the check of a table tells of one word, by the tests of the code.
use mathlib.Core.Path.{◌≡◌, refl, sym}
use mathlib.Core.Bool.{true, false, not, cond, ◌&&◌}
use mathlib.Core.List.{List, [], ◌∷◌}
use Prim.Native.Nat.{ℕ, zero, suc, ◌-◌, ◌<◌, ◌≤◌}
use native.Mathlib.Omega.{arith}
use lib.ListN.{length}
use lib.Dec.{ltb, leb}
use borrow.Author.Tests.{eq-eqb, ne_eqb, lt-ltb, le-ltb}
use Rattle.std.specs.Option.{SomeIff}
use Rattle.std.specs.declared.option.Option.{Option}
use Rattle.std.specs.declared.option.Option.TheVariants.{None, Some}
use Rattle.words.specs.Word.{head_kind, transition_kind, epsilon_kind, source_kind, length_kind, kind_number, number_of, kind_of}
use Rattle.words.specs.Word.{spare_bits_clear, symbol_above, count_above, state_above, state_below, length_below}
use Rattle.words.specs.Alphabet.{rank_of}
use Rattle.words.specs.Limits.{outside, states_most, table_most}
use Rattle.words.specs.Decoded.{kind_in}
use Rattle.words.specs.declared.word.Kind.{Kind as Case}
use Rattle.words.specs.declared.word.Kind.TheVariants.{Head, Length}
use Rattle.words.proofs.DecodedLaws.{told-number, left-number, told-is_of, left-is_of}
use Rattle.words.proofs.TestLaws.{and_none}
use Rattle.words.proofs.KindLaws.{not-clear, not-of, is-of}
use Rattle.automaton.specs.Table.{is_length, is_head, is_table_word, sources_left}

-- ---- the head, by the tests of the code, for `grind`

pub head_told : (w : ℕ) (k : Case) → kind_in k ≡ kind_of w → k ≡ Head
    → is_head w ≡ spare_bits_clear w && not (outside states_most (count_above w)) && ltb (state_below w) (count_above w)
unfolding is_head
head_told w k kind is = rw (told-is_of w k kind Head is (omega arith))

pub head_other : (w : ℕ) (k : Case) → kind_in k ≡ kind_of w → (k ≡ Head → ⊥) → is_head w ≡ false
unfolding is_head
head_other w k kind other = rw (left-is_of w k kind (Head ∷ []) (other, tt) head_kind refl)

-- ---- the length word, by the tests of the code, for `grind`

pub length_counted : (n w : ℕ) (k : Case) → kind_in k ≡ kind_of w → k ≡ Length → spare_bits_clear w ≡ true
    → leb 2 (length_below w) && leb (length_below w) table_most && leb (length_below w) n ≡ is_length n w
length_counted n w k kind is clear = rw (is-of length_kind w (told-number _ _ kind Length is (omega arith)) clear)

pub length_unclear : (n w : ℕ) → spare_bits_clear w ≡ false → is_length n w ≡ false
length_unclear n w h = rw (not-clear length_kind w h)

pub length_other : (n w : ℕ) (k : Case) → kind_in k ≡ kind_of w → (k ≡ Length → ⊥) → is_length n w ≡ false
length_other n w k kind other = rw (not-of length_kind w (left-number _ k kind (Length ∷ []) (other, tt) length_kind refl))

-- ---- a word behind the length word

module _ (a : List ℕ) (n w : ℕ) where
  -- where k part states are to come: those to come behind the word, if it may stand
  abbrev pub Next : ℕ → Option ℕ → Type 0
  Next k r = r ≡ cond (is_table_word a n k w) (Some (sources_left a k w)) None

  pub spare-bits : (k : ℕ) → spare_bits_clear w ≡ false → Next k None
  unfolding is_table_word
  spare-bits zero h = sym (rw (not-clear transition_kind w h, not-clear epsilon_kind w h))
  spare-bits (suc k) h = sym (rw (not-clear source_kind w h))

  pub state-outside : (k : ℕ) → n ≤ state_below w → Next k None
  unfolding is_table_word
  state-outside zero h = sym (simp (le-ltb (state_below w) n h, and_none))
  state-outside (suc k) h = sym (simp (le-ltb (state_below w) n h, and_none))

  pub no_source : (k : ℕ) → 0 < k → (number_of w ≡ kind_number source_kind → ⊥) → Next k None
  unfolding is_table_word
  no_source zero h j = absurd (omega arith)
  no_source (suc k) h j = sym (rw (not-of source_kind w j))

  pub no-table-word : (k : ℕ) → (number_of w ≡ kind_number transition_kind → ⊥) → (number_of w ≡ kind_number epsilon_kind → ⊥)
      → (number_of w ≡ kind_number source_kind → ⊥) → Next k None
  unfolding is_table_word
  no-table-word zero h i j = sym (rw (not-of transition_kind w h, not-of epsilon_kind w i))
  no-table-word (suc k) h i j = no_source (suc k) (omega arith) j

  pub symbol-unknown : (k : ℕ) → k ≤ 0 → number_of w ≡ kind_number transition_kind → length a ≤ symbol_above w → Next k None
  unfolding is_table_word
  symbol-unknown zero l e h =
      sym (simp (le-ltb (symbol_above w) (length a) h, not-of epsilon_kind w (λ i. omega arith), and_none))
  symbol-unknown (suc k) l e h = absurd (omega arith)

  pub above-outside : (k : ℕ) → k ≤ 0 → number_of w ≡ kind_number epsilon_kind → n ≤ state_above w → Next k None
  unfolding is_table_word
  above-outside zero l e h = sym (simp (le-ltb (state_above w) n h, not-of transition_kind w (λ i. omega arith), and_none))
  above-outside (suc k) l e h = absurd (omega arith)

  module _ (clear : spare_bits_clear w ≡ true) (state : state_below w < n) where
    pub transition-next : (k : ℕ) → k ≤ 0 → number_of w ≡ kind_number transition_kind → symbol_above w < length a
        → (r : ℕ) → r ≡ rank_of a (symbol_above w) → Next k (Some r)
    unfolding is_table_word sources_left
    transition-next zero l e h r er =
        sym (rw (
          is-of transition_kind w e clear,
          lt-ltb (symbol_above w) (length a) h,
          lt-ltb (state_below w) n state,
          eq-eqb (number_of w) (kind_number transition_kind) e,
          ← er,
        ))
    transition-next (suc k) l e h r er = absurd (omega arith)

    pub epsilon-next : (k : ℕ) → k ≤ 0 → number_of w ≡ kind_number epsilon_kind → state_above w < n → Next k (Some 0)
    unfolding is_table_word sources_left
    epsilon-next zero l e h =
        sym
        (rw (
          not-of transition_kind w (λ i. omega arith),
          is-of epsilon_kind w e clear,
          lt-ltb (state_above w) n h,
          lt-ltb (state_below w) n state,
          ne_eqb (number_of w) (kind_number transition_kind) (λ i. omega arith),
        ))
    epsilon-next (suc k) l e h = absurd (omega arith)

    pub source-next : (k : ℕ) → number_of w ≡ kind_number source_kind → (r : Option ℕ) → SomeIff r (1 ≤ k) (k - 1) → Next k r
    unfolding is_table_word sources_left
    source-next zero e None h =
        sym (rw (not-of transition_kind w (λ i. omega arith), not-of epsilon_kind w (λ i. omega arith)))
    source-next zero e (Some r) h = absurd (omega (arith, h.0))
    source-next (suc k) e None h = absurd (h (omega arith))
    source-next (suc k) e (Some r) h =
        let q : r ≡ k = omega (arith, h.1) in
        rw q (sym (rw (is-of source_kind w e clear, lt-ltb (state_below w) n state)))
