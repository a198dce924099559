-- The check of a table, word by word.
use mathlib.Core.Path.{◌≡◌, refl, ap, ◌∙◌, sym}
use mathlib.Core.Bool.{true, false, ◌&&◌}
use mathlib.Core.List.{List, [], ◌∷◌}
use Prim.Native.Nat.{ℕ, ◌+◌, ◌-◌, ◌<◌, ◌≤◌}
use native.Mathlib.Omega.{arith}
use lib.ListN.{length, get_or, take, drop}
use lib.Dec.{eqb}
use borrow.Author.Tests.{eq-eqb, ne_eqb}
use Rattle.std.specs.declared.option.Option.TheVariants.{None, Some}
use Rattle.words.proofs.ScanLaws.{drop-step, drop-end, drop-part}
use Rattle.words.proofs.TestLaws.{Tested, holds, fails, tested, and_none}
use Rattle.automaton.specs.Transition.{automaton_of}
use Rattle.automaton.specs.Table.{table_word_count, is_table, is_head, is_table_word, sources_left, are_transitions}
use Rattle.automaton.proofs.LengthWordLaws.{counted}
use Rattle.tables.proofs.CheckLaws.{Next}

-- the words before word i are in order, and `left` part states are still to come
pub record Checked (a : List ℕ) (n : ℕ) (moves : List ℕ) (left i : ℕ) : Type 0 where
  pub rest : are_transitions a n 0 moves ≡ are_transitions a n left (drop i moves)

pub checked-none : (a : List ℕ) (n : ℕ) (moves : List ℕ) → Checked a n moves 0 0
checked-none a n moves = record { rest = refl }

module _ {a : List ℕ} {n : ℕ} {moves : List ℕ} {left i : ℕ} (s : Checked a n moves left i) where
  pub checked-end : length moves ≤ i → eqb left 0 ≡ are_transitions a n 0 moves
  unfolding are_transitions
  checked-end h = sym (s.rest ∙ ap (are_transitions a n left) (drop-end moves i h))

  module _ (h : i < length moves) where
    next : are_transitions a n left (drop i moves)
        ≡ is_table_word a n left (get_or moves i 0) && are_transitions a n (sources_left a left (get_or moves i 0)) (drop (i + 1) moves)
    unfolding are_transitions
    next = ap (are_transitions a n left) (drop-step moves i h)

    -- word i may not stand
    pub checked-fails : Next a n (get_or moves i 0) left None → false ≡ are_transitions a n 0 moves
    checked-fails e = go (tested (is_table_word a n left (get_or moves i 0)))
      where
        go : Tested (is_table_word a n left (get_or moves i 0)) → false ≡ are_transitions a n 0 moves
        go (holds t) = let q = rw t at e in cc
        go (fails t) = sym (s.rest ∙ next ∙ rw t)

    -- r part states are to come behind it
    pub checked-more : (r : ℕ) → Next a n (get_or moves i 0) left (Some r) → Checked a n moves r (i + 1)
    checked-more r e = go (tested (is_table_word a n left (get_or moves i 0)))
      where
        go : Tested (is_table_word a n left (get_or moves i 0)) → Checked a n moves r (i + 1)
        go (holds t) =
            let p = rw t at e in
            let q : sources_left a left (get_or moves i 0) ≡ r = cc in
            record { rest = s.rest ∙ next ∙ rw (t, q) }
        go (fails t) = let p = rw t at e in cc

-- ---- the whole table, by the tests of the code, for `grind`

pub empty_table : (a table : List ℕ) → length table ≡ 0 → is_table a table ≡ false
unfolding is_table
empty_table a [] h = refl
empty_table a (x ∷ ws) h = absurd (omega arith)

pub miscounted_table : (a table : List ℕ) → (table_word_count table ≡ length table → ⊥) → is_table a table ≡ false
unfolding is_table
miscounted_table a [] h = refl
miscounted_table a (x ∷ ws) h = rw (ne_eqb (table_word_count (x ∷ ws)) (length (x ∷ ws)) h)

pub headless_table : (a table : List ℕ) → is_head (get_or table 0 0) ≡ false → is_table a table ≡ false
unfolding is_table
headless_table a [] e = refl
headless_table a (x ∷ ws) e = rw (e, and_none (eqb (table_word_count (x ∷ ws)) (length (x ∷ ws))))

pub checked_table : (a table : List ℕ) → 0 < length table → table_word_count table ≡ length table → is_head (get_or table 0 0) ≡ true
    → is_table a table ≡ are_transitions a (automaton_of table).states 0 (take (length table - 2) (drop 2 table))
unfolding is_table automaton_of
checked_table a [] g k e = absurd (omega arith)
checked_table a (x ∷ ws) g k e = rw (drop-part (x ∷ ws) 2, eq-eqb (table_word_count (x ∷ ws)) (length (x ∷ ws)) k, e)

-- a table has a head and a length word
pub counted_table : (table : List ℕ) → 0 < table_word_count table → 2 ≤ table_word_count table
counted_table table h = (counted table h).some

-- for `is_table`
pub ruleset table_tests = (empty_table, miscounted_table, headless_table, checked_table, counted_table)
