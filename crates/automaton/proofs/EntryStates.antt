-- The states of a word by whether it has entries, and its own transitions by its kind.
use Prim.Native.Nat.{ℕ, suc}
use mathlib.Core.Path.{◌≡◌, refl, sym, ap, ◌∙◌}
use mathlib.Core.Bool.{Bool, true, false, not, cond, ◌||◌}
use mathlib.Core.List.{List}
use native.Mathlib.Omega.{arith}
use lib.ListN.{length}
use lib.Dec.{eqb}
use borrow.Author.Tests.{eqb-true, not-false}
use Rattle.words.specs.Word.{Kind, symbol_kind, empty_kind, union_kind, product_kind, closure_kind, anything_kind}
use Rattle.words.specs.Word.{kind_number, kind_of, has_kind, low_byte}
use Rattle.words.specs.Alphabet.{rank_of, constants_of}
use Rattle.words.specs.Postfix.{arity}
use Rattle.words.specs.ExpressionWords.{is_expression_word}
use Rattle.words.proofs.TestLaws.{or-none}
use Rattle.words.proofs.KindLaws.{kind_of-has_kind, kind_of-has_not}
use Rattle.words.proofs.ExpressionWordLaws.{ExpressionWord, symbol_word, empty_word, union_word, product_word, closure_word, anything_word}
use Rattle.words.proofs.ExpressionWordLaws.{expression_word}
use Rattle.automaton.specs.Numbering.{Port, entries_at, has_entries, states_of, full_port, leaf_port, port_of, own_at, own_transitions}

module _ (a : List ℕ) (w : ℕ) where
  -- ---- which words have entries

  pub entries-kind : (k : Kind) → kind_of w ≡ k → has_entries a w ≡ entries_at (rank_of a (low_byte w)) k
  unfolding has_entries
  entries-kind k e = ap (entries_at (rank_of a (low_byte w))) e

  -- of the rule words those that take children, and anything
  pub entries-arity : is_expression_word a w ≡ true → has_entries a w ≡ (not (eqb (arity a w) 0) || has_kind anything_kind w)
  entries-arity h = go (expression_word a w h)
    where
      has_not : (k : Kind) → kind_of w ≡ k → (kind_number k ≡ kind_number anything_kind → ⊥) → has_kind anything_kind w ≡ false
      has_not k e n = kind_of-has_not anything_kind w k e (λ z. n (ap kind_number z))

      go : ExpressionWord a w → has_entries a w ≡ (not (eqb (arity a w) 0) || has_kind anything_kind w)
      go (symbol_word e l q) =
          entries-kind symbol_kind e
          ∙ rw (q, has_not symbol_kind e (omega arith)) (sym (or-none (not (eqb (rank_of a (low_byte w)) 0))))
      go (empty_word e q) = entries-kind empty_kind e ∙ rw (q, has_not empty_kind e (omega arith))
      go (union_word e q) = entries-kind union_kind e ∙ rw q
      go (product_word e c q) = entries-kind product_kind e ∙ rw q
      go (closure_word e c q) = entries-kind closure_kind e ∙ rw q
      go (anything_word e q) =
          entries-kind anything_kind e
          ∙ rw (q, kind_of-has_kind anything_kind w (λ z. absurd (let y = ap kind_number z in omega arith)) e)

  -- a symbol without them is a constant
  pub rank-none : kind_of w ≡ symbol_kind → has_entries a w ≡ false → rank_of a (low_byte w) ≡ 0
  rank-none e h =
      eqb-true (rank_of a (low_byte w)) 0 (not-false (eqb (rank_of a (low_byte w)) 0) (sym (entries-kind symbol_kind e) ∙ h))

  -- ---- one that has them, and one that has none

  pub port-full : (x : ℕ) → has_entries a w ≡ true → port_of a x w ≡ full_port (constants_of a) x
  unfolding port_of
  port-full x h = rw h

  pub port-leaf : (x : ℕ) → has_entries a w ≡ false → port_of a x w ≡ leaf_port x w
  unfolding port_of
  port-leaf x h = rw h

  pub port-exit : (x : ℕ) → (port_of a x w).exit ≡ x
  unfolding port_of
  port-exit x = go (has_entries a w)
    where
      go : (b : Bool) → (cond b (full_port (constants_of a) x) (leaf_port x w)).exit ≡ x
      go true = refl
      go false = refl

  pub states-full : has_entries a w ≡ true → states_of a w ≡ suc (length (constants_of a))
  unfolding states_of
  states-full h = rw h

  pub states-leaf : has_entries a w ≡ false → states_of a w ≡ 1
  unfolding states_of
  states-leaf h = rw h

-- ---- own transitions

pub own-kind : (a : List ℕ) (w : ℕ) (k : Kind) (E : Port) (Ps : List Port) → kind_of w ≡ k
    → own_transitions a w E Ps ≡ own_at a k (low_byte w) E Ps
unfolding own_transitions
own-kind a w k E Ps e = ap (λ (j : Kind). own_at a j (low_byte w) E Ps) e
