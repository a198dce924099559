-- What an expression word that refusal 4 lets pass can be: one of six kinds, with its low byte in order and its arity.
use Prim.Native.Nat.{ℕ, ◌<◌}
use mathlib.Core.Path.{◌≡◌, refl}
use mathlib.Core.Bool.{true, false≢true}
use mathlib.Core.List.{List}
use lib.ListN.{length}
use borrow.Author.Tests.{ltb-true}
use Rattle.words.specs.Word.{Kind, entry_kind, symbol_kind, empty_kind, union_kind, product_kind, closure_kind, node_kind}
use Rattle.words.specs.Word.{head_kind, transition_kind, epsilon_kind, source_kind, length_kind, anything_kind, no_kind, kind_of}
use Rattle.words.specs.Word.{spare_bits_clear, low_byte}
use Rattle.words.specs.Alphabet.{rank_of, may_name}
use Rattle.words.specs.Postfix.{arity}
use Rattle.words.specs.ExpressionWords.{names_at, is_expression_word}
use Rattle.words.proofs.TestLaws.{and-true}
use Rattle.words.proofs.WordLaws.{arity-kind}

pub data ExpressionWord (a : List ℕ) (w : ℕ) : Type 0 where
  symbol_word : kind_of w ≡ symbol_kind → low_byte w < length a → arity a w ≡ rank_of a (low_byte w) → ExpressionWord a w
  empty_word : kind_of w ≡ empty_kind → arity a w ≡ 0 → ExpressionWord a w
  union_word : kind_of w ≡ union_kind → arity a w ≡ 2 → ExpressionWord a w
  product_word : kind_of w ≡ product_kind → may_name a (low_byte w) ≡ true → arity a w ≡ 2 → ExpressionWord a w
  closure_word : kind_of w ≡ closure_kind → may_name a (low_byte w) ≡ true → arity a w ≡ 1 → ExpressionWord a w
  anything_word : kind_of w ≡ anything_kind → arity a w ≡ 0 → ExpressionWord a w

module _ (a : List ℕ) (w : ℕ) where
  named : (k : Kind) → kind_of w ≡ k → names_at a (low_byte w) k ≡ true → ExpressionWord a w
  named symbol_kind e h = symbol_word e (ltb-true (low_byte w) (length a) h) (arity-kind a w symbol_kind e)
  named empty_kind e h = empty_word e (arity-kind a w empty_kind e)
  named union_kind e h = union_word e (arity-kind a w union_kind e)
  named product_kind e h = product_word e h (arity-kind a w product_kind e)
  named closure_kind e h = closure_word e h (arity-kind a w closure_kind e)
  named anything_kind e h = anything_word e (arity-kind a w anything_kind e)
  named node_kind e h = absurd (false≢true h)
  named entry_kind e h = absurd (false≢true h)
  named head_kind e h = absurd (false≢true h)
  named transition_kind e h = absurd (false≢true h)
  named epsilon_kind e h = absurd (false≢true h)
  named source_kind e h = absurd (false≢true h)
  named length_kind e h = absurd (false≢true h)
  named no_kind e h = absurd (false≢true h)

  pub expression_word : is_expression_word a w ≡ true → ExpressionWord a w
  unfolding is_expression_word
  expression_word h = named (kind_of w) refl (and-true (spare_bits_clear w) (names_at a (low_byte w) (kind_of w)) h).1
