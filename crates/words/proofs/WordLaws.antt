-- How many children the word of a kind takes, and what the tests for a node and for an expression word say of a word.
use mathlib.Core.Path.{◌≡◌, ap, ◌∙◌}
use mathlib.Core.Bool.{true, false≢true}
use mathlib.Core.List.{List}
use Prim.Native.Nat.{ℕ, ◌<◌, ◌≤◌}
use native.Mathlib.Omega.{arith}
use lib.ListN.{length}
use borrow.Author.Tests.{ltb-true, lt-ltb}
use Rattle.words.specs.Word.{Kind, entry_kind, symbol_kind, empty_kind, union_kind, product_kind, closure_kind, node_kind, kind_unit}
use Rattle.words.specs.Word.{head_kind, transition_kind, epsilon_kind, source_kind, length_kind, anything_kind, no_kind, symbol_range}
use Rattle.words.specs.Word.{kind_of, body_of, field_range, spare_bits_clear, is_of, word_of, low_byte}
use Rattle.words.specs.Alphabet.{rank_of, is_symbol}
use Rattle.words.specs.Postfix.{arity, arity_at}
use Rattle.words.specs.Chapter.{symbol_of, is_node}
use Rattle.words.specs.ExpressionWords.{names_at, is_expression_word}
use Rattle.words.proofs.TestLaws.{and-true, true-and}
use Rattle.words.proofs.KindLaws.{kind_of-word_of, body_of-word_of, low_byte-word_of, low_byte-symbol, kind_of-has_kind}
use Rattle.words.proofs.KindLaws.{word-word_of, field_range-fits, is_of-facts, is_of-word_of}

-- ---- arity

module _ (a : List ℕ) where
  pub arity-kind : (w : ℕ) (k : Kind) → kind_of w ≡ k → arity a w ≡ arity_at (rank_of a (low_byte w)) k
  unfolding arity
  arity-kind w k e = ap (arity_at (rank_of a (low_byte w))) e

  pub arity-word_of : (k : Kind) (b : ℕ) → b < symbol_range → arity a (word_of k b) ≡ arity_at (rank_of a b) k
  arity-word_of k b h =
      arity-kind (word_of k b) k (kind_of-word_of k b (omega arith)) ∙ ap (λ (s : ℕ). arity_at (rank_of a s) k) (low_byte-symbol k b h)

-- no kind of word takes more children than the larger of its rank and two
pub arity_at-most : (m r : ℕ) (k : Kind) → 2 ≤ m → r ≤ m → arity_at r k ≤ m
arity_at-most m r symbol_kind l h = h
arity_at-most m r node_kind l h = h
arity_at-most m r empty_kind l h = omega arith
arity_at-most m r union_kind l h = omega arith
arity_at-most m r product_kind l h = omega arith
arity_at-most m r closure_kind l h = omega arith
arity_at-most m r entry_kind l h = omega arith
arity_at-most m r head_kind l h = omega arith
arity_at-most m r transition_kind l h = omega arith
arity_at-most m r epsilon_kind l h = omega arith
arity_at-most m r source_kind l h = omega arith
arity_at-most m r length_kind l h = omega arith
arity_at-most m r anything_kind l h = omega arith
arity_at-most m r no_kind l h = omega arith

-- ---- nodes

-- what `is_node` says
pub record IsNode (a : List ℕ) (w : ℕ) : Type 0 where
  pub kind : kind_of w ≡ node_kind
  pub symbol : symbol_of w < length a
  pub word : w ≡ word_of node_kind (symbol_of w)
  pub arity-rank : arity a w ≡ rank_of a (symbol_of w)

pub symbol_of-word_of : (s : ℕ) → s < symbol_range → symbol_of (word_of node_kind s) ≡ s
symbol_of-word_of s h = low_byte-symbol node_kind s h

module _ (a : List ℕ) where
  pub is_node-facts : (w : ℕ) → is_node a w ≡ true → IsNode a w
  unfolding is_node
  is_node-facts w h =
      let p = and-true (is_of node_kind w) (is_symbol a (symbol_of w)) h in
      let f = is_of-facts node_kind w p.0 in
      let e : body_of w ≡ symbol_of w = omega (arith, f.body) in
      record {
        kind = f.kind;
        symbol = ltb-true (symbol_of w) (length a) p.1;
        word = f.word ∙ ap (word_of node_kind) e;
        arity-rank = arity-kind a w node_kind f.kind;
      }

  -- the word of a node with a symbol that the alphabet has
  pub is_node-word_of : (s : ℕ) → s < symbol_range → s < length a → is_node a (word_of node_kind s) ≡ true
  unfolding is_node
  is_node-word_of s b h =
      true-and (is_of node_kind (word_of node_kind s)) (is_symbol a (symbol_of (word_of node_kind s)))
      (is_of-word_of node_kind s b) (lt-ltb (symbol_of (word_of node_kind s)) (length a) (rw (symbol_of-word_of s b) h))

-- ---- expression words

-- what `is_expression_word` says of a word of kind k
pub record IsExpressionWord (a : List ℕ) (w : ℕ) (k : Kind) : Type 0 where
  pub names : names_at a (low_byte w) k ≡ true
  pub body : body_of w < field_range k
  pub word : w ≡ word_of k (body_of w)

pub is_expression_word-facts : (a : List ℕ) (w : ℕ) (k : Kind) → kind_of w ≡ k → is_expression_word a w ≡ true → IsExpressionWord a w k
unfolding is_expression_word spare_bits_clear
is_expression_word-facts a w k e h =
    let p = and-true (spare_bits_clear w) (names_at a (low_byte w) (kind_of w)) h in
    let n : names_at a (low_byte w) k ≡ true = rw e at p.1 in
    record {
      names = n;
      body = ltb-true (body_of w) (field_range k) (rw e at p.0);
      word = word-word_of k w (kind_of-has_kind k w (λ q. false≢true (rw q at n)) e);
    }

pub is_expression_word-word_of : (a : List ℕ) (k : Kind) (b : ℕ) → b < field_range k → names_at a (low_byte b) k ≡ true
    → is_expression_word a (word_of k b) ≡ true
unfolding is_expression_word spare_bits_clear
is_expression_word-word_of a k b h n =
    let l : b < kind_unit = omega (arith, field_range-fits k) in
    let e = kind_of-word_of k b l in
    true-and (spare_bits_clear (word_of k b)) (names_at a (low_byte (word_of k b)) (kind_of (word_of k b)))
    (rw (e, body_of-word_of k b l) (lt-ltb b (field_range k) h))
    (rw (e, low_byte-word_of k b l) n)
