-- Words that are expression words and make one tree are the words of exactly one expression over the alphabet, and the
-- words of every expression over the alphabet are expression words that make one tree; the reading finds it.
use mathlib.Core.Path.{◌≡◌, refl, ap, ◌∙◌, sym}
use mathlib.Core.Bool.{true}
use mathlib.Core.List.{List, [], ◌∷◌, ◌++◌}
use Prim.Native.Nat.{ℕ, ◌<◌, ◌≤◌}
use native.Mathlib.Omega.{arith}
use lib.ListN.{length, get_or}
use borrow.Author.Tests.{lt-ltb}
use Rattle.words.specs.Lists.{all}
use Rattle.words.specs.Word.{Kind, symbol_kind, empty_kind, union_kind, product_kind, closure_kind, anything_kind, field_range, word_of, low_byte}
use Rattle.words.specs.Alphabet.{may_name}
use Rattle.words.specs.Tree.{Tree, none, more, postfix, postfix_all}
use Rattle.words.specs.Postfix.{arity, one_tree, stack_after}
use Rattle.words.specs.ExpressionWords.{names_at, is_expression_word}
use Rattle.words.specs.ExactlyOne.{ExactlyOne}
use Rattle.words.specs.Limits.{alphabet_most}
use Rattle.words.proofs.RankedTree.{Ranked, RankedAll}
use Rattle.words.proofs.TestLaws.{true-and, all_append}
use Rattle.words.proofs.ExactlyOneLaws.{one_along}
use Rattle.words.proofs.WordLaws.{arity-word_of, is_expression_word-word_of}
use Rattle.words.proofs.ReadingLaws.{stack-tree, one_tree-tree}
use Rattle.words.proofs.TreeLaws.{TreeOf, exactly-one-tree}
use Rattle.language.specs.Expression.{Expression, Expressions, symbol, empty, union, product, closure, anything, noneᵉ, moreᵉ}
use Rattle.language.specs.Expression.{syntax_tree, syntax_trees, expression_words, ExpressionOver, ExpressionsOver, ExpressionOf}
use Rattle.language.specs.Reading.{expression_on, expression_of}
use Rattle.language.proofs.ParseLaws.{tree_expression, number-syntax_trees, tree-expression, named_small, expression-back}

module _ (a : List ℕ) where
  expression-read : (e : List ℕ) → all (is_expression_word a) e ≡ true → (t : Tree) → TreeOf (arity a) e t
      → ExpressionOf a e (tree_expression t)
  expression-read e h t k =
      let p = tree-expression a t k.ranked (rw k.words h) in
      record { over = p.0; words = ap postfix p.1 ∙ k.words }

  module _ (m : length a ≤ alphabet_most) where
    mutual
      ranked-syntax : (E : Expression) → ExpressionOver a E → Ranked (arity a) (syntax_tree E)
      ranked-syntax (symbol f es) h =
          let l = h.0 in
          (arity-word_of a symbol_kind f (omega arith) ∙ h.1 ∙ sym (number-syntax_trees es), ranked-syntaxes es h.2)
      ranked-syntax empty h = (arity-word_of a empty_kind 0 (omega arith), tt)
      ranked-syntax (union F G) h = (arity-word_of a union_kind 0 (omega arith), (ranked-syntax F h.0, (ranked-syntax G h.1, tt)))
      ranked-syntax (product c F G) h =
          (arity-word_of a product_kind c (named_small a m c h.0), (ranked-syntax F h.1, (ranked-syntax G h.2, tt)))
      ranked-syntax (closure c F) h = (arity-word_of a closure_kind c (named_small a m c h.0), (ranked-syntax F h.1, tt))
      ranked-syntax anything h = (arity-word_of a anything_kind 0 (omega arith), tt)

      ranked-syntaxes : (es : Expressions) → ExpressionsOver a es → RankedAll (arity a) (syntax_trees es)
      ranked-syntaxes noneᵉ h = tt
      ranked-syntaxes (moreᵉ E es) h = (ranked-syntax E h.0, ranked-syntaxes es h.1)

    -- expression words and one more
    snoc-words : (l : List ℕ) (k : Kind) (b : ℕ) → all (is_expression_word a) l ≡ true → b < field_range k → names_at a (low_byte b) k ≡ true
        → all (is_expression_word a) (l ++ word_of k b ∷ []) ≡ true
    snoc-words l k b h r n =
        all_append (is_expression_word a) l (word_of k b ∷ []) h
        (true-and (is_expression_word a (word_of k b)) true (is_expression_word-word_of a k b r n) refl)

    -- the substitution symbol of a product or a closure
    names-small : (c : ℕ) → may_name a c ≡ true → may_name a (low_byte c) ≡ true
    names-small c h =
        let l = named_small a m c h in
        let e : low_byte c ≡ c = omega arith in
        rw e h

    -- two expressions side by side
    pair-words : (F G : Expression) → all (is_expression_word a) (expression_words F) ≡ true
        → all (is_expression_word a) (expression_words G) ≡ true
        → all (is_expression_word a) (postfix_all (more (syntax_tree F) (more (syntax_tree G) none))) ≡ true
    pair-words F G f g =
        all_append (is_expression_word a) (expression_words F) (expression_words G ++ []) f
        (all_append (is_expression_word a) (expression_words G) [] g refl)

    -- the words of an expression over the alphabet pass both tests
    mutual
      pub expression-words : (E : Expression) → ExpressionOver a E → all (is_expression_word a) (expression_words E) ≡ true
      expression-words (symbol f es) h =
          let l = h.0 in
          let e : low_byte f ≡ f = omega arith in
          snoc-words (postfix_all (syntax_trees es)) symbol_kind f (expressions-words es h.2) (omega arith) (rw e (lt-ltb f (length a) l))
      expression-words empty h = snoc-words [] empty_kind 0 refl (omega arith) refl
      expression-words (union F G) h =
          snoc-words (postfix_all (more (syntax_tree F) (more (syntax_tree G) none))) union_kind 0
          (pair-words F G (expression-words F h.0) (expression-words G h.1)) (omega arith) refl
      expression-words (product c F G) h =
          snoc-words (postfix_all (more (syntax_tree F) (more (syntax_tree G) none))) product_kind c
          (pair-words F G (expression-words F h.1) (expression-words G h.2))
          (named_small a m c h.0) (names-small c h.0)
      expression-words (closure c F) h =
          snoc-words (postfix_all (more (syntax_tree F) none)) closure_kind c
          (all_append (is_expression_word a) (expression_words F) [] (expression-words F h.1) refl)
          (named_small a m c h.0) (names-small c h.0)
      expression-words anything h = snoc-words [] anything_kind 0 refl (omega arith) refl

      expressions-words : (es : Expressions) → ExpressionsOver a es → all (is_expression_word a) (postfix_all (syntax_trees es)) ≡ true
      expressions-words noneᵉ h = refl
      expressions-words (moreᵉ E es) h =
          all_append (is_expression_word a) (expression_words E) (postfix_all (syntax_trees es)) (expression-words E h.0)
          (expressions-words es h.1)

    pub expression-one_tree : (E : Expression) → ExpressionOver a E → one_tree a (expression_words E) ≡ true
    expression-one_tree E h = one_tree-tree (arity a) (syntax_tree E) (ranked-syntax E h)

    expression-tree : (e : List ℕ) (E : Expression) → ExpressionOf a e E → TreeOf (arity a) e (syntax_tree E)
    expression-tree e E k = record { ranked = ranked-syntax E k.over; words = k.words }

    -- and words that pass both are those of exactly one
    pub exactly-one-expression : (e : List ℕ) → all (is_expression_word a) e ≡ true → one_tree a e ≡ true → ExactlyOne (ExpressionOf a e)
    exactly-one-expression e h o =
        one_along tree_expression syntax_tree (expression-read e h) (expression-tree e) (λ E k. expression-back a m E k.over)
        (exactly-one-tree (arity a) e o)

    -- which the reading of the words finds
    pub expression-of : (e : List ℕ) (E : Expression) → ExpressionOf a e E → expression_of a e ≡ E
    unfolding expression_of
    expression-of e E k =
        ap (λ (ws : List ℕ). get_or (stack_after a expression_on ws []) 0 empty) (sym k.words)
        ∙ ap (λ (s : List Expression). get_or s 0 empty) (stack-tree (arity a) expression_on (syntax_tree E) [] (ranked-syntax E k.over))
        ∙ expression-back a m E k.over
