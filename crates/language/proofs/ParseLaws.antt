-- A tree of expression words is read as an expression over the alphabet whose syntax tree it is, and the syntax tree of an
-- expression over the alphabet is read as that expression.
use mathlib.Core.Path.{◌≡◌, refl, ap, ap₂, ◌∙◌, sym, subst}
use mathlib.Core.Bool.{true}
use mathlib.Core.List.{List, [], ◌∷◌}
use Prim.Native.Nat.{ℕ, suc, ◌<◌, ◌≤◌}
use native.Mathlib.Omega.{arith}
use lib.ListN.{length}
use Rattle.words.specs.Lists.{all}
use Rattle.words.specs.Word.{Kind, symbol_kind, empty_kind, union_kind, product_kind, closure_kind, anything_kind}
use Rattle.words.specs.Word.{kind_of, body_of, word_of, low_byte, symbol_range}
use Rattle.words.specs.Alphabet.{rank_of, may_name}
use Rattle.words.specs.Tree.{Tree, Trees, node, none, more, number, postfix, postfix_all}
use Rattle.words.specs.Postfix.{arity}
use Rattle.words.specs.ExpressionWords.{is_expression_word}
use Rattle.words.specs.Limits.{alphabet_most}
use Rattle.words.proofs.RankedTree.{Ranked, RankedAll}
use Rattle.words.proofs.TreeFold.{fold, fold_all}
use Rattle.words.proofs.TestLaws.{and-true, all_left, all_right}
use Rattle.words.proofs.KindLaws.{kind_of-word_of, low_byte-symbol}
use Rattle.words.proofs.AlphabetLaws.{is_constant-zero}
use Rattle.words.proofs.HoleLaws.{may_name-constant}
use Rattle.words.proofs.WordLaws.{IsExpressionWord, is_expression_word-facts}
use Rattle.words.proofs.ExpressionWordLaws.{ExpressionWord, symbol_word, empty_word, union_word, product_word, closure_word, anything_word}
use Rattle.words.proofs.ExpressionWordLaws.{expression_word}
use Rattle.language.specs.Expression.{Expression, Expressions, symbol, empty, union, product, closure, anything, noneᵉ}
use Rattle.language.specs.Expression.{moreᵉ, numberᵉ, syntax_tree, syntax_trees, ExpressionOver, ExpressionsOver}
use Rattle.language.specs.Reading.{childrenᵉ, of_kind, expression_on}

-- the expression that a tree of words is read as
abbrev pub tree_expression : Tree → Expression
tree_expression t = fold expression_on t

abbrev tree_expressions : Trees → List Expression
tree_expressions ts = fold_all expression_on ts

pub number-syntax_trees : (es : Expressions) → number (syntax_trees es) ≡ numberᵉ es
number-syntax_trees noneᵉ = refl
number-syntax_trees (moreᵉ e es) = ap suc (number-syntax_trees es)

module _ (a : List ℕ) where
  -- a word over children that were read is read as the expression of which it is the root
  record Root (w : ℕ) (es : List Expression) (k : Kind) : Type 0 where
    over : ExpressionOver a (of_kind k (low_byte w) es)
    tree : syntax_tree (of_kind k (low_byte w) es) ≡ node w (syntax_trees (childrenᵉ es))

  -- a word with a symbol in its low byte, and one without
  named : (w : ℕ) (k : Kind) → w ≡ word_of k (body_of w) → body_of w < symbol_range → word_of k (low_byte w) ≡ w
  named w k f l = let e : low_byte w ≡ body_of w = omega arith in ap (word_of k) e ∙ sym f

  bare : (w : ℕ) (k : Kind) → w ≡ word_of k (body_of w) → body_of w < 1 → word_of k 0 ≡ w
  bare w k f l = let e : 0 ≡ body_of w = omega arith in ap (word_of k) e ∙ sym f

  module _ (w : ℕ) where
    root-symbol : (es : List Expression) → IsExpressionWord a w symbol_kind → low_byte w < length a
        → rank_of a (low_byte w) ≡ numberᵉ (childrenᵉ es)
        → ExpressionsOver a (childrenᵉ es) → Root w es symbol_kind
    root-symbol es f s r o =
        record { over = (s, r, o); tree = ap (λ (x : ℕ). node x (syntax_trees (childrenᵉ es))) (named w symbol_kind f.word f.body) }

    root-empty : (es : List Expression) → IsExpressionWord a w empty_kind → 0 ≡ numberᵉ (childrenᵉ es) → Root w es empty_kind
    root-empty [] f r = record { over = tt; tree = ap (λ (x : ℕ). node x none) (bare w empty_kind f.word f.body) }
    root-empty (E ∷ es) f r = absurd (omega arith)

    root-anything : (es : List Expression) → IsExpressionWord a w anything_kind → 0 ≡ numberᵉ (childrenᵉ es) → Root w es anything_kind
    root-anything [] f r = record { over = tt; tree = ap (λ (x : ℕ). node x none) (bare w anything_kind f.word f.body) }
    root-anything (E ∷ es) f r = absurd (omega arith)

    root-union : (es : List Expression) → IsExpressionWord a w union_kind → 2 ≡ numberᵉ (childrenᵉ es) → ExpressionsOver a (childrenᵉ es)
        → Root w es union_kind
    root-union [] f r o = absurd (omega arith)
    root-union (F ∷ []) f r o = absurd (omega arith)
    root-union (F ∷ G ∷ []) f r o =
        record {
          over = (o.0, o.1.0);
          tree = ap (λ (x : ℕ). node x (more (syntax_tree F) (more (syntax_tree G) none))) (bare w union_kind f.word f.body);
        }
    root-union (F ∷ G ∷ H ∷ es) f r o = absurd (omega arith)

    root-product : (es : List Expression) → IsExpressionWord a w product_kind → may_name a (low_byte w) ≡ true → 2 ≡ numberᵉ (childrenᵉ es)
        → ExpressionsOver a (childrenᵉ es) → Root w es product_kind
    root-product [] f c r o = absurd (omega arith)
    root-product (F ∷ []) f c r o = absurd (omega arith)
    root-product (F ∷ G ∷ []) f c r o =
        record {
          over = (c, o.0, o.1.0);
          tree = ap (λ (x : ℕ). node x (more (syntax_tree F) (more (syntax_tree G) none))) (named w product_kind f.word f.body);
        }
    root-product (F ∷ G ∷ H ∷ es) f c r o = absurd (omega arith)

    root-closure : (es : List Expression) → IsExpressionWord a w closure_kind → may_name a (low_byte w) ≡ true → 1 ≡ numberᵉ (childrenᵉ es)
        → ExpressionsOver a (childrenᵉ es) → Root w es closure_kind
    root-closure [] f c r o = absurd (omega arith)
    root-closure (F ∷ []) f c r o =
        record { over = (c, o.0); tree = ap (λ (x : ℕ). node x (more (syntax_tree F) none)) (named w closure_kind f.word f.body) }
    root-closure (F ∷ G ∷ es) f c r o = absurd (omega arith)

    root : (es : List Expression) → is_expression_word a w ≡ true → arity a w ≡ numberᵉ (childrenᵉ es) → ExpressionsOver a (childrenᵉ es)
        → Root w es (kind_of w)
    root es h n o = go (expression_word a w h)
      where
        facts : (k : Kind) → kind_of w ≡ k → IsExpressionWord a w k
        facts k e = is_expression_word-facts a w k e h

        go : ExpressionWord a w → Root w es (kind_of w)
        go (symbol_word e s r) = subst (Root w es) (sym e) (root-symbol es (facts symbol_kind e) s (sym r ∙ n) o)
        go (empty_word e r) = subst (Root w es) (sym e) (root-empty es (facts empty_kind e) (sym r ∙ n))
        go (union_word e r) = subst (Root w es) (sym e) (root-union es (facts union_kind e) (sym r ∙ n) o)
        go (product_word e c r) = subst (Root w es) (sym e) (root-product es (facts product_kind e) c (sym r ∙ n) o)
        go (closure_word e c r) = subst (Root w es) (sym e) (root-closure es (facts closure_kind e) c (sym r ∙ n) o)
        go (anything_word e r) = subst (Root w es) (sym e) (root-anything es (facts anything_kind e) (sym r ∙ n))

  mutual
    pub tree-expression : (t : Tree) → Ranked (arity a) t → all (is_expression_word a) (postfix t) ≡ true
        → ExpressionOver a (tree_expression t) × (syntax_tree (tree_expression t) ≡ t)
    tree-expression (node w ts) r h =
        let q = trees-expressions ts r.1 (all_left (is_expression_word a) (postfix_all ts) (w ∷ []) h) in
        let es = tree_expressions ts in
        let n : arity a w ≡ numberᵉ (childrenᵉ es) = r.0 ∙ ap number (sym q.1) ∙ number-syntax_trees (childrenᵉ es) in
        let f = root w es (and-true (is_expression_word a w) true (all_right (is_expression_word a) (postfix_all ts) (w ∷ []) h)).0 n q.0 in
        (f.over, f.tree ∙ ap (node w) q.1)

    trees-expressions : (ts : Trees) → RankedAll (arity a) ts → all (is_expression_word a) (postfix_all ts) ≡ true
        → ExpressionsOver a (childrenᵉ (tree_expressions ts)) × (syntax_trees (childrenᵉ (tree_expressions ts)) ≡ ts)
    trees-expressions none r h = (tt, refl)
    trees-expressions (more t ts) r h =
        let p = tree-expression t r.0 (all_left (is_expression_word a) (postfix t) (postfix_all ts) h) in
        let q = trees-expressions ts r.1 (all_right (is_expression_word a) (postfix t) (postfix_all ts) h) in
        ((p.0, q.0), ap₂ more p.1 q.1)

  -- ---- and back

  module _ (m : length a ≤ alphabet_most) where
    pub named_small : (c : ℕ) → may_name a c ≡ true → c < symbol_range
    named_small c h = omega (arith, (is_constant-zero a c (may_name-constant a c h)).0)

    -- `tree_expression` gives the expression back
    kind-back : (k : Kind) (b : ℕ) (es : List Expression) → b < symbol_range
        → of_kind (kind_of (word_of k b)) (low_byte (word_of k b)) es ≡ of_kind k b es
    kind-back k b es l =
        ap₂ (λ (x : Kind) (y : ℕ). of_kind x y es) (kind_of-word_of k b (omega arith)) (low_byte-symbol k b l)

    mutual
      pub expression-back : (E : Expression) → ExpressionOver a E → tree_expression (syntax_tree E) ≡ E
      expression-back (symbol f es) h =
          let l = h.0 in
          kind-back symbol_kind f (tree_expressions (syntax_trees es)) (omega arith) ∙ ap (symbol f) (expressions-back es h.2)
      expression-back empty h = kind-back empty_kind 0 [] (omega arith)
      expression-back (union F G) h =
          kind-back union_kind 0 (tree_expression (syntax_tree F) ∷ tree_expression (syntax_tree G) ∷ []) (omega arith)
          ∙ ap₂ union (expression-back F h.0) (expression-back G h.1)
      expression-back (product c F G) h =
          kind-back product_kind c (tree_expression (syntax_tree F) ∷ tree_expression (syntax_tree G) ∷ []) (named_small c h.0)
          ∙ ap₂ (product c) (expression-back F h.1) (expression-back G h.2)
      expression-back (closure c F) h =
          kind-back closure_kind c (tree_expression (syntax_tree F) ∷ []) (named_small c h.0)
          ∙ ap (closure c) (expression-back F h.1)
      expression-back anything h = kind-back anything_kind 0 [] (omega arith)

      expressions-back : (es : Expressions) → ExpressionsOver a es → childrenᵉ (tree_expressions (syntax_trees es)) ≡ es
      expressions-back noneᵉ h = refl
      expressions-back (moreᵉ E es) h = ap₂ moreᵉ (expression-back E h.0) (expressions-back es h.1)
