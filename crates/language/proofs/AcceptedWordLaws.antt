-- What refusals 4 and 5, and 10 and 11, leave: over an alphabet of no more symbols than there may be, words pass them exactly if
-- they are the words of exactly one expression, or of exactly one subject tree.
use mathlib.Core.Path.{◌≡◌}
use mathlib.Core.Logic.{◌↔◌}
use mathlib.Core.Bool.{true, false, not}
use mathlib.Core.List.{List}
use Prim.Native.Nat.{ℕ, ◌≤◌}
use lib.ListN.{length}
use borrow.Author.Tests.{not-false}
use Rattle.words.specs.Lists.{all}
use Rattle.words.specs.Limits.{alphabet_most}
use Rattle.words.specs.Postfix.{one_tree, not_one_tree}
use Rattle.words.specs.Chapter.{tree_fault}
use Rattle.words.specs.ExpressionWords.{is_expression_word, not_expression_words}
use Rattle.words.specs.ExactlyOne.{ExactlyOne}
use Rattle.words.proofs.AcceptedTree.{tree-accepted, accepted-tree}
use Rattle.language.specs.Expression.{ExpressionOf, SubjectOf}
use Rattle.language.proofs.SubjectLaws.{subject-nodes, subject-one_tree, exactly-one-subject}
use Rattle.language.proofs.ExpressionLaws.{expression-words, expression-one_tree, exactly-one-expression}

module _ (a : List ℕ) (most : length a ≤ alphabet_most) where
  -- 10 and 11
  pub chapter-accepted : (ch : List ℕ) → (tree_fault a ch ≡ 0) ↔ ExactlyOne (SubjectOf a ch)
  chapter-accepted ch = (to, from)
    where
      to : tree_fault a ch ≡ 0 → ExactlyOne (SubjectOf a ch)
      to z = let t = tree-accepted a ch z in exactly-one-subject a most ch t.nodes t.shape

      from : ExactlyOne (SubjectOf a ch) → tree_fault a ch ≡ 0
      from e =
          let k = e.has in
          accepted-tree a ch
          (record {
            nodes = rw k.words at (subject-nodes a most e.the k.over);
            shape = rw k.words at (subject-one_tree a most e.the k.over);
          })

  -- 4 and 5; 3 asks for the number of words alone
  pub expression-words-accepted : (e : List ℕ)
      → ((not_expression_words a e ≡ false) × (not_one_tree a e ≡ false)) ↔ ExactlyOne (ExpressionOf a e)
  unfolding not_expression_words not_one_tree
  expression-words-accepted e = (to, from)
    where
      to : (not (all (is_expression_word a) e) ≡ false) × (not (one_tree a e) ≡ false) → ExactlyOne (ExpressionOf a e)
      to p = exactly-one-expression a most e (not-false (all (is_expression_word a) e) p.0) (not-false (one_tree a e) p.1)

      from : ExactlyOne (ExpressionOf a e) → (not (all (is_expression_word a) e) ≡ false) × (not (one_tree a e) ≡ false)
      from x =
          let k = x.has in
          let n : all (is_expression_word a) e ≡ true = rw k.words at (expression-words a most x.the k.over) in
          let o : one_tree a e ≡ true = rw k.words at (expression-one_tree a most x.the k.over) in
          (rw n, rw o)
