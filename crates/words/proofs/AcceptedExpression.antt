-- What holds of a rule that refusals 3, 4 and 5 let pass.
use mathlib.Core.Path.{◌≡◌, refl}
use mathlib.Core.Bool.{true, false}
use mathlib.Core.List.{List}
use Prim.Native.Nat.{ℕ}
use lib.ListN.{length}
use borrow.Author.Tests.{not-false}
use Rattle.words.specs.Lists.{all}
use Rattle.words.specs.Limits.{expression_most}
use Rattle.words.specs.Postfix.{one_tree, not_one_tree}
use Rattle.words.specs.ExpressionWords.{is_expression_word, wrong_length, not_expression_words, expression_refusals, expression_fault}
use Rattle.words.proofs.LimitLaws.{Within, not-outside}
use Rattle.words.proofs.RefusalLaws.{condition_of, none-applies}

pub record AcceptedExpression (a e : List ℕ) : Type 0 where
  -- 3
  pub counted : Within expression_most (length e)
  -- 4
  pub words : all (is_expression_word a) e ≡ true
  -- 5
  pub shape : one_tree a e ≡ true

pub expression-accepted : (a e : List ℕ) → expression_fault a e ≡ 0 → AcceptedExpression a e
unfolding wrong_length not_expression_words not_one_tree
expression-accepted a e h =
    let not_so : (n : ℕ) → condition_of n (expression_refusals a e) ≡ false = none-applies (expression_refusals a e) refl h in
    record {
      counted = not-outside expression_most (length e) (not_so 3);
      words = not-false (all (is_expression_word a) e) (not_so 4);
      shape = not-false (one_tree a e) (not_so 5);
    }
