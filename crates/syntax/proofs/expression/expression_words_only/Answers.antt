-- `syntax::expression::expression_words_only` meets its contract: the chain answers whether every word is a rule word.
use borrow.Author.Rules.{rules}
use Rattle.words.specs.ExpressionWords.{is_expression_word}
use Rattle.words.proofs.ChainLaws.{all-told}
use Rattle.syntax.proofs.expression.expression_words_only.Goals as goal

pub returns : goal.returns
returns c = all-told (is_expression_word c.args.alphabet.now) c.args.expression.now c.all.result (search rules)
