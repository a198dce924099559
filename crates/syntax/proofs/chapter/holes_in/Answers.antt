-- `syntax::chapter::holes_in` meets its contract: the chain answers whether some word's symbol is a hole.
use Prim.Native.Nat.{ℕ}
use borrow.Author.Rules.{rules}
use Rattle.words.specs.Alphabet.{is_hole}
use Rattle.words.specs.Chapter.{symbol_of, holes_in}
use Rattle.words.proofs.ChainLaws.{some-told}
use Rattle.syntax.proofs.chapter.holes_in.Goals as goal

pub returns : goal.returns
unfolding holes_in
returns c = some-told (λ (w : ℕ). is_hole c.args.alphabet.now (symbol_of w)) c.args.words.now c.any.result (search rules)
