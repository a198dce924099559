-- `encoding::word_bytes::keep_words` meets its contract: the loop stores word after word, and a store past the end would change nothing.
use native.Mathlib.Omega.{arith}
use Rattle.encoding.proofs.WordByteLaws.{bytes-are, keeping-more, keeping-end}
use Rattle.encoding.proofs.word_bytes.keep_words.Goals as goal

pub loop-i-preserved : goal.loop-i-preserved
loop-i-preserved c = keeping-more _ _ _ _ _ _ _ c.loop-i.invariant c.loop-i-test.true c.word_at.ensures

pub returns-clause-words : goal.returns-clause-words
returns-clause-words c = keeping-end _ _ _ _ _ _ c.loop-i.invariant c.loop-i-test.false

pub returns-clause-bytes : goal.returns-clause-bytes
returns-clause-bytes c = bytes-are c.args.bytes.now (λ i. omega (arith, c.type_inv.bytes i))
