-- `index::write_index` meets its contract: before each turn the words from i on are indexed.
use native.Mathlib.Omega.{arith}
use Rattle.index.proofs.IndexLaws.{indexed-none, indexed-insertable, indexed-more, indexed-end}
use Rattle.index.proofs.write_index.Goals as goal

pub loop-i-init : goal.loop-i-init
loop-i-init c = rw c.requires.zeros (indexed-none _)

pub put_word-requires : goal.put_word-requires
put_word-requires c = indexed-insertable c.loop-i.invariant _ (omega arith) c.requires.few

pub loop-i-preserved : goal.loop-i-preserved
loop-i-preserved c = indexed-more c.loop-i.invariant _ (omega arith) c.put_word.ensures

pub returns : goal.returns
returns c = indexed-end c.loop-i.invariant (omega arith)
