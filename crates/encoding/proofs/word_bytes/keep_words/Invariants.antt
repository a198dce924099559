-- `encoding::word_bytes::keep_words` meets its contract: the loop stores word after word, and a store past the end would change nothing.
use Rattle.encoding.proofs.WordByteLaws.{Keeping}
use Rattle.encoding.proofs.word_bytes.keep_words.Given as goal

abbrev pub invariant-loop-i : goal.invariant-loop-i
invariant-loop-i l = Keeping l.initial.words l.at l.bytes l.count l.words l.i
