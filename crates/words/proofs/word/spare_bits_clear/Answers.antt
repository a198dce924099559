-- `words::word::spare_bits_clear` meets its contract: what `field_range` answers of the word's kind gives it.
use Rattle.words.specs.Word.{spare_bits_clear}
use Rattle.words.proofs.word.spare_bits_clear.Goals as goal

pub returns : goal.returns
unfolding spare_bits_clear
returns c = rw (c.field_range.ensures, c.kind_of-kind.ensures)
