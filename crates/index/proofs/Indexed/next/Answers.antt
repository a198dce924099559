-- `index::Indexed::next` meets its contract: an index has a word for each word of the table.
use native.Mathlib.Omega.{arith}
use Rattle.index.proofs.IndexLaws.{keyed, index-long}
use Rattle.index.proofs.Indexed.next.Goals as goal

pub bounds-self-i : goal.bounds-self-i
bounds-self-i c = omega (arith, c.requires.inside, (keyed c.requires.checked).few, index-long c.requires.checked)
