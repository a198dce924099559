-- `index::Indexed::first` meets its contract: an index has a word for each key.
use native.Mathlib.Omega.{arith}
use Rattle.index.proofs.IndexLaws.{index-long}
use Rattle.index.proofs.Indexed.first.Goals as goal

pub bounds-self-key : goal.bounds-self-key
bounds-self-key c = omega (arith, c.requires.few, index-long c.requires.checked)
