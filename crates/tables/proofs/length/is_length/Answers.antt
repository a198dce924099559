-- `tables::length::is_length` meets its contract: no word of another kind is one.
use mathlib.Core.Path.{sym}
use Rattle.tables.proofs.CheckLaws.{length_other}
use Rattle.tables.proofs.length.is_length.Goals as goal

pub returns-in_default : goal.returns-in_default
returns-in_default c = sym (length_other _ _ c.kind_of-kind.result c.kind_of-kind.ensures c.in_default.not-Length)
