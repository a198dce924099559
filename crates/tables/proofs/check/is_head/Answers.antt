-- `tables::check::is_head` meets its contract: no word of another kind is a head.
use mathlib.Core.Path.{sym}
use Rattle.tables.proofs.CheckLaws.{head_other}
use Rattle.tables.proofs.check.is_head.Goals as goal

pub returns-in_default : goal.returns-in_default
returns-in_default c = sym (head_other _ c.kind_of-kind.result c.kind_of-kind.ensures c.in_default.not-Head)
