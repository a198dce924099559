-- `lines::write_head` meets its contract: the parts of the line are written one after the other.
use Rattle.lines.proofs.LineLaws.{head-written}
use Rattle.lines.proofs.write_head.Goals as goal

pub returns-clause-written : goal.returns-clause-written
returns-clause-written c =
    head-written _ _ _ c.write_text.ensures.written c.write_field.ensures.written c.write_text-2.ensures.written
    c.write_field-2.ensures.written c.write_text-3.ensures.written c.write_field-3.ensures.written
