-- `lines::write_refused` meets its contract: the parts of the line are written one after the other.
use borrow.Author.Rules.{rules}
use Rattle.encoding.proofs.ByteWritingLaws.{bytes-written-left}
use Rattle.lines.proofs.LineLaws.{refused-written}
use Rattle.lines.proofs.write_refused.Goals as goal

pub returns : goal.returns
returns c =
    bytes-written-left (refused-written _ c.write_text.ensures.written c.write_field.ensures.written)
    c.new-line.ensures.next c.new-line.ensures.bytes (search rules)
