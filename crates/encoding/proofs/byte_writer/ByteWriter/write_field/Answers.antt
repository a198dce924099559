-- `encoding::byte_writer::ByteWriter::write_field` meets its contract: the byte stands behind the digits that itoa gives.
use mathlib.Core.Path.{◌∙◌}
use Rattle.encoding.proofs.DecimalLaws.{field-written}
use Rattle.encoding.proofs.byte_writer.ByteWriter.write_field.Goals as goal

pub returns-clause-written : goal.returns-clause-written
returns-clause-written c =
    field-written c.ranges.n.fits (c.as_bytes.ensures.value ∙ c.format.ensures.text) c.write_text.ensures.written c.write_byte.ensures.written
