-- `encoding::byte_writer::ByteWriter::write_text` meets its contract: the loop writes the bytes one after the other.
use mathlib.Core.Path.{refl, ◌∙◌}
use Rattle.encoding.proofs.ByteWritingLaws.{members-written-none, members-written-more, members-written-end}
use Rattle.encoding.proofs.byte_writer.ByteWriter.write_text.Goals as goal

pub loop-byte-init : goal.loop-byte-init
loop-byte-init c = record { same = refl; written = members-written-none _ _ _ _ refl }

pub loop-byte-preserved : goal.loop-byte-preserved
loop-byte-preserved c =
    let inv = c.loop-byte.invariant in
    record {
      same = c.write_byte.ensures.same_reference ∙ inv.same;
      written =
          members-written-more inv.written c.loop-byte-test.true _ refl _ _ c.write_byte.ensures.long
          c.write_byte.ensures.written;
    }

pub returns-clause-long : goal.returns-clause-long
returns-clause-long c = c.loop-byte.invariant.written.long

pub returns-clause-written : goal.returns-clause-written
returns-clause-written c = members-written-end c.loop-byte.invariant.written c.loop-byte-test.false
