-- `encoding::byte_writer::ByteWriter::write_text` meets its contract: the loop writes the bytes one after the other.
use mathlib.Core.Path.{◌≡◌}
use Rattle.encoding.proofs.ByteWritingLaws.{TextWritten}
use Rattle.encoding.proofs.byte_writer.ByteWriter.write_text.Given as goal

abbrev pub invariant-loop-byte : goal.invariant-loop-byte
invariant-loop-byte l = record {
  same : l.self.out.ghost_name ≡ l.initial.self.out.ghost_name;
  written : TextWritten l.text l.initial.self.next l.initial.self.out.now l.self.out.now l.self.next l.byte-index;
}
