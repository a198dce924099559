-- `lines::write_lines` meets its contract: the loop writes the hit lines one after the other behind the head line.
use mathlib.Core.Path.{refl, ◌∙◌}
use borrow.Author.Rules.{rules}
use Rattle.encoding.proofs.ByteWritingLaws.{bytes-written-left, bytes-written-more, members-written-more, members-written-end}
use Rattle.lines.proofs.LineLaws.{hit_lines-more, hits-none}
use Rattle.lines.proofs.write_lines.Goals as goal

pub loop-hit-init : goal.loop-hit-init
loop-hit-init c = record { same = refl; written = hits-none _ _ _ _ _ }

pub loop-hit-preserved : goal.loop-hit-preserved
loop-hit-preserved c =
    let inv = c.loop-hit.invariant in
    record {
      same = c.write_hit.ensures.same_reference ∙ inv.same;
      written =
          members-written-more inv.written c.loop-hit-test.true _ (hit_lines-more _ _ _ _) _ _ c.write_hit.ensures.long
          c.write_hit.ensures.written;
    }

pub returns : goal.returns
returns c =
    bytes-written-left
    (bytes-written-more c.write_head.ensures.written (members-written-end c.loop-hit.invariant.written c.loop-hit-test.false))
    c.new-lines.ensures.next c.new-lines.ensures.bytes
    (let same = c.loop-hit.invariant.same in search rules)
