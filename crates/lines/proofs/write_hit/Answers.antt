-- `lines::write_hit` meets its contract: the parts of the line are written one after the other, and a subtree begins at or
-- before its last node.
use mathlib.Core.Path.{ap}
use native.Mathlib.Omega.{arith}
use Rattle.words.specs.Postfix.{arity}
use Rattle.words.specs.Shape.{Span}
use Rattle.words.proofs.PostfixLaws.{start-le}
use Rattle.lines.proofs.LineLaws.{hit-written}
use Rattle.lines.proofs.write_hit.Goals as goal

pub overflow_sub-size : goal.overflow_sub-size
overflow_sub-size c =
    let q = c.args in
    omega (
      arith,
      ap (λ (p : Span). p.start) c.subtree_span-span.ensures,
      start-le (arity q.alphabet.now) q.chapter.now q.hit,
    )

pub returns-clause-written : goal.returns-clause-written
returns-clause-written c =
    hit-written _ _ _ _ _ c.symbol_of.ensures (ap (λ (p : Span). p.start) c.subtree_span-span.ensures)
    c.write_field.ensures.written c.write_field-2.ensures.written c.write_field-3.ensures.written
