-- `marklist::read_words` meets its contract and ends: each part has at least one word and fits the buffer, and its words are stored
-- behind those before.
use native.Mathlib.Omega.{arith}
use Rattle.marklist.proofs.InputReadingLaws.{part-long, so-far-none, so_far_more, so-far-end}
use Rattle.marklist.proofs.read_words.Goals as goal

pub loop-seen-init : goal.loop-seen-init
loop-seen-init c = so-far-none _ _

pub loop-seen-preserved : goal.loop-seen-preserved
loop-seen-preserved c =
    let size = c.buffer-buffer.ensures in
    let few = c.part_bytes-bytes.ensures in
    so_far_more _ _ _ _ c.loop-seen.invariant c.loop-seen-test.true _ _ _ few
    (part-long c.buffer-buffer.result c.read_exact.new.buf _ (omega arith) c.read_exact.auto.buf) c.keep_words.ensures.words
    c.keep_words.ensures.bytes

pub returns : goal.returns
returns c = so-far-end _ _ _ _ c.loop-seen.invariant c.loop-seen-test.false
