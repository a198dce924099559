-- `syntax::height::Heights::push` meets its contract: the part below the top is the children's heights, and the store puts one more than
-- the highest in their place.
use Prim.Native.Nat.{◌≤◌}
use lib.ListN.{length}
use mathlib.Core.Path.{◌∙◌, ap}
use native.Mathlib.Omega.{arith}
use borrow.Author.Rules.{rules}
use Rattle.words.specs.Lists.{highest}
use Rattle.syntax.specs.HeightStack.{heights_after_word}
use Rattle.syntax.proofs.HeightStackLaws.{length-stack, word_low, word-pushed}
use Rattle.syntax.proofs.height.Heights.push.Goals as goal

pub overflow_add-self : goal.overflow_add-self
overflow_add-self g c =
    let s = c.self.inside in
    let within : s.top ≤ length s.array = search rules in
    let low = word_low s.array s.top within c.args.alphabet.now c.args.w _ c.arity.ensures _ c.saturating_sub-below.ensures _
    c.highest_of-high.ensures in
    omega (arith, low, ap highest c.self.view_is)

pub returns : goal.returns
returns g c =
    let s = c.self.inside in
    let within : s.top ≤ length s.array = search rules in
    word-pushed s.array s.top within _ _ _ c.arity.ensures _ c.saturating_sub-below.ensures _ c.highest_of-high.ensures
    (omega (arith, length-stack s.array s.top within, ap length c.self.view_is))
    ∙ ap (heights_after_word c.args.alphabet.now c.args.w) c.self.view_is
