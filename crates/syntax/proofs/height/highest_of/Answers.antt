-- `syntax::height::highest_of` meets its contract: `max` picks one of the heights that no other is above, and none where there are none.
use Rattle.std.specs.Prelude.{Option, Some, None, MatchOption}
use Rattle.std.specs.Option.{unwrap_or}
use mathlib.Core.Path.{◌≡◌, refl, ◌∙◌}
use mathlib.Core.List.{List, [], ◌∷◌}
use Prim.Native.Nat.{ℕ, suc, ◌<◌, ◌≤◌}
use native.Mathlib.Omega.{arith}
use lib.ListN.{length, get_or}
use borrow.Author.Rules.{rules}
use Rattle.words.specs.Lists.{highest}
use Rattle.words.proofs.HighestLaws.{at-most-highest}
use Rattle.syntax.proofs.height.highest_of.Goals as goal

highest-least : (l : List ℕ) (m : ℕ) → ((k : ℕ) → k < length l → get_or l k 0 ≤ m) → highest l ≤ m
unfolding highest
highest-least [] m h = omega arith
highest-least (x ∷ l) m h =
    let first : x ≤ m = h 0 (omega arith) in
    let rest : highest l ≤ m = highest-least l m (λ k b. h (suc k) (omega arith)) in
    omega arith

picked : (l : List ℕ) (r : Option ℕ)
    → MatchOption r (length l ≡ 0) (λ m. ((k : ℕ) × (get_or l k 0 ≡ m)) × ((k : ℕ) → k < length l → get_or l k 0 ≤ m))
    → unwrap_or r 0 ≡ highest l
unfolding highest
picked [] None h = refl
picked (x ∷ l) None h = absurd (omega arith)
picked l (Some m) h =
    let low : highest l ≤ m = highest-least l m h.1 in
    let at : get_or l h.0.0 0 ≤ highest l = at-most-highest l h.0.0 in
    let same : get_or l h.0.0 0 ≡ m = h.0.1 in
    omega arith

pub returns : goal.returns
returns c = c.unwrap_or.ensures ∙ picked c.args.heights.now c.max.result (search rules)
