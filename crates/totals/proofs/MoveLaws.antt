-- Laws of totals that an exchange moves, and of 27: one total, and all three.
use mathlib.Core.Path.{◌≡◌, ap, ap₂, ◌∙◌, sym}
use mathlib.Core.Bool.{Bool, true, false, not, ◌||◌}
use Prim.Native.Nat.{ℕ, ◌+◌, ◌-◌, ◌*◌, ◌<◌, ◌≤◌}
use native.Mathlib.Omega.{arith}
use native.Mathlib.Nat.{mul-le-mul}
use lib.Dec.{ltb, leb}
use borrow.Author.Tests.{lt-ltb, le-ltb, ltb-true, ltb-false, leb-true, not-true}
use Rattle.std.specs.Bool.{IsTrue}
use Rattle.std.proofs.Common.{Option, None, Some}
use Rattle.std.specs.Option.{MatchOption, SomeIff}
use Rattle.words.specs.Limits.{nodes_most, cells_most}
use Rattle.words.proofs.TestLaws.{same_truth, and-true, or-false}
use Rattle.operations.specs.Totals.{Totals, moved, out_of_range, wrong_totals}
use Rattle.operations.proofs.TotalsLaws.{in-range}
use Rattle.sets.specs.Size.{set_most}
use Rattle.totals.specs.Room.{has_room}

-- ---- one total

module _ (t old new : ℕ) where
  -- what remains of the sum, where that is not below zero, is over the most
  pub range-told : {Told : ℕ → Type 0} (r : Bool) (rest : Option ℕ) → SomeIff rest (old ≤ t + new) (t + new - old)
      → MatchOption rest (IsTrue r) Told → ((total : ℕ) → Told total → r ≡ ltb cells_most total) → r ≡ out_of_range t old new
  unfolding out_of_range
  range-told r None below h told = let l : t + new < old = omega arith in h ∙ sym (rw (lt-ltb (t + new) old l))
  range-told r (Some total) is h told =
      told total h ∙ ap (λ (i : ℕ). ltb cells_most i) is.1
      ∙ sym (ap (λ (b : Bool). b || ltb cells_most (t + new - old)) (le-ltb (t + new) old is.0))

-- room for what may be added
module _ (t old most : ℕ) where
  pub room-told : {Told : ℕ → Type 0} (r : Bool) (rest : Option ℕ) → SomeIff rest (old ≤ t) (t - old)
      → MatchOption rest (r ≡ false) Told → ((left : ℕ) → Told left → r ≡ leb (left + most) cells_most) → r ≡ has_room t old most
  unfolding has_room
  room-told r None below h told = let l : t < old = omega arith in h ∙ sym (rw (lt-ltb t old l))
  room-told r (Some left) is h told = told left h ∙ ap (λ (i : ℕ). leb (i + most) cells_most) is.1 ∙ sym (rw (le-ltb t old is.0))

  -- then it stays in range
  pub room-in-range : has_room t old most ≡ true → (added : ℕ) → added ≤ most → out_of_range t old added ≡ false
  unfolding has_room
  room-in-range h added few =
      let p = and-true (not (ltb t old)) (leb (t - old + most) cells_most) h in
      let low = ltb-false t old (not-true (ltb t old) p.0) in
      let fits = leb-true (t - old + most) cells_most p.1 in
      in-range t old added (omega arith) (omega arith)

-- an exchange that makes the same difference moves it to the same
module _ (t old new fallen added : ℕ) (e : new + fallen ≡ old + added) where
  pub moved_same : moved t old new ≡ moved t fallen added
  moved_same = omega (arith, e)

  pub range_same : out_of_range t old new ≡ out_of_range t fallen added
  unfolding out_of_range
  range_same =
      ap₂ (λ (b d : Bool). b || d)
      (same_truth (ltb (t + new) old) (ltb (t + added) fallen)
      (λ h. lt-ltb (t + added) fallen (omega (arith, e, ltb-true (t + new) old h)))
      (λ h. lt-ltb (t + new) old (omega (arith, e, ltb-true (t + added) fallen h))))
      (ap (λ (i : ℕ). ltb cells_most i) moved_same)

-- ---- all three

module _ (t old new : Totals) where
  abbrev elements : Bool
  elements = out_of_range t.elements old.elements new.elements

  abbrev hits : Bool
  hits = out_of_range t.hits old.hits new.hits

  abbrev cells : Bool
  cells = out_of_range t.cells old.cells new.cells

  pub wrong-elements : (b : Bool) → b ≡ elements → b ≡ true → true ≡ wrong_totals t old new
  unfolding wrong_totals
  wrong-elements b e h = sym (ap (λ (x : Bool). x || hits || cells) (sym e ∙ h))

  pub wrong-hits : (b c : Bool) → b ≡ elements → b ≡ false → c ≡ hits → c ≡ true → true ≡ wrong_totals t old new
  unfolding wrong_totals
  wrong-hits b c e h f g = sym (ap₂ (λ (x y : Bool). x || y || cells) (sym e ∙ h) (sym f ∙ g))

  pub wrong-cells : (b c d : Bool) → b ≡ elements → b ≡ false → c ≡ hits → c ≡ false → d ≡ cells → d ≡ wrong_totals t old new
  unfolding wrong_totals
  wrong-cells b c d e h f g k = k ∙ sym (ap₂ (λ (x y : Bool). x || y || cells) (sym e ∙ h) (sym f ∙ g))

  pub record NoneWrong : Type 0 where
    pub elements-right : out_of_range t.elements old.elements new.elements ≡ false
    pub hits-right : out_of_range t.hits old.hits new.hits ≡ false
    pub cells_right : out_of_range t.cells old.cells new.cells ≡ false

  pub none-wrong : wrong_totals t old new ≡ false → NoneWrong
  unfolding wrong_totals
  none-wrong h =
      let p = or-false (elements || hits) cells h in
      let q = or-false elements hits p.0 in
      record { elements-right = q.0; hits-right = q.1; cells_right = p.1 }

pub cells-most-added : (elements size : ℕ) → elements ≤ 2 * nodes_most → size ≤ set_most → elements * size * 32 ≤ 2 * cells_most
cells-most-added elements size h l = let m : elements * size ≤ 2 * nodes_most * set_most = mul-le-mul h l in omega arith
