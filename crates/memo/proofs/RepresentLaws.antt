-- The representative that is found has the words.
use mathlib.Core.Path.{◌≡◌, ap, ◌∙◌, sym}
use mathlib.Core.Bool.{Bool, true}
use mathlib.Core.List.{List}
use Prim.Native.Nat.{ℕ, ◌+◌, ◌-◌, ◌*◌, ◌<◌, ◌≤◌}
use native.Mathlib.Omega.{arith}
use lib.ListN.{length, take, drop}
use Rattle.operations.specs.Marks.{stored_set, same_words}
use Rattle.operations.proofs.MarksLaws.{same-words}
use Rattle.memo.specs.Memo.{Placeable, Represents, earlier}

module _ {marks set : List ℕ} {i : ℕ} {places : List ℕ} (g : Placeable marks set i places) (node : ℕ) (l : node < i) where
  pub represents : (b : Bool)
      → b ≡ same_words (take (node * length set + length set - node * length set) (drop (node * length set) marks)) set
      → b ≡ true → Represents marks set i node
  unfolding stored_set
  represents b e h =
      let n : node * length set + length set - node * length set ≡ length set = omega arith in
      earlier l (ap (λ (k : ℕ). take k (drop (node * length set) marks)) (sym n)
      ∙ same-words (take (node * length set + length set - node * length set) (drop (node * length set) marks)) set (sym e ∙ h))

-- ---- the place of a set

-- the sum over the first k words fits
pub record Mixing (set : List ℕ) (mixed k : ℕ) : Type 0 where
  pub inside : k ≤ length set
  pub few : mixed ≤ k * 9007199254740992
