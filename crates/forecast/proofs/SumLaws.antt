-- Laws of totals with those of nodes more: added one after the other they are those of all.
use mathlib.Core.Path.{◌≡◌, refl, ap, ◌∙◌}
use mathlib.Core.Bool.{Bool, true, false, cond}
use mathlib.Core.List.{List, [], ◌∷◌, ◌++◌, flatten}
use Prim.Native.Nat.{ℕ, suc, ◌+◌, ◌*◌, ◌^◌, ◌≤◌, ◌<◌}
use native.Mathlib.Omega.{arith}
use lib.ListN.{length, get_or}
use lib.Count.{ones-le}
use mir.Val.{bool_byte}
use Rattle.words.specs.Limits.{states_most}
use Rattle.automaton.specs.StateSet.{StateSet, contains}
use Rattle.operations.specs.Marks.{final_of}
use Rattle.operations.specs.Listing.{matches_in}
use Rattle.operations.specs.Run.{cells_in}
use Rattle.operations.specs.Totals.{Totals, totals_of}
use Rattle.operations.proofs.CellLaws.{cells-append}
use Rattle.totals.specs.declared.Totals.{Totals as Record}
use Rattle.totals.specs.TotalsIn.{totals_in}
use Rattle.forecast.specs.Sum.{with_set, with_sets, Addable}

-- equal totals
abbrev pub totals : ℕ → ℕ → ℕ → Totals
totals x y z = record { elements = x; hits = y; cells = z }

three : {x x' y y' z z' : ℕ} → x ≡ x' → y ≡ y' → z ≡ z' → totals x y z ≡ totals x' y' z'
three p q r = rw (p, q, r)

hit-more : (final : ℕ) (r : StateSet) (rs : List StateSet) (i : ℕ)
    → length (matches_in final i (r ∷ rs)) ≡ cond (contains r final) 1 0 + length (matches_in final (suc i) rs)
unfolding matches_in
hit-more final r rs i = go (contains r final)
  where
    go : (b : Bool) → length (cond b (i ∷ matches_in final (suc i) rs) (matches_in final (suc i) rs))
        ≡ cond b 1 0 + length (matches_in final (suc i) rs)
    go true = omega arith
    go false = omega arith

module _ (table : List ℕ) where
  pub with_sets-append : (t : Totals) (rs qs : List StateSet) → with_sets table t (rs ++ qs) ≡ with_sets table (with_sets table t rs) qs
  unfolding with_sets
  with_sets-append t [] qs = refl
  with_sets-append t (r ∷ rs) qs = with_sets-append (with_set table t r) rs qs

  sums : (rs : List StateSet) (t : Totals) (i : ℕ) → with_sets table t rs
      ≡ record {
        elements = t.elements + length rs;
        hits = t.hits + length (matches_in (final_of table) i rs);
        cells = t.cells + cells_in (flatten rs);
      }
  unfolding with_sets with_set matches_in cells_in flatten
  sums [] t i = three (omega arith) (omega arith) (omega arith)
  sums (r ∷ rs) t i =
      let h = hit-more (final_of table) r rs i in
      let k = cells-append r (flatten rs) in
      sums rs (with_set table t r) (suc i) ∙ three (omega arith) (omega arith) (omega arith)

  -- from nothing on
  pub with_sets-none : (rs : List StateSet) → with_sets table (record { elements = 0; hits = 0; cells = 0 }) rs ≡ totals_of table rs
  unfolding totals_of
  with_sets-none rs =
      sums rs (record { elements = 0; hits = 0; cells = 0 }) 0 ∙ three (omega arith) (omega arith) (omega arith)

-- a state set has at most so many ones as it has bits
pub cells-few : (ws : List ℕ) → ((k : ℕ) → get_or ws k 0 < 2 ^ 32) → cells_in ws ≤ 32 * length ws
unfolding cells_in
cells-few [] h = omega arith
cells-few (w ∷ ws) h =
    let few = ones-le 32 w (h 0) in
    let rest = cells-few ws (λ k. h (suc k)) in
    omega arith

-- ---- one more

hit-byte : (b : Bool) → bool_byte b ≡ cond b 1 0
hit-byte true = refl
hit-byte false = refl

pub hit_few : (b : Bool) → bool_byte b ≤ 1
hit_few true = omega arith
hit_few false = omega arith

module _ {t : Record} {r : StateSet} (g : Addable t r) (words : (k : ℕ) → get_or r k 0 < 2 ^ 32) (cells : ℕ) (e : cells ≡ cells_in r) where
  pub cells-small : cells ≤ states_most
  cells-small = let short = g.short in omega (arith, e, cells-few r words)

  pub set-added : (table : List ℕ) (final : ℕ) → final ≡ final_of table → (hit : Bool) → hit ≡ contains r final
      → totals (t.elements + 1) (t.hits + bool_byte hit) (t.cells + cells) ≡ with_set table (totals_in t) r
  unfolding with_set
  set-added table final f hit h =
      three refl (ap (λ (x : ℕ). t.hits + x) (hit-byte hit ∙ ap (λ (b : Bool). cond b 1 0) (h ∙ ap (contains r) f)))
      (ap (λ (x : ℕ). t.cells + x) e)
