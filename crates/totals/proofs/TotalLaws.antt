-- The three totals of state sets as sums over the sets, one number for each: of sets behind sets, and how much they are at most.
use mathlib.Core.Path.{◌≡◌, refl, ap, ap₂, ◌∙◌, sym}
use mathlib.Core.Bool.{Bool, true, false, cond}
use mathlib.Core.List.{List, [], ◌∷◌, ◌++◌, flatten}
use Prim.Native.Nat.{ℕ, suc, ◌+◌, ◌*◌, ◌≤◌}
use native.Mathlib.Omega.{arith}
use native.Mathlib.Nat.{zero-add, add_assoc, suc-mul}
use lib.ListN.{length}
use Rattle.words.specs.Lists.{All}
use Rattle.automaton.specs.StateSet.{StateSet, contains}
use Rattle.operations.specs.Marks.{final_of}
use Rattle.operations.specs.Run.{cells_in}
use Rattle.operations.specs.Listing.{matches_in}
use Rattle.operations.specs.Totals.{Totals, totals_of}
use Rattle.operations.proofs.CellLaws.{cells-append}
use Rattle.totals.specs.Sum.{sum_totals}

-- a number of each state set, summed
unfoldable pub total : (StateSet → ℕ) → List StateSet → ℕ
total f [] = 0
total f (r ∷ rs) = f r + total f rs

-- 1 for each element
abbrev pub one : StateSet → ℕ
one r = 1

-- 1 for each hit
abbrev pub hit : ℕ → StateSet → ℕ
hit final r = cond (contains r final) 1 0

module _ (f : StateSet → ℕ) where
  pub total-append : (l k : List StateSet) → total f (l ++ k) ≡ total f l + total f k
  unfolding total
  total-append [] k = sym (zero-add (total f k))
  total-append (r ∷ l) k = ap (λ (i : ℕ). f r + i) (total-append l k) ∙ sym (add_assoc (f r) (total f l) (total f k))

  -- at most so much for each set
  pub total-most : (n : ℕ) (rs : List StateSet) → All (λ r. f r ≤ n) rs → total f rs ≤ length rs * n
  unfolding total
  total-most n [] h = omega arith
  total-most n (r ∷ rs) h =
      let ih = total-most n rs h.1 in
      let here = h.0 in
      rw (suc-mul (length rs) n) (omega arith)

-- ---- the three totals

pub elements-total : (rs : List StateSet) → length rs ≡ total one rs
unfolding total
elements-total [] = refl
elements-total (r ∷ rs) = let ih = elements-total rs in omega arith

pub hits_total : (final : ℕ) (rs : List StateSet) (i : ℕ) → length (matches_in final i rs) ≡ total (hit final) rs
unfolding matches_in total
hits_total final [] i = refl
hits_total final (r ∷ rs) i = go (contains r final) (hits_total final rs (suc i))
  where
    go : (b : Bool) → length (matches_in final (suc i) rs) ≡ total (hit final) rs
        → length (cond b (i ∷ matches_in final (suc i) rs) (matches_in final (suc i) rs)) ≡ cond b 1 0 + total (hit final) rs
    go true h = omega arith
    go false h = omega arith

pub cells-total : (rs : List StateSet) → cells_in (flatten rs) ≡ total cells_in rs
unfolding cells_in flatten total
cells-total [] = refl
cells-total (r ∷ rs) = cells-append r (flatten rs) ∙ ap (λ (i : ℕ). cells_in r + i) (cells-total rs)

abbrev pub triple : ℕ → ℕ → ℕ → Totals
triple e h k = record { elements = e; hits = h; cells = k }

pub same-triple : {e e' h h' k k' : ℕ} → e ≡ e' → h ≡ h' → k ≡ k' → triple e h k ≡ triple e' h' k'
same-triple {e} {e'} {h} {h'} {k} {k'} p q r =
    ap (λ (x : ℕ). triple x h k) p ∙ ap (λ (x : ℕ). triple e' x k) q ∙ ap (λ (x : ℕ). triple e' h' x) r

module _ (table : List ℕ) where
  -- as sums
  pub totals-are : (rs : List StateSet) → totals_of table rs ≡ triple (total one rs) (total (hit (final_of table)) rs) (total cells_in rs)
  unfolding totals_of
  totals-are rs = same-triple (elements-total rs) (hits_total (final_of table) rs 0) (cells-total rs)

  pub totals-append : (l k : List StateSet) → totals_of table (l ++ k) ≡ sum_totals (totals_of table l) (totals_of table k)
  totals-append l k =
      totals-are (l ++ k)
      ∙ same-triple (total-append one l k) (total-append (hit (final_of table)) l k) (total-append cells_in l k)
      ∙ sym (ap₂ sum_totals (totals-are l) (totals-are k))
