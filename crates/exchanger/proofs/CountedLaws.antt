-- The totals at the place of a call that is not refused but perhaps by 27, with the numbers that the code works out: how many nodes they
-- count, and how they decide on 27.
use mathlib.Core.Path.{◌≡◌, refl, ap, ap₂, ◌∙◌, sym}
use mathlib.Core.Bool.{true, false, ◌||◌}
use mathlib.Core.List.{List, ◌++◌, map}
use Prim.Native.Nat.{ℕ, ◌+◌, ◌-◌, ◌*◌, ◌<◌, ◌≤◌}
use native.Mathlib.Omega.{arith}
use lib.ListN.{length, get_or, take, length-append, length-map}
use Rattle.words.specs.Word.{word_range}
use Rattle.words.specs.Limits.{nodes_most, cells_most}
use Rattle.words.specs.Lists.{list_from, written_over}
use Rattle.words.proofs.ListLaws.{length-list_from, take-over}
use Rattle.operations.specs.Marks.{size_of}
use Rattle.operations.specs.Totals.{Totals, totals_of, out_of_range, wrong_totals}
use Rattle.operations.specs.ExchangeCall.{ExchangeCall}
use Rattle.operations.specs.Exchange.{used, stored_in, words_fault, new_tree, old_totals, new_totals}
use Rattle.operations.specs.Recomputation.{start_in}
use Rattle.operations.proofs.AcceptedLaws.{words-accepted}
use Rattle.sets.proofs.SizeLaws.{set-small}
use Rattle.totals.specs.Place.{ancestors_of, place_sets, fallen_totals, added_totals}
use Rattle.totals.specs.Room.{has_room}
use Rattle.totals.proofs.StoredTotals.{words-below}
use Rattle.totals.proofs.MoveLaws.{room-in-range, cells-most-added}
use Rattle.totals.proofs.ExchangedTotals.{same-range}
use Rattle.totals.proofs.ListedExchange.{above-few}
use Rattle.totals.proofs.AddedTotals.{added-elements, added-hits, added-cells}
use Rattle.exchanger.proofs.CallNumberLaws.{total_count, CallNumbers, call-numbers}

-- the words of a list that was written in front of a slice
pub listed-words : (ws slice l : List ℕ) (k : ℕ) → k ≡ length ws → l ≡ written_over ws slice → take k l ≡ ws
listed-words ws slice l k e q = ap (take k) q ∙ take-over ws slice k (sym e)

pub prefix-long : (ws rest : List ℕ) (k : ℕ) → length ws ≡ k → k ≤ length (ws ++ rest)
prefix-long ws rest k e = omega (arith, length-append ws rest)

module _ (c : ExchangeCall) (ok : words_fault c ≡ 0) (s : ℕ) (qs : s ≡ start_in c) where
  abbrev size : ℕ
  size = size_of c.table

  pub place-numbers : CallNumbers c s (size_of c.table)
  place-numbers = call-numbers c ok s qs (size_of c.table) refl

  pub place-small : total_count c s ≤ nodes_most
  unfolding new_tree
  place-small = rw place-numbers.total (words-accepted c ok).change.fits.few

  pub element-small : c.element + 1 ≤ nodes_most
  element-small =
      let inside = place-numbers.inside in
      let few = (words-accepted c ok).count.counted.few in
      omega arith

  -- ---- how many nodes there are at the place

  abbrev above : ℕ
  above = length (ancestors_of c.alphabet (used c) c.element)

  fallen-elements : (fallen_totals c).elements ≡ c.element + 1 - s + above
  unfolding fallen_totals totals_of place_sets
  fallen-elements =
      length-append (list_from (stored_in c) (start_in c) (c.element + 1 - start_in c))
      (map (stored_in c) (ancestors_of c.alphabet (used c) c.element))
      ∙ ap₂ (λ (x y : ℕ). x + y) (length-list_from (stored_in c) (c.element + 1 - start_in c) (start_in c))
      (length-map (ancestors_of c.alphabet (used c) c.element) (stored_in c))
      ∙ ap (λ (i : ℕ). c.element + 1 - i + above) (sym qs)

  module _ (fallen : Totals) (e : fallen ≡ fallen_totals c) where
    -- the ancestors' number as code works it out
    pub subtree-fallen : c.element + 1 - s ≤ fallen.elements
    subtree-fallen = rw (e, fallen-elements) (omega arith)

    pub place-elements : length c.replacement + (fallen.elements - (c.element + 1 - s)) ≡ (added_totals c).elements
    place-elements = rw (e, fallen-elements, added-elements c ok) (omega arith)

    -- ---- 27

    pub place-decides : (t : Totals) → wrong_totals t fallen (added_totals c) ≡ wrong_totals t (old_totals c) (new_totals c)
    place-decides t = ap (λ (x : Totals). wrong_totals t x (added_totals c)) e ∙ sym (same-range c ok t)

    pub added-decides : (t added : Totals) → added ≡ added_totals c → wrong_totals t fallen added ≡ wrong_totals t (old_totals c) (new_totals c)
    added-decides t added q = ap (wrong_totals t fallen) q ∙ place-decides t

-- where the elements are in range, hits and cells decide
pub figures-decide : (t f a : Totals) → out_of_range t.elements f.elements a.elements ≡ false
    → (out_of_range t.hits f.hits a.hits || out_of_range t.cells f.cells a.cells) ≡ wrong_totals t f a
unfolding wrong_totals
figures-decide t f a e = rw e

pub figures-fit : (t f a : Totals) → out_of_range t.elements f.elements a.elements ≡ false → out_of_range t.hits f.hits a.hits ≡ false
    → out_of_range t.cells f.cells a.cells ≡ false → false ≡ wrong_totals t f a
unfolding wrong_totals
figures-fit t f a e h c = rw (e, h, c)

-- ---- how much can be added there

module _ (c : ExchangeCall) (ok : words_fault c ≡ 0) where
  pub added-few : (added_totals c).elements ≤ 2 * nodes_most
  added-few =
      let few = (words-accepted c ok).change.replacement.counted.few in
      rw (added-elements c ok) (omega (arith, above-few c ok))

  module _ (size : ℕ) (q : size ≡ size_of c.table) where
    pub cells-few : (added_totals c).elements * size * 32 ≤ 2 * cells_most
    cells-few =
        cells-most-added (added_totals c).elements size added-few
        (rw q (set-small c.alphabet c.table (words-accepted c ok).checked.automaton))

    pub cells-room : ((i : ℕ) → get_or c.marks i 0 < word_range) → (t fallen : ℕ)
        → has_room t fallen ((added_totals c).elements * size * 32) ≡ true → out_of_range t fallen (added_totals c).cells ≡ false
    cells-room words t fallen h =
        room-in-range t fallen _ h (added_totals c).cells (rw q (added-cells c ok (words-below word_range c.marks words)))

  pub hits-room : (t fallen : ℕ) → has_room t fallen (added_totals c).elements ≡ true → out_of_range t fallen (added_totals c).hits ≡ false
  hits-room t fallen h = room-in-range t fallen _ h (added_totals c).hits (added-hits c ok)
