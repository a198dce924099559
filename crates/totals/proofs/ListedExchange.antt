-- An exchange at a place whose ancestors are listed: the list has room, its numbers may be counted before the exchange and, moved,
-- behind it, and the totals are those that fall and those that are added.
use mathlib.Core.Path.{◌≡◌, ap, ap₂, ◌∙◌, sym}
use mathlib.Core.List.{List, ◌++◌, map}
use Prim.Native.Nat.{ℕ, ◌+◌, ◌-◌, ◌*◌, ◌<◌, ◌≤◌}
use native.Mathlib.Omega.{arith}
use native.Mathlib.Nat.{le_trans, mul-le-mul_right}
use lib.ListN.{length}
use lib.Seq.{length-take-le}
use borrow.Author.Tests.{ltb-false}
use Rattle.words.specs.Limits.{nodes_most, height_most}
use Rattle.words.specs.Lists.{list_from}
use Rattle.words.specs.Postfix.{height_of}
use Rattle.words.specs.Chapter.{too_high}
use Rattle.words.proofs.AcceptedTree.{tree-accepted}
use Rattle.operations.specs.Marks.{size_of, stored_set}
use Rattle.operations.specs.Totals.{Totals, totals_of}
use Rattle.operations.specs.ExchangeCall.{ExchangeCall}
use Rattle.operations.specs.Exchange.{used, new_tree, stored_in, new_marks, words_fault}
use Rattle.operations.specs.Recomputation.{start_in}
use Rattle.operations.proofs.AcceptedLaws.{CallAccepted, ResultFits, words-accepted}
use Rattle.operations.proofs.Recomputed.{there, some}
use Rattle.sets.specs.Size.{set_most}
use Rattle.sets.proofs.SizeLaws.{set-small}
use Rattle.totals.specs.Listed.{Listable, Movable, ListedCountable}
use Rattle.totals.specs.Place.{ancestors_of, place_sets, root_in, fallen_totals, added_totals}
use Rattle.totals.proofs.AncestorHeight.{ancestors-high}
use Rattle.totals.proofs.MovedNumbers.{ancestors-below, ancestors-few, ancestors-moved, ancestors-movable}
use Rattle.totals.proofs.SameAncestors.{start-low, length-new, behind-root}
use Rattle.totals.proofs.AddedTotals.{added-stored}

module _ (c : ExchangeCall) (fine : words_fault c ≡ 0) where
  abbrev size : ℕ
  size = size_of c.table

  call : CallAccepted c
  call = words-accepted c fine

  count-used : length (used c) ≡ c.count
  count-used = length-take-le c.count c.chapter call.count.within

  used-few : length (used c) ≤ nodes_most
  used-few = rw count-used call.count.counted.few

  used-marks : length (used c) * size_of c.table ≤ length c.marks
  used-marks = rw count-used call.marked.marks

  result : ResultFits c.table (length (new_tree c)) (length c.chapter) (length c.marks)
  unfolding new_tree
  result = call.change.fits

  small : size_of c.table ≤ set_most
  small = set-small c.alphabet c.table call.checked.automaton

  low : height_of c.alphabet (used c) ≤ height_most
  unfolding too_high
  low = ltb-false height_most (height_of c.alphabet (used c)) call.marked.low

  -- ---- the list

  abbrev above : List ℕ
  above = ancestors_of c.alphabet (used c) c.element

  pub above-few : length (ancestors_of c.alphabet (used c) c.element) < height_most
  above-few =
      let tree = (tree-accepted c.alphabet (used c) call.marked.tree).shape in
      let fewer = ancestors-high c.alphabet (used c) c.element tree (there c fine) in
      omega (arith, fewer, low)

  -- a list as long as a tree may be high has room
  pub above-listable : (n : ℕ) → height_most ≤ n → Listable c.alphabet (used c) c.element n
  above-listable n h =
      let few = above-few in
      record { tree = call.marked.tree; inside = there c fine; few = used-few; room = omega arith }

  pub above-movable : (ns : List ℕ) → ns ≡ ancestors_of c.alphabet (used c) c.element → (start : ℕ) → start ≡ start_in c
      → Movable (c.element + 1) (start + length c.replacement) ns
  above-movable ns e start s = rw (e, s) (ancestors-movable c fine result.few)

  -- ---- before the exchange

  module _ (ns : List ℕ) (e : ns ≡ ancestors_of c.alphabet (used c) c.element) (start : ℕ) (s : start ≡ start_in c) where
    pub fallen-countable : ListedCountable (length c.marks) (size_of c.table) start (c.element + 1) ns
    fallen-countable =
        let inside = there c fine in
        let few = used-few in
        let begins = start-low c fine in
        let up_to : (c.element + 1) * size ≤ length (used c) * size = mul-le-mul_right size (omega arith) in
        rw (e, s) (record {
          run = record { order = omega arith; few = omega arith; small = small; inside = le_trans up_to used-marks };
          numbers = record {
            bound = length (used c);
            nodes = record { order = omega arith; few = few; small = small; inside = used-marks };
            below = ancestors-below c.alphabet (used c) c.element inside;
            short = le_trans (ancestors-few c.alphabet (used c) c.element) few;
          };
        })

    pub fallen-listed : (r : Totals)
        → r
        ≡ totals_of c.table
        (list_from (stored_set (size_of c.table) c.marks) start (c.element + 1 - start)
        ++ map (stored_set (size_of c.table) c.marks) ns)
        → r ≡ fallen_totals c
    unfolding fallen_totals place_sets
    fallen-listed r q =
        q
        ∙ ap₂
        (λ (x : ℕ) (l : List ℕ).
        totals_of c.table (list_from (stored_in c) x (c.element + 1 - x) ++ map (stored_in c) l)) s e

    -- ---- behind it

    module _ (ns' : List ℕ) (e' : ns' ≡ map (λ j. j - (c.element + 1) + (start + length c.replacement)) ns) where
      moved : ns' ≡ ancestors_of c.alphabet (new_tree c) (root_in c)
      moved =
          e'
          ∙ ap₂ (λ (x : ℕ) (l : List ℕ). map (λ j. j - (c.element + 1) + (x + length c.replacement)) l) s e
          ∙ ancestors-moved c fine

      pub added-countable : (marks_length : ℕ) → marks_length ≡ length c.marks
          → ListedCountable marks_length (size_of c.table) start (start + length c.replacement) ns'
      added-countable marks_length m =
          let fits = result in
          let n = length-new c fine in
          let root = behind-root c fine in
          let many = some c fine in
          let up_to : (start_in c + length c.replacement) * size ≤ length (new_tree c) * size = mul-le-mul_right size (omega arith) in
          rw (moved, s, m) (record {
            run = record { order = omega arith; few = omega (arith, fits.few); small = small; inside = le_trans up_to fits.marks };
            numbers = record {
              bound = length (new_tree c);
              nodes = record { order = omega arith; few = fits.few; small = small; inside = fits.marks };
              below = ancestors-below c.alphabet (new_tree c) (root_in c) (omega arith);
              short = le_trans (ancestors-few c.alphabet (new_tree c) (root_in c)) fits.few;
            };
          })

      pub added-listed : (marks : List ℕ) → marks ≡ new_marks c → (r : Totals)
          → r
          ≡ totals_of c.table
          (list_from (stored_set (size_of c.table) marks) start (start + length c.replacement - start)
          ++ map (stored_set (size_of c.table) marks) ns')
          → r ≡ added_totals c
      unfolding place_sets
      added-listed marks m r q =
          let stored = stored_set size marks in
          q
          ∙ ap₂
          (λ (x : ℕ) (l : List ℕ).
          totals_of c.table (list_from stored x (x + length c.replacement - x) ++ map stored l)) s moved
          ∙ ap
          (λ (k : ℕ).
          totals_of c.table
          (list_from stored (start_in c) (k - start_in c) ++ map stored (ancestors_of c.alphabet (new_tree c) (root_in c))))
          (sym (behind-root c fine))
          ∙ added-stored c fine marks m
