-- The totals that an exchange adds at its place: how much they are at most, and that they are those of the marks behind it.
use mathlib.Core.Path.{◌≡◌, ap, ap₂, ◌∙◌, sym, subst}
use mathlib.Core.Bool.{Bool}
use mathlib.Core.List.{List, [], ◌++◌, map}
use Prim.Native.Nat.{ℕ, ◌+◌, ◌-◌, ◌*◌, ◌<◌, ◌≤◌}
use native.Mathlib.Omega.{arith}
use native.Mathlib.Nat.{mul_assoc, le_of_eq}
use lib.ListN.{length, length-append, length-map, get_or-map}
use lib.Seq.{length-take-le}
use Rattle.words.specs.Word.{word_range}
use Rattle.words.specs.Lists.{All, AllBelow, list_from}
use Rattle.words.specs.Postfix.{is_ancestor}
use Rattle.words.proofs.AllLaws.{each_append, each-default, each-list_from, map_below}
use Rattle.words.proofs.ListLaws.{length-list_from, list_from-below}
use Rattle.automaton.specs.StateSet.{StateSet}
use Rattle.operations.specs.Marks.{size_of, node_set, stored_set}
use Rattle.operations.specs.Run.{cells_in}
use Rattle.operations.specs.Totals.{totals_of}
use Rattle.operations.specs.ExchangeCall.{ExchangeCall}
use Rattle.operations.specs.Exchange.{kept, set_in, used, new_tree, stored_in, outcomes, words_fault, new_marks}
use Rattle.operations.specs.Recomputation.{set_after, start_in, behind_in}
use Rattle.operations.proofs.AcceptedLaws.{words-accepted}
use Rattle.operations.proofs.MarksLaws.{length-node_set}
use Rattle.operations.proofs.CellLaws.{words-node_set}
use Rattle.operations.proofs.OutcomeSizes.{whole-outcomes}
use Rattle.operations.proofs.Recomputed.{there, some, written}
use Rattle.totals.specs.Place.{numbers_where, ancestors_of, place_sets, root_in, added_totals}
use Rattle.totals.proofs.NumberLaws.{same-many, numbers-below}
use Rattle.totals.proofs.StoredTotals.{cells-set, cells-stored, each_of, totals-hits, totals-cells}
use Rattle.totals.proofs.SameAncestors.{length-new, length-old, behind-root, ancestors-same}
use Rattle.totals.proofs.ExchangedTotals.{added-sets}

module _ (c : ExchangeCall) (fine : words_fault c ≡ 0) where
  abbrev sets : List StateSet
  sets = place_sets c.alphabet (new_tree c) (set_after c) (start_in c) (root_in c)

  -- ---- how much they are

  pub added-elements : (added_totals c).elements
      ≡ length c.replacement + length (ancestors_of c.alphabet (used c) c.element)
  unfolding added_totals totals_of ancestors_of
  added-elements =
      let m = behind_in c in
      let many : length (used c) - (c.element + 1) ≡ m = let n = length-old c fine in omega arith in
      let in_new : ℕ → Bool = is_ancestor c.alphabet (new_tree c) (root_in c) in
      let in_old : ℕ → Bool = is_ancestor c.alphabet (used c) c.element in
      let s = start_in c + length c.replacement in
      ap length (added-sets c fine)
      ∙ length-append (list_from (set_after c) (start_in c) (length c.replacement)) (map (set_after c) (numbers_where in_new s m))
      ∙ ap₂ (λ (x y : ℕ). x + y) (length-list_from (set_after c) (length c.replacement) (start_in c))
      (length-map (numbers_where in_new s m) (set_after c)
      ∙ same-many in_new in_old m s (c.element + 1) (λ k l. ancestors-same c fine k)
      ∙ ap (λ (n : ℕ). length (numbers_where in_old (c.element + 1) n)) (sym many))

  pub added-hits : (added_totals c).hits ≤ (added_totals c).elements
  unfolding added_totals totals_of
  added-hits = totals-hits c.table sets

  -- at most 32 ones in each word of a set
  abbrev Small : StateSet → Type 0
  Small r = cells_in r ≤ size_of c.table * 32

  module _ (words : AllBelow word_range c.marks) where
    small-outcomes : All Small (map set_in (outcomes c))
    unfolding outcomes
    small-outcomes =
        whole-outcomes Small c.alphabet c.table
        (λ w rs. cells-set (size_of c.table) (node_set c.table w rs) (le_of_eq (length-node_set c.table w rs))
        (words-node_set c.table w rs)) (stored_in c) c.count (λ i l. cells-stored (size_of c.table) c.marks words i) (used c)
        c.element c.replacement (there c fine)
        (rw (length-take-le c.count c.chapter (words-accepted c fine).count.within) (omega arith))

    small-after : (j : ℕ) → Small (set_after c j)
    unfolding cells_in
    small-after j =
        subst Small (get_or-map set_in (outcomes c) j (kept []))
        (each-default Small {d = []} (omega arith) (map set_in (outcomes c)) j small-outcomes)

    small-sets : All Small sets
    unfolding place_sets
    small-sets =
        let above = ancestors_of c.alphabet (new_tree c) (root_in c) in
        each_append Small (list_from (set_after c) (start_in c) (root_in c + 1 - start_in c)) (map (set_after c) above)
        (each-list_from Small (set_after c) (root_in c + 1 - start_in c) (start_in c) (λ i l. small-after i))
        (each_of Small (set_after c) small-after above)

    pub added-cells : (added_totals c).cells ≤ (added_totals c).elements * size_of c.table * 32
    unfolding added_totals totals_of
    added-cells =
        let size = size_of c.table in
        rw (mul_assoc (length sets) size 32) (totals-cells c.table (size * 32) sets small-sets)

  -- ---- the marks behind the exchange

  pub added-stored : (marks : List ℕ) → marks ≡ new_marks c
      → totals_of c.table (place_sets c.alphabet (new_tree c) (stored_set (size_of c.table) marks) (start_in c) (root_in c))
      ≡ added_totals c
  unfolding added_totals place_sets ancestors_of
  added-stored marks e =
      let size = size_of c.table in
      let root = behind-root c fine in
      let n = length-new c fine in
      let many = some c fine in
      let in_new : ℕ → Bool = is_ancestor c.alphabet (new_tree c) (root_in c) in
      let rest = length (new_tree c) - (root_in c + 1) in
      let end : root_in c + 1 + rest ≡ length (new_tree c) = omega arith in
      let same : (j : ℕ) → j < length (new_tree c) → stored_set size marks j ≡ set_after c j
      = λ j l. ap (λ (k : List ℕ). stored_set size k j) e ∙ written c fine j l in
      ap₂ (λ (x y : List StateSet). totals_of c.table (x ++ y))
      (list_from-below (stored_set size marks) (set_after c) (root_in c + 1 - start_in c) (start_in c) (λ j l. same j (omega arith)))
      (map_below (stored_set size marks) (set_after c) (length (new_tree c)) (numbers_where in_new (root_in c + 1) rest)
      (rw end at (numbers-below in_new rest (root_in c + 1))) same)
