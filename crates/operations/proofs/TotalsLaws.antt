-- Laws of the record of totals (document 02, U10): a record that is right is right behind an exchange, and 27 does not apply then.
use mathlib.Core.Path.{◌≡◌, ap, ◌∙◌}
use mathlib.Core.Bool.{true, false}
use mathlib.Core.List.{List, [], ◌∷◌, map}
use Prim.Native.Nat.{ℕ, ◌+◌, ◌*◌, ◌<◌, ◌≤◌}
use native.Mathlib.Omega.{arith}
use native.Mathlib.Nat.{zero-add, le_trans, mul-le-mul_left, mul-le-mul_right}
use lib.ListN.{length, drop, length-map}
use lib.Seq.{length-take-le}
use lib.Dec.{ltb, eqb}
use borrow.Author.Tests.{le-ltb, ltb-true, ltb-false, eqb-true, eqb-false}
use Rattle.words.specs.Word.{word_range}
use Rattle.words.specs.Limits.{nodes_most, cells_most}
use Rattle.words.specs.Lists.{all, All, AllBelow, list_from}
use Rattle.words.proofs.TestLaws.{Tested, holds, fails, tested, and-true, or-false}
use Rattle.words.proofs.AllLaws.{each_take, each-drop, each-list_from, list_from-each}
use Rattle.automaton.specs.StateSet.{size_for}
use Rattle.automaton.proofs.TableLaws.{is_table-states}
use Rattle.operations.specs.Marks.{size_of, final_of, stored_set}
use Rattle.operations.specs.Totals.{Totals, totals_of, moved, moved_totals, out_of_range, wrong_totals}
use Rattle.operations.specs.ExchangeCall.{ExchangeCall}
use Rattle.operations.specs.Exchange.{set_in, used, new_tree, stored_in, outcomes, words_fault, old_totals, new_totals, fault}
use Rattle.operations.proofs.AcceptedLaws.{CallAccepted, words-accepted, call-fault, words-first}
use Rattle.operations.proofs.MatchLaws.{matches-few}
use Rattle.operations.proofs.CellLaws.{cells-sets, words-node_set}
use Rattle.operations.proofs.OutcomeSizes.{whole-outcomes}
use Rattle.operations.proofs.LengthLaws.{sized-outcomes}
use Rattle.operations.proofs.Recomputed.{nodes, there}

-- ---- one total

-- 27 does not apply to one that comes out from zero up to the figure
module _ (t old new : ℕ) where
  pub in-range : old ≤ t + new → moved t old new ≤ cells_most → out_of_range t old new ≡ false
  unfolding out_of_range
  in-range low high = rw (le-ltb (t + new) old low, le-ltb cells_most (moved t old new) high)

  pub range-in : out_of_range t old new ≡ false → (old ≤ t + new) × (moved t old new ≤ cells_most)
  unfolding out_of_range
  range-in h = let p = or-false _ _ h in (ltb-false (t + new) old p.0, ltb-false cells_most (moved t old new) p.1)

-- nor to one that was right
right-in-range : (old new : ℕ) → new ≤ cells_most → out_of_range old old new ≡ false
right-in-range old new h = in-range old old new (omega arith) (omega arith)

-- ---- all three

-- a right record is right behind the exchange
pub right-moved : (c : ExchangeCall) (t : Totals) → t ≡ old_totals c → moved_totals t (old_totals c) (new_totals c) ≡ new_totals c
right-moved c t e =
    ap (λ (x : Totals). moved_totals x (old_totals c) (new_totals c)) e
    ∙ back (new_totals c) (moved_back (old_totals c).elements (new_totals c).elements) (moved_back (old_totals c).hits (new_totals c).hits)
    (moved_back (old_totals c).cells (new_totals c).cells)
  where
    moved_back : (old new : ℕ) → moved old old new ≡ new
    moved_back old new = omega arith

    back : (t : Totals) {x y z : ℕ} → x ≡ t.elements → y ≡ t.hits → z ≡ t.cells
        → record { elements = x; hits = y; cells = z } ≡ t
    back t p q r = rw (p, q, r)

module _ (c : ExchangeCall) (words : All (AllBelow word_range) (list_from (stored_in c) 0 c.count)) where
  -- every word behind the exchange has at most 32 ones
  words-outcomes : CallAccepted c → words_fault c ≡ 0 → All (AllBelow word_range) (map set_in (outcomes c))
  unfolding outcomes
  words-outcomes k ok =
      whole-outcomes (AllBelow word_range) c.alphabet c.table (words-node_set c.table) (stored_in c) c.count
      (λ i l. ap-zero i (list_from-each (AllBelow word_range) (stored_in c) c.count 0 i words l))
      (used c) c.element c.replacement (there c ok)
      (rw (length-take-le c.count c.chapter k.count.within) (omega arith))
    where
      ap-zero : (i : ℕ) → AllBelow word_range (stored_in c (0 + i)) → AllBelow word_range (stored_in c i)
      ap-zero i h = rw (← zero-add i) h

  -- the new totals are within the figure: at most 4,096 elements, each with at most 1,024 states
  pub new-most : words_fault c ≡ 0
      → ((new_totals c).elements ≤ cells_most) × ((new_totals c).hits ≤ cells_most) × ((new_totals c).cells ≤ cells_most)
  unfolding new_totals totals_of new_tree size_of size_for
  new-most ok =
      let k = words-accepted c ok in
      let sets = map set_in (outcomes c) in
      let many : length sets ≡ length (new_tree c) = length-map (outcomes c) set_in ∙ nodes c ok in
      let few : length (new_tree c) ≤ nodes_most = k.change.fits.few in
      let small : size_of c.table ≤ 32 = let s = is_table-states c.alphabet c.table k.checked.automaton in omega arith in
      let hits = matches-few (final_of c.table) sets 0 in
      let cells = cells-sets (size_of c.table) sets (sized-outcomes c k) (words-outcomes k ok) in
      let all : length sets * size_of c.table ≤ nodes_most * 32 =
      le_trans (mul-le-mul_right (size_of c.table) (omega (arith, many, few))) (mul-le-mul_left nodes_most small) in
      (omega (arith, many, few), omega (arith, many, few, hits), omega (arith, cells, all))

  -- 27 does not apply to a right record
  pub right-range : words_fault c ≡ 0 → wrong_totals (old_totals c) (old_totals c) (new_totals c) ≡ false
  unfolding wrong_totals
  right-range ok =
      let most = new-most ok in
      rw (
        right-in-range (old_totals c).elements (new_totals c).elements most.0,
        right-in-range (old_totals c).hits (new_totals c).hits most.1,
        right-in-range (old_totals c).cells (new_totals c).cells most.2,
      )

  -- so the words decide
  pub right-fault : (t : Totals) → t ≡ old_totals c → fault c t ≡ words_fault c
  right-fault t e = rw e (go (tested (eqb (words_fault c) 0)))
    where
      go : Tested (eqb (words_fault c) 0) → fault c (old_totals c) ≡ words_fault c
      go (holds b) = call-fault c (old_totals c) (right-range (eqb-true (words_fault c) 0 b))
      go (fails b) = words-first c (old_totals c) (eqb-false (words_fault c) 0 b)

-- where the marks slice has words, so have its stored sets
pub words-stored : (c : ExchangeCall) → all (λ w. ltb w word_range) c.marks ≡ true
    → All (AllBelow word_range) (list_from (stored_in c) 0 c.count)
unfolding stored_set
words-stored c h =
    let size = size_of c.table in
    each-list_from (AllBelow word_range) (stored_in c) c.count 0
    (λ i l. each_take (λ w. w < word_range) size (drop (i * size) c.marks)
    (each-drop (λ w. w < word_range) (i * size) c.marks (below c.marks h)))
  where
    below : (ws : List ℕ) → all (λ w. ltb w word_range) ws ≡ true → AllBelow word_range ws
    below [] h = tt
    below (w ∷ ws) h =
        let p = and-true (ltb w word_range) (all (λ w. ltb w word_range) ws) h in
        (ltb-true w word_range p.0, below ws p.1)
