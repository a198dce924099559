-- What an exchange makes of the totals, counted at the place alone: every other node keeps its set. So 27 and the moved record are told
-- by the totals that fall and those that are added there.
use mathlib.Core.Path.{◌≡◌, ap, ap₂, ◌∙◌, sym}
use mathlib.Core.Bool.{Bool, false, cond, ◌&&◌, ◌||◌}
use mathlib.Core.List.{List, [], ◌++◌, map}
use Prim.Native.Nat.{ℕ, ◌+◌, ◌-◌, ◌<◌}
use native.Mathlib.Omega.{arith}
use native.Mathlib.Nat.{zero-add}
use lib.ListN.{length, get_or, length-map, get_or-map}
use lib.Seq.{length-take-le}
use Rattle.words.specs.Lists.{list_from}
use Rattle.words.specs.Postfix.{is_ancestor}
use Rattle.words.proofs.TestLaws.{and_none}
use Rattle.words.proofs.ListLaws.{list_from-add, list_from-get_or, list_from-below}
use Rattle.automaton.specs.StateSet.{StateSet}
use Rattle.operations.specs.Marks.{final_of}
use Rattle.operations.specs.Run.{cells_in}
use Rattle.operations.specs.Totals.{Totals, moved_totals, wrong_totals}
use Rattle.operations.specs.ExchangeCall.{ExchangeCall}
use Rattle.operations.specs.Exchange.{kept, recomputed, set_in, used, new_tree, stored_in, outcomes, words_fault, old_totals, new_totals}
use Rattle.operations.specs.Recomputation.{set_after, start_in, behind_in, old_number, new_number, ancestor, continues}
use Rattle.operations.proofs.AcceptedLaws.{words-accepted}
use Rattle.operations.proofs.OutcomeParts.{outcome-rest}
use Rattle.operations.proofs.Recomputed.{there, shape, nodes, before}
use Rattle.totals.specs.Place.{numbers_where, ancestors_of, place_sets, root_in, fallen_totals, added_totals}
use Rattle.totals.proofs.NumberLaws.{changed-total}
use Rattle.totals.proofs.MoveLaws.{moved_same, range_same}
use Rattle.totals.proofs.TotalLaws.{total, one, hit, total-append, totals-are, same-triple}
use Rattle.totals.proofs.SameAncestors.{start-low, length-new, length-old, behind-root, ancestors-same}

-- ---- one exchange

module _ (c : ExchangeCall) (fine : words_fault c ≡ 0) where
  abbrev s : ℕ
  s = start_in c

  abbrev count : ℕ
  count = length c.replacement

  abbrev m : ℕ
  m = behind_in c

  abbrev in_new : ℕ → Bool
  in_new = is_ancestor c.alphabet (new_tree c) (root_in c)

  abbrev in_old : ℕ → Bool
  in_old = is_ancestor c.alphabet (used c) c.element

  -- ---- the sets of all nodes, in three parts

  pub sets-after : map set_in (outcomes c) ≡ list_from (set_after c) 0 (s + (count + m))
  sets-after =
      let many : length (map set_in (outcomes c)) ≡ s + (count + m) = length-map (outcomes c) set_in ∙ nodes c fine ∙ length-new c fine in
      sym (list_from-get_or [] (map set_in (outcomes c)))
      ∙ ap (list_from (λ i. get_or (map set_in (outcomes c)) i []) 0) many
      ∙ list_from-below (λ i. get_or (map set_in (outcomes c)) i []) (set_after c) (s + (count + m)) 0
      (λ i l. get_or-map set_in (outcomes c) i (kept []))

  three : (f : ℕ → StateSet) (x y z : ℕ) → list_from f 0 (x + (y + z)) ≡ list_from f 0 x ++ (list_from f x y ++ list_from f (x + y) z)
  three f x y z =
      list_from-add f x (y + z) 0
      ∙ ap (λ (i : ℕ). list_from f 0 x ++ list_from f i (y + z)) (zero-add x)
      ∙ ap (λ (l : List StateSet). list_from f 0 x ++ l) (list_from-add f y z x)

  sets-before : list_from (set_after c) 0 s ≡ list_from (stored_in c) 0 s
  sets-before = list_from-below (set_after c) (stored_in c) s 0 (λ i l. ap set_in (before c fine i (omega arith)))

  -- the sets that fall and those that are added
  abbrev old_part : List StateSet
  old_part = list_from (stored_in c) s (c.element + 1 - s)

  abbrev new_part : List StateSet
  new_part = list_from (set_after c) s count

  abbrev old_above : List StateSet
  old_above = map (stored_in c) (numbers_where in_old (c.element + 1) m)

  abbrev new_above : List StateSet
  new_above = map (set_after c) (numbers_where in_new (s + count) m)

  pub fallen-sets : place_sets c.alphabet (used c) (stored_in c) s c.element ≡ old_part ++ old_above
  unfolding place_sets ancestors_of
  fallen-sets =
      let many : length (used c) - (c.element + 1) ≡ m = let n = length-old c fine in omega arith in
      ap (λ (n : ℕ). old_part ++ map (stored_in c) (numbers_where in_old (c.element + 1) n)) many

  pub added-sets : place_sets c.alphabet (new_tree c) (set_after c) s (root_in c) ≡ new_part ++ new_above
  unfolding place_sets ancestors_of
  added-sets =
      let root = behind-root c fine in
      let part : root_in c + 1 - s ≡ count = omega arith in
      let many : length (new_tree c) - (root_in c + 1) ≡ m = let n = length-new c fine in omega arith in
      ap₂ (λ (x y : ℕ). list_from (set_after c) s x ++ map (set_after c) (numbers_where in_new (root_in c + 1) y)) part many
      ∙ ap (λ (x : ℕ). new_part ++ map (set_after c) (numbers_where in_new x m)) root

  -- a node behind that is no ancestor keeps its set
  kept-behind : (k : ℕ) → k < m → ancestor c k ≡ false → set_after c (new_number c k) ≡ stored_in c (old_number c k)
  kept-behind k l h =
      ap set_in
      (outcome-rest c (there c fine) (shape c fine) k l
      ∙ ap (λ (b : Bool). cond (continues c k && b) (recomputed (set_after c (new_number c k))) (kept (stored_in c (old_number c k)))) h
      ∙ ap (λ (b : Bool). cond b (recomputed (set_after c (new_number c k))) (kept (stored_in c (old_number c k)))) (and_none (continues c k)))

  -- ---- the difference

  module _ (f : StateSet → ℕ) where
    pub exchanged : total f (map set_in (outcomes c)) + total f (old_part ++ old_above)
        ≡ total f (list_from (stored_in c) 0 c.count) + total f (new_part ++ new_above)
    exchanged =
        let news : total f (map set_in (outcomes c)) ≡ total f front + (total f new_part + total f new_rest) =
        ap (total f) (sets-after ∙ three (set_after c) s count m)
        ∙ total-append f (list_from (set_after c) 0 s) (new_part ++ new_rest)
        ∙ ap₂ (λ (x y : ℕ). x + y) (ap (total f) sets-before) (total-append f new_part new_rest) in
        let olds : total f (list_from (stored_in c) 0 c.count) ≡ total f front + (total f old_part + total f old_rest) =
        ap (λ (n : ℕ). total f (list_from (stored_in c) 0 n)) all
        ∙ ap (total f) (three (stored_in c) s (c.element + 1 - s) m)
        ∙ total-append f front (old_part ++ list_from (stored_in c) (s + (c.element + 1 - s)) m)
        ∙ ap (λ (x : ℕ). total f front + x)
        (total-append f old_part (list_from (stored_in c) (s + (c.element + 1 - s)) m)
        ∙ ap (λ (i : ℕ). total f old_part + total f (list_from (stored_in c) i m)) behind) in
        let rest : total f new_rest + total f old_above ≡ total f old_rest + total f new_above =
        changed-total f (set_after c) (stored_in c) in_new in_old m (s + count) (c.element + 1)
        (record { tests = λ k l. ancestors-same c fine k; keeps = kept-behind }) in
        omega (arith, news, olds, rest, total-append f old_part old_above, total-append f new_part new_above)
      where
        front : List StateSet
        front = list_from (stored_in c) 0 s

        new_rest : List StateSet
        new_rest = list_from (set_after c) (s + count) m

        old_rest : List StateSet
        old_rest = list_from (stored_in c) (c.element + 1) m

        behind : s + (c.element + 1 - s) ≡ c.element + 1
        behind = let low = start-low c fine in omega arith

        all : c.count ≡ s + (c.element + 1 - s + m)
        all =
            let n = length-old c fine in
            let u = length-take-le c.count c.chapter (words-accepted c fine).count.within in
            let b = behind in
            omega arith

  -- new + fallen ≡ old + added, of each total
  record Balanced (old new fallen added : Totals) : Type 0 where
    elements_same : new.elements + fallen.elements ≡ old.elements + added.elements
    hits-same : new.hits + fallen.hits ≡ old.hits + added.hits
    cells_same : new.cells + fallen.cells ≡ old.cells + added.cells

  balanced : Balanced (old_totals c) (new_totals c) (fallen_totals c) (added_totals c)
  unfolding old_totals new_totals fallen_totals added_totals
  balanced =
      rw (
        fallen-sets,
        added-sets,
        totals-are c.table (map set_in (outcomes c)),
        totals-are c.table (list_from (stored_in c) 0 c.count),
        totals-are c.table (old_part ++ old_above),
        totals-are c.table (new_part ++ new_above),
      )
      (record { elements_same = exchanged one; hits-same = exchanged (hit (final_of c.table)); cells_same = exchanged cells_in })

-- ---- 27 and the moved totals

module _ (c : ExchangeCall) (fine : words_fault c ≡ 0) (t : Totals) where
  pub same-range : wrong_totals t (old_totals c) (new_totals c) ≡ wrong_totals t (fallen_totals c) (added_totals c)
  unfolding wrong_totals
  same-range =
      let b = balanced c fine in
      ap₂ (λ (x y : Bool). x || y)
      (ap₂ (λ (x y : Bool). x || y) (range_same t.elements _ _ _ _ b.elements_same) (range_same t.hits _ _ _ _ b.hits-same))
      (range_same t.cells _ _ _ _ b.cells_same)

  pub same-moved : moved_totals t (old_totals c) (new_totals c) ≡ moved_totals t (fallen_totals c) (added_totals c)
  same-moved =
      let b = balanced c fine in
      same-triple (moved_same t.elements _ _ _ _ b.elements_same) (moved_same t.hits _ _ _ _ b.hits-same)
      (moved_same t.cells _ _ _ _ b.cells_same)
