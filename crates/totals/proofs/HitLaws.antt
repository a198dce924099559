-- The loop that counts hits, and the totals of the nodes that it passed.
use mathlib.Core.Path.{◌≡◌, refl, ap, ap₂, ◌∙◌, sym}
use mathlib.Core.Bool.{Bool, true, false, cond}
use mathlib.Core.List.{List, [], ◌∷◌}
use Prim.Native.Nat.{ℕ, ◌+◌, ◌*◌, ◌-◌, ◌<◌, ◌≤◌}
use native.Mathlib.Omega.{arith}
use native.Mathlib.Nat.{mul_comm, mul-sub, mul-le-mul_right}
use lib.ListN.{length, get_or, take, drop}
use Rattle.std.specs.Int.{from_bool}
use Rattle.words.specs.Word.{word_range}
use Rattle.words.specs.Lists.{list_from}
use Rattle.words.proofs.ListLaws.{length-list_from, list_from-add}
use Rattle.automaton.specs.StateSet.{StateSet, contains}
use Rattle.operations.specs.Marks.{size_of, final_of, stored_set}
use Rattle.operations.specs.Run.{cells_in}
use Rattle.operations.specs.Listing.{matches_in}
use Rattle.operations.specs.Totals.{totals_of}
use Rattle.sets.specs.Size.{marks_most}
use Rattle.sets.proofs.SizeLaws.{words-few}
use Rattle.sets.proofs.StoredLaws.{row_inside, stored-part}
use Rattle.totals.specs.Countable.{Countable, Few}
use Rattle.totals.proofs.TotalLaws.{total, hit, hits_total, total-append, triple, same-triple}
use Rattle.totals.proofs.StoredTotals.{words-below, length-take-few, flatten-stored, run-few}

-- ---- one set

pub hit_told : (b : Bool) (set : StateSet) (last : ℕ) → b ≡ contains set last → from_bool b ≡ length (matches_in last 0 (set ∷ []))
unfolding matches_in
hit_told b set last e = rw (← e) (go b)
  where
    go : (x : Bool) → from_bool x ≡ length {A = ℕ} (cond x (0 ∷ []) [])
    go true = refl
    go false = refl

hit_few : (last : ℕ) (set : StateSet) → hit last set ≤ 1
hit_few last set = go (contains set last)
  where
    go : (b : Bool) → cond b 1 0 ≤ 1
    go true = omega arith
    go false = omega arith

-- ---- the loop

-- the hits of the nodes from `from` to before i
pub record Counting (marks : List ℕ) (size last from to hits i : ℕ) : Type 0 where
  pub low : from ≤ i
  pub high : i ≤ to
  pub few : hits ≤ i
  pub same : hits ≡ total (hit last) (list_from (stored_set size marks) from (i - from))

-- node i's words lie inside the marks, and their places are small numbers
module _ {marks_length size from to : ℕ} (pre : Countable marks_length size from to) (i : ℕ) (l : i < to) where
  pub counting-row : i * size + size ≤ marks_length
  counting-row = row_inside i to size marks_length l pre.inside

  pub counting-small : i * size + size ≤ marks_most
  counting-small = row_inside i to size marks_most l (words-few to size pre.few pre.small)

module _ (marks : List ℕ) (size last from to : ℕ) (pre : Countable (length marks) size from to) where
  abbrev stored : ℕ → StateSet
  stored = stored_set size marks

  pub counting-none : Counting marks size last from to 0 from
  unfolding total
  counting-none =
      let z : from - from ≡ 0 = omega arith in
      record { low = omega arith; high = pre.order; few = omega arith; same = rw z refl }

  module _ (i : ℕ) (l : i < to) where
    pub counting_more : (hits r : ℕ) → Counting marks size last from to hits i
        → r ≡ length (matches_in last 0 (take (i * size + size - i * size) (drop (i * size) marks) ∷ []))
        → Counting marks size last from to (hits + r) (i + 1)
    unfolding total
    counting_more hits r g q =
        let low = g.low in
        let few = g.few in
        let e : r ≡ hit last (stored i) + 0
        = q ∙ hits_total last (take (i * size + size - i * size) (drop (i * size) marks) ∷ []) 0
        ∙ ap (λ (s : StateSet). hit last s + 0) (stored-part size size marks i refl) in
        let m = hit_few last (stored i) in
        let next : i + 1 - from ≡ i - from + 1 = omega arith in
        let place : from + (i - from) ≡ i = omega arith in
        let t : total (hit last) (list_from stored from (i + 1 - from))
        ≡ total (hit last) (list_from stored from (i - from)) + (hit last (stored i) + 0)
        = ap (λ (n : ℕ). total (hit last) (list_from stored from n)) next
        ∙ ap (total (hit last)) (list_from-add stored (i - from) 1 from)
        ∙ total-append (hit last) (list_from stored from (i - from)) (list_from stored (from + (i - from)) 1)
        ∙ ap (λ (k : ℕ). total (hit last) (list_from stored from (i - from)) + (hit last (stored k) + 0)) place in
        record {
          low = omega arith;
          high = omega arith;
          few = omega (arith, e, m);
          same = omega (arith, t, e, g.same);
        }

  pub counting-end : (hits i : ℕ) → Counting marks size last from to hits i → to ≤ i
      → hits ≡ length (matches_in last 0 (list_from (stored_set size marks) from (to - from)))
  counting-end hits i g l =
      let high = g.high in
      let e : i ≡ to = omega arith in
      g.same ∙ ap (λ (n : ℕ). total (hit last) (list_from stored from (n - from))) e
      ∙ sym (hits_total last (list_from stored from (to - from)) 0)

-- ---- the totals

module _ {marks_length n from to : ℕ} (pre : Countable marks_length n from to) (size : ℕ) (s : size ≡ n) where
  pub rows-countable : Countable marks_length size from to
  rows-countable = rw s pre

  -- the part of the marks that is theirs
  pub part-order : from * size ≤ to * size
  part-order = mul-le-mul_right size pre.order

  pub part_small : to * size ≤ marks_most
  part_small = words-few to size pre.few rows-countable.small

  pub part-inside : to * size ≤ marks_length
  part-inside = rows-countable.inside

  pub part-few : (marks : List ℕ) → length (take (to * size - from * size) (drop (from * size) marks)) ≤ marks_most
  part-few marks =
      let few = length-take-few (to * size - from * size) (drop (from * size) marks) in
      omega (arith, few, part_small)

module _ (table marks : List ℕ) (from to size last hits cells : ℕ) (s : size ≡ size_of table) (f : last ≡ final_of table)
    (h : hits ≡ length (matches_in last 0 (list_from (stored_set size marks) from (to - from))))
    (k : cells ≡ cells_in (take (to * size - from * size) (drop (from * size) marks))) where
  pub part-totals : triple (to - from) hits cells ≡ totals_of table (list_from (stored_set (size_of table) marks) from (to - from))
  unfolding totals_of
  part-totals =
      let words : to * size - from * size ≡ (to - from) * size =
      ap₂ (λ (x y : ℕ). x - y) (mul_comm to size) (mul_comm from size) ∙ sym (mul-sub size to from) ∙ mul_comm size (to - from) in
      same-triple (sym (length-list_from (stored_set (size_of table) marks) (to - from) from))
      (h ∙ ap₂ (λ (x y : ℕ). length (matches_in x 0 (list_from (stored_set y marks) from (to - from)))) f s)
      (k ∙ ap (λ (n : ℕ). cells_in (take n (drop (from * size) marks))) words
      ∙ ap (λ (n : ℕ). cells_in (take ((to - from) * n) (drop (from * n) marks))) s
      ∙ ap cells_in (sym (flatten-stored (size_of table) marks (to - from) from)))

  -- each is small
  pub part-fits : Countable (length marks) (size_of table) from to → ((i : ℕ) → get_or marks i 0 < word_range)
      → Few (triple (to - from) hits cells)
  part-fits pre words =
      let many = pre.few in
      rw part-totals (run-few table marks (words-below word_range marks words) pre.small (to - from) from (omega arith))
