-- Stored state sets that are counted: the words of those that stand one behind the other, and how much they are at most.
use mathlib.Core.Path.{◌≡◌, refl, ap, ◌∙◌, sym}
use mathlib.Core.List.{List, [], ◌∷◌, ◌++◌, flatten, map}
use Prim.Native.Nat.{ℕ, zero, suc, ◌*◌, ◌<◌, ◌≤◌}
use native.Mathlib.Omega.{arith}
use native.Mathlib.Nat.{zero-mul, suc-mul, add_comm, le_trans, mul-le-mul, mul-le-mul_right}
use lib.ListN.{length, get_or, take, drop}
use lib.Seq.{drop-drop, take-add}
use Rattle.words.specs.Word.{word_range}
use Rattle.words.specs.Limits.{nodes_most}
use Rattle.words.specs.Lists.{All, AllBelow, list_from}
use Rattle.words.proofs.AllLaws.{each_take, each-drop, each-list_from}
use Rattle.words.proofs.ListLaws.{length-list_from}
use Rattle.automaton.specs.StateSet.{StateSet}
use Rattle.operations.specs.Marks.{size_of, final_of, stored_set}
use Rattle.operations.specs.Run.{cells_in}
use Rattle.operations.specs.Totals.{totals_of}
use Rattle.operations.proofs.CellLaws.{cells-sets}
use Rattle.operations.proofs.MatchLaws.{matches-few}
use Rattle.sets.specs.Size.{set_most}
use Rattle.totals.specs.Countable.{Few}
use Rattle.totals.proofs.TotalLaws.{total, total-most, cells-total}

-- ---- their words

-- every index has a word
pub words-below : (n : ℕ) (l : List ℕ) → ((i : ℕ) → get_or l i 0 < n) → AllBelow n l
words-below n [] h = tt
words-below n (x ∷ l) h = (h 0, words-below n l (λ i. h (suc i)))

pub length-take-few : (n : ℕ) (l : List ℕ) → length (take n l) ≤ n
length-take-few zero l = omega arith
length-take-few (suc n) [] = omega arith
length-take-few (suc n) (x ∷ l) = omega (arith, length-take-few n l)

-- a word has at most 32 ones
pub cells-set : (size : ℕ) (r : StateSet) → length r ≤ size → AllBelow word_range r → cells_in r ≤ size * 32
unfolding total
cells-set size r few words =
    let most = cells-sets (length r) (r ∷ []) (refl, tt) (words, tt) in
    omega (arith, few, most, cells-total (r ∷ []))

module _ (size : ℕ) (marks : List ℕ) where
  -- sets that stand one behind the other are one part of the marks
  pub flatten-stored : (n j : ℕ) → flatten (list_from (stored_set size marks) j n) ≡ take (n * size) (drop (j * size) marks)
  unfolding flatten stored_set
  flatten-stored zero j = ap (λ (i : ℕ). take i (drop (j * size) marks)) (sym (zero-mul size))
  flatten-stored (suc n) j =
      let here = drop (j * size) marks in
      ap (λ (t : List ℕ). take size here ++ t)
      (flatten-stored n (suc j) ∙ ap (λ (i : ℕ). take (n * size) (drop i marks)) (suc-mul j size)
      ∙ ap (take (n * size)) (sym (drop-drop size (j * size) marks)))
      ∙ sym (take-add size (n * size) here)
      ∙ ap (λ (i : ℕ). take i here) (add_comm size (n * size) ∙ sym (suc-mul n size))

  -- a stored set is no longer
  pub cells-stored : AllBelow word_range marks → (j : ℕ) → cells_in (stored_set size marks j) ≤ size * 32
  unfolding stored_set
  cells-stored words j =
      let below : ℕ → Type 0 = λ x. x < word_range in
      cells-set size (take size (drop (j * size) marks)) (length-take-few size (drop (j * size) marks))
      (each_take below size (drop (j * size) marks) (each-drop below (j * size) marks words))

-- ---- how much they are

pub each_of : {A : Type 0} (P : A → Type 0) (f : ℕ → A) → ((k : ℕ) → P (f k)) → (ns : List ℕ) → All P (map f ns)
each_of P f h [] = tt
each_of P f h (k ∷ ns) = (h k, each_of P f h ns)

-- no more hits than elements, and so many cells for each
pub totals-hits : (table : List ℕ) (rs : List StateSet) → (totals_of table rs).hits ≤ length rs
unfolding totals_of
totals-hits table rs = matches-few (final_of table) rs 0

pub totals-cells : (table : List ℕ) (n : ℕ) (rs : List StateSet) → All (λ r. cells_in r ≤ n) rs → (totals_of table rs).cells ≤ length rs * n
unfolding totals_of
totals-cells table n rs h = rw (cells-total rs) (total-most cells_in n rs h)

totals-few : (table : List ℕ) (n : ℕ) (rs : List StateSet) → n ≤ set_most * 32 → length rs ≤ nodes_most → All (λ r. cells_in r ≤ n) rs
    → Few (totals_of table rs)
unfolding totals_of
totals-few table n rs h few each =
    let cells = totals-cells table n rs each in
    let most : length rs * n ≤ nodes_most * (set_most * 32) = mul-le-mul few h in
    record { elements-few = few; hits_few = le_trans (totals-hits table rs) few; cells-few = le_trans cells most }

module _ (table marks : List ℕ) (words : AllBelow word_range marks) (small : size_of table ≤ set_most) where
  abbrev stored : ℕ → StateSet
  stored = stored_set (size_of table) marks

  few-cells : size_of table * 32 ≤ set_most * 32
  few-cells = mul-le-mul_right 32 small

  pub nodes-few : (ns : List ℕ) → length (map stored ns) ≤ nodes_most → Few (totals_of table (map stored ns))
  nodes-few ns few =
      totals-few table (size_of table * 32) (map stored ns) few-cells few
      (each_of (λ r. cells_in r ≤ size_of table * 32) stored (cells-stored (size_of table) marks words) ns)

  pub run-few : (n j : ℕ) → n ≤ nodes_most → Few (totals_of table (list_from stored j n))
  run-few n j few =
      totals-few table (size_of table * 32) (list_from stored j n) few-cells (rw (length-list_from stored n j) few)
      (each-list_from (λ r. cells_in r ≤ size_of table * 32) stored n j (λ i l. cells-stored (size_of table) marks words i))
