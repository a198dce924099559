-- The loop that counts the nodes of a list, and their totals with those of nodes that stand one behind the other.
use mathlib.Core.Path.{◌≡◌, refl, ap, ap₂, ◌∙◌, sym}
use mathlib.Core.List.{List, [], ◌∷◌, ◌++◌, map}
use Prim.Native.Nat.{ℕ, ◌+◌, ◌-◌, ◌*◌, ◌<◌, ◌≤◌}
use native.Mathlib.Omega.{arith}
use native.Mathlib.Nat.{add-zero, le_trans, mul-le-mul, mul-le-mul_right}
use native.Mathlib.Numerals.{add-one}
use lib.ListN.{length, get_or, take, drop, length-map}
use lib.Seq.{take-suc, take_all}
use Rattle.words.specs.Word.{word_range}
use Rattle.words.specs.Limits.{nodes_most, cells_most}
use Rattle.words.specs.Lists.{list_from}
use Rattle.words.proofs.AllLaws.{each-get_or}
use Rattle.words.proofs.ListLaws.{map-append, length-take-most}
use Rattle.automaton.specs.StateSet.{StateSet}
use Rattle.operations.specs.Marks.{size_of, final_of, stored_set}
use Rattle.operations.specs.Run.{cells_in}
use Rattle.operations.specs.Listing.{matches_in}
use Rattle.operations.specs.Totals.{Totals, totals_of}
use Rattle.operations.proofs.MatchLaws.{matches-few}
use Rattle.sets.specs.Size.{set_most, marks_most}
use Rattle.sets.proofs.StoredLaws.{stored-part}
use Rattle.totals.specs.Listed.{NumbersCountable, ListedCountable}
use Rattle.totals.specs.Sum.{sum_totals, Addable}
use Rattle.totals.proofs.TotalLaws.{total, hit, total-append, total-most, hits_total, cells-total}
use Rattle.totals.proofs.TotalLaws.{triple, same-triple, totals-append}
use Rattle.totals.proofs.StoredTotals.{words-below, length-take-few, cells-stored, each_of, nodes-few, run-few}
use Rattle.totals.proofs.HitLaws.{counting-row, counting-small}
use Rattle.totals.proofs.PlaceLaws.{few-addable}

-- the totals of the first k nodes of the list
pub record CountedTo (marks : List ℕ) (size last : ℕ) (list : List ℕ) (hits cells k : ℕ) : Type 0 where
  pub high : k ≤ length list
  pub same-hits : hits ≡ total (hit last) (map (stored_set size marks) (take k list))
  pub same-cells : cells ≡ total cells_in (map (stored_set size marks) (take k list))

module _ (marks : List ℕ) (size last : ℕ) (list : List ℕ) where
  abbrev stored : ℕ → StateSet
  stored = stored_set size marks

  abbrev sets_to : ℕ → List StateSet
  sets_to k = map stored (take k list)

  pub counted_none : CountedTo marks size last list 0 0 0
  unfolding total
  counted_none = record { high = omega arith; same-hits = refl; same-cells = refl }

  module _ (pre : NumbersCountable (length marks) size list) where
    -- one node
    module _ (k : ℕ) (l : k < length list) where
      number-below : get_or list k 0 < pre.bound
      number-below = each-get_or (λ x. x < pre.bound) 0 list k pre.below l

      pub counted-row : get_or list k 0 * size + size ≤ length marks
      counted-row = counting-row pre.nodes (get_or list k 0) number-below

      pub counted-small : get_or list k 0 * size + size ≤ marks_most
      counted-small = counting-small pre.nodes (get_or list k 0) number-below

      pub counted-part : length (take (get_or list k 0 * size + size - get_or list k 0 * size) (drop (get_or list k 0 * size) marks)) ≤ marks_most
      counted-part =
          let at = get_or list k 0 * size in
          let few = length-take-few (at + size - at) (drop at marks) in
          omega (arith, few, counted-small)

      part : take (get_or list k 0 * size + size - get_or list k 0 * size) (drop (get_or list k 0 * size) marks) ≡ stored (get_or list k 0)
      part = stored-part size size marks (get_or list k 0) refl

      total-next : (f : StateSet → ℕ) → total f (sets_to (k + 1)) ≡ total f (sets_to k) + f (stored (get_or list k 0))
      unfolding total
      total-next f =
          ap (λ (n : ℕ). total f (sets_to n)) (add-one k)
          ∙ ap (λ (ns : List ℕ). total f (map stored ns)) (take-suc list k 0 l)
          ∙ ap (total f) (map-append stored (take k list) (get_or list k 0 ∷ []))
          ∙ total-append f (sets_to k) (stored (get_or list k 0) ∷ [])
          ∙ ap (λ (n : ℕ). total f (sets_to k) + n) (add-zero (f (stored (get_or list k 0))))

      pub hits_next : (hits r : ℕ) → hits ≡ total (hit last) (map (stored_set size marks) (take k list))
          → r
          ≡ length
          (matches_in last 0 (take (get_or list k 0 * size + size - get_or list k 0 * size) (drop (get_or list k 0 * size) marks) ∷ []))
          → hits + r ≡ total (hit last) (map (stored_set size marks) (take (k + 1) list))
      unfolding total
      hits_next hits r e q =
          ap₂ ◌+◌ e
          (q ∙ ap (λ (s : StateSet). length (matches_in last 0 (s ∷ []))) part ∙ hits_total last (stored (get_or list k 0) ∷ []) 0
          ∙ add-zero (hit last (stored (get_or list k 0))))
          ∙ sym (total-next (hit last))

      pub cells-next : (cells r : ℕ) → cells ≡ total cells_in (map (stored_set size marks) (take k list))
          → r ≡ cells_in (take (get_or list k 0 * size + size - get_or list k 0 * size) (drop (get_or list k 0 * size) marks))
          → cells + r ≡ total cells_in (map (stored_set size marks) (take (k + 1) list))
      cells-next cells r e q = ap₂ ◌+◌ e (q ∙ ap cells_in part) ∙ sym (total-next cells_in)

    -- how much they are
    module _ (k : ℕ) where
      sets-few : length (sets_to k) ≤ nodes_most
      sets-few =
          let short = pre.short in
          let most = length-take-most list k in
          rw (length-map (take k list) stored) (omega arith)

      pub hits-small : (hits : ℕ) → hits ≡ total (hit last) (map (stored_set size marks) (take k list)) → hits ≤ nodes_most
      hits-small hits e = let most = matches-few last (sets_to k) 0 in omega (arith, e, hits_total last (sets_to k) 0, most, sets-few)

      pub cells-small : ((i : ℕ) → get_or marks i 0 < word_range) → (cells : ℕ)
          → cells ≡ total cells_in (map (stored_set size marks) (take k list)) → cells ≤ cells_most
      cells-small words cells e =
          let below = words-below word_range marks words in
          let each = each_of (λ r. cells_in r ≤ size * 32) stored (cells-stored size marks below) (take k list) in
          let most : length (sets_to k) * (size * 32) ≤ nodes_most * (set_most * 32) =
          mul-le-mul sets-few (mul-le-mul_right 32 pre.nodes.small) in
          rw e (le_trans (total-most cells_in (size * 32) (sets_to k) each) most)

  pub counted-end : (hits cells k : ℕ) → CountedTo marks size last list hits cells k → length list ≤ k
      → (table : List ℕ) → last ≡ final_of table → triple (length list) hits cells ≡ totals_of table (map (stored_set size marks) list)
  unfolding totals_of
  counted-end hits cells k g l table f =
      let all : take k list ≡ list = take_all k list l in
      same-triple (sym (length-map list stored))
      (g.same-hits ∙ ap (λ (ns : List ℕ). total (hit last) (map stored ns)) all ∙ sym (hits_total last (map stored list) 0)
      ∙ ap (λ (x : ℕ). length (matches_in x 0 (map stored list))) f)
      (g.same-cells ∙ ap (λ (ns : List ℕ). total cells_in (map stored ns)) all ∙ sym (cells-total (map stored list)))

-- ---- with those of nodes that stand one behind the other

module _ (table marks : List ℕ) (from to : ℕ) (list : List ℕ) (size last : ℕ) (s : size ≡ size_of table) (f : last ≡ final_of table) where
  pub numbers-countable : ListedCountable (length marks) (size_of table) from to list → NumbersCountable (length marks) size list
  numbers-countable pre = rw s pre.numbers

  module _ (run listed : Totals) (p : run ≡ totals_of table (list_from (stored_set (size_of table) marks) from (to - from)))
      (q : (table : List ℕ) → last ≡ final_of table → listed ≡ totals_of table (map (stored_set size marks) list)) where
    listed_same : listed ≡ totals_of table (map (stored_set (size_of table) marks) list)
    listed_same = q table f ∙ ap (λ (y : ℕ). totals_of table (map (stored_set y marks) list)) s

    pub listed-addable : ListedCountable (length marks) (size_of table) from to list → ((i : ℕ) → get_or marks i 0 < word_range)
        → Addable run listed
    listed-addable pre words =
        let few = pre.run.few in
        let below = words-below word_range marks words in
        few-addable run listed (rw p (run-few table marks below pre.run.small (to - from) from (omega arith)))
        (rw listed_same
        (nodes-few table marks below pre.run.small list
        (rw (length-map list (stored_set (size_of table) marks)) pre.numbers.short)))

    pub listed-sum : (r : Totals) → r ≡ sum_totals run listed
        → r
        ≡ totals_of table
        (list_from (stored_set (size_of table) marks) from (to - from) ++ map (stored_set (size_of table) marks) list)
    listed-sum r e =
        e ∙ ap₂ sum_totals p listed_same
        ∙ sym (totals-append table (list_from (stored_set (size_of table) marks) from (to - from))
        (map (stored_set (size_of table) marks) list))
