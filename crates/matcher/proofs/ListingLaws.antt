-- Laws of the matches found one node after the other.
use mathlib.Core.Path.{◌≡◌, refl, ap, ap₂, ◌∙◌, sym}
use mathlib.Core.Bool.{true, false, cond}
use mathlib.Core.List.{List, [], ◌∷◌, ◌++◌}
use Prim.Native.Nat.{ℕ, suc, ◌+◌, ◌<◌, ◌≤◌}
use native.Mathlib.Omega.{arith}
use native.Mathlib.Nat.{zero-add, add-zero, add-suc, suc-add}
use lib.ListN.{length, take, drop, length-append}
use lib.Seq.{sets, sets-eq, take_at, drop-append-add, drop-drop}
use Rattle.words.specs.Lists.{list_from, written_over}
use Rattle.words.specs.Answer.{refused, accepted}
use Rattle.words.proofs.ListLaws.{cond-append, list_from-add, length-list_from}
use Rattle.words.specs.Decoded.{number_in}
use Rattle.words.specs.declared.refusal.Refusal.{Refusal}
use Rattle.words.proofs.NumberLaws.{number_some}
use Rattle.words.proofs.AnswerLaws.{answer-refused, answer-accepted, exit-refused, exit-accepted}
use Rattle.automaton.specs.StateSet.{StateSet, contains}
use Rattle.operations.specs.Marks.{size_of, final_of, stored_set}
use Rattle.operations.specs.Listing.{matches_in, matches_of, list_fault, list_answer, list_exit}
use Rattle.operations.proofs.MatchLaws.{matches-few, matches_of-few}

module _ (final : ℕ) where
  matches-append : (l k : List StateSet) (i : ℕ) → matches_in final i (l ++ k) ≡ matches_in final i l ++ matches_in final (i + length l) k
  unfolding matches_in
  matches-append [] k i = rw (add-zero i)
  matches-append (r ∷ l) k i =
      ap (λ (t : List ℕ). cond (contains r final) (i ∷ t) t)
      (matches-append l k (suc i)
      ∙ ap (λ (j : ℕ). matches_in final (suc i) l ++ matches_in final j k) (suc-add i (length l) ∙ sym (add-suc i (length l))))
      ∙ cond-append (contains r final) i (matches_in final (suc i) l) (matches_in final (i + suc (length l)) k)

  -- one node
  pub match-here : (r : StateSet) (i : ℕ) → contains r final ≡ true → matches_in final i (r ∷ []) ≡ i ∷ []
  unfolding matches_in
  match-here r i h = rw h

  pub match_none : (r : StateSet) (i : ℕ) → contains r final ≡ false → matches_in final i (r ∷ []) ≡ []
  unfolding matches_in
  match_none r i h = rw h

-- the matches among the first i nodes stand at the front of the list
pub record FoundMatches (table marks list₀ list : List ℕ) (found i : ℕ) : Type 0 where
  pub long : length list ≡ length list₀
  pub count : found ≡ length (matches_of table i marks)
  pub words : list ≡ written_over (matches_of table i marks) list₀

module _ (table marks : List ℕ) where
  abbrev stored : ℕ → StateSet
  stored = stored_set (size_of table) marks

  matches_of-more : (i : ℕ)
      → matches_of table (i + 1) marks ≡ matches_of table i marks ++ matches_in (final_of table) i (stored_set (size_of table) marks i ∷ [])
  unfolding matches_of
  matches_of-more i =
      let n : 0 + length (list_from stored 0 i) ≡ i = zero-add _ ∙ length-list_from stored i 0 in
      ap (matches_in (final_of table) 0) (list_from-add stored i 1 0)
      ∙ matches-append (final_of table) (list_from stored 0 i) (list_from stored (0 + i) 1) 0
      ∙ ap₂ (λ (j k : ℕ). matches_in (final_of table) 0 (list_from stored 0 i) ++ matches_in (final_of table) j (stored k ∷ [])) n (zero-add i)

  module _ (list₀ : List ℕ) where
    pub found_none : FoundMatches table marks list₀ list₀ 0 0
    unfolding matches_of matches_in
    found_none = record { long = refl; count = refl; words = refl }

    pub found-more : (list : List ℕ) (found i : ℕ) (list' : List ℕ) (found' : ℕ) (set : StateSet) (last : ℕ)
        → FoundMatches table marks list₀ list found i
        → set ≡ stored_set (size_of table) marks i → last ≡ final_of table → i < length list₀
        → found' ≡ found + length (matches_in last i (set ∷ [])) → list' ≡ sets list found (matches_in last i (set ∷ []))
        → length list' ≡ length list → FoundMatches table marks list₀ list' found' (i + 1)
    found-more list found i list' found' set last g es el fits ef eq n =
        let ms = matches_of table i marks in
        let one = matches_in last i (set ∷ []) in
        let few = matches_of-few table marks i in
        let more : matches_of table (i + 1) marks ≡ ms ++ one =
        matches_of-more i ∙ ap₂ (λ (f : ℕ) (s : StateSet). ms ++ matches_in f i (s ∷ [])) (sym el) (sym es) in
        let small = matches-few last (set ∷ []) i in
        let count = g.count in
        let long = g.long in
        let inside : found + length one ≤ length list = omega arith in
        let joined : length (ms ++ one) ≡ found + length one = length-append ms one ∙ ap (λ (k : ℕ). k + length one) (sym count) in
        record {
          long = n ∙ long;
          count = ef ∙ sym (ap length more ∙ joined);
          words =
              eq ∙ sets-eq one list found inside
              ∙ ap₂ (λ (u v : List ℕ). (u ++ one) ++ v)
              (ap (take found) g.words ∙ take_at ms (drop (length ms) list₀) found (sym count))
              (ap₂ (λ (k : ℕ) (l : List ℕ). drop (k + length one) l) count g.words
              ∙ drop-append-add ms (drop (length ms) list₀) (length one) ∙ drop-drop (length one) (length ms) list₀
              ∙ ap (λ (k : ℕ). drop k list₀) (sym (length-append ms one)))
              ∙ ap (λ (l : List ℕ). written_over l list₀) (sym more);
        }

    pub found-end : (list : List ℕ) (found i n : ℕ) → FoundMatches table marks list₀ list found i → i ≤ n → n ≤ i
        → FoundMatches table marks list₀ list found n
    found-end list found i n g h l =
        let q : i ≡ n = omega arith in
        rw (← q) g

-- ---- the answer and the list at exit

module _ (a table : List ℕ) (n : ℕ) (marks list : List ℕ) where
  pub list-refused : (refusal : Refusal) → number_in refusal ≡ list_fault a table n (length marks) (length list)
      → (refused (number_in refusal) ≡ list_answer a table n marks list) × (list ≡ list_exit a table n marks list)
  unfolding list_answer list_exit
  list-refused refusal e = let some = number_some refusal in (answer-refused e _ some, exit-refused e _ list some)

  pub list-accepts : 0 ≡ list_fault a table n (length marks) (length list) → (count : ℕ) (list' : List ℕ)
      → count ≡ length (matches_of table n marks) → list' ≡ written_over (matches_of table n marks) list
      → (accepted (count ∷ []) ≡ list_answer a table n marks list) × (list' ≡ list_exit a table n marks list)
  unfolding list_answer list_exit
  list-accepts e count list' c m = (
    ap (λ (k : ℕ). accepted (k ∷ [])) c ∙ answer-accepted e _ refl,
    m ∙ exit-accepted e _ list refl,
  )
