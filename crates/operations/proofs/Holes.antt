-- Document 02's U8 holds: accepted chapters, replacements and results are hole-free, and without holes all reads as before.
use Prim.Native.Nat.{ℕ, ◌*◌, ◌<◌}
use mathlib.Core.Path.{◌≡◌, refl, ap, ap₂, ◌∙◌, sym}
use mathlib.Core.Logic.{◌⊎◌, inl, inr}
use mathlib.Core.Bool.{Bool, true, false, not, cond, ◌&&◌, ◌||◌}
use mathlib.Core.List.{List, [], ◌∷◌}
use native.Mathlib.Omega.{arith}
use lib.ListN.{length}
use lib.Dec.{ltb, leb}
use borrow.Author.Tests.{lt-ltb, ltb-true, eqb-true, eqb-false, eq-eqb, ne_eqb, not-true}
use Rattle.words.specs.Lists.{all, some}
use Rattle.words.specs.Limits.{outside, alphabet_most, rank_most}
use Rattle.words.specs.Word.{Kind, entry_kind, product_kind, closure_kind, kind_number, number_of, kind_of, has_kind, body_of, is_of}
use Rattle.words.specs.Word.{symbol_range, hole_range, spare_bits_clear, low_byte, hole_above}
use Rattle.words.specs.Alphabet.{entry_rank, marks_hole, is_entry, is_constant, has_holes, may_name, no_alphabet}
use Rattle.words.specs.ExpressionWords.{names_at, is_expression_word, not_expression_words}
use Rattle.words.specs.Chapter.{holes_in}
use Rattle.words.proofs.TestLaws.{Tested, holds, fails, tested, same_truth, and-true, true-and, and_none, or-true}
use Rattle.words.proofs.KindLaws.{has_kind-kind_of, is_of-facts, is-of}
use Rattle.words.proofs.AnswerLaws.{accepted-values}
use Rattle.words.proofs.AcceptedAlphabet.{alphabet-accepted}
use Rattle.words.proofs.HoleLaws.{hole-constant, may_name-holes, splice-holes, may_name-without, holes_in-without}
use Rattle.language.proofs.HoleFreeLaws.{subject-hole_free, hole_free-without}
use Rattle.operations.specs.Run.{run_fault, run_answer}
use Rattle.operations.specs.Exchange.{used, fault, new_tree, exchange_answer}
use Rattle.operations.specs.Demands.{is_plain_entry, no_plain_alphabet, is_plain_word, HoleFreeWords, Holes}
use Rattle.operations.proofs.AcceptedLaws.{TableAccepted, run-accepted, call-accepted}

-- ---- document 01's alphabets

-- an entry in which no bit above the rank is set is one without a mark
plain_entry : (w : ℕ) → is_plain_entry w ≡ is_entry w && not (marks_hole w)
unfolding is_entry marks_hole spare_bits_clear
plain_entry w = same_truth (is_plain_entry w) (is_entry w && not (marks_hole w)) to from
  where
    to : is_plain_entry w ≡ true → is_entry w && not (marks_hole w) ≡ true
    to h =
        let p = and-true (has_kind entry_kind w && ltb (body_of w) symbol_range) (leb (entry_rank w) rank_most) h in
        let q = and-true (has_kind entry_kind w) (ltb (body_of w) symbol_range) p.0 in
        let l : body_of w < symbol_range = ltb-true (body_of w) symbol_range q.1 in
        let e = has_kind-kind_of entry_kind w q.0 in
        let m : marks_hole w ≡ false = ne_eqb (hole_above w) 1 (λ k. omega arith) in
        let clear : spare_bits_clear w ≡ true = rw e (lt-ltb (body_of w) (hole_range * symbol_range) (omega arith)) in
        let of : is_of entry_kind w ≡ true = is-of entry_kind w (eqb-true (number_of w) (kind_number entry_kind) q.0) clear in
        true-and (is_entry w) (not (marks_hole w))
        (true-and (is_of entry_kind w) (leb (entry_rank w) (cond (marks_hole w) 0 rank_most)) of (rw m p.1))
        (rw m)

    from : is_entry w && not (marks_hole w) ≡ true → is_plain_entry w ≡ true
    from h =
        let p = and-true (is_entry w) (not (marks_hole w)) h in
        let q = and-true (is_of entry_kind w) (leb (entry_rank w) (cond (marks_hole w) 0 rank_most)) p.0 in
        let m = not-true (marks_hole w) p.1 in
        let f = is_of-facts entry_kind w q.0 in
        let l = f.body in
        let k = eqb-false (hole_above w) 1 m in
        true-and (has_kind entry_kind w && ltb (body_of w) symbol_range) (leb (entry_rank w) rank_most)
        (true-and (has_kind entry_kind w) (ltb (body_of w) symbol_range) (eq-eqb (number_of w) (kind_number entry_kind) f.number)
        (lt-ltb (body_of w) symbol_range (omega arith)))
        (rw m at q.1)

regrouped : (b c d e : Bool) → (b && not c) && (d && not e) ≡ (b && d) && not (c || e)
regrouped true true d e = sym (and_none d)
regrouped true false d e = refl
regrouped false c d e = refl

plain-entries : (a : List ℕ) → all is_plain_entry a ≡ all is_entry a && not (has_holes a)
unfolding has_holes
plain-entries [] = refl
plain-entries (w ∷ ws) =
    ap₂ (λ (b c : Bool). b && c) (plain_entry w) (plain-entries ws)
    ∙ regrouped (is_entry w) (marks_hole w) (all is_entry ws) (some marks_hole ws)

after-length : (o e h : Bool) → o || not (e && not h) ≡ o || not e || h
after-length true e h = refl
after-length false true true = refl
after-length false true false = refl
after-length false false h = refl

plain-alphabet : (a : List ℕ) → no_plain_alphabet a ≡ no_alphabet a || has_holes a
unfolding no_alphabet
plain-alphabet a =
    ap (λ (b : Bool). outside alphabet_most (length a) || not b) (plain-entries a)
    ∙ after-length (outside alphabet_most (length a)) (all is_entry a) (has_holes a)

-- ---- document 01's rules

module _ (a : List ℕ) (e : has_holes a ≡ false) where
  -- a product or closure word names what any constant may name
  names-constant : (w : ℕ) (k : Kind) → kind_of w ≡ k → names_at a (low_byte w) k ≡ may_name a (low_byte w)
      → is_expression_word a w ≡ spare_bits_clear w && is_constant a (low_byte w)
  unfolding is_expression_word
  names-constant w k q n =
      ap (λ (b : Bool). spare_bits_clear w && b) (ap (names_at a (low_byte w)) q ∙ n ∙ may_name-without a e (low_byte w))

  plain_word : (w : ℕ) → is_expression_word a w ≡ is_plain_word a w
  plain_word w = go (tested (has_kind product_kind w || has_kind closure_kind w))
    where
      named : (has_kind product_kind w ≡ true) ⊎ (has_kind closure_kind w ≡ true)
          → is_expression_word a w ≡ spare_bits_clear w && is_constant a (low_byte w)
      named (inl p) = names-constant w product_kind (has_kind-kind_of product_kind w p) refl
      named (inr p) = names-constant w closure_kind (has_kind-kind_of closure_kind w p) refl

      go : Tested (has_kind product_kind w || has_kind closure_kind w) → is_expression_word a w ≡ is_plain_word a w
      go (holds t) = named (or-true (has_kind product_kind w) (has_kind closure_kind w) t) ∙ sym (rw t)
      go (fails t) = sym (rw t)

  plain-words : (l : List ℕ) → all (is_expression_word a) l ≡ all (is_plain_word a) l
  plain-words [] = refl
  plain-words (w ∷ ws) = ap₂ (λ (b c : Bool). b && c) (plain_word w) (plain-words ws)

-- ---- accepted calls

free-words : (a table ch : List ℕ) → TableAccepted a table → holes_in a ch ≡ false → HoleFreeWords a ch
free-words a table ch t h x k = (subject-hole_free a (alphabet-accepted a t.alphabet).counted.few ch x k).0 h

pub holes : Holes
unfolding not_expression_words run_answer fault exchange_answer new_tree
holes = record {
  constant = λ a s p h. hole-constant a p s h;
  named = λ a c p h. may_name-holes a p h c;
  judged = λ a ch t m k. subject-hole_free a m ch t k;
  run = λ a table ch marks n cells h.
      let k = run-accepted a table ch (length marks) (accepted-values (run_fault a table ch (length marks)) _ _ h).0 in
      free-words a table ch k.checked k.marked.free;
  exchange = λ c t n m h.
      let k = call-accepted c t (accepted-values (fault c t) _ _ h).0 in
      let free = splice-holes c.alphabet (used c) c.element c.replacement k.marked.free k.change.free in (
        free-words c.alphabet c.table (used c) k.checked k.marked.free,
        free-words c.alphabet c.table c.replacement k.checked k.change.free,
        free-words c.alphabet c.table (new_tree c) k.checked free,
      );
  alphabets = plain-alphabet;
  rules = λ a e table_length h. rw (plain-words a h e);
  constants = λ a c h. may_name-without a h c;
  trees = λ a t h. hole_free-without a h t;
  members = λ a E t h. ((λ k. k.1), (λ k. (hole_free-without a h t, k)));
  runs = λ a table ch marks_length h. rw (holes_in-without a h ch);
  exchanges = λ c t h. rw (holes_in-without c.alphabet h (used c), holes_in-without c.alphabet h c.replacement);
}
