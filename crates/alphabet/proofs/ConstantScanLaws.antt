-- The constants of an alphabet, word by word: those of the first i entries, and a list that they are written
-- into.
use mathlib.Core.Path.{◌≡◌, refl, ap, ◌∙◌, sym, subst}
use mathlib.Core.Bool.{true, false, cond}
use mathlib.Core.List.{List, [], ◌∷◌, ◌++◌, append-nil}
use Prim.Native.Nat.{ℕ, suc, ◌+◌, ◌<◌, ◌≤◌}
use native.Mathlib.Omega.{arith}
use native.Mathlib.Nat.{add-zero, add-suc, suc-add, zero-add}
use native.Mathlib.Numerals.{add-one}
use lib.ListN.{length, get_or, take, set, length-append}
use lib.Seq.{sets, length-sets, take-suc, take_all, length-take-le, set_out}
use lib.Dec.{ltb, eqb}
use borrow.Author.Tests.{lt-ltb, ltb-true, ltb-false}
use Rattle.words.specs.Limits.{alphabet_most}
use Rattle.words.specs.Alphabet.{entry_rank, rank_of, is_symbol, is_constant, constants_from, constants_of}
use Rattle.words.proofs.TestLaws.{Tested, holds, fails, tested, and-true}
use Rattle.words.proofs.ListLaws.{sets-append, cond-append}

-- the constants of two parts of an alphabet
constants_from-append : (s : ℕ) (l k : List ℕ) → constants_from s (l ++ k) ≡ constants_from s l ++ constants_from (s + length l) k
unfolding constants_from
constants_from-append s [] k = rw (add-zero s)
constants_from-append s (w ∷ l) k =
    rw (add-suc, ← suc-add, constants_from-append (suc s) l k)
    (cond-append (eqb (entry_rank w) 0) s (constants_from (suc s) l) (constants_from (suc s + length l) k))

module _ (a : List ℕ) (i : ℕ) where
  is_constant-rank : i < length a → is_constant a i ≡ eqb (entry_rank (get_or a i 0)) 0
  unfolding is_constant rank_of
  is_constant-rank h = rw (lt-ltb i (length a) h)

  is_constant-symbol : is_constant a i ≡ true → i < length a
  unfolding is_constant
  is_constant-symbol e = ltb-true i (length a) (and-true (is_symbol a i) (eqb (rank_of a i) 0) e).0

  -- one entry more
  constants-step : i < length a → constants_of (take (i + 1) a) ≡ constants_of (take i a) ++ cond (is_constant a i) (i ∷ []) []
  unfolding constants_of constants_from
  constants-step h =
      ap (λ (n : ℕ). constants_from 0 (take n a)) (add-one i)
      ∙ ap (constants_from 0) (take-suc a i 0 h)
      ∙ constants_from-append 0 (take i a) (get_or a i 0 ∷ [])
      ∙ ap (λ (n : ℕ). constants_from 0 (take i a) ++ constants_from n (get_or a i 0 ∷ []))
      (zero-add (length (take i a)) ∙ length-take-le i a (omega arith))
      ∙ rw (is_constant-rank h)

  constants-more : is_constant a i ≡ true → constants_of (take (i + 1) a) ≡ constants_of (take i a) ++ i ∷ []
  constants-more e = constants-step (is_constant-symbol e) ∙ rw e

  constants-skip : is_constant a i ≡ false → constants_of (take (i + 1) a) ≡ constants_of (take i a)
  constants-skip e = go (tested (ltb i (length a)))
    where
      go : Tested (ltb i (length a)) → constants_of (take (i + 1) a) ≡ constants_of (take i a)
      go (holds h) = constants-step (ltb-true i (length a) h) ∙ rw e (append-nil (constants_of (take i a)))
      go (fails h) =
          let l = ltb-false i (length a) h in
          ap constants_of (take_all (i + 1) a (omega arith) ∙ sym (take_all i a l))

-- ---- n of the first i entries are constants

pub record Counted (a : List ℕ) (n i : ℕ) : Type 0 where
  pub few : n ≤ i
  pub count : n ≡ length (constants_of (take i a))

pub counted_none : (a : List ℕ) → Counted a 0 0
unfolding constants_of constants_from
counted_none a = record { few = omega arith; count = refl }

module _ {a : List ℕ} {n i : ℕ} (c : Counted a n i) where
  pub counted-more : is_constant a i ≡ true → Counted a (n + 1) (i + 1)
  counted-more e = let few = c.few in record { few = omega arith; count = rw (constants-more a i e, length-append, ← c.count) }

  pub counted_skip : is_constant a i ≡ false → Counted a n (i + 1)
  counted_skip e = let few = c.few in record { few = omega arith; count = rw (constants-skip a i e) c.count }

-- ---- writing: the n constants of the first i entries, at most as many as an alphabet can have, are stored from the first word on

pub record Written (a list₀ list : List ℕ) (n i : ℕ) : Type 0 where
  pub counted : Counted a n i
  pub low : i ≤ alphabet_most
  pub words : list ≡ sets list₀ 0 (constants_of (take i a))

pub written_none : (a list : List ℕ) → Written a list list 0 0
unfolding constants_of constants_from
written_none a list = record { counted = counted_none a; low = omega arith; words = refl }

module _ {a list₀ list : List ℕ} {n i : ℕ} (w : Written a list₀ list n i) where
  pub written-length : length list ≡ length list₀
  written-length = ap length w.words ∙ length-sets list₀ 0 (constants_of (take i a))

  pub written-more : i < alphabet_most → is_constant a i ≡ true → Written a list₀ (set list n i) (n + 1) (i + 1)
  written-more h e =
      let before = constants_of (take i a) in
      record {
        counted = counted-more w.counted e;
        low = omega arith;
        words =
            rw (w.words, w.counted.count)
            (sym (sets-append before (i ∷ []) list₀ 0 ∙ ap (λ (k : ℕ). set (sets list₀ 0 before) k i) (zero-add (length before)))
            ∙ rw (constants-more a i e));
      }

  -- a constant past the end of the list is left out
  pub written-past : i < alphabet_most → is_constant a i ≡ true → length list ≤ n → Written a list₀ list (n + 1) (i + 1)
  written-past h e l = rw (set_out list n i l) at (written-more h e)

  pub written-skip : i < alphabet_most → is_constant a i ≡ false → Written a list₀ list n (i + 1)
  written-skip h e = record { counted = counted_skip w.counted e; low = omega arith; words = w.words ∙ rw (constants-skip a i e) }

  pub written-end : alphabet_most ≤ i
      → (n ≡ length (constants_of (take alphabet_most a))) × (list ≡ sets list₀ 0 (constants_of (take alphabet_most a)))
  written-end h =
      let low = w.low in
      let e : i ≡ alphabet_most = omega arith in
      subst (λ (k : ℕ). (n ≡ length (constants_of (take k a))) × (list ≡ sets list₀ 0 (constants_of (take k a)))) e
      (w.counted.count, w.words)
