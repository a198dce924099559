-- Two sets joined word by word: the states of either, and no other.
use mathlib.Core.Path.{◌≡◌, refl, ap, ◌∙◌, sym}
use mathlib.Core.Logic.{◌⊎◌, inl, inr}
use mathlib.Core.Bool.{true, true≢false}
use Prim.Native.Nat.{ℕ, zero, suc, ◌<◌, ◌≤◌, ◌/◌, ◌%◌, ◌^◌, max}
use native.Mathlib.Omega.{arith}
use native.Mathlib.Decide.{ℕ_discrete, dec_lt}
use lib.Bits.{bit_or}
use lib.Dec.{eqb}
use lib.ListN.{length, get_or, set, length-set}
use lib.Seq.{get_or-set_same, get_or-set_other}
use borrow.Author.Tests.{eq-eqb, eqb-true}
use Rattle.words.specs.Lists.{AllBelow}
use Rattle.words.specs.Word.{word_range}
use Rattle.words.proofs.AllLaws.{each_set}
use Rattle.automaton.specs.StateSet.{StateSet, contains}
use Rattle.automaton.proofs.BitLaws.{or-bit, contains-beyond, words-or}
use Rattle.sets.specs.Joined.{joined_to, joined}

pub joined_length : (k : ℕ) (r t : StateSet) → length (joined_to k r t) ≡ length r
unfolding joined_to
joined_length zero r t = refl
joined_length (suc k) r t = length-set (joined_to k r t) k (bit_or (get_or (joined_to k r t) k 0) (get_or t k 0)) ∙ joined_length k r t

-- ---- the words

word-past : (k : ℕ) (r t : StateSet) (i : ℕ) → k ≤ i → get_or (joined_to k r t) i 0 ≡ get_or r i 0
unfolding joined_to
word-past zero r t i h = refl
word-past (suc k) r t i h =
    get_or-set_other (joined_to k r t) k i (bit_or (get_or (joined_to k r t) k 0) (get_or t k 0)) 0 (λ e. omega arith)
    ∙ word-past k r t i (omega arith)

word-joined : (k : ℕ) (r t : StateSet) (i : ℕ) → i < k → i < length r → get_or (joined_to k r t) i 0 ≡ bit_or (get_or r i 0) (get_or t i 0)
unfolding joined_to
word-joined zero r t i h l = absurd (omega arith)
word-joined (suc k) r t i h l = go (ℕ_discrete i k) (λ m. word-joined k r t i m l)
  where
    v : ℕ
    v = bit_or (get_or (joined_to k r t) k 0) (get_or t k 0)

    go : Dec (i ≡ k) → (i < k → get_or (joined_to k r t) i 0 ≡ bit_or (get_or r i 0) (get_or t i 0))
        → get_or (set (joined_to k r t) k v) i 0 ≡ bit_or (get_or r i 0) (get_or t i 0)
    go (yes e) before =
        rw e (get_or-set_same (joined_to k r t) k v 0 (rw (joined_length k r t) (omega arith))
        ∙ ap (λ (x : ℕ). bit_or x (get_or t k 0)) (word-past k r t k (omega arith)))
    go (no e) before = get_or-set_other (joined_to k r t) k i v 0 e ∙ before (omega arith)

-- joined words have 32 bits
pub words-joined : (k : ℕ) (r t : StateSet) → AllBelow word_range r → AllBelow word_range t → AllBelow word_range (joined_to k r t)
unfolding joined_to
words-joined zero r t w v = w
words-joined (suc k) r t w v =
    let before = words-joined k r t w v in
    each_set (λ x. x < word_range) (words-or (joined_to k r t) t k k before v) (joined_to k r t) k before

-- ---- the states

module _ (r t : StateSet) (e : length t ≡ length r) where
  -- the bit of a state in the joined word
  bit : (q : ℕ) → q / 32 < length r
      → get_or (joined r t) (q / 32) 0 / 2 ^ (q % 32) % 2 ≡ max (get_or r (q / 32) 0 / 2 ^ (q % 32) % 2) (get_or t (q / 32) 0 / 2 ^ (q % 32) % 2)
  bit q l =
      ap (λ (x : ℕ). x / 2 ^ (q % 32) % 2) (word-joined (length t) r t (q / 32) (omega arith) l)
      ∙ or-bit (get_or r (q / 32) 0) (get_or t (q / 32) 0) (q % 32)

  within : (q : ℕ) (u : StateSet) → length u ≡ length r → contains u q ≡ true → q / 32 < length r
  within q u n h = go (dec_lt (q / 32) (length r))
    where
      go : Dec (q / 32 < length r) → q / 32 < length r
      go (yes l) = l
      go (no l) = absurd (true≢false (sym h ∙ contains-beyond u q (omega arith)))

  -- as the bits have it
  bit-cases : (q : ℕ) → q / 32 < length r → contains (joined r t) q ≡ true → (contains r q ≡ true) ⊎ (contains t q ≡ true)
  unfolding contains
  bit-cases q l h =
      pick (get_or r (q / 32) 0 / 2 ^ (q % 32)) (get_or t (q / 32) 0 / 2 ^ (q % 32))
      (sym (bit q l) ∙ eqb-true (get_or (joined r t) (q / 32) 0 / 2 ^ (q % 32) % 2) 1 h)
    where
      pick : (x y : ℕ) → max (x % 2) (y % 2) ≡ 1 → (eqb (x % 2) 1 ≡ true) ⊎ (eqb (y % 2) 1 ≡ true)
      pick x y m = at (ℕ_discrete (x % 2) 1)
        where
          at : Dec (x % 2 ≡ 1) → (eqb (x % 2) 1 ≡ true) ⊎ (eqb (y % 2) 1 ≡ true)
          at (yes a) = inl (eq-eqb (x % 2) 1 a)
          at (no a) = inr (eq-eqb (y % 2) 1 (omega arith))

  bit-either : (q : ℕ) → q / 32 < length r → (contains r q ≡ true) ⊎ (contains t q ≡ true) → contains (joined r t) q ≡ true
  unfolding contains
  bit-either q l h =
      eq-eqb (get_or (joined r t) (q / 32) 0 / 2 ^ (q % 32) % 2) 1
      (bit q l ∙ one (get_or r (q / 32) 0 / 2 ^ (q % 32)) (get_or t (q / 32) 0 / 2 ^ (q % 32)) h)
    where
      one : (x y : ℕ) → (eqb (x % 2) 1 ≡ true) ⊎ (eqb (y % 2) 1 ≡ true) → max (x % 2) (y % 2) ≡ 1
      one x y (inl a) = omega (arith, eqb-true (x % 2) 1 a)
      one x y (inr a) = omega (arith, eqb-true (y % 2) 1 a)

  pub joined-cases : (q : ℕ) → contains (joined r t) q ≡ true → (contains r q ≡ true) ⊎ (contains t q ≡ true)
  joined-cases q h = bit-cases q (within q (joined r t) (joined_length (length t) r t) h) h

  pub joined-left : (q : ℕ) → contains r q ≡ true → contains (joined r t) q ≡ true
  joined-left q h = bit-either q (within q r refl h) (inl h)

  pub joined-right : (q : ℕ) → contains t q ≡ true → contains (joined r t) q ≡ true
  joined-right q h = bit-either q (within q t e h) (inr h)
