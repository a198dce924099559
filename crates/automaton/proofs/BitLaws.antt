-- Laws of state sets as words of bits: what `insert` adds and keeps, and that a set is determined by the states that it
-- contains.
use mathlib.Core.Path.{◌≡◌, refl, ap, ◌∙◌, sym}
use mathlib.Core.Logic.{◌≢◌}
use mathlib.Core.Bool.{Bool, true, false, true≢false, false≢true}
use mathlib.Core.List.{List, [], ◌∷◌}
use Prim.Native.Nat.{ℕ, zero, suc, ◌+◌, ◌*◌, ◌-◌, ◌<◌, ◌≤◌, ◌/◌, ◌%◌, ◌^◌, max}
use native.Mathlib.Omega.{arith}
use native.Mathlib.Decide.{ℕ_discrete, dec_lt}
use native.Mathlib.Nat.{div_self, div-eq_of_lt, pow-suc}
use lib.Pow.{pow_pos, pow-lt, pow-add, shl-shr, shr-shr}
use lib.Bits.{bit_or, or_shr, or_step, or_lt}
use lib.ListN.{length, get_or, set, replicate, length-set, length-replicate, get_or-replicate, get_or-eq_default}
use lib.Seq.{get_or-set_same, get_or-set_other, set_out, ext_get_or}
use lib.Dec.{eqb}
use borrow.Author.Tests.{eq-eqb, eqb-true, eqb-false}
use Rattle.words.specs.Lists.{AllBelow}
use Rattle.words.specs.Word.{word_range}
use Rattle.words.proofs.AllLaws.{each-default, each_set, each-get_or}
use Rattle.automaton.specs.StateSet.{StateSet, contains, insert}

-- ---- bits of a number

-- a bit of an or is the larger of the two bits
pub or-bit : (a b k : ℕ) → bit_or a b / 2 ^ k % 2 ≡ max (a / 2 ^ k % 2) (b / 2 ^ k % 2)
or-bit a b k =
    ap (λ (x : ℕ). x % 2) (or_shr a b k ∙ or_step (a / 2 ^ k) (b / 2 ^ k))
    ∙ low (bit_or (a / 2 ^ k / 2) (b / 2 ^ k / 2)) (a / 2 ^ k) (b / 2 ^ k)
  where
    low : (x p q : ℕ) → (x * 2 + max (p % 2) (q % 2)) % 2 ≡ max (p % 2) (q % 2)
    low x p q = omega arith

one-bit-same : (k : ℕ) → 2 ^ k / 2 ^ k % 2 ≡ 1
one-bit-same k = ap (λ (x : ℕ). x % 2) (div_self (pow_pos k))

one-bit-other : (j k : ℕ) → k ≢ j → 2 ^ j / 2 ^ k % 2 ≡ 0
one-bit-other j k h = go (dec_lt j k)
  where
    double : (x : ℕ) → x * 2 % 2 ≡ 0
    double x = omega arith

    go : Dec (j < k) → 2 ^ j / 2 ^ k % 2 ≡ 0
    go (yes l) = ap (λ (x : ℕ). x % 2) (div-eq_of_lt (pow-lt l))
    go (no l) =
        let e : j ≡ suc (j - k - 1) + k = omega arith in
        ap (λ (x : ℕ). 2 ^ x / 2 ^ k % 2) e
        ∙ ap (λ (x : ℕ). x / 2 ^ k % 2) (pow-add 2 (suc (j - k - 1)) k)
        ∙ ap (λ (x : ℕ). x % 2) (shl-shr (2 ^ suc (j - k - 1)) k ∙ pow-suc 2 (j - k - 1))
        ∙ double (2 ^ (j - k - 1))

-- numbers below 2 ^ n with the same n lowest bits are equal
bits-determine : (n a b : ℕ) → a < 2 ^ n → b < 2 ^ n → ((k : ℕ) → k < n → a / 2 ^ k % 2 ≡ b / 2 ^ k % 2) → a ≡ b
bits-determine zero a b la lb h = omega arith
bits-determine (suc n) a b la lb h =
    let below : (x : ℕ) → x < 2 ^ suc n → x / 2 < 2 ^ n = λ x l. half (pow-suc 2 n) l in
    let higher : a / 2 ≡ b / 2 =
    bits-determine n (a / 2) (b / 2) (below a la) (below b lb) (λ k l. shifted a k ∙ h (suc k) (omega arith) ∙ sym (shifted b k)) in
    let lowest = h 0 (omega arith) in
    omega arith
  where
    half : {x p q : ℕ} → q ≡ p * 2 → x < q → x / 2 < p
    half e l = omega arith

    one_more : (k : ℕ) → 1 + k ≡ suc k
    one_more k = omega arith

    shifted : (x k : ℕ) → x / 2 / 2 ^ k % 2 ≡ x / 2 ^ suc k % 2
    shifted x k = ap (λ (y : ℕ). y % 2) (shr-shr x 1 k ∙ ap (λ (j : ℕ). x / 2 ^ j) (one_more k))

-- ---- one state more

pub length-insert : (r : StateSet) (s : ℕ) → length (insert r s) ≡ length r
unfolding insert
length-insert r s = simp length-set

pub insert-same : (r : StateSet) (s : ℕ) → s / 32 < length r → contains (insert r s) s ≡ true
unfolding contains insert
insert-same r s h =
    let w = get_or r (s / 32) 0 in
    let k = s % 32 in
    eq-eqb (get_or (set r (s / 32) (bit_or w (2 ^ k))) (s / 32) 0 / 2 ^ k % 2) 1
    (ap (λ (x : ℕ). x / 2 ^ k % 2) (get_or-set_same r (s / 32) (bit_or w (2 ^ k)) 0 h) ∙ or-bit w (2 ^ k) k ∙ rw one-bit-same (one w k))
  where
    one : (w k : ℕ) → max (w / 2 ^ k % 2) 1 ≡ 1
    one w k = omega arith

pub insert-other : (r : StateSet) (s q : ℕ) → q ≢ s → contains (insert r s) q ≡ contains r q
unfolding contains insert
insert-other r s q h = ap (λ (x : ℕ). eqb x 1) (go (ℕ_discrete (q / 32) (s / 32)) (dec_lt (s / 32) (length r)))
  where
    v : ℕ
    v = bit_or (get_or r (s / 32) 0) (2 ^ (s % 32))

    none : (x : ℕ) → max x 0 ≡ x
    none x = omega arith

    -- the word that holds another state's bit keeps it
    keeps-bit : (w j k : ℕ) → k ≢ j → bit_or w (2 ^ j) / 2 ^ k % 2 ≡ w / 2 ^ k % 2
    keeps-bit w j k n = or-bit w (2 ^ j) k ∙ rw (one-bit-other j k n) (none (w / 2 ^ k % 2))

    go : Dec (q / 32 ≡ s / 32) → Dec (s / 32 < length r)
        → get_or (set r (s / 32) v) (q / 32) 0 / 2 ^ (q % 32) % 2 ≡ get_or r (q / 32) 0 / 2 ^ (q % 32) % 2
    go (no n) d = ap (λ (x : ℕ). x / 2 ^ (q % 32) % 2) (get_or-set_other r (s / 32) (q / 32) v 0 n)
    go (yes e) (no l) = ap (λ (x : List ℕ). get_or x (q / 32) 0 / 2 ^ (q % 32) % 2) (set_out r (s / 32) v (omega arith))
    go (yes e) (yes l) =
        rw e
        (ap (λ (x : ℕ). x / 2 ^ (q % 32) % 2) (get_or-set_same r (s / 32) v 0 l)
        ∙ keeps-bit (get_or r (s / 32) 0) (s % 32) (q % 32) (omega arith))

-- ---- the empty set, and states beyond the words

contains-zero : (r : StateSet) (s : ℕ) → get_or r (s / 32) 0 ≡ 0 → contains r s ≡ false
unfolding contains
contains-zero r s e = rw e (go (2 ^ (s % 32)) (pow_pos (s % 32)))
  where
    go : (p : ℕ) → 0 < p → eqb (0 / p % 2) 1 ≡ false
    go p l = ap (λ (x : ℕ). eqb (x % 2) 1) (div-eq_of_lt l)

pub contains-replicate : (n s : ℕ) → contains (replicate n 0) s ≡ false
contains-replicate n s = contains-zero (replicate n 0) s (go (dec_lt (s / 32) n))
  where
    go : Dec (s / 32 < n) → get_or {A = ℕ} (replicate n 0) (s / 32) 0 ≡ 0
    go (yes l) = get_or-replicate n (s / 32) 0 0 l
    go (no l) = get_or-eq_default (replicate n 0) 0 (rw (length-replicate {A = ℕ} n 0) (omega arith))

pub contains-beyond : (r : StateSet) (s : ℕ) → length r ≤ s / 32 → contains r s ≡ false
contains-beyond r s h = contains-zero r s (get_or-eq_default r 0 h)

-- no state is lost, also where the new one is beyond the words
pub insert-keeps : (r : StateSet) (s q : ℕ) → contains r q ≡ true → contains (insert r s) q ≡ true
insert-keeps r s q h = go (ℕ_discrete q s) (dec_lt (q / 32) (length r))
  where
    go : Dec (q ≡ s) → Dec (q / 32 < length r) → contains (insert r s) q ≡ true
    go (no n) d = insert-other r s q n ∙ h
    go (yes e) (yes l) = rw (sym e) (insert-same r q l)
    go (yes e) (no l) = absurd (true≢false (sym h ∙ contains-beyond r q (omega arith)))

-- ---- words of 32 bits

pub words-replicate : (n : ℕ) → AllBelow word_range (replicate n 0)
words-replicate zero = tt
words-replicate (suc n) = (omega arith, words-replicate n)

-- an or of two words is a word
pub words-or : (r t : List ℕ) (i k : ℕ) → AllBelow word_range r → AllBelow word_range t → bit_or (get_or r i 0) (get_or t k 0) < word_range
words-or r t i k w v =
    or_lt 32 (get_or r i 0) (get_or t k 0) (each-default (λ x. x < word_range) (omega arith) r i w)
    (each-default (λ x. x < word_range) (omega arith) t k v)

pub words-insert : (r : StateSet) (s : ℕ) → AllBelow word_range r → AllBelow word_range (insert r s)
unfolding insert
words-insert r s w =
    each_set (λ x. x < word_range) (words-or r (2 ^ (s % 32) ∷ []) (s / 32) 0 w (pow-lt {j = 32} (omega arith), tt)) r (s / 32) w

-- ---- extensionality

-- sets of as many words that contain the same states are equal
pub contains-determines : (r t : StateSet) → length r ≡ length t → AllBelow word_range r → AllBelow word_range t
    → ((s : ℕ) → contains r s ≡ contains t s) → r ≡ t
unfolding contains
contains-determines r t e wr wt h =
    ext_get_or 0 r t e (λ i l. bits-determine 32 (get_or r i 0) (get_or t i 0) (each-get_or (λ x. x < word_range) 0 r i wr l)
    (each-get_or (λ x. x < word_range) 0 t i wt (omega arith)) (λ k m. bit i k m))
  where
    same : (x y : ℕ) → eqb (x % 2) 1 ≡ eqb (y % 2) 1 → x % 2 ≡ y % 2
    same x y = go (eqb (x % 2) 1) (eqb (y % 2) 1) refl refl
      where
        go : (b c : Bool) → eqb (x % 2) 1 ≡ b → eqb (y % 2) 1 ≡ c → b ≡ c → x % 2 ≡ y % 2
        go true true p q _ = omega (arith, eqb-true (x % 2) 1 p, eqb-true (y % 2) 1 q)
        go false false p q _ = let n = eqb-false (x % 2) 1 p in let m = eqb-false (y % 2) 1 q in omega arith
        go true false p q z = absurd (true≢false z)
        go false true p q z = absurd (false≢true z)

    bit : (i k : ℕ) → k < 32 → get_or r i 0 / 2 ^ k % 2 ≡ get_or t i 0 / 2 ^ k % 2
    bit i k m =
        let p : (i * 32 + k) / 32 ≡ i = omega arith in
        let q : (i * 32 + k) % 32 ≡ k = omega arith in
        same (get_or r i 0 / 2 ^ k) (get_or t i 0 / 2 ^ k) (rw (p, q) at (h (i * 32 + k)))
