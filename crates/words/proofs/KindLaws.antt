-- Laws of kinds: a kind and its number, the word of a kind with given fields, and what `is_of` says of a word.
use mathlib.Core.Path.{◌≡◌, refl, ap, ◌∙◌, sym}
use mathlib.Core.Bool.{true, false}
use mathlib.Core.List.{List, [], ◌∷◌}
use mathlib.Core.Logic.{◌⊎◌, inl, inr, ⊎_elim}
use Prim.Native.Nat.{ℕ, ◌<◌, ◌≤◌}
use native.Mathlib.Omega.{arith}
use lib.Dec.{eqb}
use borrow.Author.Tests.{eq-eqb, ne_eqb, eqb-true, lt-ltb, ltb-true}
use Rattle.words.specs.Word.{Kind, entry_kind, symbol_kind, empty_kind, union_kind, product_kind, closure_kind, node_kind, kind_unit}
use Rattle.words.specs.Word.{head_kind, transition_kind, epsilon_kind, source_kind, length_kind, anything_kind, no_kind}
use Rattle.words.specs.Word.{kinds, kind_among, kind_at}
use Rattle.words.specs.Word.{kind_number, number_of, kind_of, has_kind, body_of, field_range, spare_bits_clear, is_of, word_of}
use Rattle.words.specs.Word.{low_byte, symbol_range}
use Rattle.words.proofs.TestLaws.{Tested, holds, fails, tested, and-true, true-and, and_none}

-- ---- a kind and its number

pub kind_at-number : (k : Kind) → kind_at (kind_number k) ≡ k
unfolding kind_at
kind_at-number no_kind = refl
kind_at-number entry_kind = refl
kind_at-number symbol_kind = refl
kind_at-number empty_kind = refl
kind_at-number union_kind = refl
kind_at-number product_kind = refl
kind_at-number closure_kind = refl
kind_at-number node_kind = refl
kind_at-number head_kind = refl
kind_at-number transition_kind = refl
kind_at-number epsilon_kind = refl
kind_at-number source_kind = refl
kind_at-number length_kind = refl
kind_at-number anything_kind = refl

among_cases : (ks : List Kind) (n : ℕ) → (kind_number (kind_among ks n) ≡ n) ⊎ (kind_among ks n ≡ no_kind)
among_cases [] n = inr refl
among_cases (k ∷ ks) n = go (tested (eqb n (kind_number k))) (among_cases ks n)
  where
    go : Tested (eqb n (kind_number k)) → (kind_number (kind_among ks n) ≡ n) ⊎ (kind_among ks n ≡ no_kind)
        → (kind_number (kind_among (k ∷ ks) n) ≡ n) ⊎ (kind_among (k ∷ ks) n ≡ no_kind)
    go (holds e) r = inl (rw e (sym (eqb-true n (kind_number k) e)))
    go (fails e) r = rw e r

-- a number is that of its kind, or it has none
number-cases : (n : ℕ) → (kind_number (kind_at n) ≡ n) ⊎ (kind_at n ≡ no_kind)
unfolding kind_at
number-cases n = among_cases kinds n

pub number-kind_at : (n : ℕ) → (kind_at n ≡ no_kind → ⊥) → kind_number (kind_at n) ≡ n
number-kind_at n h = ⊎_elim (λ e. e) (λ e. absurd (h e)) (number-cases n)

-- A holds, and n is the number of none of these kinds, as the last case of a `match` over them knows it
abbrev NoneOf : List Kind → ℕ → Type 0 → Type 0
NoneOf [] n A = A
NoneOf (k ∷ ks) n A = NoneOf ks n (A × (n ≡ kind_number k → ⊥))

among-rest : (ks : List Kind) (n : ℕ) (A : Type 0) → NoneOf ks n A → A × (kind_among ks n ≡ no_kind)
among-rest [] n A r = (r, refl)
among-rest (k ∷ ks) n A r =
    let p = among-rest ks n (A × (n ≡ kind_number k → ⊥)) r in
    (p.0.0, rw (ne_eqb n (kind_number k) p.0.1) p.1)

pub kind_at-rest : (n : ℕ) → NoneOf kinds n (Unit {0}) → kind_at n ≡ no_kind
unfolding kind_at
kind_at-rest n r = (among-rest kinds n (Unit {0}) r).1

-- ---- the word of a kind with given fields

module _ (k : Kind) (b : ℕ) (h : b < kind_unit) where
  pub number_of-word_of : number_of (word_of k b) ≡ kind_number k
  number_of-word_of = omega arith

  pub kind_of-word_of : kind_of (word_of k b) ≡ k
  kind_of-word_of = ap kind_at number_of-word_of ∙ kind_at-number k

  pub body_of-word_of : body_of (word_of k b) ≡ b
  body_of-word_of = omega arith

  pub low_byte-word_of : low_byte (word_of k b) ≡ low_byte b
  low_byte-word_of = omega arith

-- a symbol and no other field
pub low_byte-symbol : (k : Kind) (s : ℕ) → s < symbol_range → low_byte (word_of k s) ≡ s
low_byte-symbol k s h = omega arith

-- ---- `has_kind` and `kind_of` say the same, but of no kind

module _ (k : Kind) (w : ℕ) where
  pub has_kind-kind_of : has_kind k w ≡ true → kind_of w ≡ k
  has_kind-kind_of h = ap kind_at (eqb-true (number_of w) (kind_number k) h) ∙ kind_at-number k

  pub kind_of-has_kind : (k ≡ no_kind → ⊥) → kind_of w ≡ k → has_kind k w ≡ true
  kind_of-has_kind n e = eq-eqb (number_of w) (kind_number k) (sym (number-kind_at (number_of w) (λ z. n (sym e ∙ z))) ∙ ap kind_number e)

  -- a word of another kind
  pub kind_of-has_not : (j : Kind) → kind_of w ≡ j → (j ≡ k → ⊥) → has_kind k w ≡ false
  kind_of-has_not j e n = ne_eqb (number_of w) (kind_number k) (λ q. n (sym e ∙ ap kind_at q ∙ kind_at-number k))

  pub word-word_of : has_kind k w ≡ true → w ≡ word_of k (body_of w)
  word-word_of h = omega (arith, eqb-true (number_of w) (kind_number k) h)

-- ---- a word of a kind whose spare bits are clear

pub field_range-fits : (k : Kind) → field_range k ≤ kind_unit
field_range-fits no_kind = omega arith
field_range-fits entry_kind = omega arith
field_range-fits symbol_kind = omega arith
field_range-fits empty_kind = omega arith
field_range-fits union_kind = omega arith
field_range-fits product_kind = omega arith
field_range-fits closure_kind = omega arith
field_range-fits node_kind = omega arith
field_range-fits head_kind = omega arith
field_range-fits transition_kind = omega arith
field_range-fits epsilon_kind = omega arith
field_range-fits source_kind = omega arith
field_range-fits length_kind = omega arith
field_range-fits anything_kind = omega arith

-- what `is_of k w` says
pub record IsOf (k : Kind) (w : ℕ) : Type 0 where
  pub number : number_of w ≡ kind_number k
  pub kind : kind_of w ≡ k
  pub body : body_of w < field_range k
  pub word : w ≡ word_of k (body_of w)

pub is_of-facts : (k : Kind) (w : ℕ) → is_of k w ≡ true → IsOf k w
unfolding is_of spare_bits_clear
is_of-facts k w h =
    let p = and-true (has_kind k w) (spare_bits_clear w) h in
    let e = has_kind-kind_of k w p.0 in
    record {
      number = eqb-true (number_of w) (kind_number k) p.0;
      kind = e;
      body = ltb-true (body_of w) (field_range k) (rw e at p.1);
      word = word-word_of k w p.0;
    }

-- by the tests of the code
module _ (k : Kind) (w : ℕ) where
  pub not-clear : spare_bits_clear w ≡ false → is_of k w ≡ false
  unfolding is_of
  not-clear h = rw h (and_none (has_kind k w))

  pub not-of : (number_of w ≡ kind_number k → ⊥) → is_of k w ≡ false
  unfolding is_of
  not-of h = rw (ne_eqb (number_of w) (kind_number k) h)

  pub is-of : number_of w ≡ kind_number k → spare_bits_clear w ≡ true → is_of k w ≡ true
  unfolding is_of
  is-of e h = rw (eq-eqb (number_of w) (kind_number k) e, h)

is_of-from : (k : Kind) (w : ℕ) → number_of w ≡ kind_number k → body_of w < field_range k → is_of k w ≡ true
unfolding is_of spare_bits_clear
is_of-from k w e h =
    true-and (has_kind k w) (spare_bits_clear w) (eq-eqb (number_of w) (kind_number k) e)
    (rw (ap kind_at e ∙ kind_at-number k) (lt-ltb (body_of w) (field_range k) h))

pub is_of-word_of : (k : Kind) (b : ℕ) → b < field_range k → is_of k (word_of k b) ≡ true
is_of-word_of k b h =
    let l : b < kind_unit = omega (arith, field_range-fits k) in
    is_of-from k (word_of k b) (number_of-word_of k b l) (rw (body_of-word_of k b l) h)
