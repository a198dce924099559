-- What a `match` over the enum of kinds tells of a word: in a case of its own the kind and its number; in the last case, which
-- takes all kinds that are left, that they are none of the others.
use mathlib.Core.Path.{◌≡◌, refl, ap, ◌∙◌, sym, subst}
use mathlib.Core.Bool.{Bool, true, false, not, cond}
use mathlib.Core.List.{List, [], ◌∷◌, map, Memᴰ}
use Prim.Native.Nat.{ℕ, suc, ◌<◌}
use native.Mathlib.Omega.{arith}
use lib.ListN.{length, get_or}
use lib.Dec.{eqb}
use borrow.Author.Tests.{eq-eqb, ne_eqb, eqb-false, not-true}
use denote.Enum.Declared.{tag_of}
use mir.Val.{has_key}
use Rattle.words.specs.Lists.{all, list_from}
use Rattle.words.specs.Word.{Kind, no_kind, kinds, kind_at, kind_number, number_of, kind_of, spare_bits_clear, is_of}
use Rattle.words.specs.Decoded.{kind_in}
use Rattle.words.specs.declared.word.Kind.{Kind as Case}
use Rattle.words.specs.declared.word.Kind.TheVariants.{Entry, Symbol, Empty, Union, Product, Closure}
use Rattle.words.specs.declared.word.Kind.TheVariants.{Node, Head, Transition, Epsilon, Source, Length, Anything, Other}
use Rattle.words.specs.contracts.word.Kind.{the_type}
use Rattle.words.proofs.TestLaws.{and-true}
use Rattle.words.proofs.CountLaws.{list_from-member}
use Rattle.words.proofs.KindLaws.{kind_at-number, number-kind_at}

-- ---- the cases that are left

-- the place of a case in the enum
abbrev pub place_of : Case → ℕ
place_of k = tag_of the_type k

-- of these places those that are none of the cases js
abbrev pub remaining : List Case → List ℕ → List ℕ
remaining js [] = []
remaining js (n ∷ ns) = cond (has_key (map place_of js) n) (remaining js ns) (n ∷ remaining js ns)

-- the places that a `match` leaves which has a case for each of js
abbrev pub left_by : List Case → List ℕ
left_by js = remaining js (list_from (λ n. n) 0 (suc (length kinds)))

-- k is one of those that are left
abbrev pub Left : List Case → Case → Type 0
Left [] k = Unit {0}
Left (j ∷ js) k = (k ≡ j → ⊥) × Left js k

-- the case at a place
abbrev case_at : ℕ → Case
case_at n = get_or (Entry ∷ Symbol ∷ Empty ∷ Union ∷ Product ∷ Closure ∷ Node ∷ Head ∷ Transition ∷ Epsilon ∷ Source ∷ Length ∷ Anything ∷ []) n Other

case_at-place : (k : Case) → case_at (place_of k) ≡ k
case_at-place Entry = refl
case_at-place Symbol = refl
case_at-place Empty = refl
case_at-place Union = refl
case_at-place Product = refl
case_at-place Closure = refl
case_at-place Node = refl
case_at-place Head = refl
case_at-place Transition = refl
case_at-place Epsilon = refl
case_at-place Source = refl
case_at-place Length = refl
case_at-place Anything = refl
case_at-place Other = refl

place-below : (k : Case) → place_of k < 14
place-below Entry = omega arith
place-below Symbol = omega arith
place-below Empty = omega arith
place-below Union = omega arith
place-below Product = omega arith
place-below Closure = omega arith
place-below Node = omega arith
place-below Head = omega arith
place-below Transition = omega arith
place-below Epsilon = omega arith
place-below Source = omega arith
place-below Length = omega arith
place-below Anything = omega arith
place-below Other = omega arith

left-key : (js : List Case) (k : Case) → Left js k → has_key (map place_of js) (place_of k) ≡ false
left-key [] k h = refl
left-key (j ∷ js) k h = rw (ne_eqb (place_of j) (place_of k) (λ e. h.0 (sym (case_at-place k) ∙ ap case_at (sym e) ∙ case_at-place j)), left-key js k h.1)

all-remaining : (js : List Case) (ns : List ℕ) (x : ℕ) → Memᴰ x ns → has_key (map place_of js) x ≡ false → (t : ℕ → Bool)
    → all t (remaining js ns) ≡ true → t x ≡ true
all-remaining js [] x m h t p = elim m [ ]
all-remaining js (n ∷ ns) x (Memᴰ.head e) h t p =
    let q : has_key (map place_of js) n ≡ false = rw e at h in
    let r : all t (n ∷ remaining js ns) ≡ true = rw q at p in
    rw e (and-true (t n) (all t (remaining js ns)) r).0
all-remaining js (n ∷ ns) x (Memᴰ.tail m) h t p =
    all-remaining js ns x m h t (later (has_key (map place_of js) n) p)
  where
    later : (b : Bool) → all t (cond b (remaining js ns) (n ∷ remaining js ns)) ≡ true → all t (remaining js ns) ≡ true
    later true q = q
    later false q = (and-true (t n) (all t (remaining js ns)) q).1

kinds-place : (k : Case) → get_or kinds (place_of k) no_kind ≡ kind_in k
kinds-place Entry = refl
kinds-place Symbol = refl
kinds-place Empty = refl
kinds-place Union = refl
kinds-place Product = refl
kinds-place Closure = refl
kinds-place Node = refl
kinds-place Head = refl
kinds-place Transition = refl
kinds-place Epsilon = refl
kinds-place Source = refl
kinds-place Length = refl
kinds-place Anything = refl
kinds-place Other = refl

-- what a test says of each kind that is left it says of this one
pub left-all : (js : List Case) (k : Case) → Left js k → (t : Kind → Bool) → all (λ n. t (get_or kinds n no_kind)) (left_by js) ≡ true
    → t (kind_in k) ≡ true
left-all js k h t p =
    subst
    (λ (j : Kind). t j ≡ true)
    (kinds-place k)
    (all-remaining
    js
    (list_from (λ n. n) 0 14)
    (place_of k)
    (list_from-member 0 14 (place_of k) (omega arith) (place-below k))
    (left-key js k h)
    (λ n. t (get_or kinds n no_kind))
    p)

-- ---- a word of which k is the decoded kind

module _ (w : ℕ) (k : Case) (decoded : kind_in k ≡ kind_of w) where
  pub told-kind : (j : Case) → k ≡ j → kind_of w ≡ kind_in j
  told-kind j e = sym decoded ∙ ap kind_in e

  pub told-number : (j : Case) → k ≡ j → 0 < kind_number (kind_in j) → number_of w ≡ kind_number (kind_in j)
  told-number j e h =
      let q = told-kind j e in
      sym (number-kind_at (number_of w) (λ z. let y = ap kind_number (sym q ∙ z) in omega arith)) ∙ ap kind_number q

  -- a kind whose number is none of those that are left
  pub left-number : (js : List Case) → Left js k → (j : Kind)
      → all (λ n. not (eqb (kind_number (get_or kinds n no_kind)) (kind_number j))) (left_by js) ≡ true → number_of w ≡ kind_number j → ⊥
  left-number js h j p e =
      eqb-false (kind_number (kind_in k)) (kind_number j)
      (not-true _ (left-all js k h (λ (i : Kind). not (eqb (kind_number i) (kind_number j))) p))
      (ap kind_number (decoded ∙ ap kind_at e ∙ kind_at-number j))

  -- of a word of a kind the spare bits decide, and no other word is of it
  pub told-is_of : (j : Case) → k ≡ j → 0 < kind_number (kind_in j) → is_of (kind_in j) w ≡ spare_bits_clear w
  unfolding is_of
  told-is_of j e h = rw (eq-eqb (number_of w) (kind_number (kind_in j)) (told-number j e h))

  pub left-is_of : (js : List Case) → Left js k → (j : Kind)
      → all (λ n. not (eqb (kind_number (get_or kinds n no_kind)) (kind_number j))) (left_by js) ≡ true → is_of j w ≡ false
  unfolding is_of
  left-is_of js h j p = rw (ne_eqb (number_of w) (kind_number j) (left-number js h j p))
