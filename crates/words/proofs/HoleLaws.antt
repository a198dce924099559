-- Laws of holes (document 02, U8): which symbols may be named, words without holes and their parts, and alphabets without holes.
use Prim.Native.Nat.{ℕ, zero, suc, ◌+◌}
use mathlib.Core.Path.{◌≡◌, refl, ◌∙◌, sym}
use mathlib.Core.Bool.{true, false, not, ◌||◌}
use mathlib.Core.List.{List, [], ◌∷◌, ◌++◌, Memᴰ}
use lib.ListN.{length, get_or, take, drop, take-append-drop}
use borrow.Author.Tests.{not-false}
use Rattle.words.specs.Lists.{all, some}
use Rattle.words.specs.Limits.{outside, alphabet_most}
use Rattle.words.specs.Alphabet.{marks_hole, is_entry, is_constant, is_hole, has_holes, may_name, constants_of, no_alphabet}
use Rattle.words.specs.Shape.{splice_by}
use Rattle.words.specs.Postfix.{span_of, subtree_of, splice}
use Rattle.words.specs.Chapter.{symbol_of, holes_in}
use Rattle.words.proofs.TestLaws.{same_truth, and-true, true-and, or-false, false-or, some-append}
use Rattle.words.proofs.AlphabetLaws.{zero-is_constant, constants_of-is_constant}
use Rattle.words.proofs.AcceptedAlphabet.{hole-rank}

-- ---- which symbols may be named

pub may_name-constant : (a : List ℕ) (c : ℕ) → may_name a c ≡ true → is_constant a c ≡ true
unfolding may_name
may_name-constant a c h = (and-true (is_constant a c) _ h).0

pub may_name-listed : (a : List ℕ) (c : ℕ) → may_name a c ≡ true → Memᴰ c (constants_of a)
may_name-listed a c h = (constants_of-is_constant a c).1 (may_name-constant a c h)

-- where there is no hole, any constant
pub may_name-without : (a : List ℕ) → has_holes a ≡ false → (c : ℕ) → may_name a c ≡ is_constant a c
unfolding may_name
may_name-without a e c =
    same_truth (may_name a c) (is_constant a c) (may_name-constant a c) (λ h. true-and (is_constant a c) _ h (rw e))

module _ (a : List ℕ) (passes : no_alphabet a ≡ false) where
  -- a hole is a constant
  pub hole-constant : (s : ℕ) → is_hole a s ≡ true → is_constant a s ≡ true
  unfolding no_alphabet
  hole-constant s e =
      let p = or-false (outside alphabet_most (length a)) (not (all is_entry a)) passes in
      let r = hole-rank a (not-false (all is_entry a) p.1) s e in
      zero-is_constant a s r.0 r.1

  -- once there is a hole, the holes and no other constant
  pub may_name-holes : has_holes a ≡ true → (c : ℕ) → may_name a c ≡ is_hole a c
  unfolding may_name
  may_name-holes e c =
      same_truth (may_name a c) (is_hole a c)
      (λ h. rw e at (and-true (is_constant a c) (not (has_holes a) || is_hole a c) h).1)
      (λ h. true-and (is_constant a c) (not (has_holes a) || is_hole a c) (hole-constant c h) (rw (e, h)))

-- ---- words without holes

module _ (a : List ℕ) where
  pub holes-append : (l k : List ℕ) → holes_in a (l ++ k) ≡ holes_in a l || holes_in a k
  unfolding holes_in
  holes-append l k = some-append (λ w. is_hole a (symbol_of w)) l k

  pub append-holes : (l k : List ℕ) → holes_in a l ≡ false → holes_in a k ≡ false → holes_in a (l ++ k) ≡ false
  append-holes l k h g = holes-append l k ∙ false-or (holes_in a l) (holes_in a k) h g

  -- the words before an index, and those from it on
  module _ (ch : List ℕ) (h : holes_in a ch ≡ false) (i : ℕ) where
    parts : (holes_in a (take i ch) ≡ false) × (holes_in a (drop i ch) ≡ false)
    parts =
        or-false (holes_in a (take i ch)) (holes_in a (drop i ch))
        (sym (holes-append (take i ch) (drop i ch)) ∙ rw (take-append-drop i ch) h)

    take-holes : holes_in a (take i ch) ≡ false
    take-holes = parts.0

    drop-holes : holes_in a (drop i ch) ≡ false
    drop-holes = parts.1

  pub subtree-holes : (ch : List ℕ) (i : ℕ) → holes_in a ch ≡ false → holes_in a (subtree_of a ch i) ≡ false
  subtree-holes ch i h = drop-holes (take (i + 1) ch) (take-holes ch h (i + 1)) (span_of a ch i).start

  -- the result of an exchange
  pub splice-holes : (ch : List ℕ) (i : ℕ) (xs : List ℕ) → holes_in a ch ≡ false → holes_in a xs ≡ false
      → holes_in a (splice a ch i xs) ≡ false
  unfolding splice_by
  splice-holes ch i xs h g =
      append-holes (take (span_of a ch i).start ch) (xs ++ drop (i + 1) ch) (take-holes ch h (span_of a ch i).start)
      (append-holes xs (drop (i + 1) ch) g (drop-holes ch h (i + 1)))

-- ---- alphabets without holes

none-marked : (a : List ℕ) → some marks_hole a ≡ false → (s : ℕ) → marks_hole (get_or a s 0) ≡ false
unfolding marks_hole
none-marked [] h s = refl
none-marked (w ∷ ws) h zero = (or-false (marks_hole w) (some marks_hole ws) h).0
none-marked (w ∷ ws) h (suc s) = none-marked ws (or-false (marks_hole w) (some marks_hole ws) h).1 s

module _ (a : List ℕ) (e : has_holes a ≡ false) where
  pub is_hole-without : (s : ℕ) → is_hole a s ≡ false
  unfolding is_hole has_holes
  is_hole-without s = none-marked a e s

  pub holes_in-without : (ch : List ℕ) → holes_in a ch ≡ false
  unfolding holes_in
  holes_in-without [] = refl
  holes_in-without (w ∷ ws) = rw (is_hole-without (symbol_of w)) (holes_in-without ws)
