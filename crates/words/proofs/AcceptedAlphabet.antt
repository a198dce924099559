-- What holds of an alphabet that refusals 1 and 2 let pass.
use Prim.Native.Nat.{ℕ, zero, suc, ◌<◌, ◌≤◌}
use mathlib.Core.Path.{◌≡◌, refl}
use mathlib.Core.Bool.{Bool, true, not, false, cond, false≢true}
use mathlib.Core.List.{List, [], ◌∷◌}
use native.Mathlib.Omega.{arith}
use lib.ListN.{length}
use lib.Dec.{leb}
use borrow.Author.Tests.{leb-true, not-false}
use Rattle.words.specs.Lists.{all}
use Rattle.words.specs.Limits.{outside, alphabet_most, constants_most, rank_most}
use Rattle.words.specs.Word.{entry_kind, kind_of, is_of, low_byte}
use Rattle.words.specs.Alphabet.{entry_rank, marks_hole, is_entry, rank_of, is_hole, constants_of, no_alphabet, wrong_constants}
use Rattle.words.specs.Alphabet.{alphabet_refusals, alphabet_fault}
use Rattle.words.specs.Postfix.{arity}
use Rattle.words.proofs.TestLaws.{and-true, or-false}
use Rattle.words.proofs.LimitLaws.{Within, not-outside}
use Rattle.words.proofs.RefusalLaws.{condition_of, none-applies}
use Rattle.words.proofs.WordLaws.{arity_at-most}

pub record AcceptedAlphabet (a : List ℕ) : Type 0 where
  -- 1
  pub counted : Within alphabet_most (length a)
  pub ranks : (s : ℕ) → rank_of a s ≤ rank_most
  -- 2
  pub constants : Within constants_most (length (constants_of a))

-- the rank in an entry, by whether it marks a hole
entry-rank : (w : ℕ) → is_entry w ≡ true → entry_rank w ≤ cond (marks_hole w) 0 rank_most
unfolding is_entry
entry-rank w h =
    let most = cond (marks_hole w) 0 rank_most in
    leb-true (entry_rank w) most (and-true (is_of entry_kind w) (leb (entry_rank w) most) h).1

-- "rank, 0 to 4"
rank-most : (a : List ℕ) → all is_entry a ≡ true → (s : ℕ) → rank_of a s ≤ rank_most
unfolding rank_of
rank-most [] h s = omega arith
rank-most (w ∷ ws) h zero = go (marks_hole w) (entry-rank w (and-true (is_entry w) (all is_entry ws) h).0)
  where
    go : (b : Bool) → entry_rank w ≤ cond b 0 rank_most → entry_rank w ≤ rank_most
    go true l = omega arith
    go false l = l
rank-most (w ∷ ws) h (suc s) = rank-most ws (and-true (is_entry w) (all is_entry ws) h).1 s

-- "Bit 8 of a constant's alphabet word": a hole is a symbol of rank 0
pub hole-rank : (a : List ℕ) → all is_entry a ≡ true → (s : ℕ) → is_hole a s ≡ true → (s < length a) × (rank_of a s ≡ 0)
unfolding rank_of is_hole marks_hole
hole-rank [] h s e = absurd (false≢true e)
hole-rank (w ∷ ws) h zero e =
    let l : entry_rank w ≤ 0 = rw e at (entry-rank w (and-true (is_entry w) (all is_entry ws) h).0) in
    (omega arith, omega arith)
hole-rank (w ∷ ws) h (suc s) e =
    let p = hole-rank ws (and-true (is_entry w) (all is_entry ws) h).1 s e in
    let l = p.0 in
    (omega arith, p.1)

pub alphabet-accepted : (a : List ℕ) → alphabet_fault a ≡ 0 → AcceptedAlphabet a
unfolding no_alphabet wrong_constants
alphabet-accepted a h =
    let not_so : (n : ℕ) → condition_of n (alphabet_refusals a) ≡ false = none-applies (alphabet_refusals a) refl h in
    let p = or-false (outside alphabet_most (length a)) (not (all is_entry a)) (not_so 1) in
    record {
      counted = not-outside alphabet_most (length a) p.0;
      ranks = rank-most a (not-false (all is_entry a) p.1);
      constants = not-outside constants_most (length (constants_of a)) (not_so 2);
    }

-- no word takes more children than the highest rank
pub arity-most : {a : List ℕ} → AcceptedAlphabet a → (w : ℕ) → arity a w ≤ rank_most
unfolding arity
arity-most {a} h w = arity_at-most rank_most (rank_of a (low_byte w)) (kind_of w) (omega arith) (h.ranks (low_byte w))
