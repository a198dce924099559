-- Ranks written into a list of zeros: where the alphabet is accepted, that of every symbol, for a hole's is 0 and so is that of a
-- symbol which the alphabet lacks.
use mathlib.Core.Path.{◌≡◌, refl, ◌∙◌, sym}
use mathlib.Core.Bool.{false}
use mathlib.Core.List.{List}
use Prim.Native.Nat.{ℕ, ◌<◌, ◌≤◌}
use native.Mathlib.Omega.{arith}
use native.Mathlib.Decide.{dec_lt}
use lib.ListN.{length, get_or, replicate, length-replicate, get_or-replicate, get_or-eq_default}
use Rattle.words.specs.Word.{node_kind, symbol_range, kind_of, low_byte}
use Rattle.words.specs.Alphabet.{rank_of, is_hole, no_alphabet, alphabet_refusals, alphabet_fault}
use Rattle.words.specs.Postfix.{arity}
use Rattle.words.proofs.TestLaws.{Tested, holds, fails, tested}
use Rattle.words.proofs.RefusalLaws.{none-applies}
use Rattle.words.proofs.AlphabetLaws.{is_constant-zero}
use Rattle.words.proofs.HoleLaws.{hole-constant}
use Rattle.words.proofs.WordLaws.{arity-kind}
use Rattle.alphabet.specs.Ranks.{RanksWritten}

-- the list has the rank of each symbol that a word can name, also of a hole and of a symbol which the alphabet lacks
pub record AllRanks (a ranks : List ℕ) : Type 0 where
  pub long : symbol_range ≤ length ranks
  pub each : (s : ℕ) → s < symbol_range → get_or ranks s 0 ≡ rank_of a s

rank-unknown : (a : List ℕ) (s : ℕ) → length a ≤ s → rank_of a s ≡ 0
unfolding rank_of
rank-unknown a s l = rw (get_or-eq_default a 0 l)

module _ (a ranks : List ℕ) (fine : alphabet_fault a ≡ 0) (written : RanksWritten a (replicate symbol_range 0) ranks) where
  module _ (s : ℕ) (b : s < symbol_range) where
    passes : no_alphabet a ≡ false
    passes = none-applies (alphabet_refusals a) refl fine 1

    zero : get_or (replicate {A = ℕ} symbol_range 0) s 0 ≡ 0
    zero = get_or-replicate {A = ℕ} symbol_range s 0 0 b

    rank-at : get_or ranks s 0 ≡ rank_of a s
    rank-at = go (dec_lt s (length a)) (tested (is_hole a s))
      where
        go : Dec (s < length a) → Tested (is_hole a s) → get_or ranks s 0 ≡ rank_of a s
        go (no l) t = written.unknown s (omega arith) ∙ zero ∙ sym (rank-unknown a s (omega arith))
        go (yes l) (holds e) = written.holes s e ∙ zero ∙ sym (is_constant-zero a s (hole-constant a passes s e)).1
        go (yes l) (fails e) = written.known s l (let n = length-replicate {A = ℕ} symbol_range 0 in omega arith) e

  pub ranked : length ranks ≡ symbol_range → AllRanks a ranks
  ranked n = record { long = omega arith; each = rank-at }

-- a node takes as many children as its symbol's rank
pub ranked-arity : {a ranks : List ℕ} → AllRanks a ranks → (w : ℕ) → kind_of w ≡ node_kind → (r : ℕ) → r ≡ get_or ranks (low_byte w) 0
    → r ≡ arity a w
ranked-arity {a} g w k r e = e ∙ g.each (low_byte w) (omega arith) ∙ sym (arity-kind a w node_kind k)
