-- The alphabet (document 01, kind 1): ranks, constants in symbol order, holes (document 02, U8), and refusals 1 and 2.
use Rattle.std.specs.Prelude.{ℕ, suc, List, [], ◌∷◌, Bool, not, cond, ◌&&◌, ◌||◌, length, get_or, ltb, leb, eqb}
use Rattle.words.specs.Lists.{all, some}
use Rattle.words.specs.Limits.{outside, alphabet_most, constants_most, rank_most}
use Rattle.words.specs.Refusal.{Refusals, refusal}
use Rattle.words.specs.Word.{entry_kind, is_of, low_byte, hole_above}

-- the rank in an entry: bits 7..0
abbrev pub entry_rank : ℕ → ℕ
entry_rank w = low_byte w

-- "Bit 8 of a constant's alphabet word now marks a hole" (document 02, U8)
unfoldable pub marks_hole : ℕ → Bool
marks_hole w = eqb (hole_above w) 1

-- an alphabet entry has a rank of 0 to 4; with the mark of a hole a "rank above 0 .. is refused"
unfoldable pub is_entry : ℕ → Bool
is_entry w = is_of entry_kind w && leb (entry_rank w) (cond (marks_hole w) 0 rank_most)

-- the rank of a symbol, whose number is its entry's index; 0 for an unknown one
unfoldable pub rank_of : List ℕ → ℕ → ℕ
rank_of a s = entry_rank (get_or a s 0)

-- a symbol that the alphabet has
abbrev pub is_symbol : List ℕ → ℕ → Bool
is_symbol a s = ltb s (length a)

-- "A symbol of rank 0 is a constant"
unfoldable pub is_constant : List ℕ → ℕ → Bool
is_constant a s = is_symbol a s && eqb (rank_of a s) 0

-- a symbol that is marked as a hole; an unknown one is not
unfoldable pub is_hole : List ℕ → ℕ → Bool
is_hole a s = marks_hole (get_or a s 0)

-- an alphabet that "has a hole"
unfoldable pub has_holes : List ℕ → Bool
has_holes a = some marks_hole a

-- the c of a product or closure: a constant, and "Once an alphabet has a hole, only holes may be named"
unfoldable pub may_name : List ℕ → ℕ → Bool
may_name a c = is_constant a c && (not (has_holes a) || is_hole a c)

-- the symbols of rank 0 among entries of which the first has number s
unfoldable pub constants_from : ℕ → List ℕ → List ℕ
constants_from s [] = []
constants_from s (w ∷ ws) = let rest = constants_from (suc s) ws in cond (eqb (entry_rank w) 0) (s ∷ rest) rest

-- the constants in symbol order
unfoldable pub constants_of : List ℕ → List ℕ
constants_of a = constants_from 0 a

-- 1: "alphabet of 0 or over 64 words, or a word that is no alphabet entry"
unfoldable pub no_alphabet : List ℕ → Bool
no_alphabet a = outside alphabet_most (length a) || not (all is_entry a)

-- 2: "no constant or over 16"
unfoldable pub wrong_constants : List ℕ → Bool
wrong_constants a = outside constants_most (length (constants_of a))

abbrev pub alphabet_refusals : List ℕ → Refusals
alphabet_refusals a = (1, no_alphabet a) ∷ (2, wrong_constants a) ∷ []

-- 1 or 2, the first that applies, or 0
abbrev pub alphabet_fault : List ℕ → ℕ
alphabet_fault a = refusal (alphabet_refusals a)
