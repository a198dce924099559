-- Laws of words in bytes, of the loop that keeps them as far as a slice reaches, and of bytes that come in parts.
use mathlib.Core.Path.{◌≡◌, refl, ap, ap₂, ◌∙◌, sym}
use mathlib.Core.List.{List, [], ◌∷◌, ◌++◌}
use mathlib.Core.Bool.{true}
use Prim.Native.Nat.{ℕ, suc, ◌+◌, ◌*◌, ◌-◌, ◌/◌, ◌<◌, ◌≤◌, min}
use native.Mathlib.Omega.{arith}
use native.Mathlib.Nat.{zero-add}
use native.Mathlib.Numerals.{add-one}
use native.Mathlib.Decide.{dec_le}
use lib.ListN.{length, get_or, take, drop, set, length-set, length-append, length-take, get_or-append, take-append-drop}
use lib.Seq.{sets, length-sets, set_out, take-suc, take_all, take_at, length-take-le, get_or-append-add, ext_get_or}
use borrow.Author.Tests.{lt-ltb}
use Rattle.words.proofs.ListLaws.{sets-append, sets-whole, length-list_from, get_or-list_from}
use Rattle.words.proofs.TestLaws.{true-and}
use Rattle.encoding.specs.Words.{byte_range, is_byte, word_bytes, are_bytes, word_at, words_in}

-- ---- words in bytes

pub bytes-are : (l : List ℕ) → ((i : ℕ) → get_or l i 0 < byte_range) → are_bytes l ≡ true
bytes-are [] h = refl
bytes-are (b ∷ bs) h = true-and (is_byte b) (are_bytes bs) (lt-ltb b byte_range (h 0)) (bytes-are bs (λ i. h (suc i)))

pub length-words_in : (bytes : List ℕ) → length (words_in bytes) ≡ length bytes / word_bytes
unfolding words_in
length-words_in bytes = length-list_from (word_at bytes) (length bytes / word_bytes) 0

get_or-words_in : (bytes : List ℕ) (i : ℕ) → i < length bytes / word_bytes → get_or (words_in bytes) i 0 ≡ word_at bytes i
unfolding words_in
get_or-words_in bytes i h = get_or-list_from (word_at bytes) 0 (length bytes / word_bytes) 0 i h ∙ ap (word_at bytes) (zero-add i)

-- ---- stores past the end of a list change nothing

sets-past : (vs l : List ℕ) (i : ℕ) → length l ≤ i → sets l i vs ≡ l
sets-past [] l i h = refl
sets-past (v ∷ vs) l i h = rw (set_out l i v) (sets-past vs l (suc i) (omega arith))

-- so those that do not fit may be left out
sets-take : (vs l : List ℕ) (at n : ℕ) → length l ≤ at + n → sets l at (take n vs) ≡ sets l at vs
sets-take vs l at n h = go (dec_le n (length vs))
  where
    go : Dec (n ≤ length vs) → sets l at (take n vs) ≡ sets l at vs
    go (yes k) =
        let e : length (take n vs) ≡ n = length-take-le n vs k in
        let e' : length (sets l at (take n vs)) ≡ length l = length-sets l at (take n vs) in
        sym (sets-past (drop n vs) (sets l at (take n vs)) (at + length (take n vs)) (omega arith))
        ∙ sym (sets-append (take n vs) (drop n vs) l at) ∙ ap (sets l at) (take-append-drop n vs)
    go (no k) = ap (sets l at) (take_all n vs (omega arith))

-- ---- the loop after i words

pub record Keeping (words₀ : List ℕ) (at : ℕ) (bytes : List ℕ) (count : ℕ) (words : List ℕ) (i : ℕ) : Type 0 where
  pub few : i ≤ count
  pub all : count ≡ min (length words₀ - at) (length bytes / word_bytes)
  pub long : length words ≡ length words₀
  pub same : words ≡ sets words₀ at (take i (words_in bytes))

module _ (words₀ : List ℕ) (at : ℕ) (bytes : List ℕ) (count : ℕ) where
  pub keeping_none : count ≡ min (length words₀ - at) (length bytes / word_bytes) → Keeping words₀ at bytes count words₀ 0
  keeping_none e = record { few = omega arith; all = e; long = refl; same = refl }

  pub keeping-more : (words : List ℕ) (i w : ℕ) → Keeping words₀ at bytes count words i → i < count → w ≡ word_at bytes i
      → Keeping words₀ at bytes count (set words (at + i) w) (i + 1)
  keeping-more words i w k h e =
      let all = k.all in
      let low : i < length bytes / word_bytes = omega arith in
      let n : length (words_in bytes) ≡ length bytes / word_bytes = length-words_in bytes in
      let l : length (take i (words_in bytes)) ≡ i = length-take-le i (words_in bytes) (omega arith) in
      record {
        few = omega arith;
        all = all;
        long = length-set words (at + i) w ∙ k.long;
        same =
            ap₂ (λ (l : List ℕ) (x : ℕ). set l (at + i) x) k.same (e ∙ sym (get_or-words_in bytes i low))
            ∙ sym
            (ap (λ (j : ℕ). sets words₀ at (take j (words_in bytes))) (add-one i)
            ∙ ap (sets words₀ at) (take-suc (words_in bytes) i 0 (omega arith))
            ∙ sets-append (take i (words_in bytes)) (get_or (words_in bytes) i 0 ∷ []) words₀ at
            ∙ ap (λ (j : ℕ). set (sets words₀ at (take i (words_in bytes))) (at + j) (get_or (words_in bytes) i 0)) l);
      }

  pub keeping-end : (words : List ℕ) (i : ℕ) → Keeping words₀ at bytes count words i → count ≤ i
      → words ≡ sets words₀ at (words_in bytes)
  keeping-end words i k low =
      let few = k.few in
      let all = k.all in
      let q : i ≡ count = omega arith in
      let n : length (words_in bytes) ≡ length bytes / word_bytes = length-words_in bytes in
      k.same ∙ rw q (go (dec_le (length words₀) (at + count)) n)
    where
      go : Dec (length words₀ ≤ at + count) → length (words_in bytes) ≡ length bytes / word_bytes
          → sets words₀ at (take count (words_in bytes)) ≡ sets words₀ at (words_in bytes)
      go (yes z) n = sets-take (words_in bytes) words₀ at count z
      go (no z) n = let all = k.all in ap (sets words₀ at) (take_all count (words_in bytes) (omega arith))

-- ---- the words of bytes behind bytes

module _ (xs ys : List ℕ) (n : ℕ) (whole : length xs ≡ word_bytes * n) where
  first_word : (i : ℕ) → i < n → word_at (xs ++ ys) i ≡ word_at xs i
  unfolding word_at
  first_word i h =
      rw (
        get_or-append xs ys 0 (word_bytes * i) (omega arith),
        get_or-append xs ys 0 (word_bytes * i + 1) (omega arith),
        get_or-append xs ys 0 (word_bytes * i + 2) (omega arith),
        get_or-append xs ys 0 (word_bytes * i + 3) (omega arith),
      )

  behind : (i j : ℕ) → j ≡ word_bytes * n + i → get_or (xs ++ ys) j 0 ≡ get_or ys i 0
  behind i j e = ap (λ (k : ℕ). get_or (xs ++ ys) k 0) (e ∙ ap (λ (k : ℕ). k + i) (sym whole)) ∙ get_or-append-add xs ys i 0

  second_word : (i : ℕ) → word_at (xs ++ ys) (n + i) ≡ word_at ys i
  unfolding word_at
  second_word i =
      rw (
        behind (word_bytes * i) (word_bytes * (n + i)) (omega arith),
        behind (word_bytes * i + 1) (word_bytes * (n + i) + 1) (omega arith),
        behind (word_bytes * i + 2) (word_bytes * (n + i) + 2) (omega arith),
        behind (word_bytes * i + 3) (word_bytes * (n + i) + 3) (omega arith),
      )

  count-first : length (words_in xs) ≡ n
  count-first = let e = length-words_in xs in omega arith

  pub words_in-append : words_in (xs ++ ys) ≡ words_in xs ++ words_in ys
  words_in-append = ext_get_or 0 (words_in (xs ++ ys)) (words_in xs ++ words_in ys) same_length same
    where
      all_words : length (words_in (xs ++ ys)) ≡ n + length ys / word_bytes
      all_words = let e = length-words_in (xs ++ ys) in let l = length-append xs ys in omega arith

      same_length : length (words_in (xs ++ ys)) ≡ length (words_in xs ++ words_in ys)
      same_length = let e = length-words_in ys in all_words ∙ rw (length-append, count-first) (omega arith)

      same : (i : ℕ) → i < length (words_in (xs ++ ys)) → get_or (words_in (xs ++ ys)) i 0 ≡ get_or (words_in xs ++ words_in ys) i 0
      same i h = let e = length-words_in (xs ++ ys) in get_or-words_in (xs ++ ys) i (omega arith) ∙ go (dec_le n i)
        where
          go : Dec (n ≤ i) → word_at (xs ++ ys) i ≡ get_or (words_in xs ++ words_in ys) i 0
          go (yes l) =
              let e : i ≡ n + (i - n) = omega arith in
              let f : length (words_in xs) + (i - n) ≡ i = rw count-first (omega arith) in
              let a = all_words in
              ap (word_at (xs ++ ys)) e ∙ second_word (i - n) ∙ sym (get_or-words_in ys (i - n) (omega arith))
              ∙ sym (get_or-append-add (words_in xs) (words_in ys) (i - n) 0) ∙ ap (λ (k : ℕ). get_or (words_in xs ++ words_in ys) k 0) f
          go (no l) =
              let c = count-first in
              first_word i (omega arith) ∙ sym (get_or-words_in xs i (omega arith))
              ∙ sym (get_or-append (words_in xs) (words_in ys) 0 i (omega arith))

  -- the program keeps the words of one part after the other; together they are those of all bytes
  pub kept-parts : (slice : List ℕ) → sets (sets slice 0 (words_in xs)) n (words_in ys) ≡ sets slice 0 (words_in (xs ++ ys))
  kept-parts slice =
      let e : 0 + length (words_in xs) ≡ n = rw count-first (omega arith) in
      ap (λ (k : ℕ). sets (sets slice 0 (words_in xs)) k (words_in ys)) (sym e) ∙ sym (sets-append (words_in xs) (words_in ys) slice 0)
      ∙ ap (sets slice 0) (sym words_in-append)

-- ---- the words that are kept

-- a slice into which words were stored begins with them, as far as it reaches
pub kept-words : (slice ws : List ℕ) → take (min (length ws) (length slice)) (sets slice 0 ws) ≡ take (length slice) ws
kept-words slice ws =
    let r = length slice in
    let l : length (take r ws) ≡ min r (length ws) = length-take r ws in
    ap (take (min (length ws) r)) (sym (sets-take ws slice 0 r (omega arith)) ∙ sets-whole (take r ws) slice (omega arith))
    ∙ take_at (take r ws) (drop (length (take r ws)) slice) (min (length ws) r) (omega arith)
