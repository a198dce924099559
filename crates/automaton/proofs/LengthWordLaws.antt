-- The length word: how many words of a slice are its table, and that what follows the table makes no difference.
use mathlib.Core.Path.{◌≡◌, refl, ap, ◌∙◌, sym}
use mathlib.Core.Bool.{true, false, ◌&&◌}
use mathlib.Core.List.{List, [], ◌∷◌, ◌++◌}
use Prim.Native.Nat.{ℕ, zero, suc, ◌<◌, ◌≤◌}
use native.Mathlib.Omega.{arith}
use lib.ListN.{length, get_or, take, length-append}
use lib.Dec.{leb}
use lib.Seq.{take_at, take_all, length-take-le}
use borrow.Author.Tests.{leb-true, le-leb}
use Rattle.words.specs.Word.{length_kind, is_of, length_below}
use Rattle.words.specs.Limits.{table_most}
use Rattle.words.proofs.TestLaws.{Tested, holds, fails, tested, and-true}
use Rattle.words.proofs.KindLaws.{is_of-facts, is_of-word_of}
use Rattle.automaton.specs.Transition.{length_word}
use Rattle.automaton.specs.Table.{is_length, table_word_count, table_in}

-- ---- the count

-- a slice whose table has n words: its second word says so
pub record Counted (slice : List ℕ) (n : ℕ) : Type 0 where
  pub word : get_or slice 1 0 ≡ length_word n
  pub some : 2 ≤ n
  pub few : n ≤ table_most
  pub inside : n ≤ length slice

is_length-facts : (slice : List ℕ) → is_length (length slice) (get_or slice 1 0) ≡ true → Counted slice (length_below (get_or slice 1 0))
is_length-facts slice h =
    let w = get_or slice 1 0 in
    let n = length_below w in
    let b = and-true (is_of length_kind w && leb 2 n && leb n table_most) (leb n (length slice)) h in
    let c = and-true (is_of length_kind w && leb 2 n) (leb n table_most) b.0 in
    let d = and-true (is_of length_kind w) (leb 2 n) c.0 in
    let i = is_of-facts length_kind w d.0 in
    record {
      word = omega arith;
      some = leb-true 2 n d.1;
      few = leb-true n table_most c.1;
      inside = leb-true n (length slice) b.1;
    }

-- the table's words are counted, or there are none
pub counted : (slice : List ℕ) → 0 < table_word_count slice → Counted slice (table_word_count slice)
unfolding table_word_count
counted slice h = go (tested (is_length (length slice) (get_or slice 1 0)))
  where
    go : Tested (is_length (length slice) (get_or slice 1 0)) → Counted slice (table_word_count slice)
    go (holds e) = rw e (is_length-facts slice e)
    go (fails e) = absurd (let z = rw e at h in omega arith)

pub count-told : (slice : List ℕ) → is_length (length slice) (get_or slice 1 0) ≡ true → table_word_count slice ≡ length_below (get_or slice 1 0)
unfolding table_word_count
count-told slice e = rw e

-- .. where the length word is missing or wrong
pub count_none : (slice : List ℕ) → is_length (length slice) (get_or slice 1 0) ≡ false → table_word_count slice ≡ 0
unfolding table_word_count
count_none slice e = rw e

pub counts : {slice : List ℕ} {n : ℕ} → Counted slice n → table_word_count slice ≡ n
unfolding table_word_count
counts {slice} {n} c =
    let few = c.few in
    let e : length_below (length_word n) ≡ n = omega arith in
    rw (
      c.word,
      is_of-word_of length_kind n (omega arith),
      e,
      le-leb 2 n c.some,
      le-leb n table_most c.few,
      le-leb n (length slice) c.inside,
    )

-- ---- the table in a slice

pub table_word_count-inside : (slice : List ℕ) → table_word_count slice ≤ length slice
table_word_count-inside slice = go (table_word_count slice) (counted slice)
  where
    go : (n : ℕ) → (0 < n → Counted slice n) → n ≤ length slice
    go zero c = omega arith
    go (suc n) c = (c (omega arith)).inside

pub length-table_in : (slice : List ℕ) → length (table_in slice) ≡ table_word_count slice
unfolding table_in
length-table_in slice = length-take-le (table_word_count slice) slice (table_word_count-inside slice)

-- the slice cut behind the table's n words
pub cut_in : (slice : List ℕ) {n : ℕ} → n ≡ table_word_count slice → take n slice ≡ table_in slice
unfolding table_in
cut_in slice e = ap (λ (k : ℕ). take k slice) e

-- a slice of fewer words than a head and a length word holds no table
pub count-short : (slice : List ℕ) → length slice < 2 → table_word_count slice ≡ 0
count-short slice h = go (table_word_count slice) (counted slice)
  where
    go : (n : ℕ) → (0 < n → Counted slice n) → n ≡ 0
    go zero c = refl
    go (suc n) c = let some = (c (omega arith)).some in let inside = (c (omega arith)).inside in absurd (omega arith)

-- "ignore what follows": a table is counted alike whatever stands behind it
followed-counted : (slice : List ℕ) (n : ℕ) → Counted slice n → (behind : List ℕ) → Counted (take n slice ++ behind) n
followed-counted [] n c behind = absurd (let i = c.inside in let s = c.some in omega arith)
followed-counted (h ∷ []) n c behind = absurd (let i = c.inside in let s = c.some in omega arith)
followed-counted (h ∷ w ∷ ws) zero c behind = absurd (let s = c.some in omega arith)
followed-counted (h ∷ w ∷ ws) (suc zero) c behind = absurd (let s = c.some in omega arith)
followed-counted (h ∷ w ∷ ws) (suc (suc n)) c behind =
    let slice = h ∷ w ∷ ws in
    let inside : suc (suc n) ≤ length (take (suc (suc n)) slice ++ behind) =
    rw (length-append (take (suc (suc n)) slice) behind, length-take-le (suc (suc n)) slice c.inside) (omega arith) in
    record { word = c.word; some = c.some; few = c.few; inside = inside }

pub followed : (slice : List ℕ) → 0 < table_word_count slice → (behind : List ℕ) → table_in (table_in slice ++ behind) ≡ table_in slice
unfolding table_in
followed slice h behind =
    let c = counted slice h in
    let n = table_word_count slice in
    ap (λ (k : ℕ). take k (take n slice ++ behind)) (counts (followed-counted slice n c behind))
    ∙ take_at (take n slice) behind n (length-take-le n slice c.inside)

-- words that are counted exactly, with whatever stands behind them
exact : (table : List ℕ) → table_word_count table ≡ length table → table_in table ≡ table
unfolding table_in
exact table e = take_all (table_word_count table) table (omega arith)

pub exact-in : (table : List ℕ) → 0 < length table → table_word_count table ≡ length table → (behind : List ℕ)
    → table_in (table ++ behind) ≡ table
exact-in table some e behind =
    sym (ap (λ (l : List ℕ). table_in (l ++ behind)) (exact table e)) ∙ followed table (omega arith) behind ∙ exact table e
