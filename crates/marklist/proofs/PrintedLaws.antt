-- The words that were read and kept give the output of the bytes that they came from.
use mathlib.Core.Path.{◌≡◌, refl, ap, ap₂, ◌∙◌, sym}
use mathlib.Core.Bool.{Bool, true, false}
use mathlib.Core.List.{List, [], ◌∷◌, ◌++◌, append-nil}
use Prim.Native.Nat.{ℕ, ◌≤◌, min}
use native.Mathlib.Omega.{arith}
use lib.ListN.{length, get_or, take, drop}
use lib.Seq.{length-sets, take_all, length-take-le}
use Rattle.std.proofs.Common.{Result, Ok, Err}
use Rattle.std.specs.Result.{is_ok, IfOk}
use Rattle.words.proofs.TestLaws.{all_append}
use Rattle.encoding.specs.Words.{is_byte, are_bytes, words_in}
use Rattle.encoding.proofs.WordByteLaws.{length-words_in, words_in-append, kept-words}
use Rattle.lines.specs.Line.{refused_line}
use Rattle.report.specs.Stages.{alphabet_kept, rule_kept, chapter_kept, buffer_length}
use Rattle.report.specs.Output.{output_of}
use Rattle.report.specs.Input.{complete, alphabet_in, rule_in, chapter_in, program_output}
use Rattle.report.proofs.OutputLength.{output-short}
use Rattle.report.proofs.KeptLaws.{early-output}
use Rattle.report.proofs.ReportLaws.{zeros, many}
use Rattle.report.proofs.ProgramLaws.{program-early, program-complete}
use Rattle.marklist.specs.InputReading.{InputStored, PartsStored, Printed}

-- ---- words that are stored

module _ {count : ℕ} {before after : List ℕ} (s : InputStored count before after) where
  count-words : length (words_in s.bytes) ≡ count
  count-words = let l = length-words_in s.bytes in let w = s.whole in omega arith

  -- what is lent of the slice are the first words of the bytes, as many as it holds
  lent-words : take (min count (length before)) after ≡ take (length before) (words_in s.bytes)
  lent-words =
      ap₂ (λ (n : ℕ) (l : List ℕ). take (min n (length before)) l) (sym count-words) s.same ∙ kept-words before (words_in s.bytes)

-- as many words of a slice of m words as are kept
pub kept-fit : {n m slice_length : ℕ} (count : ℕ) → n ≡ min count slice_length → m ≡ slice_length → n ≤ m
kept-fit count e long = omega arith

pub kept-long : {n slice_length : ℕ} (count : ℕ) (words : List ℕ) → n ≡ min count slice_length → length words ≡ slice_length
    → n ≡ length (take n words)
kept-long {n} count words e long = sym (length-take-le n words (kept-fit count e long))

three : (l : List ℕ) → length l ≡ 3 → l ≡ get_or l 0 0 ∷ get_or l 1 0 ∷ get_or l 2 0 ∷ []
three [] h = absurd (omega arith)
three (x ∷ []) h = absurd (omega arith)
three (x ∷ y ∷ []) h = absurd (omega arith)
three (x ∷ y ∷ z ∷ []) h = refl
three (x ∷ y ∷ z ∷ w ∷ l) h = absurd (omega arith)

-- three counts fill their slice
counts-are : {before after : List ℕ} (s : InputStored 3 before after) → length before ≡ 3 → after ≡ words_in s.bytes
counts-are {before} {after} s e =
    let l : length after ≡ 3 = ap length s.same ∙ length-sets before 0 (words_in s.bytes) ∙ e in
    let n = count-words s in
    let m : min 3 (length before) ≡ 3 = omega arith in
    sym (take_all 3 after (omega arith)) ∙ ap (λ (i : ℕ). take i after) (sym m) ∙ lent-words s
    ∙ take_all (length before) (words_in s.bytes) (omega arith)

-- ---- all parts

module _ (counts₀ counts alphabet₀ alphabet rule₀ rule chapter₀ chapter : List ℕ)
    (few : length counts₀ ≡ 3) (symbols : length alphabet₀ ≡ alphabet_kept) (words : length rule₀ ≡ rule_kept)
    (nodes : length chapter₀ ≡ chapter_kept)
    (p : PartsStored counts₀ counts alphabet₀ alphabet rule₀ rule chapter₀ chapter) where
  abbrev c : InputStored 3 counts₀ counts
  c = p.counts_stored

  abbrev s : InputStored (get_or counts 0 0) alphabet₀ alphabet
  s = p.alphabet_stored

  abbrev t : InputStored (get_or counts 1 0) rule₀ rule
  t = p.rule_stored

  abbrev u : InputStored (get_or counts 2 0) chapter₀ chapter
  u = p.chapter_stored

  -- the bytes that were read
  abbrev all_bytes : List ℕ
  all_bytes = c.bytes ++ (s.bytes ++ (t.bytes ++ u.bytes))

  all-bytes : are_bytes all_bytes ≡ true
  all-bytes =
      let join = all_append is_byte in
      join c.bytes (s.bytes ++ (t.bytes ++ u.bytes)) c.small
      (join s.bytes (t.bytes ++ u.bytes) s.small (join t.bytes u.bytes t.small u.small))

  all_words : words_in all_bytes
      ≡ get_or counts 0 0 ∷ get_or counts 1 0 ∷ get_or counts 2 0 ∷ (words_in s.bytes ++ (words_in t.bytes ++ (words_in u.bytes ++ [])))
  all_words =
      words_in-append c.bytes (s.bytes ++ (t.bytes ++ u.bytes)) 3 c.whole
      ∙ ap₂ (λ (x y : List ℕ). x ++ y)
      (sym (counts-are c few) ∙ three counts (ap length (counts-are c few) ∙ count-words c))
      (words_in-append s.bytes (t.bytes ++ u.bytes) (get_or counts 0 0) s.whole
      ∙ ap (λ (x : List ℕ). words_in s.bytes ++ x)
      (words_in-append t.bytes u.bytes (get_or counts 1 0) t.whole
      ∙ ap (λ (x : List ℕ). words_in t.bytes ++ x) (sym (append-nil (words_in u.bytes)))))

  all-printed : program_output all_bytes
      ≡ output_of true (take (min (get_or counts 0 0) alphabet_kept) alphabet) (take (min (get_or counts 1 0) rule_kept) rule)
      (take (min (get_or counts 2 0) chapter_kept) chapter)
  all-printed =
      program-complete all_bytes (get_or counts 0 0) (get_or counts 1 0) (get_or counts 2 0) (words_in s.bytes) (words_in t.bytes)
      (words_in u.bytes) []
      all_words (count-words s) (count-words t) (count-words u)
      ∙ sym (rw (lent s symbols, lent t words, lent u nodes))
    where
      lent : {count slice_length : ℕ} {before after : List ℕ} (s : InputStored count before after) → length before ≡ slice_length
          → take (min count slice_length) after ≡ take slice_length (words_in s.bytes)
      lent {count} {before = before} {after = after} s e =
          ap (λ (n : ℕ). take (min count n) after) (sym e) ∙ lent-words s ∙ ap (λ (n : ℕ). take n (words_in s.bytes)) e

-- ---- what is printed

nothing-printed : program_output [] ≡ refused_line 0
nothing-printed = program-early [] 3 (omega arith) (omega arith)

printed : (all : Bool) (a e ch before after : List ℕ) (r : ℕ)
    → (all ≡ true → (input : List ℕ) × (are_bytes input ≡ true) × (program_output input ≡ output_of true a e ch))
    → r ≡ length (output_of all a e ch) → after ≡ output_of all a e ch ++ drop r before → Printed before after r
printed true a e ch before after r whole long same =
    let (input, small, q) = whole refl in
    record { input = input; small = small; long = long ∙ ap length (sym q); same = same ∙ ap (λ (l : List ℕ). l ++ drop r before) (sym q) }
printed false a e ch before after r whole long same =
    let q = early-output false a e ch refl ∙ sym nothing-printed in
    record { input = []; small = refl; long = long ∙ ap length q; same = same ∙ ap (λ (l : List ℕ). l ++ drop r before) q }

-- ---- the whole function: the parts are read, and the report

stored : {A E : Type 0} (read : Result A E) (P : Type 0) (all : Bool) → all ≡ is_ok read → IfOk read (λ u. P) → all ≡ true → P
stored (Ok u) P all told parts e = parts
stored (Err why) P all told parts e = cc

module _ {A E : Type 0} (counts alphabet rule chapter : List ℕ) (all : Bool) (read : Result A E)
    (told : all ≡ is_ok read)
    (parts : IfOk read (λ u. PartsStored (zeros 3) counts (zeros alphabet_kept) alphabet (zeros rule_kept) rule (zeros chapter_kept) chapter)) where
  read-input : all ≡ true → (input : List ℕ)
      × (are_bytes input ≡ true)
      × (program_output input
      ≡ output_of true (take (min (get_or counts 0 0) alphabet_kept) alphabet) (take (min (get_or counts 1 0) rule_kept) rule)
      (take (min (get_or counts 2 0) chapter_kept) chapter))
  read-input e =
      let p = stored read _ all told parts e in (
        all_bytes _ _ _ _ _ _ _ _ (many 3) (many alphabet_kept) (many rule_kept) (many chapter_kept) p,
        all-bytes _ _ _ _ _ _ _ _ (many 3) (many alphabet_kept) (many rule_kept) (many chapter_kept) p,
        all-printed _ _ _ _ _ _ _ _ (many 3) (many alphabet_kept) (many rule_kept) (many chapter_kept) p,
      )

  pub answered : {n m k r : ℕ} {out₀ out : List ℕ} → n ≡ min (get_or counts 0 0) alphabet_kept → m ≡ min (get_or counts 1 0) rule_kept
      → k ≡ min (get_or counts 2 0) chapter_kept
      → r ≡ length (output_of all (take n alphabet) (take m rule) (take k chapter))
      → out ≡ output_of all (take n alphabet) (take m rule) (take k chapter) ++ drop r out₀ → Printed out₀ out r
  answered x y z long same = printed all _ _ _ _ _ _ (λ e. rw (x, y, z) (read-input e)) long same

-- it fits a buffer of 4,096 bytes
pub printed-short : {before after : List ℕ} {r : ℕ} → Printed before after r → r ≤ buffer_length
unfolding program_output
printed-short p =
    let l = p.long in
    let s = output-short (complete p.input) (alphabet_in p.input) (rule_in p.input) (chapter_in p.input) in
    omega arith
