-- Laws of the loop that reads words part after part.
use mathlib.Core.Path.{◌≡◌, refl, ap, ◌∙◌, sym}
use mathlib.Core.List.{List, [], ◌++◌}
use Prim.Native.Nat.{ℕ, ◌+◌, ◌*◌, ◌-◌, ◌/◌, ◌<◌, ◌≤◌, min}
use native.Mathlib.Omega.{arith}
use lib.ListN.{length, take, drop, length-append}
use lib.Seq.{sets, length-sets, length_front, length-take-le}
use mathlib.Core.Bool.{true}
use Rattle.words.proofs.TestLaws.{all_append}
use Rattle.encoding.specs.Words.{is_byte, are_bytes, word_bytes, words_in}
use Rattle.encoding.proofs.WordByteLaws.{kept-parts}
use Rattle.report.specs.Stages.{buffer_words}
use Rattle.marklist.specs.InputReading.{InputStored}

-- a part of the buffer that was lent and came back is as long as before
module _ (buffer back : List ℕ) (n : ℕ) (fits : n ≤ length buffer) (long : length back ≡ length (take n buffer)) where
  pub part-fits : n ≤ length (back ++ drop n buffer)
  part-fits = rw (length_front buffer back n long) fits

  pub part-long : n ≡ length (take n (back ++ drop n buffer))
  part-long = sym (length-take-le n (back ++ drop n buffer) part-fits)

-- the loop after `seen` words
pub record SoFar (count : ℕ) (words₀ words : List ℕ) (seen : ℕ) : Type 0 where
  pub few : seen ≤ count
  pub long : length words ≡ length words₀
  pub stored : InputStored seen words₀ words

module _ (count : ℕ) (words₀ : List ℕ) where
  pub so-far-none : SoFar count words₀ words₀ 0
  unfolding words_in
  so-far-none = record { few = omega arith; long = refl; stored = record { bytes = []; small = refl; whole = refl; same = refl } }

  -- the next part, of which there are as many bytes as asked for
  pub so_far_more : (words : List ℕ) (seen : ℕ) → SoFar count words₀ words seen → seen < count
      → (part words' : List ℕ) (n : ℕ) → n ≡ word_bytes * min (count - seen) buffer_words → n ≡ length part
      → words' ≡ sets words seen (words_in part)
      → are_bytes part ≡ true
      → SoFar count words₀ words' (seen + n / word_bytes)
  so_far_more words seen s h part words' n e l q b =
      let t = s.stored in
      record {
        few = omega arith;
        long = ap length q ∙ length-sets words seen (words_in part) ∙ s.long;
        stored = record {
          bytes = t.bytes ++ part;
          small = all_append is_byte t.bytes part t.small b;
          whole = length-append t.bytes part ∙ (let w = t.whole in omega arith);
          same = q ∙ ap (λ (ws : List ℕ). sets ws seen (words_in part)) t.same ∙ kept-parts t.bytes part seen t.whole words₀;
        };
      }

  pub so-far-end : (words : List ℕ) (seen : ℕ) → SoFar count words₀ words seen → count ≤ seen → InputStored count words₀ words
  so-far-end words seen s h =
      let few = s.few in
      let e : seen ≡ count = omega arith in
      rw e at s.stored
