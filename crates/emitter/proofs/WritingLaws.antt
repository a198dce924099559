-- Laws of words written one after the other, and of the loop that writes those of one member of a list after the other.
use mathlib.Core.Path.{◌≡◌, refl, ap, ◌∙◌, sym}
use mathlib.Core.List.{List, [], ◌∷◌, ◌++◌}
use Prim.Native.Nat.{ℕ, suc, ◌+◌, ◌*◌, ◌<◌, ◌≤◌}
use native.Mathlib.Omega.{arith}
use native.Mathlib.Nat.{add-zero, add_assoc, suc-mul}
use native.Mathlib.Numerals.{add-one}
use lib.ListN.{length, take, set, length-append}
use lib.Seq.{sets, set_comm, take_all}
use Rattle.words.proofs.ListLaws.{sets-append}
use Rattle.emitter.specs.Writing.{WordsWritten}

pub words-written-none : (at : ℕ) (out : List ℕ) → WordsWritten 0 at [] out out at
words-written-none at out = record { words = refl; next = sym (add-zero at); short = omega arith }

-- words after words
pub words-written-more : (m n at next r : ℕ) (vs us out out' out'' : List ℕ)
    → WordsWritten m at vs out out' next → WordsWritten n next us out' out'' r → WordsWritten (m + n) at (vs ++ us) out out'' r
words-written-more m n at next r vs us out out' out'' p q =
    record {
      words = q.words ∙ rw (p.next, p.words) (sym (sets-append vs us out at));
      next = q.next ∙ rw (p.next, length-append) (add_assoc at (length vs) (length us));
      short = rw length-append (let a = p.short in let b = q.short in omega arith);
    }

-- the same words, said otherwise, and a bound that is looser
pub words-written-same : (m n at r : ℕ) (vs us out out' : List ℕ)
    → WordsWritten m at vs out out' r → m ≤ n → vs ≡ us → WordsWritten n at us out out' r
words-written-same m n at r vs us out out' p h e =
    rw (← e) (record { words = p.words; next = p.next; short = let a = p.short in omega arith })

-- how far a writer came
pub words-written-next : (m at r : ℕ) (ws out out' : List ℕ) → WordsWritten m at ws out out' r → r ≤ at + m
words-written-next m at r ws out out' p = let a = p.short in let b = p.next in omega arith

-- a word that is written in front of words that stand already
set_before : (ws out : List ℕ) (j i w : ℕ) → j < i → set (sets out i ws) j w ≡ sets (set out j w) i ws
set_before [] out j i w h = refl
set_before (v ∷ ws) out j i w h =
    set_before ws (set out i v) j (suc i) w (omega arith)
    ∙ ap (λ (o : List ℕ). sets o (suc i) ws) (set_comm out i j v w (λ e. omega arith))

-- the first word, the words from the third on, and then the second
pub words-written-around : (m r h l n₁ n₃ : ℕ) (ws out out' out'' out''' : List ℕ) → WordsWritten 1 0 (h ∷ []) out out' n₁
    → WordsWritten m 2 ws out' out'' r → WordsWritten 1 1 (l ∷ []) out'' out''' n₃ → WordsWritten (2 + m) 0 (h ∷ l ∷ ws) out out''' r
words-written-around m r h l n₁ n₃ ws out out' out'' out''' first rest second =
    record {
      words =
          second.words ∙ ap (λ (o : List ℕ). set o 1 l) rest.words ∙ set_before ws out' 1 2 l (omega arith)
          ∙ ap (λ (o : List ℕ). sets (set o 1 l) 2 ws) first.words;
      next = let n = rest.next in omega arith;
      short = let s = rest.short in omega arith;
    }

-- ---- the loop over members, each of at most `most` words, after k of them

pub record EachWritten {A : Type 0} (words_of : List A → List ℕ) (most : ℕ) (members : List A) (at : ℕ) (out out' : List ℕ) (next k : ℕ) : Type 0 where
  pub within : k ≤ length members
  pub written : WordsWritten (k * most) at (words_of (take k members)) out out' next

pub each-written-none : {A : Type 0} (words_of : List A → List ℕ) (most : ℕ) (members : List A) (at : ℕ) (out : List ℕ) → words_of [] ≡ []
    → EachWritten words_of most members at out out at 0
each-written-none words_of most members at out e =
    record {
      within = omega arith;
      written = words-written-same 0 (0 * most) at at [] (words_of []) out out (words-written-none at out) (omega arith) (sym e);
    }

module _ {A : Type 0} {words_of : List A → List ℕ} {most : ℕ} {members : List A} {at : ℕ} {out out' : List ℕ} {next k : ℕ}
    (w : EachWritten words_of most members at out out' next k) where
  pub each-written-more : (out'' : List ℕ) (r : ℕ) (ws : List ℕ) → k < length members
      → words_of (take (k + 1) members) ≡ words_of (take k members) ++ ws → WordsWritten most next ws out' out'' r
      → EachWritten words_of most members at out out'' r (k + 1)
  each-written-more out'' r ws h e q =
      let more : (k + 1) * most ≡ k * most + most = rw (add-one k) (suc-mul k most) in
      record {
        within = omega arith;
        written =
            words-written-same (k * most + most) ((k + 1) * most) at r _ _ out out''
            (words-written-more (k * most) most at next r _ ws out out' out'' w.written q) (omega arith) (sym e);
      }

  pub each-written-end : (n : ℕ) → length members ≤ k → k * most ≤ n → WordsWritten n at (words_of members) out out' next
  each-written-end n h few = words-written-same (k * most) n at next _ _ out out' w.written few (rw (take_all k members h))
