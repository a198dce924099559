-- Laws of the own transitions of anything, and of the loops that write them: the part states of a symbol move, and the symbols.
use mathlib.Core.Path.{◌≡◌, refl, sym}
use mathlib.Core.List.{List, [], ◌∷◌, append-nil}
use Prim.Native.Nat.{ℕ, ◌+◌, ◌<◌}
use native.Mathlib.Omega.{arith}
use native.Mathlib.Nat.{zero-add}
use native.Mathlib.Numerals.{add-one}
use lib.ListN.{length, get_or, take, replicate, length-replicate, get_or-replicate}
use lib.Seq.{take-suc, length-take-le}
use borrow.Author.Tests.{eq-eqb, ne_eqb}
use Rattle.words.specs.Limits.{rank_most}
use Rattle.words.specs.Word.{source_kind, word_of}
use Rattle.words.specs.Alphabet.{entry_rank}
use Rattle.words.proofs.ListLaws.{map-append}
use Rattle.automaton.specs.Transition.{on_symbol, source_words, transition_words, transitions_words}
use Rattle.automaton.specs.Numbering.{full_port, every_symbol, anything_targets, anything_transitions}
use Rattle.automaton.proofs.TransitionLaws.{transitions_words-append, every_symbol-append}
use Rattle.emitter.specs.Writing.{WordsWritten}
use Rattle.emitter.specs.Emission.{symbol_words_most, every_symbol_most, entries_words_most, own_words_most}
use Rattle.emitter.proofs.WritingLaws.{words-written-none, words-written-more, words-written-same}
use Rattle.emitter.proofs.WritingLaws.{EachWritten, each-written-none, each-written-more}
use Rattle.emitter.proofs.EntryEpsilonLaws.{entry_epsilon_words}

-- ---- the exit in every part

-- the loop after i of n children
abbrev pub ExitsPushed : ℕ → ℕ → ℕ → List ℕ → List ℕ → ℕ → ℕ → Type 0
ExitsPushed n x = EachWritten source_words 1 (replicate n x)

module _ (n x : ℕ) {at : ℕ} {out out' : List ℕ} {next i : ℕ} (w : ExitsPushed n x at out out' next i) where
  pub exits-more : (out'' : List ℕ) (r : ℕ) → i < n
      → WordsWritten 1 next (word_of source_kind x ∷ []) out' out'' r → ExitsPushed n x at out out'' r (i + 1)
  exits-more out'' r h q =
      let long = length-replicate {A = ℕ} n x in
      let h' : i < length (replicate n x) = omega arith in
      each-written-more w out'' r _ h'
      (rw (add-one i, take-suc (replicate n x) i 0 h', get_or-replicate n i x 0 h)
      (map-append (λ p. word_of source_kind p) (take i (replicate n x)) (x ∷ []))) q

-- ---- one symbol

module _ (x s w : ℕ) (at : ℕ) (out : List ℕ) where
  abbrev own : List ℕ
  own = transitions_words (every_symbol x s (w ∷ []))

  pub on-constant : entry_rank w ≡ 0 → WordsWritten symbol_words_most at own out out at
  unfolding every_symbol
  on-constant e =
      rw (eq-eqb (entry_rank w) 0 e)
      (words-written-same 0 symbol_words_most at at [] [] out out (words-written-none at out) (omega arith) refl)

  pub on-symbol : (entry_rank w ≡ 0 → ⊥) → (n : ℕ) → n ≡ entry_rank w → (o₁ o₂ : List ℕ) (next r : ℕ)
      → WordsWritten 1 at (transition_words (on_symbol s [] x)) out o₁ next → WordsWritten rank_most next (source_words (replicate n x)) o₁ o₂ r
      → WordsWritten symbol_words_most at own out o₂ r
  unfolding every_symbol
  on-symbol h n e o₁ o₂ next r p q =
      rw (ne_eqb (entry_rank w) 0 h)
      (words-written-same (1 + rank_most) symbol_words_most at r _ _ out o₂
      (words-written-more 1 rank_most at next r _ _ out o₁ o₂ p q) (omega arith)
      (rw e (sym (append-nil (transition_words (on_symbol s (replicate (entry_rank w) x) x))))))

-- ---- every symbol

-- the loop after k symbols
abbrev pub SymbolsPushed : List ℕ → ℕ → ℕ → List ℕ → List ℕ → ℕ → ℕ → Type 0
SymbolsPushed a x = EachWritten (λ l. transitions_words (every_symbol x 0 l)) symbol_words_most a

pub symbols-none : (a : List ℕ) (x at : ℕ) (out : List ℕ) → SymbolsPushed a x at out out at 0
unfolding every_symbol
symbols-none a x at out = each-written-none _ symbol_words_most a at out refl

module _ {a : List ℕ} (x : ℕ) {at : ℕ} {out out' : List ℕ} {next k : ℕ} (w : SymbolsPushed a x at out out' next k) where
  pub symbols-more : (out'' : List ℕ) (r : ℕ) → k < length a
      → WordsWritten symbol_words_most next (transitions_words (every_symbol x k (get_or a k 0 ∷ []))) out' out'' r
      → SymbolsPushed a x at out out'' r (k + 1)
  symbols-more out'' r h q =
      let n : length (take k a) ≡ k = length-take-le k a (omega arith) in
      each-written-more w out'' r _ h
      (rw (add-one k, take-suc a k 0 h, every_symbol-append x 0 (take k a) (get_or a k 0 ∷ []), n, zero-add k)
      (transitions_words-append (every_symbol x 0 (take k a)) (every_symbol x k (get_or a k 0 ∷ [])))) q

-- ---- and the entries

pub anything-own : (a cs : List ℕ) (x at : ℕ) (out o₁ o₂ : List ℕ) (n r : ℕ)
    → WordsWritten every_symbol_most at (transitions_words (every_symbol x 0 a)) out o₁ n
    → WordsWritten entries_words_most n (entry_epsilon_words x cs (anything_targets x)) o₁ o₂ r
    → WordsWritten own_words_most at (transitions_words (anything_transitions a (full_port cs x))) out o₂ r
anything-own a cs x at out o₁ o₂ n r p q =
    words-written-same (every_symbol_most + entries_words_most) own_words_most at r _ _ out o₂
    (words-written-more every_symbol_most entries_words_most at n r _ _ out o₁ o₂ p q) (omega arith)
    (sym (transitions_words-append (every_symbol x 0 a) _))
