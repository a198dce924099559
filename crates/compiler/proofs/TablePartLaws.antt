-- Laws of a rule's table: the last word's states, and the table's words in four parts.
use mathlib.Core.Path.{◌≡◌, refl, ap, ap₂, ◌∙◌, sym}
use mathlib.Core.List.{List, [], ◌∷◌, ◌++◌}
use Prim.Native.Nat.{ℕ, suc, ◌+◌, ◌-◌, ◌<◌}
use native.Mathlib.Omega.{arith}
use lib.ListN.{length, get_or, take}
use lib.Seq.{take-suc, take_all}
use Rattle.words.specs.Limits.{constants_most}
use Rattle.words.specs.Word.{head_kind, word_of, above_state}
use Rattle.words.specs.Alphabet.{constants_of}
use Rattle.automaton.specs.Transition.{transitions_words, length_word}
use Rattle.automaton.specs.Numbering.{Port as States, states_of, port_of, states_after, transitions_from, last_port, compiled}
use Rattle.automaton.specs.Numbering.{constant_transitions}
use Rattle.automaton.proofs.EntryStates.{port-exit}
use Rattle.automaton.proofs.TransitionLaws.{transitions_words-append}
use Rattle.automaton.proofs.WordNumbering.{last_port-snoc}
use Rattle.operations.specs.Compile.{compiled_table}
use Rattle.ports.specs.declared.states.Port.{Port}
use Rattle.ports.specs.Ports.{port_in}
use Rattle.emitter.specs.Writing.{WordsWritten}
use Rattle.emitter.proofs.WritingLaws.{words-written-more, words-written-same, words-written-around}
use Rattle.compiler.specs.Compiling.{all_own_words_most, compiled_words_most}

-- ---- the last word

-- a list that is not empty is its members before the last and the last
before_last : (e : List ℕ) → 0 < length e → e ≡ take (length e - 1) e ++ get_or e (length e - 1) 0 ∷ []
before_last e h =
    let n : suc (length e - 1) ≡ length e = omega arith in
    sym (take_all (length e) e (omega arith)) ∙ ap (λ (k : ℕ). take k e) (sym n) ∙ take-suc e (length e - 1) 0 (omega arith)

module _ (a : List ℕ) where
  states-snoc : (ws : List ℕ) (n w : ℕ) → states_after a n (ws ++ w ∷ []) ≡ states_after a n ws + states_of a w
  unfolding states_after
  states-snoc [] n w = refl
  states-snoc (v ∷ ws) n w = states-snoc ws (n + states_of a v) w

  module _ (e : List ℕ) (some : 0 < length e) where
    abbrev front : List ℕ
    front = take (length e - 1) e

    abbrev last : ℕ
    last = get_or e (length e - 1) 0

    pub states-last : states_after a 0 e ≡ states_after a 0 front + states_of a last
    states-last = ap (states_after a 0) (before_last e some) ∙ states-snoc front 0 last

    last_port-last : last_port a e ≡ port_of a (states_after a 0 front) last
    last_port-last = ap (last_port a) (before_last e some) ∙ last_port-snoc a front last

-- ---- the table in four parts

table-parts : (a e : List ℕ) (ms : List ℕ)
    → ms ≡ transitions_words (constant_transitions (last_port a e).entries) ++ transitions_words (transitions_from a 0 e [])
    → word_of head_kind (above_state (states_after a 0 e) (last_port a e).exit) ∷ length_word (2 + length ms) ∷ ms ≡ compiled_table a e
unfolding compiled
table-parts a e ms h =
    ap (λ (l : List ℕ). word_of head_kind (above_state (states_after a 0 e) (last_port a e).exit) ∷ length_word (2 + length l) ∷ l)
    (h ∙ sym (transitions_words-append (constant_transitions (last_port a e).entries) (transitions_from a 0 e [])))

-- the four writers one after the other, that of the length word last; x and s are the last word's exit and the state count, p its
-- port
pub table-written : (a cs e : List ℕ) (some : 0 < length e) (x s : ℕ) (p : Port) (out o₁ o₂ o₃ o₄ : List ℕ) (n₁ n₂ r n₄ : ℕ) → cs ≡ constants_of a
    → x ≡ states_after a 0 (take (length e - 1) e) → s ≡ states_of a (get_or e (length e - 1) 0)
    → port_in (constants_of a) p ≡ port_of a x (get_or e (length e - 1) 0)
    → WordsWritten 1 0 (word_of head_kind (above_state (x + s) x) ∷ []) out o₁ n₁
    → WordsWritten constants_most 2 (transitions_words (constant_transitions (port_in cs p).entries)) o₁ o₂ n₂
    → WordsWritten all_own_words_most n₂ (transitions_words (transitions_from a 0 e [])) o₂ o₃ r
    → WordsWritten 1 1 (length_word r ∷ []) o₃ o₄ n₄
    → WordsWritten compiled_words_most 0 (compiled_table a e) out o₄ r
table-written a cs e some x s p out o₁ o₂ o₃ o₄ n₁ n₂ r n₄ known ex es ep h c w l =
    let w₀ = get_or e (length e - 1) 0 in
    let port : port_in cs p ≡ last_port a e =
    ap (λ (ds : List ℕ). port_in ds p) known ∙ ep ∙ ap (λ (n : ℕ). port_of a n w₀) ex ∙ sym (last_port-last a e some) in
    let exit : x ≡ (last_port a e).exit = sym (port-exit a w₀ x) ∙ ap (λ (P : States). P.exit) (sym ep ∙ ap (λ (ds : List ℕ). port_in ds p)
    (sym known) ∙ port) in
    let states : x + s ≡ states_after a 0 e = ap₂ (λ (m n : ℕ). m + n) ex es ∙ sym (states-last a e some) in
    let own = transitions_words (transitions_from a 0 e []) in
    let ms = transitions_words (constant_transitions (port_in cs p).entries) ++ own in
    let moves : WordsWritten (constants_most + all_own_words_most) 2 ms o₁ o₃ r =
    words-written-more constants_most all_own_words_most 2 n₂ r _ _ o₁ o₂ o₃ c w in
    words-written-same compiled_words_most compiled_words_most 0 r _ _ out o₄
    (words-written-around (constants_most + all_own_words_most) r _ _ n₁ n₄ _ out o₁ o₃ o₄ h moves l) (omega arith)
    (ap₂ (λ (k n : ℕ). word_of head_kind k ∷ length_word n ∷ ms) (ap₂ above_state states exit) moves.next
    ∙ table-parts a e ms (ap (λ (P : States). transitions_words (constant_transitions P.entries) ++ own) port))
