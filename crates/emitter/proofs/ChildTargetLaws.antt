-- Laws of where a word's entry for one constant leads, over two children, as in a product, and over one, as in a closure.
use mathlib.Core.Path.{◌≡◌, refl, ap, ◌∙◌, sym}
use mathlib.Core.List.{List, [], ◌∷◌, ◌++◌, flat_map, append-nil}
use Prim.Native.Nat.{ℕ, ◌-◌, ◌≤◌}
use native.Mathlib.Omega.{arith}
use lib.ListN.{length, take, drop, length-drop}
use lib.Seq.{length-take-le}
use borrow.Author.Tests.{eq-eqb, ne_eqb}
use Rattle.words.specs.Limits.{rank_most}
use Rattle.automaton.specs.Transition.{epsilon, transition_words}
use Rattle.automaton.specs.Numbering.{Port as States, entry_for, symbol_targets, union_targets, product_targets, closure_targets}
use Rattle.ports.specs.declared.states.Port.{Port}
use Rattle.ports.specs.Ports.{port_in, ports_in, child_in}
use Rattle.emitter.specs.Writing.{WordsWritten}
use Rattle.emitter.specs.Emission.{entry_words_most}
use Rattle.emitter.proofs.WritingLaws.{words-written-more, words-written-same}
use Rattle.emitter.proofs.EntryLaws.{epsilon_words, epsilon_words-append}

-- ---- children that are one or two

pub both : (cs : List ℕ) (ps : List Port) → length ps ≡ 2 → ports_in cs ps ≡ child_in cs ps 0 ∷ child_in cs ps 1 ∷ []
both cs [] h = absurd (omega arith)
both cs (p ∷ []) h = absurd (omega arith)
both cs (p ∷ q ∷ []) h = refl
both cs (p ∷ q ∷ x ∷ ps) h = absurd (omega arith)

pub single : (cs : List ℕ) (ps : List Port) → length ps ≡ 1 → ports_in cs ps ≡ child_in cs ps 0 ∷ []
single cs [] h = absurd (omega arith)
single cs (p ∷ []) h = refl
single cs (p ∷ x ∷ ps) h = absurd (omega arith)

-- the part of a slice from its second word on
abbrev pub behind_first : List Port → List Port
behind_first ps = take (length ps - 1) (drop 1 ps)

pub length-behind : (ps : List Port) → length (behind_first ps) ≤ length ps
length-behind ps =
    let rest : length (drop 1 ps) ≡ length ps - 1 = length-drop 1 ps in
    let part : length (behind_first ps) ≡ length ps - 1 = length-take-le (length ps - 1) (drop 1 ps) (omega arith) in
    omega arith

module _ (cs : List ℕ) (ps : List Port) (b : ℕ) where
  -- the entries of both children are those of a union
  pub targets-both : length ps ≡ 2 → symbol_targets (ports_in cs ps) b ≡ union_targets (child_in cs ps 0) (child_in cs ps 1) b
  unfolding flat_map
  targets-both h =
      ap (λ (l : List States). symbol_targets l b) (both cs ps h)
      ∙ ap (λ (l : List ℕ). entry_for (child_in cs ps 0) b ++ l) (append-nil (entry_for (child_in cs ps 1) b))

  targets-behind : length ps ≡ 2 → symbol_targets (ports_in cs (behind_first ps)) b ≡ entry_for (child_in cs ps 1) b
  unfolding flat_map
  targets-behind h = behind ps h
    where
      behind : (ps : List Port) → length ps ≡ 2 → symbol_targets (ports_in cs (behind_first ps)) b ≡ entry_for (child_in cs ps 1) b
      behind [] h = absurd (omega arith)
      behind (p ∷ []) h = absurd (omega arith)
      behind (p ∷ q ∷ []) h = append-nil (entry_for (port_in cs q) b)
      behind (p ∷ q ∷ x ∷ ps) h = absurd (omega arith)

  targets-single : length ps ≡ 1 → symbol_targets (ports_in cs ps) b ≡ entry_for (child_in cs ps 0) b
  unfolding flat_map
  targets-single h = ap (λ (l : List States). symbol_targets l b) (single cs ps h) ∙ append-nil (entry_for (child_in cs ps 0) b)

-- ---- a product and a closure over c

module _ (cs : List ℕ) (ps : List Port) (from b c at : ℕ) (out out' : List ℕ) (r : ℕ) where
  abbrev F : States
  F = child_in cs ps 0

  abbrev G : States
  G = child_in cs ps 1

  -- the transitions to the entries of these children are written
  abbrev ToEntries : List Port → Type 0
  ToEntries qs = WordsWritten rank_most at (epsilon_words from (symbol_targets (ports_in cs qs) b)) out out' r

  pub product-here : length ps ≡ 2 → b ≡ c → ToEntries (behind_first ps)
      → WordsWritten entry_words_most at (epsilon_words from (product_targets c F G b)) out out' r
  product-here two e w =
      words-written-same rank_most entry_words_most at r _ _ out out' w (omega arith) (rw (eq-eqb b c e, targets-behind cs ps b two))

  pub product-other : length ps ≡ 2 → (b ≡ c → ⊥) → ToEntries ps
      → WordsWritten entry_words_most at (epsilon_words from (product_targets c F G b)) out out' r
  product-other two n w =
      words-written-same rank_most entry_words_most at r _ _ out out' w (omega arith) (rw (ne_eqb b c n, targets-both cs ps b two))

  pub closure-here : length ps ≡ 1 → (x : ℕ) (out'' : List ℕ) (s : ℕ) → b ≡ c → ToEntries ps
      → {y : ℕ} → y ≡ from → WordsWritten 1 r (transition_words (epsilon y x)) out' out'' s
      → WordsWritten entry_words_most at (epsilon_words from (closure_targets c x F b)) out out'' s
  closure-here one x out'' s e w q v =
      words-written-same entry_words_most entry_words_most at s _ _ out out''
      (words-written-more rank_most 1 at r s _ _ out out' out'' w (rw q at v)) (omega arith)
      (rw (eq-eqb b c e, targets-single cs ps b one) (sym (epsilon_words-append from (entry_for F b) (x ∷ []))))

  pub closure-other : length ps ≡ 1 → (x : ℕ) → (b ≡ c → ⊥) → ToEntries ps
      → WordsWritten entry_words_most at (epsilon_words from (closure_targets c x F b)) out out' r
  closure-other one x n w =
      words-written-same rank_most entry_words_most at r _ _ out out' w (omega arith)
      (rw (ne_eqb b c n, targets-single cs ps b one) (ap (epsilon_words from) (sym (append-nil (entry_for F b)))))
