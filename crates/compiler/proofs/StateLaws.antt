-- Laws of the states of rule words: how many each has, the loop that adds them, and a word's port as a number.
use mathlib.Core.Path.{◌≡◌, refl, ap, ap₂, ◌∙◌, sym}
use mathlib.Core.Bool.{true, false}
use mathlib.Core.List.{List}
use Prim.Native.Nat.{ℕ, ◌+◌, ◌*◌, ◌<◌, ◌≤◌}
use native.Mathlib.Omega.{arith}
use lib.ListN.{length, get_or, drop}
use borrow.Author.Tests.{eq-eqb, ne_eqb}
use Rattle.words.specs.Word.{symbol_kind, number_of, low_byte, kind_number}
use Rattle.words.specs.Alphabet.{constants_of}
use Rattle.words.proofs.ScanLaws.{drop-step, drop-end}
use Rattle.automaton.specs.Numbering.{has_entries, states_of, port_of, states_after}
use Rattle.automaton.proofs.EntryStates.{port-full, port-leaf}
use Rattle.ports.specs.declared.states.Port.{Port}
use Rattle.ports.specs.declared.states.Entries.TheVariants.{Every, Single, Missing}
use Rattle.ports.specs.declared.states.Entries.{Entries}
use Rattle.ports.specs.Ports.{exit_in, code_in, entries_in, port_in}
use Rattle.compiler.specs.Compiling.{word_states_most}

-- the loop after i words
pub record Counting (a e : List ℕ) (state i : ℕ) : Type 0 where
  pub within : i ≤ length e
  pub low : state ≤ word_states_most * i
  pub left : states_after a 0 e ≡ states_after a state (drop i e)

pub counting-none : (a e : List ℕ) → Counting a e 0 0
counting-none a e = record { within = omega arith; low = omega arith; left = refl }

module _ {a e : List ℕ} {state i : ℕ} (c : Counting a e state i) where
  pub counting_more : (r : ℕ) → i < length e → r ≡ states_of a (get_or e i 0) → r ≤ word_states_most → Counting a e (state + r) (i + 1)
  unfolding states_after
  counting_more r h s l =
      let k = c.low in
      record {
        within = omega arith;
        low = omega arith;
        left = c.left ∙ ap (states_after a state) (drop-step e i h) ∙ ap (λ (m : ℕ). states_after a (state + m) (drop (i + 1) e)) (sym s);
      }

  pub counting-end : length e ≤ i → (state ≡ states_after a 0 e) × (state ≤ word_states_most * length e)
  unfolding states_after
  counting-end h =
      let k = c.low in
      let j = c.within in
      (sym (c.left ∙ ap (states_after a state) (drop-end e i h)), omega arith)

-- ---- a word's port

module _ (a : List ℕ) (x w : ℕ) (p : Port) (q : exit_in p ≡ x) where
  -- the port with this exit and these entries
  port_in-made : (t : Entries) → code_in p ≡ t → port_in (constants_of a) p ≡ record { exit = x; entries = entries_in (constants_of a) x t }
  port_in-made t e = ap₂ (λ (y : ℕ) (u : Entries). record { exit = y; entries = entries_in (constants_of a) y u }) q e

  pub word-port-every : has_entries a w ≡ true → code_in p ≡ Every → port_in (constants_of a) p ≡ port_of a x w
  word-port-every h e = port_in-made Every e ∙ sym (port-full a w x h)

  pub word-port-constant : has_entries a w ≡ false → number_of w ≡ kind_number symbol_kind → code_in p ≡ Single (low_byte w)
      → port_in (constants_of a) p ≡ port_of a x w
  word-port-constant h k e =
      port_in-made (Single (low_byte w)) e ∙ rw (port-leaf a w x h, eq-eqb (number_of w) (kind_number symbol_kind) k)

  pub word-port-empty : has_entries a w ≡ false → (number_of w ≡ kind_number symbol_kind → ⊥) → code_in p ≡ Missing
      → port_in (constants_of a) p ≡ port_of a x w
  word-port-empty h k e = port_in-made Missing e ∙ rw (port-leaf a w x h, ne_eqb (number_of w) (kind_number symbol_kind) k)
