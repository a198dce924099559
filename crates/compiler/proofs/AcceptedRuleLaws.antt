-- What refusals 1 to 6 leave of an alphabet and a rule: its constants, and the states of its words.
use mathlib.Core.Path.{◌≡◌, ap, ◌∙◌, sym}
use mathlib.Core.List.{List}
use Prim.Native.Nat.{ℕ, ◌*◌, ◌≤◌}
use native.Mathlib.Omega.{arith}
use lib.ListN.{length, take, length-append}
use lib.Seq.{sets, take_all}
use Rattle.words.specs.Lists.{written_over}
use Rattle.words.specs.Limits.{alphabet_most, constants_most, expression_most}
use Rattle.words.specs.Refusal.{refusal}
use Rattle.words.specs.Alphabet.{constants_of}
use Rattle.words.proofs.ListLaws.{length-take-most, take-over, sets-whole}
use Rattle.words.proofs.AcceptedAlphabet.{AcceptedAlphabet, alphabet-accepted}
use Rattle.words.proofs.AcceptedExpression.{AcceptedExpression, expression-accepted}
use Rattle.operations.specs.Compile.{rule_refusals}
use Rattle.operations.proofs.AcceptedLaws.{rule-accepted}
use Rattle.emitter.specs.Emission.{SymbolsEmittable}
use Rattle.compiler.specs.Compiling.{word_states_most, StatesCountable}

pub rule-alphabet : (a e : List ℕ) → refusal (rule_refusals a e) ≡ 0 → AcceptedAlphabet a
rule-alphabet a e h = alphabet-accepted a (rule-accepted a e h).alphabet

pub rule-expression : (a e : List ℕ) → refusal (rule_refusals a e) ≡ 0 → AcceptedExpression a e
rule-expression a e h = expression-accepted a e (rule-accepted a e h).expression

-- the states of a word can be counted by the number of the constants
pub states-countable : (a : List ℕ) (count : ℕ) → AcceptedAlphabet a → count ≡ length (constants_of a) → StatesCountable a count
states-countable a count h e = let few = h.constants.few in record { constants = e; few = omega arith }

-- what the emitter asks of the symbols
pub symbols-emittable : (a : List ℕ) → AcceptedAlphabet a → SymbolsEmittable a
symbols-emittable a h = record { few = h.counted.few; ranks = h.ranks }

-- the states of a rule's first words are few
pub states-few : (e : List ℕ) (n x : ℕ) → length e ≤ expression_most → x ≤ word_states_most * length (take n e)
    → x ≤ word_states_most * expression_most
states-few e n x few h = omega (arith, length-take-most e n)

-- the same of a rule's words, for `grind`
pub first_states : (a e : List ℕ) (n x : ℕ) → refusal (rule_refusals a e) ≡ 0 → x ≤ word_states_most * length (take n e)
    → x ≤ word_states_most * expression_most
first_states a e n x accepted h = states-few e n x (rule-expression a e accepted).counted.few h

-- the constants of an accepted alphabet in a list of as many words as there can be constants: none is left out
module _ (a l l' : List ℕ) (r : ℕ) (accepted : AcceptedAlphabet a) (long : length l ≡ constants_most)
    (count : r ≡ length (constants_of (take alphabet_most a))) (stored : l' ≡ sets l 0 (constants_of (take alphabet_most a))) where
  whole : take alphabet_most a ≡ a
  whole = take_all alphabet_most a accepted.counted.few

  begins : l' ≡ written_over (constants_of a) l
  begins = stored ∙ rw whole (sets-whole (constants_of a) l (let few = accepted.constants.few in omega arith))

  number : r ≡ length (constants_of a)
  number = count ∙ rw whole

  pub constants-first : take r l' ≡ constants_of a
  constants-first = ap (take r) begins ∙ take-over (constants_of a) l r (sym number)

  pub constants-within : r ≤ length l'
  constants-within = rw (begins, length-append) (omega (arith, number))
