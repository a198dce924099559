-- `compiler::states::has_entries` meets its contract: each case says what is said of its kind, and no kind that is left has entries.
use mathlib.Core.Path.{◌≡◌, refl, sym, ◌∙◌}
use mathlib.Core.Bool.{false, not}
use mathlib.Core.List.{List, [], ◌∷◌}
use Prim.Native.Nat.{ℕ}
use borrow.Author.Tests.{not-true}
use Rattle.words.specs.Word.{Kind, kind_of, low_byte}
use Rattle.words.specs.Decoded.{kind_in}
use Rattle.words.specs.declared.word.Kind.{Kind as Case}
use Rattle.words.specs.declared.word.Kind.TheVariants.{Symbol, Union, Product, Closure, Anything}
use Rattle.words.specs.Alphabet.{rank_of}
use Rattle.words.proofs.DecodedLaws.{Left, left-all, told-kind}
use Rattle.automaton.specs.Numbering.{entries_at, has_entries}
use Rattle.automaton.proofs.EntryStates.{entries-kind}
use Rattle.compiler.proofs.states.has_entries.Goals as goal

-- what is said of a word of kind j
said : (a : List ℕ) (w : ℕ) (k j : Case) → kind_in k ≡ kind_of w → k ≡ j → has_entries a w ≡ entries_at (rank_of a (low_byte w)) (kind_in j)
said a w k j decoded told = entries-kind a w (kind_in j) (told-kind w k decoded j told)

no-entries : (a : List ℕ) (w : ℕ) (k : Case) → kind_in k ≡ kind_of w → Left (Symbol ∷ Union ∷ Product ∷ Closure ∷ Anything ∷ []) k
    → has_entries a w ≡ false
no-entries a w k decoded left =
    let r = rank_of a (low_byte w) in
    entries-kind a w (kind_in k) (sym decoded)
    ∙ not-true (entries_at r (kind_in k))
    (left-all (Symbol ∷ Union ∷ Product ∷ Closure ∷ Anything ∷ []) k left (λ (j : Kind). not (entries_at r j)) refl)

pub returns-in-Symbol : goal.returns-in-Symbol
returns-in-Symbol c =
    rw c.rank.ensures (sym (said _ _ _ _ c.kind_of-kind.ensures c.in-Symbol.is))

pub returns-in-Union : goal.returns-in-Union
returns-in-Union c = sym (said _ _ _ _ c.kind_of-kind.ensures c.in-Union.is)

pub returns-in-Product : goal.returns-in-Product
returns-in-Product c = sym (said _ _ _ _ c.kind_of-kind.ensures c.in-Product.is)

pub returns-in-Closure : goal.returns-in-Closure
returns-in-Closure c = sym (said _ _ _ _ c.kind_of-kind.ensures c.in-Closure.is)

pub returns-in-Anything : goal.returns-in-Anything
returns-in-Anything c = sym (said _ _ _ _ c.kind_of-kind.ensures c.in-Anything.is)

pub returns-in_default : goal.returns-in_default
returns-in_default c = sym (no-entries _ _ c.kind_of-kind.result c.kind_of-kind.ensures (c.in_default.not-Symbol, (c.in_default.not-Union, (c.in_default.not-Product, (c.in_default.not-Closure, (c.in_default.not-Anything, tt))))))
