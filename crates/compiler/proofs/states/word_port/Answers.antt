-- `compiler::states::word_port` meets its contract: the kind, and whether it has entries, say which entries the word has.
use mathlib.Core.Path.{refl, sym, ◌∙◌}
use mathlib.Core.List.{[], ◌∷◌}
use native.Mathlib.Omega.{arith}
use Rattle.words.specs.Word.{symbol_kind}
use Rattle.words.specs.declared.word.Kind.TheVariants.{Symbol}
use Rattle.words.proofs.DecodedLaws.{told-number, left-number}
use Rattle.compiler.proofs.StateLaws.{word-port-every, word-port-constant, word-port-empty}
use Rattle.compiler.proofs.states.word_port.Goals as goal

pub returns-then-has_entries : goal.returns-then-has_entries
returns-then-has_entries c =
    let p = c.port_of.ensures in
    word-port-every _ _ _ c.port_of.result p.0 (sym c.has_entries.ensures ∙ c.if-has_entries.true) p.1

pub returns-in-Symbol : goal.returns-in-Symbol
returns-in-Symbol c =
    let p = c.port_of-in-Symbol.ensures in
    word-port-constant _ _ _ c.port_of-in-Symbol.result p.0 (sym c.has_entries.ensures ∙ c.if-has_entries.false)
    (told-number _ _ c.kind_of-kind.ensures Symbol c.in-Symbol.is (omega arith)) p.1

pub returns-in_default : goal.returns-in_default
returns-in_default c =
    let p = c.port_of-in_default.ensures in
    word-port-empty _ _ _ c.port_of-in_default.result p.0 (sym c.has_entries.ensures ∙ c.if-has_entries.false)
    (left-number _ c.kind_of-kind.result c.kind_of-kind.ensures (Symbol ∷ []) (c.in_default.not-Symbol, tt) symbol_kind refl) p.1
