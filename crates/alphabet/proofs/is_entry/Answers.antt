-- `alphabet::is_entry` meets its contract: of a word of the kind the spare bits and then the rank decide, and no other word is one.
use mathlib.Core.Path.{refl, ◌∙◌, sym}
use mathlib.Core.List.{[], ◌∷◌}
use native.Mathlib.Omega.{arith}
use Rattle.words.specs.Word.{entry_kind}
use Rattle.words.specs.declared.word.Kind.TheVariants.{Entry}
use Rattle.words.specs.Alphabet.{is_entry}
use Rattle.words.proofs.DecodedLaws.{told-is_of, left-is_of}
use Rattle.alphabet.proofs.is_entry.Goals as goal

pub returns-then-spare_bits_clear : goal.returns-then-spare_bits_clear
unfolding is_entry
returns-then-spare_bits_clear c =
    let decides = told-is_of _ _ c.kind_of-kind.ensures Entry c.in-Entry.is (omega arith) in
    rw (decides ∙ sym c.spare_bits_clear.ensures ∙ c.if-spare_bits_clear.true, ← c.rank_most.ensures)

pub returns-else-spare_bits_clear : goal.returns-else-spare_bits_clear
unfolding is_entry
returns-else-spare_bits_clear c =
    let decides = told-is_of _ _ c.kind_of-kind.ensures Entry c.in-Entry.is (omega arith) in
    rw (c.if-spare_bits_clear.false, decides ∙ sym c.spare_bits_clear.ensures ∙ c.if-spare_bits_clear.false)

pub returns-in_default : goal.returns-in_default
unfolding is_entry
returns-in_default c = rw (left-is_of _ c.kind_of-kind.result c.kind_of-kind.ensures (Entry ∷ []) (c.in_default.not-Entry, tt) entry_kind refl)
