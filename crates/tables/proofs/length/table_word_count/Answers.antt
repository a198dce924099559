-- `tables::length::table_word_count` meets its contract: the second word's count where it is a length word, and otherwise none.
use mathlib.Core.Path.{sym, ◌∙◌}
use native.Mathlib.Omega.{arith}
use Rattle.automaton.proofs.LengthWordLaws.{count-told, count_none, count-short}
use Rattle.tables.proofs.length.table_word_count.Goals as goal

pub returns-in_default : goal.returns-in_default
returns-in_default c = sym (count-short _ (omega (arith, c.in_default.ensures.lookup.3)))

pub returns-then-is_length : goal.returns-then-is_length
returns-then-is_length c =
    let second = c.in-Some.ensures.lookup.3.1 0 in
    rw second (sym (count-told _ (rw second at (sym c.is_length.ensures ∙ c.if-is_length.true))))

pub returns : goal.returns
returns c =
    let second = c.in-Some.ensures.lookup.3.1 0 in
    sym (count_none _ (rw second at (sym c.is_length.ensures ∙ c.if-is_length.false)))
