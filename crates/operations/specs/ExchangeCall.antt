-- A call of Exchange: all that it is given but the record of totals, as one record.
use Rattle.std.specs.Prelude.{ℕ, List}

pub record ExchangeCall : Type 0 where
  pub alphabet : List ℕ
  -- the table in the slice that is lent
  pub table : List ℕ
  -- the chapter slice and the marks slice
  pub chapter : List ℕ
  pub marks : List ℕ
  -- "Exchange gets a used element count, an element and a replacement."
  pub count : ℕ
  pub element : ℕ
  pub replacement : List ℕ

-- the same of its parts, for a contract
abbrev pub exchange_call : List ℕ → List ℕ → List ℕ → List ℕ → ℕ → ℕ → List ℕ → ExchangeCall
exchange_call a table chapter marks n i xs = record {
  alphabet = a;
  table = table;
  chapter = chapter;
  marks = marks;
  count = n;
  element = i;
  replacement = xs;
}
