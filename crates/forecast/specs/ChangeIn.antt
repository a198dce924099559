-- A change as the definitions have it, in this chapter with these marks.
use Rattle.std.specs.Prelude.{ℕ, List}
use Rattle.operations.specs.ExchangeCall.{ExchangeCall, exchange_call}
use Rattle.forecast.specs.declared.Change.{Change}

abbrev pub call_in : Change → List ℕ → List ℕ → ExchangeCall
call_in c chapter marks = exchange_call c.alphabet.now c.table.now chapter marks c.count c.element c.replacement.now
