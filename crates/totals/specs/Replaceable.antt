-- What replacing a subtree asks: a condition that callers show. It serves inner functions.
use Rattle.std.specs.Prelude.{ℕ, ◌≡◌}
use Rattle.words.specs.Postfix.{span_of}
use Rattle.operations.specs.ExchangeCall.{ExchangeCall}
use Rattle.operations.specs.Exchange.{words_fault, used}

-- a call that is not refused but perhaps by 27, and where the element's subtree begins
pub record Replaceable (c : ExchangeCall) (start : ℕ) : Type 0 where
  pub passes : words_fault c ≡ 0
  pub begins : start ≡ (span_of c.alphabet (used c) c.element).start
