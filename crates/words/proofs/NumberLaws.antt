-- No refusal has the number 0, which says that there is none.
use mathlib.Core.Path.{◌≡◌}
use native.Mathlib.Omega.{arith}
use Rattle.words.specs.Decoded.{number_in}
use Rattle.words.specs.declared.refusal.Refusal.{Refusal}
use Rattle.words.specs.declared.refusal.Refusal.TheVariants.{NoAlphabet, WrongConstants, WrongLength, NotExpressionWords, NotOneExpression}
use Rattle.words.specs.declared.refusal.Refusal.TheVariants.{TooManyStates, TableTooLong, NoTable, WrongCount, NotNodes, NotOneTree}
use Rattle.words.specs.declared.refusal.Refusal.TheVariants.{MarksTooShort, ListTooShort, NoElement, NoReplacement, ResultTooLong, TooHigh}
use Rattle.words.specs.declared.refusal.Refusal.TheVariants.{TooManyWords, HasHoles, WrongTotals}

pub number_some : (refusal : Refusal) → number_in refusal ≡ 0 → ⊥
number_some NoAlphabet h = omega arith
number_some WrongConstants h = omega arith
number_some WrongLength h = omega arith
number_some NotExpressionWords h = omega arith
number_some NotOneExpression h = omega arith
number_some TooManyStates h = omega arith
number_some TableTooLong h = omega arith
number_some NoTable h = omega arith
number_some WrongCount h = omega arith
number_some NotNodes h = omega arith
number_some NotOneTree h = omega arith
number_some MarksTooShort h = omega arith
number_some ListTooShort h = omega arith
number_some NoElement h = omega arith
number_some NoReplacement h = omega arith
number_some ResultTooLong h = omega arith
number_some TooHigh h = omega arith
number_some TooManyWords h = omega arith
number_some HasHoles h = omega arith
number_some WrongTotals h = omega arith
