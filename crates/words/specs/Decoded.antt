-- The kinds and the refusals as the code has them: the enums `Kind` of src/word.rt and `Refusal` of src/refusal.rt.
use Rattle.std.specs.Prelude.{ℕ, List, Result, Ok, Err}
use Rattle.words.specs.Answer.{Answer, refused, accepted}
use Rattle.words.specs.declared.refusal.Refusal.{Refusal}
use Rattle.words.specs.declared.refusal.Refusal.TheVariants.{NoAlphabet, WrongConstants, WrongLength, NotExpressionWords, NotOneExpression}
use Rattle.words.specs.declared.refusal.Refusal.TheVariants.{TooManyStates, TableTooLong, NoTable, WrongCount, NotNodes, NotOneTree}
use Rattle.words.specs.declared.refusal.Refusal.TheVariants.{MarksTooShort, ListTooShort, NoElement, NoReplacement, ResultTooLong, TooHigh}
use Rattle.words.specs.declared.refusal.Refusal.TheVariants.{TooManyWords, HasHoles, WrongTotals}
use Rattle.words.specs.Word.{Kind, entry_kind, symbol_kind, empty_kind, union_kind, product_kind, closure_kind}
use Rattle.words.specs.Word.{node_kind, head_kind, transition_kind, epsilon_kind, source_kind, length_kind, anything_kind, no_kind}
use Rattle.words.specs.declared.word.Kind.{Kind as Case}
use Rattle.words.specs.declared.word.Kind.TheVariants.{Entry, Symbol, Empty, Union, Product, Closure}
use Rattle.words.specs.declared.word.Kind.TheVariants.{Node, Head, Transition, Epsilon, Source, Length, Anything, Other}

-- the documents' kind of each case; `kind_number` has its number
abbrev pub kind_in : Case → Kind
kind_in Entry = entry_kind
kind_in Symbol = symbol_kind
kind_in Empty = empty_kind
kind_in Union = union_kind
kind_in Product = product_kind
kind_in Closure = closure_kind
kind_in Node = node_kind
kind_in Head = head_kind
kind_in Transition = transition_kind
kind_in Epsilon = epsilon_kind
kind_in Source = source_kind
kind_in Length = length_kind
kind_in Anything = anything_kind
kind_in Other = no_kind

-- the documents' number of each refusal: the enum `Refusal` of src/refusal.rt
abbrev pub number_in : Refusal → ℕ
number_in NoAlphabet = 1
number_in WrongConstants = 2
number_in WrongLength = 3
number_in NotExpressionWords = 4
number_in NotOneExpression = 5
number_in TooManyStates = 6
number_in TableTooLong = 7
number_in NoTable = 8
number_in WrongCount = 9
number_in NotNodes = 10
number_in NotOneTree = 11
number_in MarksTooShort = 12
number_in ListTooShort = 13
number_in NoElement = 14
number_in NoReplacement = 15
number_in ResultTooLong = 16
number_in TooHigh = 24
number_in TooManyWords = 25
number_in HasHoles = 26
number_in WrongTotals = 27

-- the number of a refusal, or 0 where there is none
abbrev pub fault_in : {A : Type 0} → Result A Refusal → ℕ
fault_in (Ok value) = 0
fault_in (Err refusal) = number_in refusal

-- a call's answer: a refusal's number, or the values of what it answers where it accepts
abbrev pub answer_in : {A : Type 0} → (A → List ℕ) → Result A Refusal → Answer
answer_in values (Ok value) = accepted (values value)
answer_in values (Err refusal) = refused (number_in refusal)
