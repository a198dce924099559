-- The stack of heights in an array. These definitions serve inner functions.
use Rattle.std.specs.Prelude.{ℕ, List, ◌∷◌, reverse, take, drop}
use Rattle.words.specs.Shape.{height_over}
use Rattle.words.specs.Postfix.{arity, value_on, stack_after}

-- the first `top` words of the array as a stack, the last one on top
abbrev pub stack_in : List ℕ → ℕ → List ℕ
stack_in array top = reverse (take top array)

-- the stack of heights behind words
abbrev pub heights_after : List ℕ → List ℕ → List ℕ → List ℕ
heights_after a ws stack = stack_after a height_over ws stack

-- and behind one word
abbrev pub heights_after_word : List ℕ → ℕ → List ℕ → List ℕ
heights_after_word a w stack = value_on a height_over w stack ∷ drop (arity a w) stack

-- more than any height
abbrev pub word_most : ℕ
word_most = 4294967295
