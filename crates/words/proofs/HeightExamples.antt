-- Heights, spans and a subtree put in place, of small trees, and the border of 24: computed from the definitions.
use Prim.Native.Nat.{ℕ}
use mathlib.Core.Path.{◌≡◌, refl}
use mathlib.Core.Bool.{true, false}
use mathlib.Core.List.{List, [], ◌∷◌}
use lib.ListN.{replicate}
use Rattle.words.specs.Lists.{highest}
use Rattle.words.specs.Word.{kind_at}
use Rattle.words.specs.Alphabet.{rank_of}
use Rattle.words.specs.Shape.{value_on_by, values_by, stack_after_by, height_over, height_of_by, start_from_by, splice_by}
use Rattle.words.specs.Postfix.{arity, height_of, span_of, splice, values}
use Rattle.words.specs.Chapter.{too_high}

-- a of rank 0, f of rank 2, g of rank 1
abbrev alphabet : List ℕ
alphabet = 0x1000_0000 ∷ 0x1000_0002 ∷ 0x1000_0001 ∷ []

abbrev a : ℕ
a = 0x7000_0000

abbrev f : ℕ
f = 0x7000_0001

abbrev g : ℕ
g = 0x7000_0002

-- f(a, f(a, a)) and f(f(a, a), a): the highest child is the last, and the first
abbrev last : List ℕ
last = a ∷ a ∷ a ∷ f ∷ f ∷ []

abbrev first : List ℕ
first = a ∷ a ∷ f ∷ a ∷ f ∷ []

-- a leaf and n nodes above it
abbrev above : ℕ → List ℕ
above n = a ∷ replicate n g

lone : height_of alphabet (a ∷ []) ≡ 1
unfolding height_of_by stack_after_by value_on_by height_over highest arity rank_of kind_at
lone = refl

all-heights : values alphabet height_over last [] ≡ 1 ∷ 1 ∷ 1 ∷ 2 ∷ 3 ∷ []
unfolding values_by value_on_by height_over highest arity rank_of kind_at
all-heights = refl

highest-first : height_of alphabet first ≡ 3
unfolding height_of_by stack_after_by value_on_by height_over highest arity rank_of kind_at
highest-first = refl

inner : span_of alphabet last 3 ≡ record { start = 1; height = 2 }
unfolding height_of_by start_from_by stack_after_by value_on_by height_over highest arity rank_of kind_at
inner = refl

-- the first a gives way to the whole, which is higher then; the inner f gives way to a, and the result is lower
raised : height_of alphabet (splice alphabet last 0 last) ≡ 4
unfolding splice_by height_of_by start_from_by stack_after_by value_on_by height_over highest arity rank_of kind_at
raised = refl

lowered : height_of alphabet (splice alphabet last 3 (a ∷ [])) ≡ 2
unfolding splice_by height_of_by start_from_by stack_after_by value_on_by height_over highest arity rank_of kind_at
lowered = refl

-- "chapters of height 512 are marked, 513 refused"
marked : too_high alphabet (above 511) ≡ false
unfolding too_high height_of_by stack_after_by value_on_by height_over highest arity rank_of kind_at
marked = refl

refused : too_high alphabet (above 512) ≡ true
unfolding too_high height_of_by stack_after_by value_on_by height_over highest arity rank_of kind_at
refused = refl
