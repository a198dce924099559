-- Tests over a list, properties of all its members, lists by their index, and words written into a slice.
use Rattle.std.specs.Prelude.{ℕ, zero, suc, ◌+◌, ◌<◌, max, List, [], ◌∷◌, ◌++◌, Bool, true, false, cond, ◌&&◌, ◌||◌, length, drop}

-- the test holds of every number of the list
abbrev pub all : (ℕ → Bool) → List ℕ → Bool
all f [] = true
all f (x ∷ xs) = f x && all f xs

-- the test holds of some number of the list
abbrev pub some : (ℕ → Bool) → List ℕ → Bool
some f [] = false
some f (x ∷ xs) = f x || some f xs

-- how many numbers of the list pass the test
abbrev pub count : (ℕ → Bool) → List ℕ → ℕ
count f [] = 0
count f (x ∷ xs) = cond (f x) 1 0 + count f xs

-- the highest number of the list; 0 where there is none
unfoldable pub highest : List ℕ → ℕ
highest [] = 0
highest (x ∷ xs) = max x (highest xs)

-- the property holds of every member of the list
abbrev pub All : {A : Type 0} → (A → Type 0) → List A → Type 0
All P [] = Unit {0}
All P (x ∷ xs) = P x × All P xs

-- every number of the list is below n
abbrev pub AllBelow : ℕ → List ℕ → Type 0
AllBelow n = All (λ x. x < n)

-- f j, f (j + 1), .., n values
abbrev pub list_from : {A : Type 0} → (ℕ → A) → ℕ → ℕ → List A
list_from f j zero = []
list_from f j (suc n) = f j ∷ list_from f (suc j) n

-- a slice in front of which these words are written; "leaves the rest untouched"
abbrev pub written_over : List ℕ → List ℕ → List ℕ
written_over ws slice = ws ++ drop (length ws) slice
