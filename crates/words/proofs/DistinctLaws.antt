-- Lists in which nothing stands twice.
use mathlib.Core.Logic.{⊎_elim}
use mathlib.Core.List.Memᴰ
use mathlib.Core.List.{List, [], ◌∷◌, ◌++◌, Memᴰ}
use Rattle.words.specs.Lists.{All}
use Rattle.words.proofs.AllLaws.{each_at}

abbrev pub Distinct : {A : Type 0} → List A → Type 0
Distinct [] = Unit {0}
Distinct (x ∷ xs) = (Memᴰ x xs → ⊥) × Distinct xs

-- where the members of one list have a property that those of the other lack
pub distinct_append : {A : Type 0} (P Q : A → Type 0) → ((x : A) → P x → Q x → ⊥) → (xs ys : List A) → All P xs → All Q ys
    → Distinct xs → Distinct ys → Distinct (xs ++ ys)
distinct_append P Q apart [] ys p q d e = e
distinct_append P Q apart (x ∷ xs) ys p q d e = (
  λ m. ⊎_elim (λ k. d.0 k) (λ k. apart x p.0 (each_at Q ys q k)) (Memᴰ.append_cases xs m),
  distinct_append P Q apart xs ys p.1 q d.1 e,
)
