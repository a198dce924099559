-- A property of every member of a list, and lists of numbers below a bound.
use mathlib.Core.Path.{◌≡◌, refl, ap₂, sym, subst}
use mathlib.Core.List.{List, [], ◌∷◌, ◌++◌, map, flatten, reverse, reverse_aux, Memᴰ}
use Prim.Native.Nat.{ℕ, zero, suc, ◌+◌, ◌<◌, ◌≤◌}
use native.Mathlib.Omega.{arith}
use native.Mathlib.Nat.{add-zero, add-suc, suc-add}
use lib.ListN.{length, get_or, take, drop, set}
use lib.Seq.{get_or-set_other}
use Rattle.words.specs.Lists.{All, AllBelow, list_from}

module _ {A : Type 0} (P : A → Type 0) where
  pub each_append : (xs ys : List A) → All P xs → All P ys → All P (xs ++ ys)
  each_append [] ys p q = q
  each_append (x ∷ xs) ys p q = (p.0, each_append xs ys p.1 q)

  pub each_left : (xs ys : List A) → All P (xs ++ ys) → All P xs
  each_left [] ys p = tt
  each_left (x ∷ xs) ys p = (p.0, each_left xs ys p.1)

  pub each_right : (xs ys : List A) → All P (xs ++ ys) → All P ys
  each_right [] ys p = p
  each_right (x ∷ xs) ys p = each_right xs ys p.1

  pub each_take : (k : ℕ) (xs : List A) → All P xs → All P (take k xs)
  each_take zero xs p = tt
  each_take (suc k) [] p = tt
  each_take (suc k) (x ∷ xs) p = (p.0, each_take k xs p.1)

  pub each-drop : (k : ℕ) (xs : List A) → All P xs → All P (drop k xs)
  each-drop zero xs p = p
  each-drop (suc k) [] p = tt
  each-drop (suc k) (x ∷ xs) p = each-drop k xs p.1

  each-reverse_aux : (xs ys : List A) → All P xs → All P ys → All P (reverse_aux xs ys)
  each-reverse_aux [] ys p q = q
  each-reverse_aux (x ∷ xs) ys p q = each-reverse_aux xs (x ∷ ys) p.1 (p.0, q)

  pub each-reverse : (xs : List A) → All P xs → All P (reverse xs)
  each-reverse xs p = each-reverse_aux xs [] p tt

  pub each-get_or : (d : A) (xs : List A) (k : ℕ) → All P xs → k < length xs → P (get_or xs k d)
  each-get_or d [] k p h = absurd (omega arith)
  each-get_or d (x ∷ xs) zero p h = p.0
  each-get_or d (x ∷ xs) (suc k) p h = each-get_or d xs k p.1 (omega arith)

  -- also beyond the list, where the default has the property
  pub each-default : {d : A} → P d → (xs : List A) (k : ℕ) → All P xs → P (get_or xs k d)
  each-default h [] k p = h
  each-default h (x ∷ xs) zero p = p.0
  each-default h (x ∷ xs) (suc k) p = each-default h xs k p.1

  pub each_set : {v : A} → P v → (xs : List A) (k : ℕ) → All P xs → All P (set xs k v)
  each_set h [] k p = tt
  each_set h (x ∷ xs) zero p = (h, p.1)
  each_set h (x ∷ xs) (suc k) p = (p.0, each_set h xs k p.1)

  pub each_at : {x : A} (xs : List A) → All P xs → Memᴰ x xs → P x
  each_at [] p m = elim m [ ]
  each_at (y ∷ ys) p (Memᴰ.head e) = subst P (sym e) p.0
  each_at (y ∷ ys) p (Memᴰ.tail m) = each_at ys p.1 m

  pub each-list_from : (f : ℕ → A) (n j : ℕ) → ((i : ℕ) → i < j + n → P (f i)) → All P (list_from f j n)
  each-list_from f zero j h = tt
  each-list_from f (suc n) j h = (h j (omega arith), each-list_from f n (suc j) (λ i l. h i (omega arith)))

  pub list_from-each : (f : ℕ → A) (n j i : ℕ) → All P (list_from f j n) → i < n → P (f (j + i))
  list_from-each f zero j i h l = absurd (omega arith)
  list_from-each f (suc n) j zero h l = rw (add-zero j) h.0
  list_from-each f (suc n) j (suc i) h l = rw (add-suc j i, ← suc-add j i) (list_from-each f n (suc j) i h.1 (omega arith))

  pub each-flatten : (xss : List (List A)) → All (All P) xss → All P (flatten xss)
  unfolding flatten
  each-flatten [] p = tt
  each-flatten (xs ∷ xss) p = each_append xs (flatten xss) p.0 (each-flatten xss p.1)

module _ {A : Type 0} (P Q : A → Type 0) where
  pub each_map : ((x : A) → P x → Q x) → (xs : List A) → All P xs → All Q xs
  each_map h [] p = tt
  each_map h (x ∷ xs) p = (h x p.0, each_map h xs p.1)

  pub each_both : (xs : List A) → All P xs → All Q xs → All (λ x. P x × Q x) xs
  each_both [] p q = tt
  each_both (x ∷ xs) p q = ((p.0, q.0), each_both xs p.1 q.1)

-- every member of a list is in it
pub each-self : {A : Type 0} (xs : List A) → All (λ x. Memᴰ x xs) xs
each-self [] = tt
each-self (x ∷ xs) =
    (Memᴰ.head refl, each_map (λ y. Memᴰ y xs) (λ y. Memᴰ y (x ∷ xs)) (λ y m. Memᴰ.tail m) xs (each-self xs))

-- ---- numbers below a bound

pub below_more : (m n : ℕ) → m ≤ n → (l : List ℕ) → AllBelow m l → AllBelow n l
below_more m n h l b = each_map (λ x. x < m) (λ x. x < n) (λ x k. omega arith) l b

-- functions that agree below the bound
pub map_below : {A : Type 0} (f g : ℕ → A) (n : ℕ) (ns : List ℕ) → AllBelow n ns → ((k : ℕ) → k < n → f k ≡ g k) → map f ns ≡ map g ns
map_below f g n [] b h = refl
map_below {A} f g n (k ∷ ns) b h = ap₂ (λ (x : A) (y : List A). x ∷ y) (h k b.0) (map_below f g n ns b.1 h)

-- a member that is stored at index i changes none below it
pub map-set-below : {A : Type 0} (rows : List A) (i : ℕ) (r d : A) (ns : List ℕ) → AllBelow i ns
    → map (λ k. get_or (set rows i r) k d) ns ≡ map (λ k. get_or rows k d) ns
map-set-below rows i r d ns h =
    map_below (λ k. get_or (set rows i r) k d) (λ k. get_or rows k d) i ns h (λ k l. get_or-set_other rows i k r d (omega arith))
