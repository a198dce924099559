-- Laws of lists: map over parts of a list, lists by their index, parts side by side and in reverse, runs of stores, words in front of
-- a slice, and counts.
use mathlib.Core.Path.{◌≡◌, refl, ap, ap₂, ◌∙◌, sym}
use mathlib.Core.Bool.{Bool, true, false, cond, ◌&&◌}
use mathlib.Core.List.{List, [], ◌∷◌, ◌++◌, map, reverse, reverse_aux, reverse-append}
use Prim.Native.Nat.{ℕ, zero, suc, ◌+◌, ◌-◌, ◌<◌, ◌≤◌}
use native.Mathlib.Omega.{arith}
use native.Mathlib.Numerals.{add-one}
use native.Mathlib.Nat.{zero-add, add-zero, add-suc, suc-add, add_assoc}
use lib.ListN.{length, get_or, take, drop, set, length-append, length-drop, length-reverse, take-append-drop}
use lib.Seq.{sets, sets-eq, take_at, drop_at, take-take, take-suc-set}
use Rattle.words.specs.Lists.{all, count, list_from, written_over}

pub length_none : {A : Type 0} (l : List A) → length l ≡ 0 → l ≡ []
length_none [] e = refl
length_none (x ∷ l) e = absurd (omega arith)

pub length-take-most : (l : List ℕ) (n : ℕ) → length (take n l) ≤ length l
length-take-most l zero = omega arith
length-take-most [] (suc n) = omega arith
length-take-most (x ∷ l) (suc n) = omega (arith, length-take-most l n)

-- a member in front or not, and what stands behind
pub cond-append : (b : Bool) (x : ℕ) (l k : List ℕ) → cond b (x ∷ (l ++ k)) (l ++ k) ≡ cond b (x ∷ l) l ++ k
cond-append true x l k = refl
cond-append false x l k = refl

-- ---- map

module _ {A B : Type 0} (f : A → B) where
  pub map-append : (l k : List A) → map f (l ++ k) ≡ map f l ++ map f k
  map-append [] k = refl
  map-append (x ∷ l) k = ap (λ (t : List B). f x ∷ t) (map-append l k)

  pub map-take : (n : ℕ) (l : List A) → map f (take n l) ≡ take n (map f l)
  map-take zero l = refl
  map-take (suc n) [] = refl
  map-take (suc n) (x ∷ l) = ap (λ (t : List B). f x ∷ t) (map-take n l)

  pub map-drop : (n : ℕ) (l : List A) → map f (drop n l) ≡ drop n (map f l)
  map-drop zero l = refl
  map-drop (suc n) [] = refl
  map-drop (suc n) (x ∷ l) = map-drop n l

  map_reverse_aux : (l r : List A) → map f (reverse_aux l r) ≡ reverse_aux (map f l) (map f r)
  map_reverse_aux [] r = refl
  map_reverse_aux (x ∷ l) r = map_reverse_aux l (x ∷ r)

  pub map-reverse : (l : List A) → map f (reverse l) ≡ reverse (map f l)
  map-reverse l = map_reverse_aux l []

-- ---- lists by their index

module _ {A : Type 0} (f : ℕ → A) where
  pub length-list_from : (n j : ℕ) → length (list_from f j n) ≡ n
  length-list_from zero j = refl
  length-list_from (suc n) j = ap suc (length-list_from n (suc j))

  pub list_from-add : (m n j : ℕ) → list_from f j (m + n) ≡ list_from f j m ++ list_from f (j + m) n
  list_from-add zero n j = rw (zero-add, add-zero)
  list_from-add (suc m) n j = rw (suc-add, add-suc, ← suc-add) (ap (λ (t : List A). f j ∷ t) (list_from-add m n (suc j)))

  pub get_or-list_from : (d : A) (n j k : ℕ) → k < n → get_or (list_from f j n) k d ≡ f (j + k)
  get_or-list_from d zero j k h = absurd (omega arith)
  get_or-list_from d (suc n) j zero h = ap f (sym (add-zero j))
  get_or-list_from d (suc n) j (suc k) h = get_or-list_from d n (suc j) k (omega arith) ∙ ap f (suc-add j k ∙ sym (add-suc j k))

  pub list_from-shift : (g : ℕ → A) (n j : ℕ) → ((i : ℕ) → f (suc i) ≡ g i) → list_from f (suc j) n ≡ list_from g j n
  list_from-shift g zero j h = refl
  list_from-shift g (suc n) j h = ap₂ (λ (x : A) (y : List A). x ∷ y) (h j) (list_from-shift g n (suc j) h)

  pub list_from-below : (g : ℕ → A) (n j : ℕ) → ((i : ℕ) → i < j + n → f i ≡ g i) → list_from f j n ≡ list_from g j n
  list_from-below g zero j h = refl
  list_from-below g (suc n) j h =
      ap₂ (λ (x : A) (y : List A). x ∷ y) (h j (omega arith)) (list_from-below g n (suc j) (λ i l. h i (omega arith)))

  pub list_from-offset : (j n i : ℕ) → list_from (λ k. f (j + k)) i n ≡ list_from f (j + i) n
  list_from-offset j zero i = refl
  list_from-offset j (suc n) i =
      ap (λ (t : List A). f (j + i) ∷ t) (list_from-offset j n (suc i) ∙ ap (λ (k : ℕ). list_from f k n) (add-suc j i))

  pub map-list_from : {B : Type 0} (g : A → B) (n j : ℕ) → map g (list_from f j n) ≡ list_from (λ i. g (f i)) j n
  map-list_from g zero j = refl
  map-list_from {B} g (suc n) j = ap (λ (t : List B). g (f j) ∷ t) (map-list_from g n (suc j))

-- a list is the list of its members by index
pub list_from-get_or : {A : Type 0} (d : A) (l : List A) → list_from (λ i. get_or l i d) 0 (length l) ≡ l
list_from-get_or d [] = refl
list_from-get_or {A} d (x ∷ l) =
    ap (λ (t : List A). x ∷ t)
    (list_from-shift (λ i. get_or (x ∷ l) i d) (λ i. get_or l i d) (length l) 0 (λ i. refl) ∙ list_from-get_or d l)

-- ---- parts of a list

-- the top of a stack is the end of its reverse
module _ {A : Type 0} (r : ℕ) (l : List A) where
  pub take-reverse : take (length l - r) (reverse l) ≡ reverse (drop r l)
  take-reverse =
      ap (λ (t : List A). take (length l - r) (reverse t)) (sym (take-append-drop r l))
      ∙ ap (take (length l - r)) (reverse-append (take r l) (drop r l))
      ∙ take_at (reverse (drop r l)) (reverse (take r l)) (length l - r) (length-reverse (drop r l) ∙ length-drop r l)

  pub drop-reverse : drop (length l - r) (reverse l) ≡ reverse (take r l)
  drop-reverse =
      ap (λ (t : List A). drop (length l - r) (reverse t)) (sym (take-append-drop r l))
      ∙ ap (drop (length l - r)) (reverse-append (take r l) (drop r l))
      ∙ drop_at (reverse (drop r l)) (reverse (take r l)) (length l - r) (length-reverse (drop r l) ∙ length-drop r l)

-- of a list whose first h members are l, one is put at k: what is left below it, and it
pub take-pushed-at : (list : List ℕ) {l : List ℕ} (h k x : ℕ) → take h list ≡ l → k ≤ h → k < length list
    → take (k + 1) (set list k x) ≡ take k l ++ x ∷ []
take-pushed-at list h k x e b inside =
    ap (λ (i : ℕ). take i (set list k x)) (add-one k) ∙ take-suc-set list k x inside
    ∙ ap (λ (t : List ℕ). t ++ x ∷ []) (sym (take-take k h list b) ∙ ap (take k) e)

-- ---- runs of stores

-- a run of stores in two parts
pub sets-append : (vs us l : List ℕ) (i : ℕ) → sets l i (vs ++ us) ≡ sets (sets l i vs) (i + length vs) us
sets-append [] us l i = rw (add-zero i)
sets-append (v ∷ vs) us l i = rw (add-suc, ← suc-add) (sets-append vs us _ (suc i))

-- ---- words in front of a slice, where there is room

pub length_over : (ws slice : List ℕ) → length ws ≤ length slice → length (written_over ws slice) ≡ length slice
length_over ws slice h = simp (length-append, length-drop) (omega arith)

pub take-over : (ws slice : List ℕ) (k : ℕ) → length ws ≡ k → take k (written_over ws slice) ≡ ws
take-over ws slice k e = take_at ws (drop (length ws) slice) k e

-- a run of stores from the first place on
pub sets-whole : (vs l : List ℕ) → length vs ≤ length l → sets l 0 vs ≡ written_over vs l
sets-whole vs l h =
    let e : 0 + length vs ≡ length vs = omega arith in
    sets-eq vs l 0 (omega arith) ∙ ap (λ (n : ℕ). vs ++ drop n l) e

-- ---- tests and counts

module _ (f : ℕ → Bool) (g : ℕ → ℕ) where
  pub all_map : (l : List ℕ) → all f (map g l) ≡ all (λ x. f (g x)) l
  all_map [] = refl
  all_map (x ∷ l) = ap (λ (b : Bool). f (g x) && b) (all_map l)

  pub count_map : (l : List ℕ) → count f (map g l) ≡ count (λ x. f (g x)) l
  count_map [] = refl
  count_map (x ∷ l) = ap (λ (i : ℕ). cond (f (g x)) 1 0 + i) (count_map l)

pub count-append : (f : ℕ → Bool) (l k : List ℕ) → count f (l ++ k) ≡ count f l + count f k
count-append f [] k = sym (zero-add (count f k))
count-append f (x ∷ l) k =
    ap (λ (i : ℕ). cond (f x) 1 0 + i) (count-append f l k) ∙ sym (add_assoc (cond (f x) 1 0) (count f l) (count f k))
