-- Laws of pairs of a place and a bound: which pair tells of a place, and what two more pairs change.
use Rattle.std.proofs.Common.{◌≡◌, ℕ, zero, suc, ◌+◌, ◌-◌, ◌<◌, ◌≤◌, max, Bool, cond, leb, List, length, get_or, take, drop, set, replicate, sym, refl, ap, ◌∙◌, ap₂, add-one, arith, length-set, get_or-drop, get_or-set_other, get_or-take, get_or-set_same, le-leb}
use native.Mathlib.Decide.{dec_le}
use native.Mathlib.Nat.{max-zero}
use Rattle.std.proofs.lemmas.List.{length-map, map-set, take-map, drop-map}
use Rattle.std.proofs.Math.ListN.{get_or-map}
use lib.Seq.{drop-cons}
use lib.ListN.{drop_of_length-le}
use borrow.Author.Tests.{lt-leb}
use Rattle.words.specs.Lists.{highest}
use Rattle.words.proofs.HighestLaws.{highest-take, highest-drop, at-most-highest, highest-set}
use Rattle.syntax.specs.HeightStack.{word_most}
use Rattle.bounds.specs.Runs.{run_most}
use Rattle.bounds.specs.Pairs.{pairs_room, places_of, bounds_of, bounds_in, last_at, LastPair, bound_at, RunPuttable, RunPut}
use Rattle.bounds.specs.declared.pairs.Pair.{Pair}
use Rattle.bounds.specs.declared.pairs.Pairs.{Pairs}

-- ---- a pair's place and its bound

abbrev pub none : Pair
none = record { place = 0; bound = 0 }

pub place_at : (pairs : List Pair) (k : ℕ) → get_or (places_of pairs) k 0 ≡ (get_or pairs k none).place
place_at pairs k = get_or-map (λ (pair : Pair). pair.place) pairs k none

pub bound_is : (pairs : List Pair) (k : ℕ) → get_or (bounds_of pairs) k 0 ≡ (get_or pairs k none).bound
bound_is pairs k = get_or-map (λ (pair : Pair). pair.bound) pairs k none

pub first_low : (n : ℕ) → highest (bounds_of (replicate n none)) ≡ 0
unfolding highest
first_low zero = refl
first_low (suc n) = let h = first_low n in omega arith

-- ---- the last pair whose place is at most p

module _ (places : List ℕ) where
  last_at-here : (p t : ℕ) → get_or places (suc t) 0 ≤ p → last_at places p (suc t) ≡ suc t
  unfolding last_at
  last_at-here p t h = ap (λ (b : Bool). cond b (suc t) (last_at places p t)) (le-leb (get_or places (suc t) 0) p h)

  last_at-past : (p t : ℕ) → p < get_or places (suc t) 0 → last_at places p (suc t) ≡ last_at places p t
  unfolding last_at
  last_at-past p t h = ap (λ (b : Bool). cond b (suc t) (last_at places p t)) (lt-leb (get_or places (suc t) 0) p h)

  last_at-first : (p : ℕ) → last_at places p 0 ≡ 0
  unfolding last_at
  last_at-first p = refl

  pub last_at-most : (p t : ℕ) → last_at places p t ≤ t
  last_at-most p zero = rw (last_at-first p) (omega arith)
  last_at-most p (suc t) = go (dec_le (get_or places (suc t) 0) p) (last_at-most p t)
    where
      go : Dec (get_or places (suc t) 0 ≤ p) → last_at places p t ≤ t → last_at places p (suc t) ≤ suc t
      go (yes h) i = rw (last_at-here p t h) (omega arith)
      go (no h) i = rw (last_at-past p t (omega arith)) (omega arith)

  -- a higher place has the same pair or a later one
  last_at-up : (p q t : ℕ) → p ≤ q → last_at places p t ≤ last_at places q t
  last_at-up p q zero l = rw (last_at-first p) (omega arith)
  last_at-up p q (suc t) l = go (dec_le (get_or places (suc t) 0) q) (last_at-up p q t l)
    where
      go : Dec (get_or places (suc t) 0 ≤ q) → last_at places p t ≤ last_at places q t → last_at places p (suc t) ≤ last_at places q (suc t)
      go (yes h) i = rw (last_at-here q t h) (last_at-most p (suc t))
      go (no h) i = rw (last_at-past q t (omega arith), last_at-past p t (omega arith)) i

  -- the pairs behind a place's make no difference to a place below it
  last_at-again : (p q t : ℕ) → p ≤ q → last_at places p (last_at places q t) ≡ last_at places p t
  last_at-again p q zero l = ap (last_at places p) (last_at-first q)
  last_at-again p q (suc t) l = go (dec_le (get_or places (suc t) 0) q) (last_at-again p q t l)
    where
      go : Dec (get_or places (suc t) 0 ≤ q) → last_at places p (last_at places q t) ≡ last_at places p t
          → last_at places p (last_at places q (suc t)) ≡ last_at places p (suc t)
      go (yes h) i = ap (last_at places p) (last_at-here q t h)
      go (no h) i = ap (last_at places p) (last_at-past q t (omega arith)) ∙ i ∙ sym (last_at-past p t (omega arith))

last_at-same : (places places' : List ℕ) (p t : ℕ) → ((i : ℕ) → i ≤ t → get_or places' i 0 ≡ get_or places i 0)
    → last_at places' p t ≡ last_at places p t
unfolding last_at
last_at-same places places' p zero f = refl
last_at-same places places' p (suc t) f =
    ap₂ (λ (x i : ℕ). cond (leb x p) (suc t) i) (f (suc t) (omega arith))
    (last_at-same places places' p t (λ i l. f i (omega arith)))

-- ---- the loop that finds it, from the top down

pub record Looking (places : List ℕ) (p top k : ℕ) : Type 0 where
  pub within : k ≤ top
  pub same : last_at places p k ≡ last_at places p top

module _ {places : List ℕ} {p top k : ℕ} (g : Looking places p top k) where
  pub looking-found : 0 < k → get_or places k 0 ≤ p → LastPair places p top k
  looking-found h l =
      let e : suc (k - 1) ≡ k = omega arith in
      record {
        most = g.within;
        same = sym (ap (last_at places p) (sym e) ∙ last_at-here places p (k - 1) (rw e l) ∙ e) ∙ g.same;
      }

  pub looking-more : 0 < k → p < get_or places k 0 → Looking places p top (k - 1)
  looking-more h l =
      let e : suc (k - 1) ≡ k = omega arith in
      let w = g.within in
      record {
        within = omega arith;
        same = sym (ap (last_at places p) (sym e) ∙ last_at-past places p (k - 1) (rw e l)) ∙ g.same;
      }

  pub looking-end : k ≤ 0 → LastPair places p top 0
  looking-end h =
      let e : k ≡ 0 = omega arith in
      record { most = omega arith; same = sym (last_at-first places p) ∙ ap (last_at places p) (sym e) ∙ g.same }

pub looking-none : (places : List ℕ) (p top : ℕ) → Looking places p top top
looking-none places p top = record { within = omega arith; same = refl }

-- ---- two stores

module _ (l : List ℕ) (k x y : ℕ) (room : k + 2 < length l) where
  abbrev stored : List ℕ
  stored = set (set l (k + 1) x) (k + 2) y

  stored-before : (i : ℕ) → i ≤ k → get_or stored i 0 ≡ get_or l i 0
  stored-before i h =
      get_or-set_other (set l (k + 1) x) (k + 2) i y 0 (λ e. omega arith) ∙ get_or-set_other l (k + 1) i x 0 (λ e. omega arith)

  stored-first : get_or stored (suc k) 0 ≡ x
  stored-first =
      get_or-set_other (set l (k + 1) x) (k + 2) (suc k) y 0 (λ e. omega arith)
      ∙ ap (λ (i : ℕ). get_or (set l (k + 1) x) i 0) (sym (add-one k)) ∙ get_or-set_same l (k + 1) x 0 (omega arith)

  stored-second : get_or stored (suc (suc k)) 0 ≡ y
  stored-second =
      let e : suc (suc k) ≡ k + 2 = omega arith in
      let n = length-set l (k + 1) x in
      ap (λ (i : ℕ). get_or stored i 0) e ∙ get_or-set_same (set l (k + 1) x) (k + 2) y 0 (omega arith)

  stored-highest : highest stored ≤ max y (max x (highest l))
  stored-highest =
      let p = highest-set (set l (k + 1) x) (k + 2) y in
      let q = highest-set l (k + 1) x in
      omega arith

-- ---- the loop that finds the highest bound of some pairs

pub record HighSoFar (pairs : List Pair) (k high : ℕ) : Type 0 where
  pub same : max high (highest (drop k (bounds_of pairs))) ≡ max run_most (highest (bounds_of pairs))

pub high_none : (pairs : List Pair) → HighSoFar pairs 0 run_most
high_none pairs = record { same = refl }

module _ {pairs : List Pair} {k high : ℕ} (g : HighSoFar pairs k high) where
  pub high_more : (next : ℕ) → k < length pairs → next ≡ max high (get_or pairs k none).bound → HighSoFar pairs (k + 1) next
  unfolding highest
  high_more next h e =
      let l = bounds_of pairs in
      let b = bound_is pairs k in
      let n : k < length l = rw (length-map pairs (λ (pair : Pair). pair.bound)) h in
      let q : highest (drop k l) ≡ max (get_or l k 0) (highest (drop (k + 1) l)) =
      ap highest (drop-cons l k 0 n) ∙ ap (λ (i : ℕ). max (get_or l k 0) (highest (drop i l))) (sym (add-one k)) in
      let s = g.same in
      record { same = omega arith }

  pub high_end : length pairs ≤ k → high ≡ max run_most (highest (bounds_of pairs))
  unfolding highest
  high_end h =
      let l = bounds_of pairs in
      let n : length l ≤ k = rw (length-map pairs (λ (pair : Pair). pair.bound)) h in
      sym (max-zero high) ∙ ap (λ (r : List ℕ). max high (highest r)) (sym (drop_of_length-le l n)) ∙ g.same

-- the bounds of a part are that part of the bounds
pub bounds-part : (pairs : List Pair) (first last : ℕ) → bounds_of (take (last + 1 - first) (drop first pairs)) ≡ bounds_in pairs first last
bounds-part pairs first last =
    sym (take-map (λ (pair : Pair). pair.bound) (last + 1 - first) (drop first pairs))
    ∙ ap (take (last + 1 - first)) (sym (drop-map (λ (pair : Pair). pair.bound) first pairs))

-- ---- a run's two pairs

module _ (pairs : Pairs) (fewest joined : ℕ) (room : RunPuttable pairs fewest joined) (long : length pairs.pairs ≡ pairs_room) (last : ℕ)
    (at : LastPair (places_of pairs.pairs) fewest pairs.top last) (high : ℕ)
    (eh : high ≡ max run_most (highest (bounds_in pairs.pairs last pairs.top))) where
  abbrev top : ℕ
  top = pairs.top

  abbrev places : List ℕ
  places = places_of pairs.pairs

  abbrev bounds : List ℕ
  bounds = bounds_of pairs.pairs

  high-most : high ≤ max run_most (highest bounds)
  high-most =
      let h = highest-take (top + 1 - last) (drop last bounds) in
      let d = highest-drop last bounds in
      omega arith

  pub put_low : high + joined ≤ word_most
  put_low =
      let h = high-most in
      let r = room.bounds-low in
      omega arith

  bound-high : (m : ℕ) → last ≤ m → m ≤ top → get_or bounds m 0 ≤ high
  bound-high m l h =
      let i : last + (m - last) ≡ m = omega arith in
      let q : get_or (take (top + 1 - last) (drop last bounds)) (m - last) 0 ≡ get_or bounds m 0 =
      get_or-take (top + 1 - last) (drop last bounds) (m - last) 0 (omega arith)
      ∙ get_or-drop last bounds (m - last) 0 ∙ ap (λ (i : ℕ). get_or bounds i 0) i in
      let b = at-most-highest (take (top + 1 - last) (drop last bounds)) (m - last) in
      omega arith

  abbrev places' : List ℕ
  places' = set (set places (last + 1) fewest) (last + 2) (fewest + 1)

  abbrev bounds' : List ℕ
  bounds' = set (set bounds (last + 1) (high + joined)) (last + 2) run_most

  -- there is room for the second pair behind the first
  pub put_room : last + 2 < length pairs.pairs
  put_room = let r = room.room in let m = at.most in omega arith

  room-p : last + 2 < length places
  room-p = rw (length-map pairs.pairs (λ (pair : Pair). pair.place)) put_room

  room-b : last + 2 < length bounds
  room-b = rw (length-map pairs.pairs (λ (pair : Pair). pair.bound)) put_room

  two : last + 2 ≡ suc (suc last)
  two = omega arith

  place-first : get_or places' (suc last) 0 ≡ fewest
  place-first = stored-first places last fewest (fewest + 1) room-p

  place-second : get_or places' (suc (suc last)) 0 ≡ fewest + 1
  place-second = stored-second places last fewest (fewest + 1) room-p

  last-below : (p : ℕ) → p < fewest → last_at places' p (last + 2) ≡ last_at places p top
  last-below p h =
      let f = place-first in
      let s = place-second in
      ap (last_at places' p) two ∙ last_at-past places' p (suc last) (omega arith) ∙ last_at-past places' p last (omega arith)
      ∙ last_at-same places places' p last (stored-before places last fewest (fewest + 1) room-p)
      ∙ ap (last_at places p) at.same ∙ last_at-again places p fewest top (omega arith)

  last-there : last_at places' fewest (last + 2) ≡ suc last
  last-there =
      let f = place-first in
      let s = place-second in
      ap (last_at places' fewest) two ∙ last_at-past places' fewest (suc last) (omega arith) ∙ last_at-here places' fewest last (omega arith)

  last-above : (p : ℕ) → fewest < p → last_at places' p (last + 2) ≡ suc (suc last)
  last-above p h =
      let s = place-second in
      ap (last_at places' p) two ∙ last_at-here places' p (suc last) (omega arith)

  -- the pairs with both stored
  module _ (pairs' : Pairs) (es : pairs'.pairs ≡ set (set pairs.pairs (last + 1) (record { place = fewest; bound = high + joined })) (last + 2)
      (record { place = fewest + 1; bound = run_most })) (et : pairs'.top ≡ last + 2) where
    places-stored : places_of pairs'.pairs ≡ places'
    places-stored = ap places_of es ∙ simp map-set

    bounds-stored : bounds_of pairs'.pairs ≡ bounds'
    bounds-stored = ap bounds_of es ∙ simp map-set

    stored-at : (p : ℕ) → bound_at pairs' p ≡ get_or bounds' (last_at places' p (last + 2)) 0
    unfolding bound_at
    stored-at p =
        ap (λ (l : List ℕ). get_or l (last_at (places_of pairs'.pairs) p pairs'.top) 0) bounds-stored
        ∙ ap (λ (l : List ℕ). get_or bounds' (last_at l p pairs'.top) 0) places-stored
        ∙ ap (λ (t : ℕ). get_or bounds' (last_at places' p t) 0) et

    pub put_done : RunPut pairs fewest joined pairs'
    unfolding bound_at
    put_done = record {
      high = high;
      taken = λ p h.
          let u = last_at-up places fewest p top h in
          let s = at.same in
          bound-high (last_at places p top) (omega arith) (last_at-most places p top);
      words = omega arith;
      kept = λ p h.
          let u = last_at-up places p fewest top (omega arith) in
          let s = at.same in
          stored-at p ∙ ap (λ (i : ℕ). get_or bounds' i 0) (last-below p h)
          ∙ stored-before bounds last (high + joined) run_most room-b (last_at places p top) (omega arith);
      at = stored-at fewest ∙ ap (λ (i : ℕ). get_or bounds' i 0) last-there ∙ stored-first bounds last (high + joined) run_most room-b;
      fresh = λ p h.
          stored-at p ∙ ap (λ (i : ℕ). get_or bounds' i 0) (last-above p h)
          ∙ stored-second bounds last (high + joined) run_most room-b;
      few = let m = at.most in omega arith;
      low =
          let h = stored-highest bounds last (high + joined) run_most room-b in
          let m = high-most in
          rw bounds-stored (omega arith);
    }
