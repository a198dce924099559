-- Laws of the nodes behind a replaced subtree: what each does, and that where the stored state sets are those of the old
-- tree, the sets behind are those of the new one.
use mathlib.Core.Path.{◌≡◌, refl, ap, ap₂, ◌∙◌, sym, subst}
use mathlib.Core.Bool.{Bool, true, false}
use mathlib.Core.List.{List, [], ◌∷◌, ◌++◌, map}
use Prim.Native.Nat.{ℕ, zero, suc, ◌+◌, ◌-◌, ◌<◌, ◌≤◌}
use native.Mathlib.Omega.{arith}
use native.Mathlib.Decide.{dec_le}
use native.Mathlib.Nat.{zero-add, add-zero}
use native.Mathlib.Numerals.{add-one}
use lib.ListN.{length, get_or, drop, length-drop}
use lib.Seq.{drop-append-le, drop-append-add, get_or-drop, drop-drop}
use Rattle.words.specs.Lists.{list_from}
use Rattle.words.specs.Shape.{values_by}
use Rattle.words.specs.Postfix.{arity, is_ancestor, value_on, values}
use Rattle.words.proofs.TestLaws.{Tested, holds, fails, tested}
use Rattle.words.proofs.StackLaws.{Right, right-list, on-top}
use Rattle.words.proofs.HoldingLaws.{HoldingTree, takes-others, holding-others, takes-holding, holding-ancestor}
use Rattle.automaton.specs.StateSet.{StateSet}
use Rattle.operations.specs.Marks.{node_set, same_words}
use Rattle.operations.specs.Exchange.{Outcome, kept, recomputed, set_in, recomputed_in, kept_from, propagate}
use Rattle.operations.proofs.MarksLaws.{same-words}

-- ---- one node

module _ (a table : List ℕ) (stored : ℕ → StateSet) (above : ℕ → Bool) (j w : ℕ) (ws : List ℕ) (stack : List StateSet) where
  abbrev new : StateSet
  new = value_on a (node_set table) w stack

  abbrev from : ℕ → List ℕ → List StateSet → List Outcome
  from = propagate a table stored above

  pub propagate-beside : above j ≡ false → from j (w ∷ ws) stack ≡ kept (stored j) ∷ from (suc j) ws (stored j ∷ drop (arity a w) stack)
  unfolding propagate
  propagate-beside e = rw e

  pub propagate-last : above j ≡ true → same_words new (stored j) ≡ true
      → from j (w ∷ ws) stack ≡ recomputed new ∷ kept_from stored (suc j) (length ws)
  unfolding propagate
  propagate-last e f = rw (e, f)

  pub propagate-onward : above j ≡ true → same_words new (stored j) ≡ false
      → from j (w ∷ ws) stack ≡ recomputed new ∷ from (suc j) ws (new ∷ drop (arity a w) stack)
  unfolding propagate
  propagate-onward e f = rw (e, f)

pub sets-kept : (stored : ℕ → StateSet) (n j : ℕ) → map set_in (kept_from stored j n) ≡ list_from stored j n
sets-kept stored zero j = refl
sets-kept stored (suc n) j = ap (λ (l : List StateSet). stored j ∷ l) (sets-kept stored n (suc j))

pub count_kept : (stored : ℕ → StateSet) (n j : ℕ) → recomputed_in (kept_from stored j n) ≡ 0
unfolding recomputed_in
count_kept stored zero j = refl
count_kept stored (suc n) j = zero-add (recomputed_in (kept_from stored (suc j) n)) ∙ count_kept stored n (suc j)

-- ---- where the stored state sets are those of the old tree

drop_past : (t s : List StateSet) (r : StateSet) (k : ℕ) → length t < k → drop k (t ++ r ∷ s) ≡ drop (k - suc (length t)) s
drop_past t s r k h =
    let q : length t + suc (k - suc (length t)) ≡ k = omega arith in
    ap (λ (i : ℕ). drop i (t ++ r ∷ s)) (sym q) ∙ drop-append-add t (r ∷ s) (suc (k - suc (length t)))

tail-drop : (p : List ℕ) (j w : ℕ) (ws : List ℕ) → drop j p ≡ w ∷ ws → (get_or p j 0 ≡ w) × (drop (suc j) p ≡ ws)
tail-drop p j w ws e = (
  ap (λ (i : ℕ). get_or p i 0) (sym (add-zero j)) ∙ sym (get_or-drop j p 0 0) ∙ ap (λ (l : List ℕ). get_or l 0 0) e,
  ap (λ (i : ℕ). drop i p) (sym (add-one j)) ∙ sym (drop-drop 1 j p) ∙ ap (drop 1) e,
)

module _ (a table p : List ℕ) (element : ℕ) (stored : ℕ → StateSet) where
  abbrev vals : List ℕ → List StateSet → List StateSet
  vals = values a (node_set table)

  abbrev on : ℕ → List StateSet → StateSet
  on = value_on a (node_set table)

  abbrev up : ℕ → List ℕ → List StateSet → List Outcome
  up = propagate a table stored (is_ancestor a p element)

  abbrev RightFrom : ℕ → List ℕ → List StateSet → Type 0
  RightFrom = Right (arity a) (node_set table) stored

  -- the old and the new stack differ in one state set alone, below those of t: that of the tree which holds the replaced one
  abbrev Onward : List ℕ → ℕ → Type 0
  Onward ws j =
      (t s : List StateSet) (r₀ r : StateSet) → drop j p ≡ ws → HoldingTree (arity a) p element j (length t)
      → RightFrom j ws (t ++ r₀ ∷ s) → map set_in (up j ws (t ++ r ∷ s)) ≡ vals ws (t ++ r ∷ s)

  module _ (w : ℕ) (ws : List ℕ) (j : ℕ) (t s : List StateSet) (r₀ r : StateSet) (q : drop j p ≡ w ∷ ws)
      (y : HoldingTree (arity a) p element j (length t))
      (h : Right (arity a) (node_set table) stored j (w ∷ ws) (t ++ r₀ ∷ s)) (ih : Onward ws (suc j)) where
    abbrev k : ℕ
    k = arity a w

    word : arity a (get_or p j 0) ≡ k
    word = ap (arity a) (tail-drop p j w ws q).0

    -- no ancestor: it takes state sets of t alone
    beside : k ≤ length t → map set_in (up j (w ∷ ws) (t ++ r ∷ s)) ≡ vals (w ∷ ws) (t ++ r ∷ s)
    unfolding values_by
    beside l =
        let l' : arity a (get_or p j 0) ≤ length t = omega (arith, word) in
        let v : stored j ≡ on w t = h.0 ∙ on-top (arity a) (node_set table) w t (r₀ ∷ s) l in
        let u : on w (t ++ r ∷ s) ≡ on w t = on-top (arity a) (node_set table) w t (r ∷ s) l in
        let d : drop k (t ++ r ∷ s) ≡ drop k t ++ r ∷ s = drop-append-le k t (r ∷ s) l in
        let d₀ : drop k (t ++ r₀ ∷ s) ≡ drop k t ++ r₀ ∷ s = drop-append-le k t (r₀ ∷ s) l in
        let n : length t - arity a (get_or p j 0) + 1 ≡ suc (length (drop k t)) = rw (word, length-drop k t) (add-one (length t - k)) in
        let y' : HoldingTree (arity a) p element (suc j) (suc (length (drop k t))) =
        subst (HoldingTree (arity a) p element (suc j)) n (holding-others (arity a) p element j (length t) y l') in
        let h' : RightFrom (suc j) ws (on w t ∷ (drop k t ++ r₀ ∷ s)) =
        subst (λ (x : StateSet). RightFrom (suc j) ws (x ∷ (drop k t ++ r₀ ∷ s))) (on-top (arity a) (node_set table) w t (r₀ ∷ s) l)
        (subst (λ (x : List StateSet). RightFrom (suc j) ws (on w (t ++ r₀ ∷ s) ∷ x)) d₀ h.1) in
        ap (map set_in)
        (propagate-beside a table stored (is_ancestor a p element) j w ws (t ++ r ∷ s) (takes-others (arity a) p element j (length t) y l'))
        ∙ ap₂ (λ (x : StateSet) (z : List StateSet). x ∷ map set_in (up (suc j) ws (x ∷ z))) v d
        ∙ ap (λ (z : List StateSet). on w t ∷ z) (ih (on w t ∷ drop k t) s r₀ r (tail-drop p j w ws q).1 y' h')
        ∙ sym (ap₂ (λ (x : StateSet) (z : List StateSet). x ∷ vals ws (x ∷ z)) u d)

    -- an ancestor: it takes the one that differs too, and nothing deeper differs
    ancestor : length t < k → map set_in (up j (w ∷ ws) (t ++ r ∷ s)) ≡ vals (w ∷ ws) (t ++ r ∷ s)
    unfolding values_by
    ancestor l = go (tested (same_words (on w (t ++ r ∷ s)) (stored j)))
      where
        l' : length t < arity a (get_or p j 0)
        l' = omega (arith, word)

        above : is_ancestor a p element j ≡ true
        above = takes-holding (arity a) p element j (length t) y l'

        old : StateSet
        old = on w (t ++ r₀ ∷ s)

        nu : StateSet
        nu = on w (t ++ r ∷ s)

        rest : List StateSet
        rest = drop (k - suc (length t)) s

        d : drop k (t ++ r ∷ s) ≡ rest
        d = drop_past t s r k l

        h' : RightFrom (suc j) ws (old ∷ rest)
        h' = subst (λ (x : List StateSet). RightFrom (suc j) ws (old ∷ x)) (drop_past t s r₀ k l) h.1

        go : Tested (same_words nu (stored j)) → map set_in (up j (w ∷ ws) (t ++ r ∷ s)) ≡ nu ∷ vals ws (nu ∷ drop k (t ++ r ∷ s))
        go (holds same) =
            ap (map set_in) (propagate-last a table stored (is_ancestor a p element) j w ws (t ++ r ∷ s) above same)
            ∙ ap (λ (z : List StateSet). nu ∷ z)
            (sets-kept stored (length ws) (suc j) ∙ right-list (arity a) (node_set table) stored ws (suc j) (old ∷ rest) h'
            ∙ ap₂ (λ (x : StateSet) (z : List StateSet). vals ws (x ∷ z)) (sym (same-words nu (stored j) same ∙ h.0)) (sym d))
        go (fails other) =
            ap (map set_in) (propagate-onward a table stored (is_ancestor a p element) j w ws (t ++ r ∷ s) above other)
            ∙ ap (λ (z : List StateSet). nu ∷ z)
            (ap (λ (z : List StateSet). map set_in (up (suc j) ws (nu ∷ z))) d
            ∙ ih [] rest old nu (tail-drop p j w ws q).1 (holding-ancestor (arity a) p element j (length t) y l') h'
            ∙ ap (λ (z : List StateSet). vals ws (nu ∷ z)) (sym d))

  pub propagate-right : (ws : List ℕ) (j : ℕ) → Onward ws j
  unfolding values_by propagate
  propagate-right [] j t s r₀ r q y h = refl
  propagate-right (w ∷ ws) j t s r₀ r q y h = choose (dec_le (arity a w) (length t)) (propagate-right ws (suc j))
    where
      choose : Dec (arity a w ≤ length t) → Onward ws (suc j) → map set_in (up j (w ∷ ws) (t ++ r ∷ s)) ≡ vals (w ∷ ws) (t ++ r ∷ s)
      choose (yes l) ih = beside w ws j t s r₀ r q y h ih l
      choose (no l) ih = ancestor w ws j t s r₀ r q y h ih (omega arith)
