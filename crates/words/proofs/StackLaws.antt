-- Laws of reading postfix words with a stack: in parts, over a part of the stack, and with given values.
use mathlib.Core.Path.{◌≡◌, refl, ap, ap₂, ◌∙◌, sym, subst}
use mathlib.Core.Bool.{true}
use mathlib.Core.List.{List, [], ◌∷◌, ◌++◌, tail-eq_of_cons-eq, head-eq_of_cons-eq}
use Prim.Native.Nat.{ℕ, suc, ◌+◌, ◌-◌, ◌≤◌}
use native.Mathlib.Omega.{arith}
use native.Mathlib.Nat.{add-zero, add-suc, suc-add}
use native.Mathlib.Numerals.{add-one}
use lib.ListN.{length, drop, length-drop}
use lib.Seq.{take-append-le, drop-append-le}
use lib.Dec.{leb}
use borrow.Author.Tests.{leb-true, eqb-true}
use Rattle.words.specs.Lists.{list_from}
use Rattle.words.specs.Shape.{trees_by, one_tree_by, value_on_by, values_by, stack_after_by, stack_given_by}
use Rattle.words.proofs.TestLaws.{picked}

module _ {A : Type 0} (arity : ℕ → ℕ) (value : ℕ → List A → A) where
  abbrev on : ℕ → List A → A
  on = value_on_by arity value

  abbrev vals : List ℕ → List A → List A
  vals = values_by arity value

  abbrev stk : List ℕ → List A → List A
  stk = stack_after_by arity value

  -- ---- in parts

  pub values-append : (l k : List ℕ) (s : List A) → vals (l ++ k) s ≡ vals l s ++ vals k (stk l s)
  unfolding values_by stack_after_by
  values-append [] k s = refl
  values-append (w ∷ l) k s = ap (λ (t : List A). on w s ∷ t) (values-append l k (on w s ∷ drop (arity w) s))

  pub stack-append : (l k : List ℕ) (s : List A) → stk (l ++ k) s ≡ stk k (stk l s)
  unfolding stack_after_by
  stack-append [] k s = refl
  stack-append (w ∷ l) k s = stack-append l k (on w s ∷ drop (arity w) s)

  pub length-values : (l : List ℕ) (s : List A) → length (vals l s) ≡ length l
  unfolding values_by
  length-values [] s = refl
  length-values (w ∷ l) s = ap suc (length-values l (on w s ∷ drop (arity w) s))

  -- ---- what lies deeper than the words reach makes no difference

  pub on-top : (w : ℕ) (t s : List A) → arity w ≤ length t → on w (t ++ s) ≡ on w t
  unfolding value_on_by
  on-top w t s h = rw (take-append-le (arity w) t s h)

  record Framed (l : List ℕ) (t s : List A) (n : ℕ) : Type 0 where
    values_same : vals l (t ++ s) ≡ vals l t
    stack_same : stk l (t ++ s) ≡ stk l t ++ s
    height : length (stk l t) ≡ n

  framed-more : (w : ℕ) (l : List ℕ) (t s : List A) (n : ℕ) → arity w ≤ length t
      → Framed l (on w t ∷ drop (arity w) t) s n → Framed (w ∷ l) t s n
  unfolding values_by stack_after_by
  framed-more w l t s n h f =
      let d : drop (arity w) (t ++ s) ≡ drop (arity w) t ++ s = drop-append-le (arity w) t s h in
      let v : on w (t ++ s) ≡ on w t = on-top w t s h in
      record {
        values_same = ap₂ (λ (x : A) (y : List A). x ∷ vals l (x ∷ y)) v d ∙ ap (λ (y : List A). on w t ∷ y) f.values_same;
        stack_same = ap₂ (λ (x : A) (y : List A). stk l (x ∷ y)) v d ∙ f.stack_same;
        height = f.height;
      }

  framed : (l : List ℕ) (t s : List A) (n : ℕ) → trees_by arity (length t) l n ≡ true → Framed l t s n
  unfolding trees_by values_by stack_after_by
  framed [] t s n h = record { values_same = refl; stack_same = refl; height = eqb-true (length t) n h }
  framed (w ∷ l) t s n h =
      let r = arity w in
      let p = picked (leb r (length t)) (trees_by arity (length t - r + 1) l n) h in
      let q : length t - r + 1 ≡ suc (length (drop r t)) = rw (length-drop r t) (add-one (length t - r)) in
      framed-more w l t s n (leb-true r (length t) p.0)
      (framed l (on w t ∷ drop r t) s n (subst (λ (x : ℕ). trees_by arity x l n ≡ true) q p.1))

  single : (l : List A) → length l ≡ 1 → (r : A) × (l ≡ r ∷ [])
  single [] h = absurd (omega arith)
  single (r ∷ []) h = (r, refl)
  single (r ∷ x ∷ l) h = absurd (omega arith)

  -- a tree is read the same on any stack, and leaves one value on it
  pub record Read (x : List ℕ) : Type 0 where
    pub root : A
    pub alone : stk x [] ≡ root ∷ []
    pub values-on : (s : List A) → vals x s ≡ vals x []
    pub stack-on : (s : List A) → stk x s ≡ root ∷ s

  pub read : (x : List ℕ) → one_tree_by arity x ≡ true → Read x
  read x h =
      let p = single (stk x []) (framed x [] [] 1 h).height in
      record {
        root = p.0;
        alone = p.1;
        values-on = λ s. (framed x [] s 1 h).values_same;
        stack-on = λ s. (framed x [] s 1 h).stack_same ∙ ap (λ (t : List A). t ++ s) p.1;
      }

  -- ---- given values that are right

  module _ (f : ℕ → A) where
    -- from node j on, f gives the values of the words
    abbrev pub Right : ℕ → List ℕ → List A → Type 0
    Right j [] s = Unit {0}
    Right j (w ∷ ws) s = (f j ≡ on w s) × Right (suc j) ws (on w s ∷ drop (arity w) s)

    pub right-list : (ws : List ℕ) (j : ℕ) (s : List A) → Right j ws s → list_from f j (length ws) ≡ vals ws s
    unfolding values_by
    right-list [] j s h = refl
    right-list (w ∷ ws) j s h = ap₂ (λ (x : A) (y : List A). x ∷ y) h.0 (right-list ws (suc j) (on w s ∷ drop (arity w) s) h.1)

    pub list_right : (ws : List ℕ) (j : ℕ) (s : List A) → list_from f j (length ws) ≡ vals ws s → Right j ws s
    unfolding values_by
    list_right [] j s h = tt
    list_right (w ∷ ws) j s h = (head-eq_of_cons-eq h, list_right ws (suc j) (on w s ∷ drop (arity w) s) (tail-eq_of_cons-eq h))

    pub right-stack : (ws : List ℕ) (j : ℕ) (s : List A) → Right j ws s → stack_given_by arity f j ws s ≡ stk ws s
    unfolding stack_given_by stack_after_by
    right-stack [] j s h = refl
    right-stack (w ∷ ws) j s h =
        ap (λ (x : A). stack_given_by arity f (suc j) ws (x ∷ drop (arity w) s)) h.0
        ∙ right-stack ws (suc j) (on w s ∷ drop (arity w) s) h.1

    pub right-left : (l k : List ℕ) (j : ℕ) (s : List A) → Right j (l ++ k) s → Right j l s
    right-left [] k j s h = tt
    right-left (w ∷ l) k j s h = (h.0, right-left l k (suc j) (on w s ∷ drop (arity w) s) h.1)

    pub right-right : (l k : List ℕ) (j : ℕ) (s : List A) → Right j (l ++ k) s → Right (j + length l) k (stk l s)
    unfolding stack_after_by
    right-right [] k j s h = rw (add-zero j) h
    right-right (w ∷ l) k j s h = rw (add-suc, ← suc-add) (right-right l k (suc j) (on w s ∷ drop (arity w) s) h.1)

    -- the value of the last word is on top of the stack
    pub right-last : (l : List ℕ) (w j : ℕ) (s t : List A) (v : A) → Right j (l ++ w ∷ []) s → stk (l ++ w ∷ []) s ≡ v ∷ t
        → f (j + length l) ≡ v
    unfolding stack_after_by
    right-last l w j s t v h e =
        (right-right l (w ∷ []) j s h).0 ∙ head-eq_of_cons-eq (sym (stack-append l (w ∷ []) s) ∙ e)
