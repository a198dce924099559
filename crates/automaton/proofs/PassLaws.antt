-- Laws of the passes that make a state set: what a pass keeps and adds, that it adds nothing else, and that as many passes
-- over the epsilon transitions as there are states leave a set that is closed under them.
use mathlib.Core.Path.{◌≡◌, refl, ap, ◌∙◌, sym, subst⁻¹}
use mathlib.Core.Bool.{Bool, true, false, cond, ◌&&◌}
use mathlib.Core.List.{List, [], ◌∷◌, Memᴰ}
use Prim.Native.Nat.{ℕ, zero, suc, ◌+◌, ◌*◌, ◌<◌, ◌≤◌, ◌/◌}
use native.Mathlib.Omega.{arith}
use native.Mathlib.Decide.{ℕ_discrete, dec_lt}
use lib.ListN.{length}
use lib.Dec.{eqb}
use borrow.Author.Tests.{eqb-true, eq-eqb}
use Rattle.words.specs.Lists.{count, list_from}
use Rattle.words.proofs.TestLaws.{Tested, holds, fails, tested, and-true, true-and}
use Rattle.words.proofs.ListLaws.{length-list_from}
use Rattle.words.proofs.CountLaws.{count-all, count-more, list_from-member}
use Rattle.automaton.specs.Transition.{Transition, on_symbol, epsilon}
use Rattle.automaton.specs.StateSet.{StateSet, contains, insert, all_contained, symbol_step, epsilon_step}
use Rattle.automaton.specs.StateSet.{symbol_pass, epsilon_pass, closed_under, is_closed, epsilon_closure}
use Rattle.automaton.proofs.BitLaws.{insert-same, insert-other, insert-keeps}
use Rattle.automaton.proofs.KeepLaws.{epsilon_step-keeps, epsilon_pass-keeps, epsilon_closure-keeps, symbol_pass-keeps}
use Rattle.automaton.proofs.SetLength.{length-epsilon_step, length-epsilon_pass, length-symbol_step}

-- the targets of the symbol transitions on f whose sources are in the children's sets have the property
abbrev pub HasTargets : List Transition → ℕ → List StateSet → (ℕ → Type 0) → Type 0
HasTargets ts f rs P = (ps : List ℕ) (q : ℕ) → Memᴰ (on_symbol f ps q) ts → all_contained ps rs ≡ true → P q

-- and so have those of the epsilon transitions from a state that has it
abbrev pub ClosedUnder : List Transition → (ℕ → Type 0) → Type 0
ClosedUnder ts P = (p q : ℕ) → Memᴰ (epsilon p q) ts → P p → P q

abbrev pub StatesWithin : (ℕ → Type 0) → StateSet → Type 0
StatesWithin P r = (q : ℕ) → contains r q ≡ true → P q

abbrev pub In : StateSet → ℕ → Type 0
In r q = contains r q ≡ true

-- ---- a pass keeps each state that is in the set

epsilon_step-grows : (t : Transition) (r : StateSet) → StatesWithin (In (epsilon_step t r)) r
epsilon_step-grows t r q = epsilon_step-keeps (λ x. In x q) (λ x s. insert-keeps x s q) t r

epsilon_pass-grows : (ts : List Transition) (r : StateSet) → StatesWithin (In (epsilon_pass ts r)) r
epsilon_pass-grows ts r q = epsilon_pass-keeps (λ x. In x q) (λ x s. insert-keeps x s q) ts r

pub epsilon_closure-grows : (n : ℕ) (ts : List Transition) (r : StateSet) → StatesWithin (In (epsilon_closure n ts r)) r
epsilon_closure-grows n ts r q = epsilon_closure-keeps (λ x. In x q) (λ x s. insert-keeps x s q) n ts r

symbol_pass-grows : (f : ℕ) (rs : List StateSet) (ts : List Transition) (r : StateSet) → StatesWithin (In (symbol_pass f rs ts r)) r
symbol_pass-grows f rs ts r q = symbol_pass-keeps (λ x. In x q) (λ x s. insert-keeps x s q) f rs ts r

-- ---- what a pass adds

added : (b : Bool) (r : StateSet) (q : ℕ) → q / 32 < length r → b ≡ true → In (cond b (insert r q) r) q
added b r q l e = rw e (insert-same r q l)

epsilon_pass-adds : (ts : List Transition) (r : StateSet) (p q : ℕ) → Memᴰ (epsilon p q) ts → q / 32 < length r → In r p
    → In (epsilon_pass ts r) q
unfolding epsilon_pass
epsilon_pass-adds [] r p q x3 l h = elim x3 [ ]
epsilon_pass-adds (t ∷ ts) r p q (Memᴰ.head e) l h =
    epsilon_pass-grows ts (epsilon_step t r) q (rw (sym e) (added (contains r p) r q l h))
epsilon_pass-adds (t ∷ ts) r p q (Memᴰ.tail m) l h =
    epsilon_pass-adds ts (epsilon_step t r) p q m (rw (length-epsilon_step t r) l) (epsilon_step-grows t r p h)

pub symbol_pass-adds : (f : ℕ) (rs : List StateSet) (ts : List Transition) (r : StateSet) (ps : List ℕ) (q : ℕ)
    → Memᴰ (on_symbol f ps q) ts → q / 32 < length r → all_contained ps rs ≡ true → In (symbol_pass f rs ts r) q
unfolding symbol_pass
symbol_pass-adds f rs [] r ps q x3 l h = elim x3 [ ]
symbol_pass-adds f rs (t ∷ ts) r ps q (Memᴰ.head e) l h =
    symbol_pass-grows f rs ts (symbol_step f rs t r) q
    (rw (sym e) (added (eqb f f && all_contained ps rs) r q l (true-and (eqb f f) (all_contained ps rs) (eq-eqb f f refl) h)))
symbol_pass-adds f rs (t ∷ ts) r ps q (Memᴰ.tail m) l h =
    symbol_pass-adds f rs ts (symbol_step f rs t r) ps q m (rw (length-symbol_step f rs t r) l) h

-- ---- a pass adds nothing else

module _ (P : ℕ → Type 0) where
  within-if : (b : Bool) (r : StateSet) (q : ℕ) → (b ≡ true → P q) → StatesWithin P r → StatesWithin P (cond b (insert r q) r)
  within-if false r q h w s e = w s e
  within-if true r q h w s e = go (ℕ_discrete s q)
    where
      go : Dec (s ≡ q) → P s
      go (yes i) = rw i (h refl)
      go (no i) = w s (sym (insert-other r q s i) ∙ e)

  within-either : (b : Bool) (r s : StateSet) → StatesWithin P r → StatesWithin P s → StatesWithin P (cond b r s)
  within-either true r s w v = w
  within-either false r s w v = v

  epsilon_step-within : (t : Transition) (r : StateSet) → ((p q : ℕ) → epsilon p q ≡ t → P p → P q) → StatesWithin P r
      → StatesWithin P (epsilon_step t r)
  epsilon_step-within (on_symbol g ps q) r c w = w
  epsilon_step-within (epsilon p q) r c w = within-if (contains r p) r q (λ e. c p q refl (w p e)) w

  epsilon_pass-within : (ts : List Transition) (r : StateSet) → ClosedUnder ts P → StatesWithin P r → StatesWithin P (epsilon_pass ts r)
  unfolding epsilon_pass
  epsilon_pass-within [] r c w = w
  epsilon_pass-within (t ∷ ts) r c w =
      epsilon_pass-within ts (epsilon_step t r) (λ p q m. c p q (Memᴰ.tail m))
      (epsilon_step-within t r (λ p q e. c p q (Memᴰ.head e)) w)

  pub epsilon_closure-within : (n : ℕ) (ts : List Transition) (r : StateSet) → ClosedUnder ts P → StatesWithin P r
      → StatesWithin P (epsilon_closure n ts r)
  unfolding epsilon_closure
  epsilon_closure-within zero ts r c w = w
  epsilon_closure-within (suc n) ts r c w =
      within-either (is_closed ts r) r (epsilon_closure n ts (epsilon_pass ts r)) w
      (epsilon_closure-within n ts (epsilon_pass ts r) c (epsilon_pass-within ts r c w))

  symbol_step-within : (f : ℕ) (rs : List StateSet) (t : Transition) (r : StateSet)
      → ((ps : List ℕ) (q : ℕ) → on_symbol f ps q ≡ t → all_contained ps rs ≡ true → P q) → StatesWithin P r
      → StatesWithin P (symbol_step f rs t r)
  symbol_step-within f rs (epsilon p q) r c w = w
  symbol_step-within f rs (on_symbol g ps q) r c w =
      within-if (eqb g f && all_contained ps rs) r q
      (λ e. let b = and-true (eqb g f) (all_contained ps rs) e in c ps q (ap (λ x. on_symbol x ps q) (sym (eqb-true g f b.0))) b.1) w

  pub symbol_pass-within : (f : ℕ) (rs : List StateSet) (ts : List Transition) (r : StateSet) → HasTargets ts f rs P → StatesWithin P r
      → StatesWithin P (symbol_pass f rs ts r)
  unfolding symbol_pass
  symbol_pass-within f rs [] r c w = w
  symbol_pass-within f rs (t ∷ ts) r c w =
      symbol_pass-within f rs ts (symbol_step f rs t r) (λ ps q m. c ps q (Memᴰ.tail m))
      (symbol_step-within f rs t r (λ ps q e. c ps q (Memᴰ.head e)) w)

-- ---- the test of a closed set

under : (p q : ℕ) (r : StateSet) → closed_under (epsilon p q) r ≡ true → In r p → In r q
under p q r h i = rw i at h

pub closed-test : (ts : List Transition) (r : StateSet) → is_closed ts r ≡ true → ClosedUnder ts (In r)
closed-test [] r h p q x3 i = elim x3 [ ]
closed-test (t ∷ ts) r h p q (Memᴰ.head e) i =
    under p q r (subst⁻¹ (λ (u : Transition). closed_under u r ≡ true) e (and-true (closed_under t r) (is_closed ts r) h).0) i
closed-test (t ∷ ts) r h p q (Memᴰ.tail m) i = closed-test ts r (and-true (closed_under t r) (is_closed ts r) h).1 p q m i

test-under : (t : Transition) (r : StateSet) → ((p q : ℕ) → epsilon p q ≡ t → In r p → In r q) → closed_under t r ≡ true
test-under (on_symbol g ps q) r c = refl
test-under (epsilon p q) r c = go (tested (contains r p))
  where
    go : Tested (contains r p) → closed_under (epsilon p q) r ≡ true
    go (holds i) = rw (i, c p q refl i)
    go (fails n) = rw n

pub test-closed : (ts : List Transition) (r : StateSet) → ClosedUnder ts (In r) → is_closed ts r ≡ true
test-closed [] r c = refl
test-closed (t ∷ ts) r c =
    true-and (closed_under t r) (is_closed ts r) (test-under t r (λ p q e. c p q (Memᴰ.head e)))
    (test-closed ts r (λ p q m. c p q (Memᴰ.tail m)))

-- ---- as many passes as there are states

module _ (n : ℕ) (ts : List Transition) (below : (p q : ℕ) → Memᴰ (epsilon p q) ts → q < n) where
  -- how many of the n states are in the set
  present : StateSet → ℕ
  present r = count (contains r) (list_from (λ q. q) 0 n)

  -- a pass that adds no state of a set leaves it closed
  still-closed : (r : StateSet) → n ≤ length r * 32 → present (epsilon_pass ts r) ≤ present r → ClosedUnder ts (In r)
  unfolding present
  still-closed r s h p q m e = go (tested (contains r q)) (below p q m)
    where
      go : Tested (contains r q) → q < n → In r q
      go (holds i) l = i
      go (fails i) l =
          let more =
          count-more (contains r) (contains (epsilon_pass ts r)) (epsilon_pass-grows ts r) (list_from (λ q. q) 0 n)
          (list_from-member 0 n q (omega arith) (omega arith)) i
          (epsilon_pass-adds ts r p q m (omega arith) e) in
          absurd (omega arith)

  full-closed : (r : StateSet) → n ≤ present r → ClosedUnder ts (In r)
  unfolding present
  full-closed r h p q m e =
      let l = below p q m in
      count-all (contains r) (list_from (λ q. q) 0 n) (rw (length-list_from (λ q. q) n 0) h)
      (list_from-member 0 n q (omega arith) (omega arith))

  closed-stays : (k : ℕ) (r : StateSet) → ClosedUnder ts (In r) → ClosedUnder ts (In (epsilon_closure k ts r))
  closed-stays k r c p q m e = epsilon_closure-grows k ts r q (c p q m (epsilon_closure-within (In r) k ts r c (λ s i. i) p e))

  saturated : (k : ℕ) (r : StateSet) → n ≤ length r * 32 → n ≤ k + present r → ClosedUnder ts (In (epsilon_closure k ts r))
  unfolding epsilon_closure
  saturated zero r s h = full-closed r (omega arith)
  saturated (suc k) r s h = go (tested (is_closed ts r)) (dec_lt (present r) (present (epsilon_pass ts r))) (saturated k (epsilon_pass ts r))
    where
      onward : StateSet
      onward = epsilon_closure k ts (epsilon_pass ts r)

      go : Tested (is_closed ts r) → Dec (present r < present (epsilon_pass ts r))
          → (n ≤ length (epsilon_pass ts r) * 32 → n ≤ k + present (epsilon_pass ts r) → ClosedUnder ts (In onward))
          → ClosedUnder ts (In (cond (is_closed ts r) r onward))
      go (holds e) grows onward-closed = rw e (closed-test ts r e)
      go (fails e) (yes l) onward-closed = rw e (onward-closed (rw (length-epsilon_pass ts r) s) (omega arith))
      go (fails e) (no l) onward-closed = closed-stays (suc k) r (still-closed r s (omega arith))

  pub epsilon_closure-closed : (r : StateSet) → n ≤ length r * 32 → ClosedUnder ts (In (epsilon_closure n ts r))
  epsilon_closure-closed r s = saturated n r s (omega arith)
