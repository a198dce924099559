-- A table's transitions are those that begin at its words; its head and its length word begin none.
use mathlib.Core.Path.{◌≡◌, refl, ap, sym, subst}
use mathlib.Core.Logic.{⊎_elim}
use mathlib.Core.Bool.{true, false≢true}
use mathlib.Core.List.Memᴰ
use mathlib.Core.List.{List, [], ◌∷◌, ◌++◌, Memᴰ}
use Prim.Native.Nat.{ℕ, zero, suc, ◌<◌}
use native.Mathlib.Omega.{arith}
use native.Mathlib.Nat.{suc-add}
use lib.ListN.{length, get_or, drop}
use borrow.Author.Tests.{ne_eqb}
use Rattle.words.specs.Word.{number_of, epsilon_kind, transition_kind, length_kind, kind_number}
use Rattle.automaton.specs.Transition.{Transition, transition_at, transitions_at, automaton_of}
use Rattle.automaton.specs.Table.{is_table}
use Rattle.automaton.proofs.TableLaws.{is_table-parts}
use Rattle.closures.specs.Closure.{starts_at}

-- ---- one word more in front

starts-suc : (w : ℕ) (ws : List ℕ) (i : ℕ) → starts_at (w ∷ ws) (suc i) ≡ starts_at ws i
starts-suc w ws i = ap (λ (j : ℕ). transition_at (get_or ws i 0) (drop j (w ∷ ws))) (suc-add i 1)

transitions-cons : (w : ℕ) (ws : List ℕ) → transitions_at (w ∷ ws) ≡ starts_at (w ∷ ws) 0 ++ transitions_at ws
unfolding transitions_at
transitions-cons w ws = refl

-- ---- at each word

pub record TransitionStart (ws : List ℕ) (t : Transition) : Type 0 where
  pub index : ℕ
  pub inside : index < length ws
  pub member : Memᴰ t (starts_at ws index)

later : (w : ℕ) {ws : List ℕ} {t : Transition} → TransitionStart ws t → TransitionStart (w ∷ ws) t
later w {ws} {t} s =
    let inside = s.inside in
    record { index = suc s.index; inside = omega arith; member = subst (Memᴰ t) (sym (starts-suc w ws s.index)) s.member }

pub member-starts : (ws : List ℕ) (t : Transition) → Memᴰ t (transitions_at ws) → TransitionStart ws t
unfolding transitions_at
member-starts [] t m = absurd (Memᴰ.not-nil m)
member-starts (w ∷ ws) t m =
    ⊎_elim (λ h. record { index = 0; inside = omega arith; member = h }) (λ h. later w (member-starts ws t h))
    (Memᴰ.append_cases (starts_at (w ∷ ws) 0) (subst (Memᴰ t) (transitions-cons w ws) m))

pub starts-member : (ws : List ℕ) (i : ℕ) (t : Transition) → i < length ws → Memᴰ t (starts_at ws i) → Memᴰ t (transitions_at ws)
starts-member [] i t l m = absurd (omega arith)
starts-member (w ∷ ws) zero t l m = subst (Memᴰ t) (sym (transitions-cons w ws)) (Memᴰ.append_left (transitions_at ws) m)
starts-member (w ∷ ws) (suc i) t l m =
    subst (Memᴰ t) (sym (transitions-cons w ws))
    (Memᴰ.append_right (starts_at (w ∷ ws) 0) (starts-member ws i t (omega arith) (subst (Memᴰ t) (starts-suc w ws i) m)))

-- ---- the head and the length word

pub table-transitions : (a table : List ℕ) → is_table a table ≡ true → transitions_at table ≡ (automaton_of table).transitions
unfolding is_table automaton_of transitions_at
table-transitions a [] h = absurd (false≢true h)
table-transitions a (w ∷ []) h = let some = (is_table-parts a w [] h).length-word.some in absurd (omega arith)
table-transitions a (w ∷ l ∷ ws) h =
    let p = is_table-parts a w (l ∷ ws) h in
    let e = p.head.number in
    let few = p.length-word.few in
    let q = p.length-word.word in
    let k : number_of l ≡ kind_number length_kind = omega arith in
    rw (
      ne_eqb (number_of w) (kind_number transition_kind) (λ i. omega arith),
      ne_eqb (number_of w) (kind_number epsilon_kind) (λ i. omega arith),
      ne_eqb (number_of l) (kind_number transition_kind) (λ i. omega arith),
      ne_eqb (number_of l) (kind_number epsilon_kind) (λ i. omega arith),
    )
