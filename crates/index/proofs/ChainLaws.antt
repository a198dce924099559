-- The key of a word, and the words of a table that have a key, in ascending order.
use mathlib.Core.Path.{◌≡◌, refl, ap, ◌∙◌, sym}
use mathlib.Core.Bool.{true, cond, false≢true}
use mathlib.Core.List.{List, [], ◌∷◌}
use Prim.Native.Nat.{ℕ, zero, suc, ◌+◌, ◌-◌, ◌<◌, ◌≤◌}
use native.Mathlib.Omega.{arith}
use native.Mathlib.Decide.{ℕ_discrete}
use lib.ListN.{length, get_or}
use lib.Dec.{eqb}
use Rattle.std.proofs.Common.{Some, None}
use borrow.Author.Tests.{eq-eqb, ne_eqb, eqb-true, eqb-false}
use Rattle.words.specs.Word.{transition_kind, epsilon_kind, number_of, has_kind, state_range, symbol_range, symbol_above, state_above, kind_number}
use Rattle.words.specs.Limits.{table_most}
use Rattle.words.proofs.TestLaws.{Tested, holds, fails, tested}
use Rattle.automaton.specs.Table.{is_table}
use Rattle.automaton.proofs.TableLaws.{is_table-parts}
use Rattle.index.specs.Index.{key_of, key_count, state_key, chain_word}

-- ---- the key of a word

-- a symbol transition on f; an epsilon transition from p
pub record SymbolWord (w f : ℕ) : Type 0 where
  pub kind : number_of w ≡ kind_number transition_kind
  pub symbol : symbol_above w ≡ f

pub record EpsilonWord (w p : ℕ) : Type 0 where
  pub kind : number_of w ≡ kind_number epsilon_kind
  pub from : state_above w ≡ p

module _ (w : ℕ) where
  pub key-symbol : {f : ℕ} → number_of w ≡ kind_number transition_kind → symbol_above w ≡ f → key_of w ≡ f
  unfolding key_of
  key-symbol e h = rw (eq-eqb (number_of w) (kind_number transition_kind) e) h

  pub key-epsilon : {p : ℕ} → number_of w ≡ kind_number epsilon_kind → state_above w ≡ p → key_of w ≡ state_key p
  unfolding key_of
  key-epsilon e h =
      rw (ne_eqb (number_of w) (kind_number transition_kind) (λ i. omega arith), eq-eqb (number_of w) (kind_number epsilon_kind) e) (omega arith)

  pub key-none : (number_of w ≡ kind_number transition_kind → ⊥) → (number_of w ≡ kind_number epsilon_kind → ⊥) → key_of w ≡ key_count
  unfolding key_of
  key-none h i = rw (ne_eqb (number_of w) (kind_number transition_kind) h, ne_eqb (number_of w) (kind_number epsilon_kind) i)

  pub keyed-symbol : {f : ℕ} → key_of w ≡ f → f < symbol_range → SymbolWord w f
  keyed-symbol {f} e h = go (tested (has_kind transition_kind w)) (tested (has_kind epsilon_kind w))
    where
      go : Tested (has_kind transition_kind w) → Tested (has_kind epsilon_kind w) → SymbolWord w f
      go (holds y) t =
          let k = eqb-true (number_of w) (kind_number transition_kind) y in record { kind = k; symbol = sym (key-symbol k refl) ∙ e }
      go (fails n) (holds y) = absurd (omega (arith, key-epsilon (eqb-true (number_of w) (kind_number epsilon_kind) y) refl))
      go (fails n) (fails m) =
          absurd (omega (
            arith,
            key-none (eqb-false (number_of w) (kind_number transition_kind) n) (eqb-false (number_of w) (kind_number epsilon_kind) m),
          ))

  pub keyed-epsilon : {p : ℕ} → key_of w ≡ state_key p → p < state_range → EpsilonWord w p
  keyed-epsilon {p} e h = go (tested (has_kind transition_kind w)) (tested (has_kind epsilon_kind w))
    where
      go : Tested (has_kind transition_kind w) → Tested (has_kind epsilon_kind w) → EpsilonWord w p
      go (holds y) t = absurd (omega (arith, key-symbol (eqb-true (number_of w) (kind_number transition_kind) y) refl))
      go (fails n) (holds y) =
          let k = eqb-true (number_of w) (kind_number epsilon_kind) y in record { kind = k; from = omega (arith, key-epsilon k refl) }
      go (fails n) (fails m) =
          absurd (omega (
            arith,
            key-none (eqb-false (number_of w) (kind_number transition_kind) n) (eqb-false (number_of w) (kind_number epsilon_kind) m),
          ))

-- ---- the number of a word of a chain, or 0

pub chain-end : (n : ℕ) → n ≡ 0 → None ≡ chain_word n
unfolding chain_word
chain-end n e = rw e

pub chain-goes : (n : ℕ) → (n ≡ 0 → ⊥) → Some n ≡ chain_word n
unfolding chain_word
chain-goes zero h = absurd (h refl)
chain-goes (suc n) h = refl

pub chain-none : (n : ℕ) → chain_word n ≡ None → n ≡ 0
unfolding chain_word
chain-none zero e = refl
chain-none (suc n) e = cc

pub chain-some : (n : ℕ) {i : ℕ} → chain_word n ≡ Some i → (n ≡ i) × (0 < i)
unfolding chain_word
chain-some zero e = cc
chain-some (suc n) {i} e = let h : suc n ≡ i = cc in (h, omega arith)

-- ---- the words with a key

next_back : List ℕ → ℕ → ℕ → ℕ
next_back table key zero = 0
next_back table key (suc n) =
    let i = length table - suc n in
    cond (eqb (key_of (get_or table i 0)) key) i (next_back table key n)

-- the number of the first word from j on that has the key, or 0
pub next_with : List ℕ → ℕ → ℕ → ℕ
next_with table key j = next_back table key (length table - j)

module _ (table : List ℕ) (key : ℕ) where
  back_more : (n j : ℕ) → length table - suc n ≡ j
      → next_back table key (suc n) ≡ cond (eqb (key_of (get_or table j 0)) key) j (next_back table key n)
  unfolding next_back
  back_more n j e = ap (λ (i : ℕ). cond (eqb (key_of (get_or table i 0)) key) i (next_back table key n)) e

  pub next-over : (j : ℕ) → length table ≤ j → next_with table key j ≡ 0
  unfolding next_with next_back
  next-over j h = let e : length table - j ≡ 0 = omega arith in ap (next_back table key) e

  module _ (j : ℕ) (inside : j < length table) where
    step : next_with table key j ≡ cond (eqb (key_of (get_or table j 0)) key) j (next_with table key (j + 1))
    unfolding next_with
    step =
        let e : length table - j ≡ suc (length table - (j + 1)) = omega arith in
        ap (next_back table key) e ∙ back_more (length table - (j + 1)) j (omega arith)

    pub next_here : key_of (get_or table j 0) ≡ key → next_with table key j ≡ j
    next_here e = step ∙ rw (eq-eqb (key_of (get_or table j 0)) key e)

    pub next_past : (key_of (get_or table j 0) ≡ key → ⊥) → next_with table key j ≡ next_with table key (j + 1)
    next_past h = step ∙ rw (ne_eqb (key_of (get_or table j 0)) key h)

-- no word from j up to e has the key
abbrev Without : List ℕ → ℕ → ℕ → ℕ → Type 0
Without table key j e = (m : ℕ) → j ≤ m → m < e → key_of (get_or table m 0) ≡ key → ⊥

-- word i is the first one from j on that has the key
pub record FirstWith (table : List ℕ) (key j i : ℕ) : Type 0 where
  pub behind : j ≤ i
  pub inside : i < length table
  pub keyed : key_of (get_or table i 0) ≡ key
  pub skipped : Without table key j i

-- a table of at most 2,048 words, whose first word has no key
pub record Keyed (table : List ℕ) : Type 0 where
  pub few : length table ≤ table_most
  pub head : key_of (get_or table 0 0) ≡ key_count

pub table-keyed : (a table : List ℕ) → is_table a table ≡ true → Keyed table
unfolding is_table
table-keyed a [] h = absurd (false≢true h)
table-keyed a (w ∷ ws) h =
    let p = is_table-parts a w ws h in
    let number = p.head.number in
    record { few = p.length-word.few; head = key-none w (λ e. omega arith) (λ e. omega arith) }

module _ (table : List ℕ) (key : ℕ) where
  without_more : (j e : ℕ) → (key_of (get_or table j 0) ≡ key → ⊥) → Without table key (j + 1) e → Without table key j e
  without_more j e n w m l h k = go (ℕ_discrete m j)
    where
      go : Dec (m ≡ j) → ⊥
      go (yes d) = n (rw d at k)
      go (no d) = w m (omega arith) h k

  some_at : (j : ℕ) → j < length table → (0 < next_with table key (j + 1) → FirstWith table key (j + 1) (next_with table key (j + 1)))
      → 0 < next_with table key j → FirstWith table key j (next_with table key j)
  some_at j l later h = go (ℕ_discrete (key_of (get_or table j 0)) key)
    where
      go : Dec (key_of (get_or table j 0) ≡ key) → FirstWith table key j (next_with table key j)
      go (yes k) = rw (next_here table key j l k) (record { behind = omega arith; inside = l; keyed = k; skipped = λ m g f e. omega arith })
      go (no n) =
          let p = next_past table key j l n in
          let s = later (omega (arith, p)) in
          rw p (record { behind = omega arith; inside = s.inside; keyed = s.keyed; skipped = without_more j _ n s.skipped })

  some-from : (n j : ℕ) → length table - j ≡ n → 0 < next_with table key j → FirstWith table key j (next_with table key j)
  some-from zero j e h = absurd (omega (arith, next-over table key j (omega arith)))
  some-from (suc n) j e h = some_at j (omega arith) (some-from n (j + 1) (omega arith)) h

  module _ (keyed : Keyed table) (small : key < key_count) where
    none-at : (j : ℕ) → j < length table → (next_with table key (j + 1) ≡ 0 → Without table key (j + 1) (length table))
        → next_with table key j ≡ 0 → Without table key j (length table)
    none-at j l later h = go (ℕ_discrete (key_of (get_or table j 0)) key)
      where
        go : Dec (key_of (get_or table j 0) ≡ key) → Without table key j (length table)
        go (yes k) =
            let z : j ≡ 0 = omega (arith, next_here table key j l k) in
            absurd (omega (arith, keyed.head, rw z at k))
        go (no n) = without_more j (length table) n (later (sym (next_past table key j l n) ∙ h))

    none_from : (n j : ℕ) → length table - j ≡ n → next_with table key j ≡ 0 → Without table key j (length table)
    none_from zero j e h = λ m g f k. omega arith
    none_from (suc n) j e h = none-at j (omega arith) (none_from n (j + 1) (omega arith)) h

-- the next word of a chain, and the end of a chain
module _ {table : List ℕ} {key j i : ℕ} (e : i ≡ next_with table key j) where
  pub next-some : 0 < i → FirstWith table key j i
  next-some h = rw e (some-from table key (length table - j) j refl (omega arith))

  pub next-none : Keyed table → key < key_count → i ≡ 0 → Without table key j (length table)
  next-none k b z = none_from table key k b (length table - j) j refl (sym e ∙ z)
