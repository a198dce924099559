-- States that every member of a language reaches: along epsilon transitions, and from a word's entries to those of its
-- parts.
use Prim.Native.Nat.{ℕ, suc}
use mathlib.Core.Path.{◌≡◌, refl, sym, subst}
use mathlib.Core.Logic.{inl, inr}
use mathlib.Core.Bool.{Bool, true, false, cond}
use mathlib.Core.List.{List, [], Memᴰ}
use lib.Dec.{eqb}
use borrow.Author.Tests.{eqb-true, eqb-false}
use Rattle.words.specs.Alphabet.{constants_of}
use Rattle.words.specs.Tree.{Tree}
use Rattle.words.specs.Lists.{All}
use Rattle.words.proofs.AllLaws.{each_map, each_both, each-self}
use Rattle.language.specs.Expression.{Expression, symbol, empty, union, product, closure, anything, noneᵉ, moreᵉ}
use Rattle.language.specs.Membership.{Language, Assignment}
use Rattle.language.proofs.SubstitutionLaws.{assigned}
use Rattle.automaton.specs.Transition.{Transition, epsilon}
use Rattle.automaton.specs.Numbering.{numbered, full_entries, epsilons, entry_epsilons}
use Rattle.automaton.specs.Reached.{Reaches, on_epsilon}
use Rattle.automaton.proofs.EveryEntryLaws.{EveryEntry, found-every, every-numbered, numbered-all, of-epsilons, of-entry_epsilons}
use Rattle.automaton.proofs.TreeNumbering.{next_all, exit_state, entry_states, entry, ConstantsListed}

module _ (ts : List Transition) where
  abbrev pub Present : Transition → Type 0
  Present m = Memᴰ m ts

  -- every member of L reaches q
  abbrev pub ReachedBy : Language → ℕ → Type 0
  ReachedBy L q = (t : Tree) → L t → Reaches ts q t

  abbrev pub AllReachedBy : Language → List ℕ → Type 0
  AllReachedBy L qs = All (ReachedBy L) qs

  -- every entry is reached by what σ gives its constant
  abbrev pub Entered : Assignment → List (ℕ × ℕ) → Type 0
  Entered σ es = EveryEntry (λ c q. ReachedBy (σ c) q) es

  pub smaller : (K L : Language) → ((t : Tree) → K t → L t) → (qs : List ℕ) → AllReachedBy L qs → AllReachedBy K qs
  smaller K L h qs r = each_map (ReachedBy L) (ReachedBy K) (λ q f t k. f t (h t k)) qs r

  -- along epsilon transitions from one state
  pub along : (L : Language) (q : ℕ) → ReachedBy L q → (qs : List ℕ) → All Present (epsilons q qs) → AllReachedBy L qs
  along L q r qs h =
      each_map (λ p. Present (epsilon q p)) (ReachedBy L) (λ p m t l. on_epsilon m (r t l)) qs (of-epsilons Present q qs h)

module _ (a : List ℕ) where
  abbrev cs : List ℕ
  cs = constants_of a

  full-listed : (x : ℕ) → All (λ e. Memᴰ e.0 cs) (full_entries cs x)
  full-listed x = numbered-all (λ c. Memᴰ c cs) (suc x) cs (each-self cs)

  entries-listed : (E : Expression) (n : ℕ) → ConstantsListed a E → All (λ e. Memᴰ e.0 cs) (entry_states a E n)
  entries-listed (symbol c noneᵉ) n k = (k.0, tt)
  entries-listed (symbol f (moreᵉ e es)) n k = full-listed (next_all a (moreᵉ e es) n)
  entries-listed empty n k = tt
  entries-listed (union F G) n k = full-listed (exit_state a (union F G) n)
  entries-listed (product c F G) n k = full-listed (exit_state a (product c F G) n)
  entries-listed (closure c F) n k = full-listed (exit_state a (closure c F) n)
  entries-listed anything n k = full-listed n

  module _ (ts : List Transition) where
    -- along those from the entries of a word
    module _ (σ : Assignment) (n : ℕ) (targets : ℕ → List ℕ) where
      pub from_entries : Entered ts σ (numbered n cs) → All (Present ts) (entry_epsilons (numbered n cs) targets) → (c : ℕ) → Memᴰ c cs
          → AllReachedBy ts (σ c) (targets c)
      from_entries f h c m = (every-numbered (λ d q. AllReachedBy ts (σ d) (targets d)) c n cs m each).1
        where
          each : EveryEntry (λ d q. AllReachedBy ts (σ d) (targets d)) (numbered n cs)
          each =
              each_map (λ e. ReachedBy ts (σ e.0) e.1 × All (λ p. Present ts (epsilon e.1 p)) (targets e.0))
              (λ e. AllReachedBy ts (σ e.0) (targets e.0))
              (λ e b. each_map (λ p. Present ts (epsilon e.1 p)) (ReachedBy ts (σ e.0)) (λ p j t s. on_epsilon j (b.0 t s))
              (targets e.0) b.1)
              (numbered n cs)
              (each_both (λ e. ReachedBy ts (σ e.0) e.1) (λ e. All (λ p. Present ts (epsilon e.1 p)) (targets e.0))
              (numbered n cs) f (of-entry_epsilons (Present ts) targets (numbered n cs) h))

    -- the entries of a part, from the listed constants
    module _ (E : Expression) (n : ℕ) (k : ConstantsListed a E) where
      pub entered : (σ : Assignment) → ((c : ℕ) → Memᴰ c cs → AllReachedBy ts (σ c) (entry a E n c))
          → Entered ts σ (entry_states a E n)
      entered σ h = found-every (λ c q. ReachedBy ts (σ c) q) (λ c. Memᴰ c cs) (entry_states a E n) (entries-listed E n k) h

      -- where c has L
      pub entered-assigned : (σ : Assignment) (c : ℕ) (L : Language) → AllReachedBy ts L (entry a E n c)
          → ((c' : ℕ) → Memᴰ c' cs → AllReachedBy ts (σ c') (cond (eqb c' c) [] (entry a E n c')))
          → Entered ts (assigned σ c L) (entry_states a E n)
      entered-assigned σ c L l h = entered (assigned σ c L) (λ c' m. go c' (eqb c' c) refl (h c' m))
        where
          at_c : (c' : ℕ) → c' ≡ c → (t : Tree) → assigned σ c L c' t → L t
          at_c c' e t (inl (p, x)) = x
          at_c c' e t (inr (m, x)) = absurd (m e)

          elsewhere : (c' : ℕ) → (c' ≡ c → ⊥) → (t : Tree) → assigned σ c L c' t → σ c' t
          elsewhere c' m t (inl (p, x)) = absurd (m p)
          elsewhere c' m t (inr (p, x)) = x

          go : (c' : ℕ) (b : Bool) → eqb c' c ≡ b → AllReachedBy ts (σ c') (cond b [] (entry a E n c'))
              → AllReachedBy ts (assigned σ c L c') (entry a E n c')
          go c' true e g =
              let p = eqb-true c' c e in
              smaller ts (assigned σ c L c') L (at_c c' p) (entry a E n c') (subst (λ x. AllReachedBy ts L (entry a E n x)) (sym p) l)
          go c' false e g = smaller ts (assigned σ c L c') (σ c') (elsewhere c' (eqb-false c' c e)) (entry a E n c') g
