-- Transitions that keep to the languages intended for the states: what is reached is then intended.
use Prim.Native.Nat.{ℕ}
use mathlib.Core.Logic.{◌↔◌}
use mathlib.Core.List.{List, [], ◌∷◌, ◌++◌, flat_map}
use Rattle.words.specs.Tree.{Tree, Trees, node, none, more}
use Rattle.words.specs.Lists.{All}
use Rattle.words.proofs.AllLaws.{each_append, each_at, each_map}
use Rattle.language.specs.Expression.{Expression, Expressions, noneᵉ, moreᵉ}
use Rattle.language.specs.Membership.{Assignment}
use Rattle.automaton.specs.Transition.{Transition, on_symbol, epsilon}
use Rattle.automaton.specs.Numbering.{entry_epsilons}
use Rattle.automaton.specs.Reached.{Reaches, ReachesAll, on_node, on_epsilon, on_none, on_more}
use Rattle.automaton.proofs.EveryEntryLaws.{every-found, to-entry_epsilons}
use Rattle.automaton.proofs.TreeNumbering.{next, entry_states, entry, child_entries}
use Rattle.automaton.proofs.IntendedLanguages.{Intended, Has, has_left, languages, languages_all}
use Rattle.automaton.proofs.IntendedLanguages.{behind-part, EntriesAre, entries-are}

-- each child belongs to its state's language
abbrev pub Intend : Intended → List ℕ → Trees → Type 0
Intend I [] none = Unit {0}
Intend I [] (more t ts) = ⊥
Intend I (p ∷ ps) none = ⊥
Intend I (p ∷ ps) (more t ts) = I p t × Intend I ps ts

abbrev pub Keeps : Intended → Transition → Type 0
Keeps I (on_symbol f ps q) = (us : Trees) → Intend I ps us → I q (node f us)
Keeps I (epsilon p q) = (t : Tree) → I p t → I q t

-- what is reached is then intended
module _ (I : Intended) (ts : List Transition) (k : All (Keeps I) ts) where
  mutual
    pub intended : {q : ℕ} {t : Tree} → Reaches ts q t → I q t
    intended (on_node {us = us} m r) = each_at (Keeps I) ts k m us (intended-all r)
    intended (on_epsilon {t = t} m r) = each_at (Keeps I) ts k m t (intended r)

    intended-all : {ps : List ℕ} {us : Trees} → ReachesAll ts ps us → Intend I ps us
    intended-all on_none = tt
    intended-all (on_more r rs) = (intended r, intended-all rs)

module _ (I : Intended) where
  -- whatever is intended for q is intended for each state of a list
  abbrev pub Into : ℕ → List ℕ → Type 0
  Into q ps = All (λ p. (t : Tree) → I q t → I p t) ps

  pub into-append : (q : ℕ) (ps rs : List ℕ) → Into q ps → Into q rs → Into q (ps ++ rs)
  into-append q ps rs = each_append (λ p. (t : Tree) → I q t → I p t) ps rs

module _ (a : List ℕ) (I : Intended) where
  pub into-entry : (E : Expression) (n : ℕ) (σ : Assignment) → Has I n (languages a E σ) → (c q : ℕ) → ((t : Tree) → I q t → σ c t)
      → Into I q (entry a E n c)
  into-entry E n σ h c q f =
      each_map (λ p. (t : Tree) → I p t ↔ σ c t) (λ p. (t : Tree) → I q t → I p t) (λ p e t i. (e t).1 (f t i)) (entry a E n c)
      (every-found (λ b p. (t : Tree) → I p t ↔ σ b t) c (entry_states a E n) (entries-are a I E n σ h))

  pub into-children : (es : Expressions) (n : ℕ) (σ : Assignment) → Has I n (languages_all a es σ) → (c q : ℕ)
      → ((t : Tree) → I q t → σ c t) → Into I q (child_entries a es n c)
  unfolding flat_map
  into-children noneᵉ n σ h c q f = tt
  into-children (moreᵉ e es) n σ h c q f =
      into-append I q (entry a e n c) (child_entries a es (next a e n) c)
      (into-entry e n σ (has_left I n (languages a e σ) (languages_all a es σ) h) c q f)
      (into-children es (next a e n) σ (behind-part a I e n σ (languages_all a es σ) h) c q f)

  pub keeps-entry_epsilons : (σ : Assignment) (es : List (ℕ × ℕ)) (targets : ℕ → List ℕ) → EntriesAre a I σ es
      → ((c q : ℕ) → ((t : Tree) → I q t → σ c t) → Into I q (targets c)) → All (Keeps I) (entry_epsilons es targets)
  keeps-entry_epsilons σ es targets h f =
      to-entry_epsilons (Keeps I) targets es
      (each_map (λ e. (t : Tree) → I e.1 t ↔ σ e.0 t) (λ e. Into I e.1 (targets e.0))
      (λ e x. f e.0 e.1 (λ t i. (x t).0 i)) es h)
