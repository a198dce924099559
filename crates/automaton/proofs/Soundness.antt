-- Every tree that reaches an expression's exit is a member of its language: no transition leaves the languages intended for
-- the states.
use Prim.Native.Nat.{ℕ, zero, suc, ◌<◌}
use mathlib.Core.Path.{◌≡◌, refl, ap, subst}
use mathlib.Core.Logic.{inl, inr, ◌↔◌}
use mathlib.Core.Bool.{Bool, true, false, cond}
use mathlib.Core.List.{List, [], ◌∷◌, ◌++◌, Memᴰ}
use lib.ListN.{length, replicate}
use lib.Dec.{eqb}
use borrow.Author.Tests.{eqb-true, eqb-false}
use native.Mathlib.Decide.{ℕ_discrete}
use Rattle.words.specs.Alphabet.{rank_of, is_constant, constants_of}
use Rattle.words.specs.Tree.{Tree, Trees, node, none, more, number}
use Rattle.words.specs.Lists.{All}
use Rattle.words.proofs.AlphabetLaws.{constants_of-is_constant, is_constant-zero}
use Rattle.words.proofs.AllLaws.{each_append, each_map, each_both, each-self}
use Rattle.language.specs.Expression.{Expression, Expressions, symbol, empty, union, product, closure, anything, noneᵉ, moreᵉ, TreesOver}
use Rattle.language.specs.Membership.{Language, Assignment, constant, Substitutions, at_constant, at_symbol, at_none, at_more}
use Rattle.language.specs.Membership.{Member, Members}
use Rattle.language.proofs.SubstitutionLaws.{itself, assigned, Under, product-out, closure-base, closure-step}
use Rattle.automaton.specs.Transition.{Transition, on_symbol, epsilon}
use Rattle.automaton.specs.Numbering.{full_entries, epsilons, entry_epsilons, every_symbol, anything_targets, constant_transitions}
use Rattle.automaton.specs.Reached.{Reaches}
use Rattle.automaton.proofs.EveryEntryLaws.{to-epsilons, to-entry_epsilons, to-constants, numbered-all}
use Rattle.automaton.proofs.EverySymbolLaws.{to-every_symbol}
use Rattle.automaton.proofs.TreeNumbering.{next, exit_state, entry_states, entry, exits, child_entries}
use Rattle.automaton.proofs.TreeNumbering.{own, transitions_of, transitions_of_all, tree_transitions}
use Rattle.automaton.proofs.IntendedLanguages.{Intended, Has, has_left, nth, has-nth, block, symbol_block}
use Rattle.automaton.proofs.IntendedLanguages.{languages, languages_all, behind-part, exit-is, entries-are}
use Rattle.automaton.proofs.IntendedTransitions.{Intend, Keeps, intended, Into, into-append}
use Rattle.automaton.proofs.IntendedTransitions.{into-entry, into-children, keeps-entry_epsilons}

module _ (a : List ℕ) (I : Intended) where
  -- ---- the own transitions of each word

  keeps-union : (F G : Expression) (n : ℕ) (σ : Assignment) → Has I n (languages a (union F G) σ) → All (Keeps I) (own a (union F G) n)
  keeps-union F G n σ h = (
    λ t i. let d = (exit-is a I F n σ h_f t).0 i in out t (d.0, inl d.1, d.2),
    (
      λ t i. let d = (exit-is a I G g σ h_g t).0 i in out t (d.0, inr d.1, d.2),
      keeps-entry_epsilons a I σ (entry_states a (union F G) n) (λ c. entry a F n c ++ entry a G g c) (entries-are a I (union F G) n σ h)
          (λ c q f. into-append I q (entry a F n c) (entry a G g c) (into-entry a I F n σ h_f c q f) (into-entry a I G g σ h_g c q f)),
    ),
  )
    where
      g : ℕ
      g = next a F n

      B : List Language
      B = block a (Under (Member a (union F G)) σ) σ

      h_f : Has I n (languages a F σ)
      h_f = has_left I n (languages a F σ) (languages a G σ ++ B) h

      h_g : Has I g (languages a G σ)
      h_g = has_left I g (languages a G σ) B (behind-part a I F n σ (languages a G σ ++ B) h)

      out : (t : Tree) → Under (Member a (union F G)) σ t → I (next a G g) t
      out t = (exit-is a I (union F G) n σ h t).1

  keeps-product : (c : ℕ) (F G : Expression) (n : ℕ) (σ : Assignment) → Has I n (languages a (product c F G) σ)
      → All (Keeps I) (own a (product c F G) n)
  keeps-product c F G n σ h = (
    λ t i. (exit-is a I (product c F G) n σ h t).1 (product-out c (Member a F) (Member a G) σ t ((exit-is a I F n τ h_f t).0 i)),
    each_append (Keeps I) (epsilons (exit_state a G g) (entry a F n c))
        (entry_epsilons (entry_states a (product c F G) n) (λ c'. but-c c' (eqb c' c) ++ entry a G g c'))
        (to-epsilons (Keeps I) (exit_state a G g) (entry a F n c)
        (into-entry a I F n τ h_f c (exit_state a G g) (λ t i. inl (refl, (exit-is a I G g σ h_g t).0 i))))
        (keeps-entry_epsilons a I σ (entry_states a (product c F G) n) (λ c'. but-c c' (eqb c' c) ++ entry a G g c')
        (entries-are a I (product c F G) n σ h)
        (λ c' q f. into-append I q (but-c c' (eqb c' c)) (entry a G g c') (into-F c' q f (eqb c' c) refl)
        (into-entry a I G g σ h_g c' q f))),
  )
    where
      g : ℕ
      g = next a F n

      τ : Assignment
      τ = assigned σ c (Under (Member a G) σ)

      but-c : ℕ → Bool → List ℕ
      but-c c' b = cond b [] (entry a F n c')

      B : List Language
      B = block a (Under (Member a (product c F G)) σ) σ

      h_f : Has I n (languages a F τ)
      h_f = has_left I n (languages a F τ) (languages a G σ ++ B) h

      h_g : Has I g (languages a G σ)
      h_g = has_left I g (languages a G σ) B (behind-part a I F n τ (languages a G σ ++ B) h)

      into-F : (c' q : ℕ) → ((t : Tree) → I q t → σ c' t) → (b : Bool) → eqb c' c ≡ b → Into I q (but-c c' b)
      into-F c' q f true e = tt
      into-F c' q f false e = into-entry a I F n τ h_f c' q (λ t i. inr (eqb-false c' c e, f t i))

  keeps-closure : (c : ℕ) (F : Expression) (n : ℕ) (σ : Assignment) → Has I n (languages a (closure c F) σ)
      → All (Keeps I) (own a (closure c F) n)
  keeps-closure c F n σ h =
      each_append (Keeps I) (epsilons (exit_state a F n) (entry a F n c ++ (x ∷ [])))
      (entry_epsilons (entry_states a (closure c F) n) (λ c'. entry a F n c' ++ straight (eqb c' c)))
      (to-epsilons (Keeps I) (exit_state a F n) (entry a F n c ++ (x ∷ []))
      (into-append I (exit_state a F n) (entry a F n c) (x ∷ [])
      (into-entry a I F n τ h_f c (exit_state a F n) (λ t i. inl (refl, turn t i))) (λ t i. out t (turn t i), tt)))
      (keeps-entry_epsilons a I σ (entry_states a (closure c F) n) (λ c'. entry a F n c' ++ straight (eqb c' c))
      (entries-are a I (closure c F) n σ h)
      (λ c' q f. into-append I q (entry a F n c') (straight (eqb c' c))
      (into-entry a I F n τ h_f c' q (λ t i. widen c' t (ℕ_discrete c' c) (f t i))) (into-exit c' q f (eqb c' c) refl)))
    where
      x : ℕ
      x = next a F n

      L : Language
      L = Under (Member a (closure c F)) σ

      τ : Assignment
      τ = assigned σ c L

      straight : Bool → List ℕ
      straight b = cond b (x ∷ []) []

      h_f : Has I n (languages a F τ)
      h_f = has_left I n (languages a F τ) (block a L σ) h

      out : (t : Tree) → L t → I x t
      out t = (exit-is a I (closure c F) n σ h t).1

      turn : (t : Tree) → I (exit_state a F n) t → L t
      turn t i = closure-step c (Member a F) σ t ((exit-is a I F n τ h_f t).0 i)

      base : (c' : ℕ) (t : Tree) → c' ≡ c → σ c' t → L t
      base c' t e s = closure-base c (Member a F) σ t (subst (λ b. σ b t) e s)

      widen : (c' : ℕ) (t : Tree) → Dec (c' ≡ c) → σ c' t → τ c' t
      widen c' t (yes e) s = inl (e, base c' t e s)
      widen c' t (no m) s = inr (m, s)

      into-exit : (c' q : ℕ) → ((t : Tree) → I q t → σ c' t) → (b : Bool) → eqb c' c ≡ b → Into I q (straight b)
      into-exit c' q f true e = (λ t i. out t (base c' t (eqb-true c' c e) (f t i)), tt)
      into-exit c' q f false e = tt

  -- children that belong to the exits' languages are members with substituted constants
  children-members : (es : Expressions) (n : ℕ) (σ : Assignment) → Has I n (languages_all a es σ) → (ts : Trees)
      → Intend I (exits a es n) ts → (us : Trees) × Members a es us × Substitutions σ us ts
  children-members noneᵉ n σ h none k = (none, tt, at_none)
  children-members noneᵉ n σ h (more t ts) k = absurd k
  children-members (moreᵉ e es) n σ h none k = absurd k
  children-members (moreᵉ e es) n σ h (more t ts) k =
      let d = (exit-is a I e n σ (has_left I n (languages a e σ) (languages_all a es σ) h) t).0 k.0 in
      let r = children-members es (next a e n) σ (behind-part a I e n σ (languages_all a es σ) h) ts k.1 in
      (more d.0 r.0, (d.1, r.1), at_more d.2 r.2)

  keeps-symbol : (f : ℕ) (es : Expressions) (n : ℕ) (σ : Assignment) → Has I n (languages a (symbol f es) σ)
      → All (Keeps I) (own a (symbol f es) n)
  keeps-symbol f noneᵉ n σ h = tt
  keeps-symbol f (moreᵉ e es) n σ h = (
    λ ts k. let d = children-members ds n σ hs ts k in (exit-is a I (symbol f ds) n σ h (node f ts)).1 (whole ts d.0 d.1 d.2),
    keeps-entry_epsilons a I σ (entry_states a (symbol f ds) n) (child_entries a ds n) (entries-are a I (symbol f ds) n σ h)
        (λ c q g. into-children a I ds n σ hs c q g),
  )
    where
      ds : Expressions
      ds = moreᵉ e es

      hs : Has I n (languages_all a ds σ)
      hs = has_left I n (languages_all a ds σ) (symbol_block a ds f σ) h

      whole : (ts us : Trees) → Members a ds us → Substitutions σ us ts → Under (Member a (symbol f ds)) σ (node f ts)
      whole ts us m at_none = absurd m
      whole ts us m (at_more {u = v} {us = vs} p ps) = (node f (more v vs), (refl, m), at_symbol p ps)

  -- children that belong to the exit's language are trees over the alphabet with substituted constants
  children-over : (σ : Assignment) (x : ℕ) → ((t : Tree) → I x t → Under (Member a anything) σ t) → (k : ℕ) (ts : Trees)
      → Intend I (replicate k x) ts → (us : Trees) × (k ≡ number us) × TreesOver a us × Substitutions σ us ts
  children-over σ x h zero none i = (none, refl, tt, at_none)
  children-over σ x h zero (more t ts) i = absurd i
  children-over σ x h (suc k) none i = absurd i
  children-over σ x h (suc k) (more t ts) i =
      let d = h t i.0 in
      let r = children-over σ x h k ts i.1 in
      (more d.0 r.0, ap suc r.1, (d.1, r.2), at_more d.2 r.3)

  keeps-anything : (n : ℕ) (σ : Assignment) → Has I n (languages a anything σ) → All (Keeps I) (own a anything n)
  keeps-anything n σ h =
      each_append (Keeps I) (every_symbol n 0 a) (entry_epsilons es (anything_targets n))
      (to-every_symbol (Keeps I) n a
      (λ f l z ts i.
      let d = children-over σ n (λ t j. (h.0 t).0 j) (rank_of a f) ts i in
      (h.0 (node f ts)).1 (whole f l z ts d.0 d.1 d.2 d.3)))
      (to-entry_epsilons (Keeps I) (anything_targets n) es
      (each_map (λ e. Entry e × (is_constant a e.0 ≡ true)) (λ e. All (λ p. Keeps I (epsilon e.1 p)) (n ∷ []))
      (λ e x. (λ t i. (h.0 t).1 (constant e.0, leaf e.0 x.1, at_constant ((x.0 t).0 i)), tt)) es
      (each_both Entry (λ e. is_constant a e.0 ≡ true) es (entries-are a I anything n σ h)
      (numbered-all (λ c. is_constant a c ≡ true) (suc n) (constants_of a) constants))))
    where
      es : List (ℕ × ℕ)
      es = full_entries (constants_of a) n

      Entry : ℕ × ℕ → Type 0
      Entry e = (t : Tree) → I e.1 t ↔ σ e.0 t

      constants : All (λ c. is_constant a c ≡ true) (constants_of a)
      constants =
          each_map (λ c. Memᴰ c (constants_of a)) (λ c. is_constant a c ≡ true) (λ c m. (constants_of-is_constant a c).0 m)
          (constants_of a) (each-self (constants_of a))

      leaf : (c : ℕ) → is_constant a c ≡ true → Member a anything (constant c)
      leaf c k = let z = is_constant-zero a c k in (z.0, z.1, tt)

      whole : (f : ℕ) → f < length a → (rank_of a f ≡ 0 → ⊥) → (ts us : Trees) → rank_of a f ≡ number us → TreesOver a us
          → Substitutions σ us ts → Under (Member a anything) σ (node f ts)
      whole f l z ts us r o at_none = absurd (z r)
      whole f l z ts us r o (at_more {u = v} {us = vs} p ps) = (node f (more v vs), (l, r, o), at_symbol p ps)

  -- ---- all transitions

  keeps-two : (F G : Expression) (n : ℕ) (τ σ : Assignment) (B : List Language) (own-ts : List Transition)
      → (Has I n (languages a F τ) → All (Keeps I) (transitions_of a F n))
      → (Has I (next a F n) (languages a G σ) → All (Keeps I) (transitions_of a G (next a F n)))
      → Has I n (languages a F τ ++ (languages a G σ ++ B)) → All (Keeps I) own-ts
      → All (Keeps I) (transitions_of a F n ++ (transitions_of a G (next a F n) ++ own-ts))
  keeps-two F G n τ σ B own-ts i_f i_g h k =
      each_append (Keeps I) (transitions_of a F n) (transitions_of a G (next a F n) ++ own-ts)
      (i_f (has_left I n (languages a F τ) (languages a G σ ++ B) h))
      (each_append (Keeps I) (transitions_of a G (next a F n)) own-ts
      (i_g (has_left I (next a F n) (languages a G σ) B (behind-part a I F n τ (languages a G σ ++ B) h))) k)

  mutual
    keeps : (E : Expression) (n : ℕ) (σ : Assignment) → Has I n (languages a E σ) → All (Keeps I) (transitions_of a E n)
    keeps (symbol f es) n σ h =
        each_append (Keeps I) (transitions_of_all a es n) (own a (symbol f es) n)
        (keeps-all es n σ (has_left I n (languages_all a es σ) (symbol_block a es f σ) h)) (keeps-symbol f es n σ h)
    keeps empty n σ h = tt
    keeps (union F G) n σ h =
        keeps-two F G n σ σ (block a (Under (Member a (union F G)) σ) σ) (own a (union F G) n)
        (λ x. keeps F n σ x) (λ x. keeps G (next a F n) σ x) h (keeps-union F G n σ h)
    keeps (product c F G) n σ h =
        let τ : Assignment = assigned σ c (Under (Member a G) σ) in
        keeps-two F G n τ σ (block a (Under (Member a (product c F G)) σ) σ) (own a (product c F G) n)
        (λ x. keeps F n τ x) (λ x. keeps G (next a F n) σ x) h (keeps-product c F G n σ h)
    keeps (closure c F) n σ h =
        let L : Language = Under (Member a (closure c F)) σ in
        each_append (Keeps I) (transitions_of a F n) (own a (closure c F) n)
        (keeps F n (assigned σ c L) (has_left I n (languages a F (assigned σ c L)) (block a L σ) h)) (keeps-closure c F n σ h)
    keeps anything n σ h = keeps-anything n σ h

    keeps-all : (es : Expressions) (n : ℕ) (σ : Assignment) → Has I n (languages_all a es σ) → All (Keeps I) (transitions_of_all a es n)
    keeps-all noneᵉ n σ h = tt
    keeps-all (moreᵉ e es) n σ h =
        each_append (Keeps I) (transitions_of a e n) (transitions_of_all a es (next a e n))
        (keeps e n σ (has_left I n (languages a e σ) (languages_all a es σ) h))
        (keeps-all es (next a e n) σ (behind-part a I e n σ (languages_all a es σ) h))

-- the whole automaton, whose entries take each constant for itself
pub sound : (a : List ℕ) (E : Expression) (t : Tree) → Reaches (tree_transitions a E) (exit_state a E 0) t → Under (Member a E) itself t
sound a E t r = (exit-is a I E 0 itself h t).0 (intended I (tree_transitions a E) all r)
  where
    I : Intended
    I = nth (languages a E itself)

    h : Has I 0 (languages a E itself)
    h = has-nth (languages a E itself)

    keeps-constant : (c q : ℕ) → ((s : Tree) → I q s ↔ itself c s) → Keeps I (on_symbol c [] q)
    keeps-constant c q x none k = (x (constant c)).1 refl
    keeps-constant c q x (more t ts) k = absurd k

    all : All (Keeps I) (tree_transitions a E)
    all =
        each_append (Keeps I) (constant_transitions (entry_states a E 0)) (transitions_of a E 0)
        (to-constants (Keeps I) (entry_states a E 0)
        (each_map (λ e. (s : Tree) → I e.1 s ↔ itself e.0 s) (λ e. Keeps I (on_symbol e.0 [] e.1))
        (λ e x. keeps-constant e.0 e.1 x) (entry_states a E 0) (entries-are a I E 0 itself h)))
        (keeps a I E 0 itself h)
