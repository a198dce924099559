-- Every member of an expression's language reaches its exit: where the languages of σ reach the entries, the language
-- under σ reaches the exit. By induction on the expression, and for a closure on the step.
use Prim.Native.Nat.{ℕ, zero, suc, ◌<◌}
use mathlib.Core.Path.{◌≡◌, refl, sym, subst}
use mathlib.Core.Logic.{◌⊎◌, inl, inr}
use mathlib.Core.Bool.{Bool, true, false, cond}
use mathlib.Core.List.{List, [], ◌∷◌, ◌++◌, flat_map, Memᴰ}
use native.Mathlib.Omega.{arith}
use lib.ListN.{length, replicate}
use lib.Dec.{eqb}
use borrow.Author.Tests.{eqb-false}
use Rattle.words.specs.Alphabet.{rank_of, constants_of}
use Rattle.words.specs.Tree.{Tree, Trees, node, more, number}
use Rattle.words.specs.Lists.{All}
use Rattle.words.proofs.AlphabetLaws.{zero-is_constant, constants_of-is_constant}
use Rattle.words.proofs.AllLaws.{each_append, each_left, each_right, each_map, each_both}
use Rattle.language.specs.Expression.{Expression, Expressions, symbol, empty, union, product, closure, anything, noneᵉ, moreᵉ}
use Rattle.language.specs.Expression.{TreeOver, TreesOver}
use Rattle.language.specs.Membership.{Language, Assignment, Substitution, Substitutions, at_constant}
use Rattle.language.specs.Membership.{at_symbol, at_none, at_more, Product, Step, Member, Members}
use Rattle.language.proofs.SubstitutionLaws.{assigned, Under, at-constant, constant-under, product-in}
use Rattle.automaton.specs.Transition.{Transition}
use Rattle.automaton.specs.Numbering.{full_entries, epsilons, entry_epsilons, every_symbol, anything_targets}
use Rattle.automaton.specs.Reached.{Reaches, ReachesAll, on_node, on_epsilon, on_none, on_more}
use Rattle.automaton.proofs.TreeNumbering.{next, next_all, exit_state, entry_states, entry, exits, child_entries, own}
use Rattle.automaton.proofs.TreeNumbering.{transitions_of, transitions_of_all, ConstantsListed, ConstantsListedAll}
use Rattle.automaton.proofs.EverySymbolLaws.{OfSymbols, of-every_symbol}
use Rattle.automaton.proofs.ReachedBy.{Present, ReachedBy, AllReachedBy, Entered, smaller}
use Rattle.automaton.proofs.ReachedBy.{along, from_entries, entered, entered-assigned}

module _ (a : List ℕ) (ts : List Transition) where
  abbrev cs : List ℕ
  cs = constants_of a

  abbrev Complete : Expression → ℕ → Type 1
  Complete E n = (σ : Assignment) → Entered ts σ (entry_states a E n) → ReachedBy ts (Under (Member a E) σ) (exit_state a E n)

  complete-union : (F G : Expression) (n : ℕ) → ConstantsListed a F → ConstantsListed a G → Complete F n → Complete G (next a F n)
      → All (Present ts) (own a (union F G) n) → Complete (union F G) n
  complete-union F G n k_f k_g i_f i_g h σ f t (u, m, p) = go m
    where
      g : ℕ
      g = next a F n

      each : (c' : ℕ) → Memᴰ c' cs → AllReachedBy ts (σ c') (entry a F n c' ++ entry a G g c')
      each = from_entries a ts σ (suc (next a G g)) (λ c'. entry a F n c' ++ entry a G g c') f h.1.1

      go : Member a F u ⊎ Member a G u → Reaches ts (next a G g) t
      go (inl x) =
          on_epsilon h.0
          (i_f σ (entered a ts F n k_f σ (λ c' k. each_left (ReachedBy ts (σ c')) (entry a F n c') (entry a G g c') (each c' k))) t (u, x, p))
      go (inr x) =
          on_epsilon h.1.0
          (i_g σ (entered a ts G g k_g σ (λ c' k. each_right (ReachedBy ts (σ c')) (entry a F n c') (entry a G g c') (each c' k))) t
          (u, x, p))

  complete-product : (c : ℕ) (F G : Expression) (n : ℕ) → ConstantsListed a F → ConstantsListed a G → Complete F n
      → Complete G (next a F n) → All (Present ts) (own a (product c F G) n) → Complete (product c F G) n
  complete-product c F G n k_f k_g i_f i_g h σ f t d =
      on_epsilon h.0
      (i_f (assigned σ c L)
      (entered-assigned a ts F n k_f σ c L into-F (λ c' k. each_left (ReachedBy ts (σ c')) (but-c c') (entry a G g c') (each c' k))) t
      (product-in c (Member a F) (Member a G) σ t d))
    where
      g : ℕ
      g = next a F n

      L : Language
      L = Under (Member a G) σ

      but-c : ℕ → List ℕ
      but-c c' = cond (eqb c' c) [] (entry a F n c')

      entries_written : List Transition
      entries_written = entry_epsilons (full_entries cs (next a G g)) (λ c'. but-c c' ++ entry a G g c')

      each : (c' : ℕ) → Memᴰ c' cs → AllReachedBy ts (σ c') (but-c c' ++ entry a G g c')
      each =
          from_entries a ts σ (suc (next a G g)) (λ c'. but-c c' ++ entry a G g c') f
          (each_right (Present ts) (epsilons (exit_state a G g) (entry a F n c)) entries_written h.1)

      out-of-G : ReachedBy ts L (exit_state a G g)
      out-of-G = i_g σ (entered a ts G g k_g σ (λ c' k. each_right (ReachedBy ts (σ c')) (but-c c') (entry a G g c') (each c' k)))

      into-F : AllReachedBy ts L (entry a F n c)
      into-F =
          along ts L (exit_state a G g) out-of-G (entry a F n c)
          (each_left (Present ts) (epsilons (exit_state a G g) (entry a F n c)) entries_written h.1)

  complete-closure : (c : ℕ) (F : Expression) (n : ℕ) → Memᴰ c cs → ConstantsListed a F → Complete F n
      → All (Present ts) (own a (closure c F) n) → Complete (closure c F) n
  complete-closure c F n kc k_f i_f h σ f t (u, (k, s), p) =
      (each_right (ReachedBy ts (steps k)) (entry a F n c) (x ∷ []) (every-step k)).0 t (u, s, p)
    where
      x : ℕ
      x = next a F n

      -- F's entry for c, and the closure's exit
      loop : List ℕ
      loop = entry a F n c ++ (x ∷ [])

      straight : ℕ → List ℕ
      straight c' = cond (eqb c' c) (x ∷ []) []

      entries_written : List Transition
      entries_written = entry_epsilons (full_entries cs x) (λ c'. entry a F n c' ++ straight c')

      steps : ℕ → Language
      steps k = Under (Step c (Member a F) k) σ

      turn : ℕ → Language
      turn k = Under (Product c (Member a F) (Step c (Member a F) k)) σ

      each : (c' : ℕ) → Memᴰ c' cs → AllReachedBy ts (σ c') (entry a F n c' ++ straight c')
      each =
          from_entries a ts σ (suc x) (λ c'. entry a F n c' ++ straight c') f
          (each_right (Present ts) (epsilons (exit_state a F n) loop) entries_written h)

      each-F : (c' : ℕ) → Memᴰ c' cs → AllReachedBy ts (σ c') (entry a F n c')
      each-F c' k = each_left (ReachedBy ts (σ c')) (entry a F n c') (straight c') (each c' k)

      but-c : (c' : ℕ) (b : Bool) → AllReachedBy ts (σ c') (entry a F n c') → AllReachedBy ts (σ c') (cond b [] (entry a F n c'))
      but-c c' true g = tt
      but-c c' false g = g

      to-exit : (b : Bool) → eqb c c ≡ b → AllReachedBy ts (σ c) (cond b (x ∷ []) []) → ReachedBy ts (σ c) x
      to-exit true e g = g.0
      to-exit false e g = absurd (eqb-false c c e refl)

      base : (r : Tree) → steps 0 r → σ c r
      base r (v, e, q) = at-constant (subst (λ w. Substitution σ w r) e q)

      -- one turn more, where step k has come to F's entry for c
      turned : (k : ℕ) → AllReachedBy ts (steps k) (entry a F n c) → AllReachedBy ts (turn k) loop
      turned k g =
          along ts (turn k) (exit_state a F n)
          (λ r d. i_f (assigned σ c (steps k)) (entered-assigned a ts F n k_f σ c (steps k) g (λ c' m. but-c c' (eqb c' c) (each-F c' m))) r
          (product-in c (Member a F) (Step c (Member a F) k) σ r d))
          loop (each_left (Present ts) (epsilons (exit_state a F n) loop) entries_written h)

      either : (k q : ℕ) → ReachedBy ts (steps k) q × ReachedBy ts (turn k) q → ReachedBy ts (steps (suc k)) q
      either k q b r (v, inl y, z) = b.0 r (v, y, z)
      either k q b r (v, inr y, z) = b.1 r (v, y, z)

      every-step : (k : ℕ) → AllReachedBy ts (steps k) loop
      every-step zero =
          smaller ts (steps 0) (σ c) base loop
          (each_append (ReachedBy ts (σ c)) (entry a F n c) (x ∷ []) (each-F c kc)
          (to-exit (eqb c c) refl (each_right (ReachedBy ts (σ c)) (entry a F n c) (straight c) (each c kc)), tt))
      every-step (suc k) =
          each_map (λ q. ReachedBy ts (steps k) q × ReachedBy ts (turn k) q) (ReachedBy ts (steps (suc k))) (either k) loop
          (each_both (ReachedBy ts (steps k)) (ReachedBy ts (turn k)) loop (every-step k)
          (turned k (each_left (ReachedBy ts (steps k)) (entry a F n c) (x ∷ []) (every-step k))))

  -- the same of a row of parts
  CompleteAll : Expressions → ℕ → Type 1
  CompleteAll es n =
      (σ : Assignment) → ((c' : ℕ) → Memᴰ c' cs → AllReachedBy ts (σ c') (child_entries a es n c')) → (us vs : Trees) → Members a es us
      → Substitutions σ us vs → ReachesAll ts (exits a es n) vs

  complete-symbol : (f : ℕ) (es : Expressions) (n : ℕ) → CompleteAll es n → All (Present ts) (own a (symbol f es) n)
      → Complete (symbol f es) n
  unfolding CompleteAll
  complete-symbol f noneᵉ n i h σ g t d = g.0 t (constant-under a f σ t d)
  complete-symbol f (moreᵉ e es) n i h σ g t (u, m, p) = go u t m p
    where
      x : ℕ
      x = next_all a (moreᵉ e es) n

      go : (u t : Tree) → Member a (symbol f (moreᵉ e es)) u → Substitution σ u t → Reaches ts x t
      go u t m (at_constant s) = absurd m.1
      go u t m (at_symbol {u = v} {t = w} {us = vs} {ts = ws} p ps) =
          subst (λ y. Reaches ts x (node y (more w ws))) m.0
          (on_node h.0
          (i σ (from_entries a ts σ (suc x) (child_entries a (moreᵉ e es) n) g h.1) (more v vs) (more w ws) m.1 (at_more p ps)))

  complete-more : (e : Expression) (es : Expressions) (n : ℕ) → ConstantsListed a e → Complete e n → CompleteAll es (next a e n)
      → CompleteAll (moreᵉ e es) n
  unfolding CompleteAll flat_map
  complete-more e es n k i is σ g us ws m at_none = absurd m
  complete-more e es n k i is σ g us' ws' m (at_more {u = v} {t = w} {us = vs} {ts = ws} p ps) =
      on_more
      (i σ (entered a ts e n k σ (λ c' l. each_left (ReachedBy ts (σ c')) (entry a e n c') (child_entries a es (next a e n) c') (g c' l))) w
      (v, m.0, p))
      (is σ (λ c' l. each_right (ReachedBy ts (σ c')) (entry a e n c') (child_entries a es (next a e n) c') (g c' l)) vs ws m.1 ps)

  complete-none : (n : ℕ) → CompleteAll noneᵉ n
  unfolding CompleteAll
  complete-none n σ g us vs m at_none = on_none
  complete-none n σ g us vs m (at_more p ps) = absurd m

  -- a tree over the alphabet with substituted constants reaches a state that the constants and the symbol transitions reach
  module _ (x : ℕ) (σ : Assignment) (constants : (c : ℕ) → c < length a → rank_of a c ≡ 0 → ReachedBy ts (σ c) x)
      (symbols : OfSymbols (Present ts) x a) where
    mutual
      over-reaches : {u t : Tree} → Substitution σ u t → TreeOver a u → Reaches ts x t
      over-reaches (at_constant {a = c} {t = t} s) o = constants c o.0 o.1 t s
      over-reaches (at_symbol {f = f} {t = w} {us = us} {ts = ws} p ps) o =
          let r = o.1 in
          on_node (symbols f o.0 (λ z. omega arith))
          (subst (λ k. ReachesAll ts (replicate k x) (more w ws)) (sym r)
          (on_more (over-reaches p o.2.0) (overs-reach ps o.2.1)))

      overs-reach : {us vs : Trees} → Substitutions σ us vs → TreesOver a us → ReachesAll ts (replicate (number us) x) vs
      overs-reach at_none o = on_none
      overs-reach (at_more p ps) o = on_more (over-reaches p o.0) (overs-reach ps o.1)

  complete-anything : (n : ℕ) → All (Present ts) (own a anything n) → Complete anything n
  complete-anything n h σ f t (u, o, p) =
      over-reaches n σ (λ c l z. (each c ((constants_of-is_constant a c).1 (zero-is_constant a c l z))).0)
      (of-every_symbol (Present ts) n a (each_left (Present ts) (every_symbol n 0 a) entries_written h)) p o
    where
      entries_written : List Transition
      entries_written = entry_epsilons (full_entries cs n) (anything_targets n)

      each : (c : ℕ) → Memᴰ c cs → AllReachedBy ts (σ c) (n ∷ [])
      each = from_entries a ts σ (suc n) (anything_targets n) f (each_right (Present ts) (every_symbol n 0 a) entries_written h)

  mutual
    pub complete-expression : (E : Expression) (n : ℕ) → ConstantsListed a E → All (Present ts) (transitions_of a E n) → Complete E n
    complete-expression (symbol f es) n k h =
        complete-symbol f es n (complete-all es n k.1 (each_left (Present ts) (transitions_of_all a es n) (own a (symbol f es) n) h))
        (each_right (Present ts) (transitions_of_all a es n) (own a (symbol f es) n) h)
    complete-expression empty n k h = λ σ g t d. absurd d.1
    complete-expression (union F G) n k h =
        let g = next a F n in
        let h_g = each_right (Present ts) (transitions_of a F n) (transitions_of a G g ++ own a (union F G) n) h in
        complete-union F G n k.0 k.1
        (complete-expression F n k.0 (each_left (Present ts) (transitions_of a F n) (transitions_of a G g ++ own a (union F G) n) h))
        (complete-expression G g k.1 (each_left (Present ts) (transitions_of a G g) (own a (union F G) n) h_g))
        (each_right (Present ts) (transitions_of a G g) (own a (union F G) n) h_g)
    complete-expression (product c F G) n k h =
        let g = next a F n in
        let h_g = each_right (Present ts) (transitions_of a F n) (transitions_of a G g ++ own a (product c F G) n) h in
        complete-product c F G n k.1 k.2
        (complete-expression F n k.1
        (each_left (Present ts) (transitions_of a F n) (transitions_of a G g ++ own a (product c F G) n) h))
        (complete-expression G g k.2 (each_left (Present ts) (transitions_of a G g) (own a (product c F G) n) h_g))
        (each_right (Present ts) (transitions_of a G g) (own a (product c F G) n) h_g)
    complete-expression (closure c F) n k h =
        complete-closure c F n k.0 k.1
        (complete-expression F n k.1 (each_left (Present ts) (transitions_of a F n) (own a (closure c F) n) h))
        (each_right (Present ts) (transitions_of a F n) (own a (closure c F) n) h)
    complete-expression anything n k h = complete-anything n h

    complete-all : (es : Expressions) (n : ℕ) → ConstantsListedAll a es → All (Present ts) (transitions_of_all a es n) → CompleteAll es n
    complete-all noneᵉ n k h = complete-none n
    complete-all (moreᵉ e es) n k h =
        complete-more e es n k.0
        (complete-expression e n k.0 (each_left (Present ts) (transitions_of a e n) (transitions_of_all a es (next a e n)) h))
        (complete-all es (next a e n) k.1 (each_right (Present ts) (transitions_of a e n) (transitions_of_all a es (next a e n)) h))
