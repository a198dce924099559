-- A language is intended for every state of an expression's automaton: for the exit the expression's language under an
-- assignment, for an entry what the assignment gives its constant.
use Prim.Native.Nat.{ℕ, zero, suc, ◌+◌}
use mathlib.Core.Path.{◌≡◌, refl, sym, ◌∙◌, ap, subst}
use mathlib.Core.Logic.{◌↔◌}
use mathlib.Core.List.{List, [], ◌∷◌, ◌++◌, map}
use lib.ListN.{length}
use native.Mathlib.Nat.{suc-add, add-zero, add-suc}
use Rattle.words.specs.Alphabet.{constants_of}
use Rattle.words.specs.Tree.{Tree}
use Rattle.language.specs.Expression.{Expression, Expressions, symbol, empty, union, product, closure, anything, noneᵉ, moreᵉ}
use Rattle.language.specs.Membership.{Language, Assignment, constant, at_constant, Member}
use Rattle.language.proofs.SubstitutionLaws.{assigned, Under, constant-under}
use Rattle.automaton.specs.Numbering.{numbered, full_entries}
use Rattle.automaton.proofs.EveryEntryLaws.{EveryEntry}
use Rattle.automaton.proofs.TreeNumbering.{behind, next, next_all, exit_state, entry_states}

-- a language for each state
abbrev pub Intended : Type 1
Intended = ℕ → Language

-- from state n on, I has the languages of a list
abbrev pub Has : Intended → ℕ → List Language → Type 0
Has I n [] = Unit {0}
Has I n (L ∷ ls) = ((t : Tree) → I n t ↔ L t) × Has I (suc n) ls

-- ---- counting states

-- n, counted on once for each language
abbrev past : ℕ → List Language → ℕ
past n [] = n
past n (L ∷ ls) = past (suc n) ls

past-append : (n : ℕ) (ls ks : List Language) → past n (ls ++ ks) ≡ past (past n ls) ks
past-append n [] ks = refl
past-append n (L ∷ ls) ks = past-append (suc n) ls ks

past-map : (σ : Assignment) (n : ℕ) (cs : List ℕ) → past n (map σ cs) ≡ n + length cs
past-map σ n [] = sym (add-zero n)
past-map σ n (c ∷ cs) = past-map σ (suc n) cs ∙ (suc-add n (length cs) ∙ sym (add-suc n (length cs)))

past-then : (n k m : ℕ) (ls ks : List Language) → past n ls ≡ k → past k ks ≡ m → past n (ls ++ ks) ≡ m
past-then n k m ls ks e f = past-append n ls ks ∙ (ap (λ j. past j ks) e ∙ f)

module _ (I : Intended) where
  pub has_left : (n : ℕ) (ls ks : List Language) → Has I n (ls ++ ks) → Has I n ls
  has_left n [] ks h = tt
  has_left n (L ∷ ls) ks h = (h.0, has_left (suc n) ls ks h.1)

  has-past : (n : ℕ) (ls ks : List Language) → Has I n (ls ++ ks) → Has I (past n ls) ks
  has-past n [] ks h = h
  has-past n (L ∷ ls) ks h = has-past (suc n) ls ks h.1

  has_right : (n k : ℕ) (ls ks : List Language) → past n ls ≡ k → Has I n (ls ++ ks) → Has I k ks
  has_right n k ls ks e h = subst (λ j. Has I j ks) e (has-past n ls ks h)

  has-numbered : (σ : Assignment) (n : ℕ) (cs : List ℕ) → Has I n (map σ cs)
      → EveryEntry (λ c q. (t : Tree) → I q t ↔ σ c t) (numbered n cs)
  has-numbered σ n [] h = tt
  has-numbered σ n (c ∷ cs) h = (h.0, has-numbered σ (suc n) cs h.1)

  has-full : (σ : Assignment) (x : ℕ) (cs : List ℕ) → Has I (suc x) (map σ cs)
      → EveryEntry (λ c q. (t : Tree) → I q t ↔ σ c t) (full_entries cs x)
  has-full σ x cs h = has-numbered σ (suc x) cs h

-- ---- a list of languages, by its index

abbrev pub nth : List Language → Intended
nth [] n = λ t. ⊥
nth (L ∷ ls) zero = L
nth (L ∷ ls) (suc n) = nth ls n

has-suc : (I : Intended) (n : ℕ) (ls : List Language) → Has (λ k. I (suc k)) n ls → Has I (suc n) ls
has-suc I n [] h = tt
has-suc I n (L ∷ ls) h = (h.0, has-suc I (suc n) ls h.1)

pub has-nth : (ls : List Language) → Has (nth ls) 0 ls
has-nth [] = tt
has-nth (L ∷ ls) = (λ t. (λ x. x, λ x. x), has-suc (nth (L ∷ ls)) 0 ls (has-nth ls))

-- ---- the languages of an expression's states, in order

module _ (a : List ℕ) where
  abbrev cs : List ℕ
  cs = constants_of a

  -- a word's exit and entries
  abbrev pub block : Language → Assignment → List Language
  block L σ = L ∷ map σ cs

  abbrev pub symbol_block : Expressions → ℕ → Assignment → List Language
  symbol_block noneᵉ c σ = σ c ∷ []
  symbol_block (moreᵉ e es) f σ = block (Under (Member a (symbol f (moreᵉ e es))) σ) σ

  -- the parts get the same assignment; F of a product or closure gets another language for c
  abbrev mutual
    pub languages : Expression → Assignment → List Language
    languages (symbol f es) σ = languages_all es σ ++ symbol_block es f σ
    languages empty σ = (λ t. ⊥) ∷ []
    languages (union F G) σ = languages F σ ++ (languages G σ ++ block (Under (Member a (union F G)) σ) σ)
    languages (product c F G) σ =
        languages F (assigned σ c (Under (Member a G) σ)) ++ (languages G σ ++ block (Under (Member a (product c F G)) σ) σ)
    languages (closure c F) σ =
        languages F (assigned σ c (Under (Member a (closure c F)) σ)) ++ block (Under (Member a (closure c F)) σ) σ
    languages anything σ = block (Under (Member a anything) σ) σ

    pub languages_all : Expressions → Assignment → List Language
    languages_all noneᵉ σ = []
    languages_all (moreᵉ e es) σ = languages e σ ++ languages_all es σ

  symbol_block-past : (es : Expressions) (f x : ℕ) (σ : Assignment) → past x (symbol_block es f σ) ≡ behind a es x
  symbol_block-past noneᵉ f x σ = refl
  symbol_block-past (moreᵉ e es) f x σ = past-map σ (suc x) cs

  -- two parts, and then a block
  past_two : (n g x : ℕ) (ls ks : List Language) (L : Language) (σ : Assignment) → past n ls ≡ g → past g ks ≡ x
      → past n (ls ++ (ks ++ block L σ)) ≡ suc x + length cs
  past_two n g x ls ks L σ e f =
      past-then n g (suc x + length cs) ls (ks ++ block L σ) e (past-then g x (suc x + length cs) ks (block L σ) f (past-map σ (suc x) cs))

  mutual
    languages-past : (E : Expression) (n : ℕ) (σ : Assignment) → past n (languages E σ) ≡ next a E n
    languages-past (symbol f es) n σ =
        past-then n (next_all a es n) (next a (symbol f es) n) (languages_all es σ) (symbol_block es f σ) (languages_all-past es n σ)
        (symbol_block-past es f (next_all a es n) σ)
    languages-past empty n σ = refl
    languages-past (union F G) n σ =
        let g = next a F n in
        past_two n g (next a G g) (languages F σ) (languages G σ) (Under (Member a (union F G)) σ) σ (languages-past F n σ)
        (languages-past G g σ)
    languages-past (product c F G) n σ =
        let g = next a F n in
        let τ : Assignment = assigned σ c (Under (Member a G) σ) in
        past_two n g (next a G g) (languages F τ) (languages G σ) (Under (Member a (product c F G)) σ) σ (languages-past F n τ)
        (languages-past G g σ)
    languages-past (closure c F) n σ =
        let x = next a F n in
        let τ : Assignment = assigned σ c (Under (Member a (closure c F)) σ) in
        past-then n x (suc x + length cs) (languages F τ) (block (Under (Member a (closure c F)) σ) σ) (languages-past F n τ)
        (past-map σ (suc x) cs)
    languages-past anything n σ = past-map σ (suc n) cs

    languages_all-past : (es : Expressions) (n : ℕ) (σ : Assignment) → past n (languages_all es σ) ≡ next_all a es n
    languages_all-past noneᵉ n σ = refl
    languages_all-past (moreᵉ e es) n σ =
        past-then n (next a e n) (next_all a es (next a e n)) (languages e σ) (languages_all es σ) (languages-past e n σ)
        (languages_all-past es (next a e n) σ)

  -- ---- what I then has behind a part, at the exit and at the entries

  module _ (I : Intended) where
    pub behind-part : (F : Expression) (n : ℕ) (σ : Assignment) (ls : List Language) → Has I n (languages F σ ++ ls)
        → Has I (next a F n) ls
    behind-part F n σ ls h = has_right I n (next a F n) (languages F σ) ls (languages-past F n σ) h

    behind-parts : (es : Expressions) (n : ℕ) (σ : Assignment) (ls : List Language) → Has I n (languages_all es σ ++ ls)
        → Has I (next_all a es n) ls
    behind-parts es n σ ls h = has_right I n (next_all a es n) (languages_all es σ) ls (languages_all-past es n σ) h

    behind-two : (F G : Expression) (n : ℕ) (τ σ : Assignment) (ls : List Language) → Has I n (languages F τ ++ (languages G σ ++ ls))
        → Has I (next a G (next a F n)) ls
    behind-two F G n τ σ ls h = behind-part G (next a F n) σ ls (behind-part F n τ (languages G σ ++ ls) h)

    -- a word with entries has its block where its own states begin
    block_at : (E : Expression) (n : ℕ) (σ : Assignment) → Type 0
    block_at E n σ = Has I (exit_state a E n) (block (Under (Member a E) σ) σ)

    has-union : (F G : Expression) (n : ℕ) (σ : Assignment) → Has I n (languages (union F G) σ) → block_at (union F G) n σ
    unfolding block_at
    has-union F G n σ h = behind-two F G n σ σ (block (Under (Member a (union F G)) σ) σ) h

    has-product : (c : ℕ) (F G : Expression) (n : ℕ) (σ : Assignment) → Has I n (languages (product c F G) σ) → block_at (product c F G) n σ
    unfolding block_at
    has-product c F G n σ h = behind-two F G n (assigned σ c (Under (Member a G) σ)) σ (block (Under (Member a (product c F G)) σ) σ) h

    has-closure : (c : ℕ) (F : Expression) (n : ℕ) (σ : Assignment) → Has I n (languages (closure c F) σ) → block_at (closure c F) n σ
    unfolding block_at
    has-closure c F n σ h = behind-part F n (assigned σ c (Under (Member a (closure c F)) σ)) (block (Under (Member a (closure c F)) σ) σ) h

    has-symbol : (f : ℕ) (e : Expression) (es : Expressions) (n : ℕ) (σ : Assignment) → Has I n (languages (symbol f (moreᵉ e es)) σ)
        → block_at (symbol f (moreᵉ e es)) n σ
    unfolding block_at
    has-symbol f e es n σ h = behind-parts (moreᵉ e es) n σ (symbol_block (moreᵉ e es) f σ) h

    pub exit-is : (E : Expression) (n : ℕ) (σ : Assignment) → Has I n (languages E σ) → (t : Tree)
        → I (exit_state a E n) t ↔ Under (Member a E) σ t
    unfolding block_at
    exit-is (symbol c noneᵉ) n σ h t = (λ i. (constant c, (refl, tt), at_constant ((h.0 t).0 i)), λ d. (h.0 t).1 (constant-under a c σ t d))
    exit-is (symbol f (moreᵉ e es)) n σ h t = (has-symbol f e es n σ h).0 t
    exit-is empty n σ h t = (λ i. absurd ((h.0 t).0 i), λ d. absurd d.1)
    exit-is (union F G) n σ h t = (has-union F G n σ h).0 t
    exit-is (product c F G) n σ h t = (has-product c F G n σ h).0 t
    exit-is (closure c F) n σ h t = (has-closure c F n σ h).0 t
    exit-is anything n σ h t = h.0 t

    abbrev pub EntriesAre : Assignment → List (ℕ × ℕ) → Type 0
    EntriesAre σ es = EveryEntry (λ c q. (t : Tree) → I q t ↔ σ c t) es

    pub entries-are : (E : Expression) (n : ℕ) (σ : Assignment) → Has I n (languages E σ) → EntriesAre σ (entry_states a E n)
    unfolding block_at
    entries-are (symbol c noneᵉ) n σ h = (h.0, tt)
    entries-are (symbol f (moreᵉ e es)) n σ h = has-full I σ (next_all a (moreᵉ e es) n) cs (has-symbol f e es n σ h).1
    entries-are empty n σ h = tt
    entries-are (union F G) n σ h = has-full I σ (exit_state a (union F G) n) cs (has-union F G n σ h).1
    entries-are (product c F G) n σ h = has-full I σ (exit_state a (product c F G) n) cs (has-product c F G n σ h).1
    entries-are (closure c F) n σ h = has-full I σ (exit_state a (closure c F) n) cs (has-closure c F n σ h).1
    entries-are anything n σ h = has-full I σ n cs h.1
