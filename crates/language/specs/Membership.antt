-- The language of an expression (document 01, "Meaning of a rule"; document 000, section 2): by substitution and iterated
-- closure, without automata.
use Rattle.std.specs.Prelude.{ℕ, zero, suc, ◌≡◌, ◌⊎◌, List}
use Rattle.words.specs.Tree.{Tree, Trees, node, none, more, label, children}
use Rattle.language.specs.Expression.{Expression, Expressions, symbol, empty, union, product, closure, anything, noneᵉ, moreᵉ}
use Rattle.language.specs.Expression.{TreeOver, HoleFree}

-- a language is a property of trees
abbrev pub Language : Type 1
Language = Tree → Type 0

-- the tree of the constant c
abbrev pub constant : ℕ → Tree
constant c = node c none

-- a language for each constant
abbrev pub Assignment : Type 1
Assignment = ℕ → Language

-- L for c, and for any other constant that constant itself
abbrev pub only : ℕ → Language → Assignment
only c L a t = ((a ≡ c) × L t) ⊎ ((a ≡ c → ⊥) × (t ≡ constant a))

-- t is u with a member of σ a, chosen separately, at each constant a of u; what was put is not looked at again
mutual
  pub data Substitution (σ : Assignment) : Tree → Tree → Type 0 where
    at_constant : {a : ℕ} {t : Tree} → σ a t → Substitution σ (node a none) t
    at_symbol :
        {f : ℕ} {u t : Tree} {us ts : Trees}
        → Substitution σ u t → Substitutions σ us ts → Substitution σ (node f (more u us)) (node f (more t ts))

  pub data Substitutions (σ : Assignment) : Trees → Trees → Type 0 where
    at_none : Substitutions σ none none
    at_more : {u t : Tree} {us ts : Trees} → Substitution σ u t → Substitutions σ us ts → Substitutions σ (more u us) (more t ts)

-- "Product: the substitution of c by G's language in each member of F's."
abbrev pub Product : ℕ → Language → Language → Language
Product c F G t = (u : Tree) × F u × Substitution (only c G) u t

-- "step 0 is the tree c alone; step n+1 is step n joined with the product of F's language by step n"
abbrev pub Step : ℕ → Language → ℕ → Language
Step c F zero t = t ≡ constant c
Step c F (suc n) t = Step c F n t ⊎ Product c F (λ s. Step c F n s) t

-- "Closure: .. the union of all steps."
abbrev pub Closure : ℕ → Language → Language
Closure c F t = (n : ℕ) × Step c F n t

-- the tree belongs to the language of the expression, over an alphabet
module _ (a : List ℕ) where
  abbrev mutual
    pub Member : Expression → Language
    -- "A symbol over rules: that symbol over one member of each." "Constant: itself."
    Member (symbol f es) t = (f ≡ label t) × Members es (children t)
    -- "Empty: no tree."
    Member empty t = ⊥
    -- "Union: either."
    Member (union F G) t = Member F t ⊎ Member G t
    Member (product c F G) t = Product c (λ s. Member F s) (λ s. Member G s) t
    Member (closure c F) t = Closure c (λ s. Member F s) t
    -- "a rule word that holds for every tree over the alphabet" (document 02, U7), with holes or without
    Member anything t = TreeOver a t

    pub Members : Expressions → Trees → Type 0
    Members noneᵉ none = Unit {0}
    Members noneᵉ (more t ts) = ⊥
    Members (moreᵉ E Es) none = ⊥
    Members (moreᵉ E Es) (more t ts) = Member E t × Members Es ts

-- "Wherever chapters are compared with a rule's language, this now means its hole-free members" (document 02, U8)
abbrev pub HoleFreeMember : List ℕ → Expression → Language
HoleFreeMember a E t = HoleFree a t × Member a E t
