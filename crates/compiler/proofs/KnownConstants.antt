-- What the emitter asks of the constants holds of an accepted alphabet's: each stands once, and the c of a rule word is one
-- of them.
use mathlib.Core.Path.{◌≡◌, refl, ◌∙◌, sym}
use mathlib.Core.Bool.{true}
use mathlib.Core.List.{List, [], ◌∷◌, Memᴰ}
use Prim.Native.Nat.{ℕ, zero, suc, ◌<◌, ◌≤◌}
use native.Mathlib.Omega.{arith}
use native.Mathlib.Nat.{add-zero, add-suc, suc-add, le_refl}
use lib.ListN.{length, get_or}
use borrow.Author.Tests.{eq-eqb, ne_eqb}
use Rattle.words.specs.Limits.{alphabet_most}
use Rattle.words.specs.Word.{union_kind, product_kind, closure_kind, low_byte, symbol_range}
use Rattle.words.specs.Alphabet.{may_name, constants_of}
use Rattle.words.specs.Postfix.{arity}
use Rattle.words.specs.ExpressionWords.{is_expression_word}
use Rattle.words.proofs.Ascending.{Ascending, end, next, ascending-at}
use Rattle.words.proofs.HoleLaws.{may_name-listed}
use Rattle.words.proofs.ConstantLaws.{constants-ascending}
use Rattle.words.proofs.WordLaws.{arity-kind, is_expression_word-facts}
use Rattle.automaton.specs.Numbering.{numbered, lookup}
use Rattle.ports.specs.declared.states.Port.{Port}
use Rattle.ports.specs.Ports.{EachOnce}
use Rattle.emitter.specs.Emission.{ListedConstant, OwnEmittable}

-- ---- each constant stands once

lookup-behind : {lo hi : ℕ} {cs : List ℕ} (n c : ℕ) → c < lo → Ascending lo hi cs → lookup (numbered n cs) c ≡ []
lookup-behind n c h (end l) = refl
lookup-behind n c h (next {x = x} l s) = rw (ne_eqb x c (λ e. omega arith)) (lookup-behind (suc n) c (omega arith) s)

-- each is found at its own index
ascending-once : {lo hi : ℕ} {cs : List ℕ} → Ascending lo hi cs → EachOnce cs
ascending-once (end l) n k h = absurd (omega arith)
ascending-once (next {x = x} {xs = xs} l s) n zero h =
    rw (eq-eqb x x refl, lookup-behind (suc n) x (le_refl (suc x)) s, add-zero n)
ascending-once (next {x = x} {xs = xs} l s) n (suc k) h =
    let p = (ascending-at k (omega arith) s).0 in
    rw (ne_eqb x (get_or xs k 0) (λ e. omega arith), add-suc, ← suc-add) (ascending-once s (suc n) k (omega arith))

module _ (a cs : List ℕ) (known : cs ≡ constants_of a) where
  ordered : Ascending 0 (length a) cs
  ordered = rw known (constants-ascending a)

  pub constants-once : EachOnce cs
  constants-once = ascending-once ordered

  pub constants-symbols : length a ≤ alphabet_most → (k : ℕ) → k < length cs → get_or cs k 0 < symbol_range
  constants-symbols few k h = let p = (ascending-at k h ordered).1 in omega arith

  -- ---- the c of a word is a constant

  member-listed : (c : ℕ) (ds : List ℕ) → Memᴰ c ds → ListedConstant ds c
  member-listed c [] m = elim m [ ]
  member-listed c (d ∷ ds) (Memᴰ.head e) = (0, omega arith, sym e)
  member-listed c (d ∷ ds) (Memᴰ.tail m) = let (k, h, e) = member-listed c ds m in (suc k, omega arith, e)

  substitution-listed : (c : ℕ) → may_name a c ≡ true → ListedConstant cs c
  substitution-listed c h = rw known (member-listed c (constants_of a) (may_name-listed a c h))

  pub word-emittable : (ps : List Port) (w : ℕ) → is_expression_word a w ≡ true → length ps ≡ arity a w → OwnEmittable cs ps w
  word-emittable ps w h r =
      record {
        union = λ t. r ∙ arity-kind a w union_kind t;
        product = λ t. (
          r ∙ arity-kind a w product_kind t,
          substitution-listed (low_byte w) (is_expression_word-facts a w product_kind t h).names,
        );
        closure = λ t. (
          r ∙ arity-kind a w closure_kind t,
          substitution-listed (low_byte w) (is_expression_word-facts a w closure_kind t h).names,
        );
      }
