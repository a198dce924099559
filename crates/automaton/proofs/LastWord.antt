-- The last word of an expression over an alphabet: its arity, its states and its own transitions are those of the
-- expression numbered as a tree.
use Prim.Native.Nat.{ℕ, suc, ◌+◌, ◌<◌, ◌≤◌}
use mathlib.Core.Path.{◌≡◌, sym, ◌∙◌, ap}
use mathlib.Core.Bool.{true, false, not}
use mathlib.Core.List.{List, [], ◌∷◌}
use native.Mathlib.Omega.{arith}
use native.Mathlib.Nat.{add-suc, suc-add}
use native.Mathlib.Numerals.{add-one}
use lib.ListN.{length}
use lib.Dec.{eqb, eqb-suc-zero}
use Rattle.words.specs.Limits.{alphabet_most}
use Rattle.words.specs.Word.{Kind, no_kind, symbol_kind, empty_kind, union_kind, product_kind, closure_kind, anything_kind}
use Rattle.words.specs.Word.{kind_number, symbol_range, word_of}
use Rattle.words.specs.Tree.{label}
use Rattle.words.specs.Alphabet.{rank_of, constants_of}
use Rattle.words.specs.Postfix.{arity}
use Rattle.words.proofs.KindLaws.{kind_of-word_of, low_byte-symbol, kind_of-has_kind}
use Rattle.words.proofs.WordLaws.{arity-word_of}
use Rattle.words.proofs.AlphabetLaws.{is_constant-zero}
use Rattle.words.proofs.HoleLaws.{may_name-constant}
use Rattle.language.specs.Expression.{Expression, Expressions, symbol, empty, union, product}
use Rattle.language.specs.Expression.{closure, anything, noneᵉ, moreᵉ, numberᵉ, syntax_tree, ExpressionOver}
use Rattle.automaton.specs.Numbering.{Port, entries_at, has_entries, states_of, full_port, port_of, own_at, own_transitions}
use Rattle.automaton.proofs.EntryStates.{entries-kind, port-full, port-leaf, states-full, states-leaf, own-kind}
use Rattle.automaton.proofs.TreeNumbering.{next, exit_state, port, ports, own}

abbrev pub last_word : Expression → ℕ
last_word E = label (syntax_tree E)

abbrev pub parts : Expression → Expressions
parts (symbol f es) = es
parts empty = noneᵉ
parts (union F G) = moreᵉ F (moreᵉ G noneᵉ)
parts (product c F G) = moreᵉ F (moreᵉ G noneᵉ)
parts (closure c F) = moreᵉ F noneᵉ
parts anything = noneᵉ

-- ---- words of a kind

module _ (a : List ℕ) (k : Kind) (b : ℕ) (h : b < symbol_range) where
  own-word : (E : Port) (Ps : List Port) → own_transitions a (word_of k b) E Ps ≡ own_at a k b E Ps
  own-word E Ps = own-kind a (word_of k b) k E Ps (kind_of-word_of k b (omega arith))
      ∙ ap (λ (s : ℕ). own_at a k s E Ps) (low_byte-symbol k b h)

  entries-word : has_entries a (word_of k b) ≡ entries_at (rank_of a b) k
  entries-word = entries-kind a (word_of k b) k (kind_of-word_of k b (omega arith))
      ∙ ap (λ (s : ℕ). entries_at (rank_of a s) k) (low_byte-symbol k b h)

-- ---- states of a word, by whether it has entries

module _ (a : List ℕ) where
  abbrev cs : List ℕ
  cs = constants_of a

  next-full : (w x : ℕ) → has_entries a w ≡ true → x + states_of a w ≡ suc x + length cs
  next-full w x e = ap (λ (n : ℕ). x + n) (states-full a w e) ∙ (add-suc x (length cs) ∙ sym (suc-add x (length cs)))

  next-leaf : (w x : ℕ) → has_entries a w ≡ false → x + states_of a w ≡ suc x
  next-leaf w x e = ap (λ (n : ℕ). x + n) (states-leaf a w e) ∙ add-one x

  -- the last word of E, where E's states begin at n
  pub record LastWord (E : Expression) (n : ℕ) : Type 0 where
    pub arity-is : arity a (last_word E) ≡ numberᵉ (parts E)
    pub port-is : port_of a (exit_state a E n) (last_word E) ≡ port a E n
    pub states-are : exit_state a E n + states_of a (last_word E) ≡ next a E n
    pub own-are : own_transitions a (last_word E) (port a E n) (ports a (parts E) n) ≡ own a E n

  pub last-word : length a ≤ alphabet_most → (E : Expression) (n : ℕ) → ExpressionOver a E → LastWord E n
  last-word l (symbol c noneᵉ) n o =
      let h : c < symbol_range = omega (arith, o.0) in
      let w = word_of symbol_kind c in
      let e = entries-word a symbol_kind c h ∙ ap (λ r. not (eqb r 0)) o.1 in
      record {
        arity-is = arity-word_of a symbol_kind c h ∙ o.1;
        port-is =
            let decoded : symbol_kind ≡ no_kind → ⊥ = λ z. absurd (let q = ap kind_number z in omega arith) in
            let kind = kind_of-has_kind symbol_kind w decoded (kind_of-word_of symbol_kind c (omega arith)) in
            port-leaf a w n e ∙ rw (kind, low_byte-symbol symbol_kind c h);
        states-are = next-leaf w n e;
        own-are = own-word a symbol_kind c h (port a (symbol c noneᵉ) n) [];
      }
  last-word l (symbol f (moreᵉ e es)) n o =
      let h : f < symbol_range = omega (arith, o.0) in
      let w = word_of symbol_kind f in
      let x = exit_state a (symbol f (moreᵉ e es)) n in
      let q = entries-word a symbol_kind f h ∙ ap (λ r. not (eqb r 0)) o.1 ∙ ap not (eqb-suc-zero (numberᵉ es)) in
      record {
        arity-is = arity-word_of a symbol_kind f h ∙ o.1;
        port-is = port-full a w x q;
        states-are = next-full w x q;
        own-are = own-word a symbol_kind f h (full_port cs x) (ports a (moreᵉ e es) n);
      }
  last-word l empty n o =
      let e = entries-word a empty_kind 0 (omega arith) in
      record {
        arity-is = arity-word_of a empty_kind 0 (omega arith);
        port-is = port-leaf a (word_of empty_kind 0) n e;
        states-are = next-leaf (word_of empty_kind 0) n e;
        own-are = own-word a empty_kind 0 (omega arith) (port a empty n) [];
      }
  last-word l (union F G) n o =
      let e = entries-word a union_kind 0 (omega arith) in
      let x = exit_state a (union F G) n in
      record {
        arity-is = arity-word_of a union_kind 0 (omega arith);
        port-is = port-full a (word_of union_kind 0) x e;
        states-are = next-full (word_of union_kind 0) x e;
        own-are = own-word a union_kind 0 (omega arith) (full_port cs x) (port a F n ∷ port a G (next a F n) ∷ []);
      }
  last-word l (product c F G) n o =
      let h : c < symbol_range = omega (arith, (is_constant-zero a c (may_name-constant a c o.0)).0) in
      let e = entries-word a product_kind c h in
      let x = exit_state a (product c F G) n in
      record {
        arity-is = arity-word_of a product_kind c h;
        port-is = port-full a (word_of product_kind c) x e;
        states-are = next-full (word_of product_kind c) x e;
        own-are = own-word a product_kind c h (full_port cs x) (port a F n ∷ port a G (next a F n) ∷ []);
      }
  last-word l (closure c F) n o =
      let h : c < symbol_range = omega (arith, (is_constant-zero a c (may_name-constant a c o.0)).0) in
      let e = entries-word a closure_kind c h in
      let x = exit_state a (closure c F) n in
      record {
        arity-is = arity-word_of a closure_kind c h;
        port-is = port-full a (word_of closure_kind c) x e;
        states-are = next-full (word_of closure_kind c) x e;
        own-are = own-word a closure_kind c h (full_port cs x) (port a F n ∷ []);
      }
  last-word l anything n o =
      let e = entries-word a anything_kind 0 (omega arith) in
      record {
        arity-is = arity-word_of a anything_kind 0 (omega arith);
        port-is = port-full a (word_of anything_kind 0) n e;
        states-are = next-full (word_of anything_kind 0) n e;
        own-are = own-word a anything_kind 0 (omega arith) (full_port cs n) [];
      }
