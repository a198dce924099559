-- Ports: which states a word has, with which constants as entries, and how the ports on the stack and a word's children
-- lie one behind the other.
use Prim.Native.Nat.{ℕ, zero, suc, ◌+◌, ◌<◌, ◌≤◌}
use mathlib.Core.Path.{◌≡◌, refl, ap}
use mathlib.Core.Bool.{Bool, true, false, cond}
use mathlib.Core.List.{List, [], ◌∷◌, map, reverse_aux}
use native.Mathlib.Omega.{arith}
use native.Mathlib.Nat.{le_refl, le_trans, suc-add, add-suc}
use lib.ListN.{length, take, drop}
use borrow.Author.Tests.{ltb-true}
use Rattle.words.specs.Word.{symbol_kind, has_kind, low_byte}
use Rattle.words.specs.Alphabet.{constants_of, is_constant}
use Rattle.words.specs.ExpressionWords.{is_expression_word}
use Rattle.words.proofs.Ascending.{Ascending, end, next, ascending-one, ascending-from}
use Rattle.words.proofs.AlphabetLaws.{is_constant-zero, zero-is_constant}
use Rattle.words.proofs.ConstantLaws.{constants-ascending}
use Rattle.words.proofs.WordLaws.{is_expression_word-facts}
use Rattle.words.proofs.KindLaws.{has_kind-kind_of}
use Rattle.words.proofs.TestLaws.{Tested, holds, fails, tested}
use Rattle.automaton.specs.Numbering.{Port, numbered, has_entries, states_of, full_entries, exit_entry, full_port, port_of}
use Rattle.automaton.proofs.EntryStates.{rank-none, port-full, port-leaf, states-full, states-leaf}

-- the constants and the states of a word's entries
abbrev pub constants_in : List (ℕ × ℕ) → List ℕ
constants_in es = map (λ e. e.0) es

abbrev pub states_in : List (ℕ × ℕ) → List ℕ
states_in es = map (λ e. e.1) es

-- the entries of a word with exit x: one behind the exit for each constant, or the exit as the only entry, or none
pub data Entries (a : List ℕ) (x : ℕ) : List (ℕ × ℕ) → Type 0 where
  every : Entries a x (full_entries (constants_of a) x)
  own : (c : ℕ) → is_constant a c ≡ true → Entries a x (exit_entry c x)
  missing : Entries a x []

-- a port whose states lie from lo on and below hi
pub record PortIn (a : List ℕ) (lo hi : ℕ) (P : Port) : Type 0 where
  pub from : lo ≤ P.exit
  pub below : P.exit < hi
  pub shape : Entries a P.exit P.entries
  pub states : Ascending P.exit hi (states_in P.entries)
  pub constants : Ascending 0 (length a) (constants_in P.entries)

-- ---- the states of a word

pub numbered-constants : (cs : List ℕ) (n : ℕ) → constants_in (numbered n cs) ≡ cs
numbered-constants [] n = refl
numbered-constants (c ∷ cs) n = ap (λ (l : List ℕ). c ∷ l) (numbered-constants cs (suc n))

pub length-numbered : (cs : List ℕ) (n : ℕ) → length (numbered n cs) ≡ length cs
length-numbered [] n = refl
length-numbered (c ∷ cs) n = ap suc (length-numbered cs (suc n))

pub numbered-states : (cs : List ℕ) (n : ℕ) → Ascending n (n + length cs) (states_in (numbered n cs))
numbered-states [] n = let h : n ≤ n + 0 = omega arith in end h
numbered-states (c ∷ cs) n = next (le_refl n) (rw (suc-add, ← add-suc) at (numbered-states cs (suc n)))

module _ (a : List ℕ) (n w : ℕ) where
  every_in : PortIn a n (n + suc (length (constants_of a))) (full_port (constants_of a) n)
  every_in =
      record {
        from = le_refl n;
        below = omega arith;
        shape = every;
        states = ascending-from (omega arith) (rw (suc-add, ← add-suc) at (numbered-states (constants_of a) (suc n)));
        constants = rw (numbered-constants (constants_of a) (suc n)) (constants-ascending a);
      }

  own_in : (b : Bool) → (b ≡ true → is_constant a (low_byte w) ≡ true)
      → PortIn a n (n + 1) (record { exit = n; entries = cond b (exit_entry (low_byte w) n) [] })
  own_in true h =
      let c = h refl in
      record {
        from = le_refl n;
        below = omega arith;
        shape = own (low_byte w) c;
        states = ascending-one (le_refl n) (omega arith);
        constants = ascending-one (omega arith) (is_constant-zero a (low_byte w) c).0;
      }
  own_in false h =
      let l : n ≤ n + 1 = omega arith in
      let z : 0 ≤ length a = omega arith in
      record { from = le_refl n; below = omega arith; shape = missing; states = end l; constants = end z }

  -- a symbol word without entries is a constant
  own-constant : is_expression_word a w ≡ true → has_entries a w ≡ false → has_kind symbol_kind w ≡ true → is_constant a (low_byte w) ≡ true
  own-constant h z k =
      let e = has_kind-kind_of symbol_kind w k in
      let known = ltb-true (low_byte w) (length a) (is_expression_word-facts a w symbol_kind e h).names in
      zero-is_constant a (low_byte w) known (rank-none a w e z)

  pub port_of-in : is_expression_word a w ≡ true → PortIn a n (n + states_of a w) (port_of a n w)
  port_of-in h = go (tested (has_entries a w))
    where
      go : Tested (has_entries a w) → PortIn a n (n + states_of a w) (port_of a n w)
      go (holds e) = rw (port-full a w n e, states-full a w e) every_in
      go (fails e) = rw (port-leaf a w n e, states-leaf a w e) (own_in (has_kind symbol_kind w) (own-constant h e))

pub port_in-from : {a : List ℕ} {lo lo' hi : ℕ} {P : Port} → lo' ≤ lo → PortIn a lo hi P → PortIn a lo' hi P
port_in-from l p =
    record { from = le_trans l p.from; below = p.below; shape = p.shape; states = p.states; constants = p.constants }

-- ---- the ports on the stack, and a word's children

module _ (a : List ℕ) where
  -- ports with the last on top: the states of each lie behind those of the ports below it, and all below n
  pub data PortStack : ℕ → List Port → Type 0 where
    bottom : {n : ℕ} → PortStack n []
    push : {m n : ℕ} {P : Port} {Ps : List Port} → PortIn a m n P → PortStack m Ps → PortStack n (P ∷ Ps)

  -- ports from left to right: the states of each lie before those of the next, all from lo on and below hi
  pub data Children : ℕ → ℕ → List Port → Type 0 where
    no_child : {lo hi : ℕ} → lo ≤ hi → Children lo hi []
    child : {lo m hi : ℕ} {P : Port} {Ps : List Port} → PortIn a lo m P → Children m hi Ps → Children lo hi (P ∷ Ps)

  pub children-le : {lo hi : ℕ} {Ps : List Port} → Children lo hi Ps → lo ≤ hi
  children-le (no_child h) = h
  children-le (child p c) = let l = children-le c in omega (arith, p.from, p.below)

  -- a word takes its children from the top of the stack
  pub record Taken (r n : ℕ) (stack right : List Port) : Type 0 where
    pub low : ℕ
    pub children : Children low n (reverse_aux (take r stack) right)
    pub rest : PortStack low (drop r stack)

  take_more : (r : ℕ) (m n : ℕ) (stack right : List Port) → PortStack m stack → Children m n right → Taken r n stack right
  take_more zero m n stack right s c = record { low = m; children = c; rest = s }
  take_more (suc r) m n [] right s c = record { low = m; children = c; rest = s }
  take_more (suc r) m n (P ∷ stack) right (push {m = l} p s) c =
      let t = take_more r l n stack (P ∷ right) s (child p c) in
      record { low = t.low; children = t.children; rest = t.rest }

  pub taken : (r n : ℕ) (stack : List Port) → PortStack n stack → Taken r n stack []
  taken r n stack s = take_more r n n stack [] s (no_child (le_refl n))
