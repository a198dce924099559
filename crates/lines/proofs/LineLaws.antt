-- Laws of lines written part after part, and of the loop over the hits.
use mathlib.Core.Path.{◌≡◌, refl, ap, ◌∙◌, sym}
use mathlib.Core.List.{List, [], ◌∷◌, ◌++◌, append-nil, append_assoc}
use Prim.Native.Nat.{ℕ, ◌+◌, ◌-◌, ◌≤◌}
use lib.ListN.{length, get_or, get_or-eq_default}
use Rattle.words.specs.Chapter.{symbol_of}
use Rattle.words.specs.Postfix.{span_of}
use Rattle.encoding.specs.Decimal.{field}
use Rattle.encoding.specs.ByteWriting.{BytesWritten}
use Rattle.encoding.proofs.ByteWritingLaws.{bytes-written-more, MembersWritten, members-written-none}
use Rattle.lines.specs.Line.{space, newline, refused_text, nodes_text, states_text, hits_text, refused_line, head_line, hit_line, hit_lines}

-- ---- lines

module _ {out o₁ o₂ : List ℕ} {at n₁ r : ℕ} (number : ℕ) where
  pub refused-written : BytesWritten at refused_text out o₁ n₁ → BytesWritten n₁ (field number newline) o₁ o₂ r
      → BytesWritten at (refused_line number) out o₂ r
  unfolding refused_line
  refused-written p q = bytes-written-more p q

module _ {out o₁ o₂ o₃ o₄ o₅ o₆ : List ℕ} {at n₁ n₂ n₃ n₄ n₅ r : ℕ} (nodes states hits : ℕ) where
  pub head-written : BytesWritten at nodes_text out o₁ n₁ → BytesWritten n₁ (field nodes space) o₁ o₂ n₂ → BytesWritten n₂ states_text o₂ o₃ n₃
      → BytesWritten n₃ (field states space) o₃ o₄ n₄ → BytesWritten n₄ hits_text o₄ o₅ n₅ → BytesWritten n₅ (field hits newline) o₅ o₆ r
      → BytesWritten at (head_line nodes states hits) out o₆ r
  unfolding head_line
  head-written p q s t u v =
      bytes-written-more (bytes-written-more (bytes-written-more (bytes-written-more (bytes-written-more p q) s) t) u) v

module _ {out o₁ o₂ o₃ : List ℕ} {at n₁ n₂ r : ℕ} (a ch : List ℕ) (i : ℕ) where
  pub hit-written : (symbol start : ℕ) → symbol ≡ symbol_of (get_or ch i 0) → start ≡ (span_of a ch i).start
      → BytesWritten at (field i space) out o₁ n₁ → BytesWritten n₁ (field symbol space) o₁ o₂ n₂
      → BytesWritten n₂ (field (i + 1 - start) newline) o₂ o₃ r
      → BytesWritten at (hit_line a ch i) out o₃ r
  unfolding hit_line
  hit-written symbol start e f p q s = rw (← e, ← f) (bytes-written-more (bytes-written-more p q) s)

-- a symbol where there is no node
pub no_symbol : (ch : List ℕ) (i : ℕ) → length ch ≤ i → 0 ≡ symbol_of (get_or ch i 0)
no_symbol ch i h = rw (get_or-eq_default ch 0 h)

-- ---- the loop over the hits, after i of them

pub hit_lines-more : (a ch is : List ℕ) (j : ℕ) → hit_lines a ch (is ++ j ∷ []) ≡ hit_lines a ch is ++ hit_line a ch j
unfolding hit_lines
hit_lines-more a ch [] j = append-nil (hit_line a ch j)
hit_lines-more a ch (i ∷ is) j =
    ap (λ (l : List ℕ). hit_line a ch i ++ l) (hit_lines-more a ch is j)
    ∙ sym (append_assoc (hit_line a ch i) (hit_lines a ch is) (hit_line a ch j))

-- the loop over the hits
abbrev pub HitsWritten : List ℕ → List ℕ → List ℕ → ℕ → List ℕ → List ℕ → ℕ → ℕ → Type 0
HitsWritten a ch = MembersWritten (hit_lines a ch)

pub hits-none : (a ch hits : List ℕ) (at : ℕ) (out₀ : List ℕ) → HitsWritten a ch hits at out₀ out₀ at 0
unfolding hit_lines
hits-none a ch hits at out₀ = members-written-none (hit_lines a ch) hits at out₀ refl
