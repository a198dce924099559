-- Exactly one thing has a property.
use Rattle.std.specs.Prelude.{◌≡◌}

-- `the` one thing with the property, and that any other with it is the same
pub record ExactlyOne {A : Type 0} (P : A → Type 0) : Type 0 where
  pub the : A
  pub has : P the
  pub only : (x : A) → P x → x ≡ the
