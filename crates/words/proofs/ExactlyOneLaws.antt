-- How "exactly one" carries over to things that stand for one another.
use mathlib.Core.Path.{◌≡◌, ap, ◌∙◌, sym}
use Rattle.words.specs.ExactlyOne.{ExactlyOne}

-- each x with P stands for a y with Q, each y with Q comes from an x with P: where there is one x, there is one y
pub one_along : {A B : Type 0} {P : A → Type 0} {Q : B → Type 0} (f : A → B) (g : B → A)
    → ((x : A) → P x → Q (f x)) → ((y : B) → Q y → P (g y)) → ((y : B) → Q y → f (g y) ≡ y) → ExactlyOne P → ExactlyOne Q
one_along f g to from back e =
    record {
      the = f e.the;
      has = to e.the e.has;
      only = λ y q. sym (back y q) ∙ ap f (e.only (g y) (from y q));
    }
