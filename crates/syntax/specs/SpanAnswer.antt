-- The code's struct for a subtree's span.
use Rattle.words.specs.Shape.{Span}
use Rattle.syntax.specs.declared.postfix.Span.{Span as Span·struct}

-- the span that it says
abbrev pub span_in : Span·struct → Span
span_in s = record { start = s.start; height = s.height }
