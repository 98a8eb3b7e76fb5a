-- Words and the kinds of their tokens, as code lists them.
use Rattle.std.specs.Prelude.{ℕ, List, map}
use denote.Ref.{Bor}
use Rattle.cq_grammar.specs.declared.kind.Kind.{Kind}

abbrev pub entries : List (Bor (List ℕ) × Kind) → List (List ℕ × Kind)
entries = map (λ w. (w.0.now, w.1))
