-- The kind of the next token.
use Rattle.std.specs.Prelude.{List, [], ◌∷◌, Option, Some, None}
use Rattle.cq_token.specs.declared.token.Token.{Token}
use Rattle.cq_grammar.specs.declared.kind.Kind.{Kind}
use Rattle.cq_grammar.specs.Words.{kind}

abbrev pub next_kind : List Token → Option Kind
next_kind [] = None
next_kind (t ∷ ts) = Some (kind t)
