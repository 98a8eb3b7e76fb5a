-- What the parser's functions of statements read.
use Rattle.std.specs.Prelude.{ℕ, [], ◌∷◌}
use Rattle.cq_grammar.specs.declared.kind.Kind.TheVariants as k
use Rattle.cq_grammar.specs.declared.statement.ColumnDef.{ColumnDef}
use Rattle.cq_grammar.specs.Words.{names}
use Rattle.cq_grammar.specs.Grammar.{Deeper, Tree}
use Rattle.cq_grammar.specs.Statements.{max_depth}
use Rattle.cq_grammar.specs.Read.{Reader, Test, sees_two, comma_item}
use Rattle.cq_grammar.specs.Descent.{below, the}
use Rattle.cq_grammar.specs.Reading.{column_def}

-- what may stand deeper, where the whole depth is left. A name of its own keeps the number in it from being computed with
unfoldable pub limited : ℕ → (d : Deeper) → Reader (Tree d)
limited = below max_depth

-- a column comes behind a comma
abbrev pub behind_comma : Test
behind_comma = sees_two (k.Comma ∷ []) names

abbrev pub column_item : ℕ → Reader ColumnDef
column_item = comma_item (the k.Comma) (λ _. column_def)
