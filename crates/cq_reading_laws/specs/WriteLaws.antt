-- What makes sure that no UPDATE and no DELETE overflows.
use Rattle.std.specs.Prelude.{◌≡◌, ℕ, true, Bool, List, map, slice_get, Option, None, Some, Ok}
use Rattle.cq_catalog.specs.declared.info.TableInfo.{TableInfo}
use Rattle.cq_grammar.specs.declared.name.Name.{Name}
use Rattle.cq_grammar.specs.declared.expr.Expr.{Expr}
use Rattle.cq_grammar.specs.declared.statement.SetClause.{SetClause}
use Rattle.cq_grammar.specs.declared.statement.Ast.TheVariants as ast
use Rattle.cq_tree.specs.declared.write.ShardOp.{ShardOp}
use Rattle.cq_tree.specs.declared.write.ShardOp.TheVariants.{Insert, Update, Remove}
use Rattle.cq_tree.specs.declared.statement.Statement.TheVariants as statement
use Rattle.cq_meaning.specs.declared.Columns.{Columns}
use Rattle.cq_meaning.specs.Widths.{bits_of_kind, table_bits, IsBoundWrite}
use Rattle.cq_reading.specs.Statements.{reading}
use Rattle.cq_reading_laws.specs.Written.{all, written_expr}

abbrev pub written_filter : Option Expr → Bool
written_filter None = true
written_filter (Some e) = written_expr e

abbrev pub written_sets : List SetClause → Bool
written_sets sets = all (map (λ (s : SetClause). written_expr s.value) sets)

abbrev pub table_of : ShardOp → ℕ
table_of (Insert table rows) = table
table_of (Update table filter_ sets) = table
table_of (Remove table filter_) = table

-- tables have the bits of their columns' types
abbrev pub TablesFit : Columns → List TableInfo → Type 0
TablesFit cs tables = (i : ℕ) (t : TableInfo) → slice_get tables i ≡ Some t → table_bits cs.tables i ≡ map (λ c. bits_of_kind c.kind) t.columns

-- an UPDATE that is read is what the engine asks for
abbrev pub UpdatesBound : Type 0
UpdatesBound = (cs : Columns) (tables : List TableInfo) (table : Name) (sets : List SetClause) (filter : Option Expr) (at : ℕ) (op : ShardOp) →
    TablesFit cs tables → written_sets sets ≡ true → written_filter filter ≡ true → reading tables (ast.Update table sets filter at) ≡ Ok (statement.Write op) →
    IsBoundWrite (table_bits cs.tables (table_of op)) op

-- and so is a DELETE
abbrev pub DeletionsBound : Type 0
DeletionsBound = (cs : Columns) (tables : List TableInfo) (table : Name) (filter : Option Expr) (at : ℕ) (op : ShardOp) →
    TablesFit cs tables → written_filter filter ≡ true → reading tables (ast.Delete table filter at) ≡ Ok (statement.Write op) →
    IsBoundWrite (table_bits cs.tables (table_of op)) op
