-- The statements that run in a parallel block.
use Rattle.std.specs.Prelude.{Bool, true, false, bytes_eq, codes}
use Rattle.cq_grammar.specs.declared.statement.Ast.{Ast}
use Rattle.cq_grammar.specs.declared.statement.Ast.TheVariants as ast

-- a statement may stand in a block: a query, a write, a COPY, or the move of a shard group
abbrev pub may_be_in_block : Ast → Bool
may_be_in_block (ast.Query q) = true
may_be_in_block (ast.Insert table columns rows at) = true
may_be_in_block (ast.Update table sets filter at) = true
may_be_in_block (ast.Delete table filter at) = true
may_be_in_block (ast.Copy table columns spelled options at) = true
may_be_in_block (ast.Call function arguments at) = bytes_eq function.text (codes "citus_move_shard_placement")
may_be_in_block tree = false
