-- What a text is read as is well typed.
use Rattle.std.proofs.Common.{◌≡◌, ℕ, ◌≤◌, min, List, [], length, Result, Ok, Err, ap, arith}
use Rattle.cq_grammar.specs.declared.query.Query as written
use Rattle.cq_grammar.specs.declared.statement.Ast.{Ast}
use Rattle.cq_grammar.specs.declared.statement.Ast.TheVariants as ast
use Rattle.cq_tree.specs.declared.query.Query.{Query}
use Rattle.cq_tree.specs.declared.write.ShardOp.{ShardOp}
use Rattle.cq_tree.specs.declared.write.ShardOp.TheVariants.{Insert, Update, Remove}
use Rattle.cq_tree.specs.declared.statement.Statement.{Statement}
use Rattle.cq_tree.specs.declared.statement.Statement.TheVariants as statement
use Rattle.cq_catalog.specs.declared.info.TableInfo.{TableInfo}
use Rattle.cq_reading.specs.declared.bound.Found.{Found}
use Rattle.cq_reading.specs.declared.error.BindError.{BindError}
use Rattle.cq_reading.specs.Steps.{follow, give}
use Rattle.cq_reading.specs.Widths.{ValueType}
use Rattle.cq_reading.specs.Statements.{query_of, outcome, ctes_in, reading}
use Rattle.cq_reading_laws.specs.StepLaws.{start_of}
use Rattle.cq_reading_laws.specs.WriteLaws.{table_of}
use Rattle.cq_reading_laws.specs.TypedQueries.{Types, over, table_types, IsTypedWrite}
use Rattle.cq_reading_laws.specs.Reach.{TablesTyped}
use Rattle.cq_reading_laws.proofs.TypedStatements.{queries_typed}
use Rattle.cq_reading_laws.proofs.TypedResults.{results_there}
use Rattle.cq_reading_laws.proofs.TypedWrites.{updates_typed, deletions_typed}
use Rattle.cq_reading_laws.specs.WrittenLaws.{IsWritten, IsWrittenQuery}
use Rattle.cq_reading_laws.specs.TextLaws.{Spells}
use Rattle.cq_reading_laws.proofs.WrittenStatements.{texts_written}
use Rattle.cq_reading_laws.proofs.WrittenEndings.{IsInsert, IsKindOf, kind_of}
use Rattle.cq_reading_laws.specs.TextTypingLaws.{IsTypedOver, TextQueriesTyped, TextsExplainedTyped, TextWritesTyped}
use Rattle.cq_reading_laws.proofs.TextTypingFew.{few}

spelled_written : (text : List ℕ) (a : Ast) → Spells text a → IsWritten a
spelled_written text a s = texts_written text s.words a s.cut s.accepted

-- ---- queries

abbrev Asked : Result (Query × Found) BindError → Query → Type 0
Asked o q = (new : Found) × (o ≡ Ok (q, new))

asked : (make : Query → Statement) → ((p q : Query) → make p ≡ make q → p ≡ q) → (o : Result (Query × Found) BindError) (q : Query) → outcome (follow o (λ bound. give (make bound))) ≡ Ok (make q) → Asked o q
asked make same (Ok p) q is = let e : make p.0 ≡ make q = cc is in (p.1, ap (λ (b : Query). Ok (b, p.1)) (same p.0 q e))
asked make same (Err e) q is = absurd (cc is)

same_select : (p q : Query) → statement.Select p ≡ statement.Select q → p ≡ q
same_select p q e = cc e

same_explain : (p q : Query) → statement.Explain p ≡ statement.Explain q → p ≡ q
same_explain p q e = cc e

module _ (kinds : List (List ValueType)) (tables : List TableInfo) (fit : TablesTyped (over kinds []) tables) where
  of_asked : (x : written.Query) (q : Query) → IsWrittenQuery x → Asked (query_of tables x (start_of x)) q → IsTypedOver kinds (min (length x.tables) 64) q
  of_asked x q w h =
      let most = few tables x h.0 q w.0 h.1 in
      let e : min (length x.tables) 64 ≡ length x.tables = omega (arith, most) in
      let r = results_there kinds tables x (start_of x) h.0 q fit w.0 w.1 h.1 e in
      let typed = queries_typed (over kinds r.0) tables x (start_of x) h.0 q fit w.0 w.1 h.1 r.1 r.2 in (r.0, r.1, r.2, typed.0, typed.1)

  select_typed : (a : Ast) (q : Query) → IsWritten a → IsKindOf a (statement.Select q) → reading tables a ≡ Ok (statement.Select q) → IsTypedOver kinds (ctes_in a) q
  select_typed (ast.Query x) q w k is = of_asked x q w (asked statement.Select same_select (query_of tables x (start_of x)) q is)
  select_typed (ast.Create name columns key at) q w k is = absurd k
  select_typed (ast.Insert table columns rows at) q w k is = absurd k
  select_typed (ast.Update table sets filter at) q w k is = absurd k
  select_typed (ast.Delete table filter at) q w k is = absurd k
  select_typed (ast.Copy table columns spelled opts at) q w k is = absurd k
  select_typed (ast.Set space name spelled v at) q w k is = absurd k
  select_typed (ast.Explain x at) q w k is = absurd k
  select_typed (ast.Call function arguments at) q w k is = absurd k

  explained_typed : (a : Ast) (q : Query) → IsWritten a → IsKindOf a (statement.Explain q) → reading tables a ≡ Ok (statement.Explain q) → IsTypedOver kinds (ctes_in a) q
  explained_typed (ast.Explain x at) q w k is = of_asked x q w (asked statement.Explain same_explain (query_of tables x (start_of x)) q is)
  explained_typed (ast.Create name columns key at) q w k is = absurd k
  explained_typed (ast.Insert table columns rows at) q w k is = absurd k
  explained_typed (ast.Update table sets filter at) q w k is = absurd k
  explained_typed (ast.Delete table filter at) q w k is = absurd k
  explained_typed (ast.Copy table columns spelled opts at) q w k is = absurd k
  explained_typed (ast.Set space name spelled v at) q w k is = absurd k
  explained_typed (ast.Query x) q w k is = absurd k
  explained_typed (ast.Call function arguments at) q w k is = absurd k

-- ---- writes

module _ (cs : Types) (tables : List TableInfo) (fit : TablesTyped cs tables) where
  insert_typed : (op : ShardOp) → IsInsert op → IsTypedWrite (table_types cs (table_of op)) op
  insert_typed (Insert table rows) h = tt
  insert_typed (Update table filter_ sets) h = absurd h
  insert_typed (Remove table filter_) h = absurd h

  write_typed : (a : Ast) (op : ShardOp) → IsWritten a → IsKindOf a (statement.Write op) → reading tables a ≡ Ok (statement.Write op) → IsTypedWrite (table_types cs (table_of op)) op
  write_typed (ast.Create name columns key at) op w k is = insert_typed op k
  write_typed (ast.Insert table columns rows at) op w k is = insert_typed op k
  write_typed (ast.Update table sets filter at) op w k is = updates_typed cs tables table sets filter at op fit w.0 w.1 is
  write_typed (ast.Delete table filter at) op w k is = deletions_typed cs tables table filter at op fit w is
  write_typed (ast.Copy table columns spelled opts at) op w k is = insert_typed op k
  write_typed (ast.Set space name spelled v at) op w k is = insert_typed op k
  write_typed (ast.Explain q at) op w k is = absurd k
  write_typed (ast.Call function arguments at) op w k is = insert_typed op k
  write_typed (ast.Query q) op w k is = absurd k

pub text_queries_typed : TextQueriesTyped
text_queries_typed kinds tables text a q s fit is = select_typed kinds tables fit a q (spelled_written text a s) (kind_of tables a (statement.Select q) is) is

pub texts_explained_typed : TextsExplainedTyped
texts_explained_typed kinds tables text a q s fit is = explained_typed kinds tables fit a q (spelled_written text a s) (kind_of tables a (statement.Explain q) is) is

pub text_writes_typed : TextWritesTyped
text_writes_typed cs tables text a op s fit is = write_typed cs tables fit a op (spelled_written text a s) (kind_of tables a (statement.Write op) is) is
