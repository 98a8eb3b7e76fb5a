-- What a text is read as is what the engine asks for.
use Rattle.std.proofs.Common.{◌≡◌, ◌≤◌, ℕ, List, [], length, Result, Ok, Err, refl, ap, subst}
use Rattle.cq_grammar.specs.declared.query.Query as written
use Rattle.cq_grammar.specs.declared.statement.Ast.{Ast}
use Rattle.cq_grammar.specs.declared.statement.Ast.TheVariants as ast
use Rattle.cq_tree.specs.declared.query.Query.{Query}
use Rattle.cq_tree.specs.declared.write.ShardOp.{ShardOp}
use Rattle.cq_tree.specs.declared.write.ShardOp.TheVariants.{Insert, Update, Remove}
use Rattle.cq_tree.specs.declared.statement.Statement.{Statement}
use Rattle.cq_tree.specs.declared.statement.Statement.TheVariants as statement
use Rattle.cq_catalog.specs.declared.info.TableInfo.{TableInfo}
use Rattle.cq_meaning.specs.declared.Columns.{Columns}
use Rattle.cq_meaning.specs.Widths.{table_bits, IsBoundWrite}
use Rattle.cq_reading.specs.declared.bound.Found.{Found}
use Rattle.cq_reading.specs.declared.error.BindError.{BindError}
use Rattle.cq_reading.specs.Steps.{follow, give}
use Rattle.cq_reading.specs.Statements.{query_of, outcome, reading}
use Rattle.cq_reading_laws.specs.WriteLaws.{TablesFit, table_of}
use Rattle.cq_reading_laws.proofs.FineWrites.{updates_bound, deletions_bound}
use Rattle.cq_reading_laws.specs.StepLaws.{start_of}
use Rattle.cq_reading_laws.proofs.FineQueries.{queries_bound}
use Rattle.cq_reading_laws.proofs.StepQueries.{statements_bound, widths_are_there}
use Rattle.cq_reading_laws.specs.WrittenLaws.{IsWritten, IsWrittenQuery}
use Rattle.cq_reading_laws.specs.TextLaws.{Spells, result_count_in, result_count, TextWritesBound, IsBoundWhole, TextQueriesBound, TextsExplainedBound, IsBoundOver, TextStatementsBound, TextsExplainedWhole}
use Rattle.cq_reading_laws.proofs.WrittenStatements.{texts_written}
use Rattle.cq_reading_laws.proofs.WrittenEndings.{IsInsert, IsKindOf, kind_of}

spelled_written : (text : List ℕ) (a : Ast) → Spells text a → IsWritten a
spelled_written text a s = texts_written text s.words a s.cut s.accepted

module _ (cs : Columns) (tables : List TableInfo) (fit : TablesFit cs tables) where
  -- ---- writes

  insert_bound : (op : ShardOp) → IsInsert op → IsBoundWrite (table_bits cs.tables (table_of op)) op
  insert_bound (Insert table rows) h = tt
  insert_bound (Update table filter_ sets) h = absurd h
  insert_bound (Remove table filter_) h = absurd h

  write_bound : (a : Ast) (op : ShardOp) → IsWritten a → IsKindOf a (statement.Write op) → reading tables a ≡ Ok (statement.Write op) → IsBoundWrite (table_bits cs.tables (table_of op)) op
  write_bound (ast.Create name columns key at) op w k is = insert_bound op k
  write_bound (ast.Insert table columns rows at) op w k is = insert_bound op k
  write_bound (ast.Update table sets filter at) op w k is = updates_bound cs tables table sets filter at op fit w.0 w.1 is
  write_bound (ast.Delete table filter at) op w k is = deletions_bound cs tables table filter at op fit w is
  write_bound (ast.Copy table columns spelled opts at) op w k is = insert_bound op k
  write_bound (ast.Set space name spelled v at) op w k is = insert_bound op k
  write_bound (ast.Explain q at) op w k is = absurd k
  write_bound (ast.Call function arguments at) op w k is = insert_bound op k
  write_bound (ast.Query q) op w k is = absurd k

  -- ---- queries

  abbrev Asked : Result (Query × Found) BindError → (Query → Statement) → Query → Type 0
  Asked o make q = (new : Found) × (o ≡ Ok (q, new)) × (result_count_in (follow o (λ bound. give (make bound))) ≡ new.results)

  asked : (make : Query → Statement) → ((p q : Query) → make p ≡ make q → p ≡ q) → (o : Result (Query × Found) BindError) (q : Query) → outcome (follow o (λ bound. give (make bound))) ≡ Ok (make q) → Asked o make q
  asked make same (Ok p) q is = let e : make p.0 ≡ make q = cc is in (p.1, ap (λ (b : Query). Ok (b, p.1)) (same p.0 q e), refl)
  asked make same (Err e) q is = absurd (cc is)

  -- with its CTEs, and with all its steps
  abbrev Both : ℕ → Query → Type 0
  Both n q = IsBoundWhole cs n q × IsBoundOver cs.tables q

  of_asked : (make : Query → Statement) (x : written.Query) (q : Query) → IsWrittenQuery x → Asked (query_of tables x (start_of x)) make q
      → Both (result_count_in (follow (query_of tables x (start_of x)) (λ bound. give (make bound)))) q
  of_asked make x q w h =
      let r = widths_are_there cs.tables tables x h.0 q w.0 w.1 h.1 in (
        (λ have few. queries_bound cs tables x (start_of x) h.0 q fit w.0 w.1 h.1 have (subst (λ n. n ≤ length cs.results) h.2 few)),
        (r.0, statements_bound (record { tables = cs.tables; results = r.0 }) tables x h.0 q fit w.0 w.1 h.1 r.1),
      )

  same_select : (p q : Query) → statement.Select p ≡ statement.Select q → p ≡ q
  same_select p q e = cc e

  same_explain : (p q : Query) → statement.Explain p ≡ statement.Explain q → p ≡ q
  same_explain p q e = cc e

  select_bound : (a : Ast) (q : Query) → IsWritten a → IsKindOf a (statement.Select q) → reading tables a ≡ Ok (statement.Select q) → Both (result_count tables a) q
  select_bound (ast.Query x) q w k is = of_asked statement.Select x q w (asked statement.Select same_select (query_of tables x (start_of x)) q is)
  select_bound (ast.Create name columns key at) q w k is = absurd k
  select_bound (ast.Insert table columns rows at) q w k is = absurd k
  select_bound (ast.Update table sets filter at) q w k is = absurd k
  select_bound (ast.Delete table filter at) q w k is = absurd k
  select_bound (ast.Copy table columns spelled opts at) q w k is = absurd k
  select_bound (ast.Set space name spelled v at) q w k is = absurd k
  select_bound (ast.Explain x at) q w k is = absurd k
  select_bound (ast.Call function arguments at) q w k is = absurd k

  explained_bound : (a : Ast) (q : Query) → IsWritten a → IsKindOf a (statement.Explain q) → reading tables a ≡ Ok (statement.Explain q) → Both (result_count tables a) q
  explained_bound (ast.Explain x at) q w k is = of_asked statement.Explain x q w (asked statement.Explain same_explain (query_of tables x (start_of x)) q is)
  explained_bound (ast.Create name columns key at) q w k is = absurd k
  explained_bound (ast.Insert table columns rows at) q w k is = absurd k
  explained_bound (ast.Update table sets filter at) q w k is = absurd k
  explained_bound (ast.Delete table filter at) q w k is = absurd k
  explained_bound (ast.Copy table columns spelled opts at) q w k is = absurd k
  explained_bound (ast.Set space name spelled v at) q w k is = absurd k
  explained_bound (ast.Query x) q w k is = absurd k
  explained_bound (ast.Call function arguments at) q w k is = absurd k

pub text_writes_bound : TextWritesBound
text_writes_bound cs tables text a op s fit is = write_bound cs tables fit a op (spelled_written text a s) (kind_of tables a (statement.Write op) is) is

pub text_queries_bound : TextQueriesBound
text_queries_bound cs tables text a q s fit is = (select_bound cs tables fit a q (spelled_written text a s) (kind_of tables a (statement.Select q) is) is).0

pub texts_explained_bound : TextsExplainedBound
texts_explained_bound cs tables text a q s fit is = (explained_bound cs tables fit a q (spelled_written text a s) (kind_of tables a (statement.Explain q) is) is).0

pub text_statements_bound : TextStatementsBound
text_statements_bound columns tables text a q s fit is = (select_bound (record { tables = columns; results = [] }) tables fit a q (spelled_written text a s) (kind_of tables a (statement.Select q) is) is).1

pub texts_explained_whole : TextsExplainedWhole
texts_explained_whole columns tables text a q s fit is = (explained_bound (record { tables = columns; results = [] }) tables fit a q (spelled_written text a s) (kind_of tables a (statement.Explain q) is) is).1
