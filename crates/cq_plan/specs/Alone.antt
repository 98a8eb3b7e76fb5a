-- Queries that read one table alone.
use Rattle.std.specs.Prelude.{ℕ, ◌&&◌, if◌then◌else◌, Option, None, Some}
use Rattle.cq_tree.specs.declared.query.FromTree.{FromTree, Table}
use Rattle.cq_tree.specs.declared.query.Query.{Query, Query'}
use Rattle.cq_planning.specs.Routing.{is_none_of_them}

-- the table that a FROM is
abbrev pub table_of : FromTree → Option ℕ
table_of (Table t n) = Some t
table_of _ = None

-- the table that a query reads, where it has neither joins nor CTEs nor subqueries
abbrev pub table_alone : Query → Option ℕ
table_alone (Query' cs ctes ss subs from filter_ grouped keys aggs having items shown distinct order limit offset names) =
    if is_none_of_them ctes && is_none_of_them subs then table_of from else None
