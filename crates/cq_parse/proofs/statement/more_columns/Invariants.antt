use Rattle.std.proofs.Common.{◌≡◌, ◌+◌, ◌-◌}
use Rattle.cq_grammar.specs.Read.{before, many, many_by}
use Rattle.cq_parse.specs.Limit.{behind_comma, column_item}
use Rattle.cq_parse.proofs.statement.more_columns.Given as goal

abbrev pub invariant-columns : goal.invariant-columns
invariant-columns l = before l.fn.front (many behind_comma column_item 1 l.fn.parser) ≡ before l.found (many_by behind_comma column_item (1 + l._turn) (l._turn-end - l._turn) l.parser)
