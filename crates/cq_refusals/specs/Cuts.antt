-- Cuts without a full order, as code looks for them.
use Rattle.std.specs.Prelude.{Bool, ◌||◌}
use Rattle.std.specs.List.{list_any}
use Rattle.cq_tree.specs.declared.query.Query.{Query}
use Rattle.cq_planning.specs.Blocks.{subqueries_in}
use Rattle.cq_planning.specs.Refusals.{is_cut_loosely}

-- a query, or a subquery in it
abbrev pub is_cut_within : Query → Bool
is_cut_within q = is_cut_loosely q || list_any is_cut_loosely (subqueries_in q)
