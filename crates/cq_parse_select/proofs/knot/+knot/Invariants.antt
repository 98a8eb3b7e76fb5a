use Rattle.std.proofs.Common.{◌+◌, ◌*◌}
use Rattle.cq_parse_select.proofs.knot.+knot.Given as goal

-- a SELECT asks for its expressions where as much is left
abbrev pub decreases-expr : goal.decreases-expr
decreases-expr l = 2 * l.left

abbrev pub decreases-select : goal.decreases-select
decreases-select l = 2 * l.left + 1
