use Rattle.std.proofs.Common.{◌≡◌, ℕ, ◌+◌, ◌-◌}
use Rattle.cq_grammar.specs.Read.{Reader, before, many, many_by, sees}
use Rattle.cq_parse_steps.specs.Reads.{Follows}
use Rattle.cq_parse_steps.proofs.lists.more.Given as goal

abbrev pub invariant-items : goal.invariant-items
invariant-items g l = (p : ℕ → Reader _) → Follows (goal.F-post g l.item) p
    → before l.fn.front (many (sees l.kinds) p l.start l.fn.parser) ≡ before l.found (many_by (sees l.kinds) p (l.start + l.turn) (l.turn-end - l.turn) l.parser)
