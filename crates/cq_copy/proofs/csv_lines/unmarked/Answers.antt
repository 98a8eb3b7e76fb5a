use Rattle.std.proofs.Common.{sym, ◌∙◌}
use Rattle.std.proofs.lemmas.List.{take_rest}
use Rattle.cq_copy.proofs.LineLaws.{unmarked, no_mark}
use Rattle.cq_copy.proofs.csv_lines.unmarked.Goals as goal

pub returns-then-is_marked : goal.returns-then-is_marked
returns-then-is_marked c = rw take_rest (unmarked c.args.bytes.now (sym c.is_marked.ensures ∙ c.if-is_marked.true))

pub returns-else-is_marked : goal.returns-else-is_marked
returns-else-is_marked c = no_mark c.args.bytes.now (sym c.is_marked.ensures ∙ c.if-is_marked.false)
