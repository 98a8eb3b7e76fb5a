use Rattle.std.proofs.Common.{◌≡◌, sym, ap, ◌∙◌}
use Rattle.cq_queries.specs.Operands.{owned}
use Rattle.cq_queries.specs.Members.{first_column, among_values}
use Rattle.cq_queries.proofs.MemberLaws.{among_rows}
use Rattle.cq_queries.proofs.members.Listed.find.Goals as goal

pub returns-in-Some : goal.returns-in-Some
returns-in-Some c =
    let same : c.in-Some.members ≡ first_column c.self.inside.rows.now = rw c.in-Some.is at c.self.invariant in
    rw (← c.self.view_is)
    (c.find.ensures ∙ (ap (among_values (owned c.args.v)) same ∙ sym (among_rows (owned c.args.v) c.self.inside.rows.now)))
