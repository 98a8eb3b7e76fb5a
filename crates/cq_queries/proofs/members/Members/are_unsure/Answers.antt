use Rattle.cq_queries.specs.Members.{first_column}
use Rattle.cq_queries.proofs.MemberLaws.{unsure_null, unsure_number, unsure_text}
use Rattle.cq_queries.proofs.members.Members.are_unsure.Goals as goal

pub returns-in-Null : goal.returns-in-Null
returns-in-Null c = rw (c.in-Null.is, ← c.self.view_is, c.len.ensures) (unsure_null c.self.inside.rows.now)

pub returns-in-Int : goal.returns-in-Int
returns-in-Int c = rw (c.in-Int.is, ← c.self.view_is, c.self.invariant.1) (unsure_number c.in-Int.field-0 (first_column c.self.inside.rows.now))

pub returns-in-Text : goal.returns-in-Text
returns-in-Text c = rw (c.in-Text.is, ← c.self.view_is, c.self.invariant.2) (unsure_text c.in-Text.field-0.now (first_column c.self.inside.rows.now))
