use Rattle.std.proofs.Common.{sym}
use Rattle.cq_queries.specs.Operands.{owned}
use Rattle.cq_queries.proofs.MemberLaws.{among_is}
use Rattle.cq_queries.proofs.members.Members.find.Goals as goal

pub returns : goal.returns
returns c = rw (c.verdict.ensures, c.has.ensures, c.are_unsure.ensures) (sym (among_is (owned c.args.v) c.args.self.now))
