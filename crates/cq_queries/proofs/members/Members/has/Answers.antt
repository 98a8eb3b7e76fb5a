use Rattle.cq_queries.proofs.MemberLaws.{found_null}
use Rattle.cq_queries.proofs.members.Members.has.Goals as goal

pub returns-in-Null : goal.returns-in-Null
returns-in-Null c = rw c.in-Null.is (found_null c.args.self.now)
