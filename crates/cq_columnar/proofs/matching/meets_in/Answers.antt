use Rattle.std.proofs.Common.{◌∙◌, sym}
use Rattle.cq_columnar.proofs.SearchLaws.{none_met_in}
use Rattle.cq_columnar.proofs.matching.meets_in.Goals as goal

pub returns : goal.returns
returns c = sym (none_met_in c.args.chunk.now c.args.key.now c.args.others.now (sym c.may_meet.ensures ∙ c.if-may_meet.false))
