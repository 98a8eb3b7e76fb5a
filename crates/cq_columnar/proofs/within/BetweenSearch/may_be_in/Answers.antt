use Rattle.std.proofs.Common.{◌∙◌, sym}
use Rattle.cq_columnar.proofs.ExtentLaws.{passed_over}
use Rattle.cq_columnar.proofs.within.BetweenSearch.may_be_in.Goals as goal

pub returns : goal.returns
returns c = λ out. passed_over c.args.chunk.now c.args.self.now.column c.args.self.now.least.now c.args.self.now.greatest.now (sym c.is_read.ensures ∙ out)
