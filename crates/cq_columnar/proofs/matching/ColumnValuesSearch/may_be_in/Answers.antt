use Rattle.std.proofs.Common.{◌∙◌, sym, ap}
use Rattle.cq_columnar.specs.Columns.{may_have_all}
use Rattle.cq_columnar.proofs.SearchLaws.{none_found}
use Rattle.cq_columnar.proofs.matching.ColumnValuesSearch.may_be_in.Goals as goal

pub returns : goal.returns
returns c = λ out. none_found c.args.chunk.now c.args.self.now (ap (λ wanted. may_have_all wanted c.args.chunk.now) (sym c.as_slice.ensures) ∙ sym c.may_have_wanted.ensures ∙ out)
