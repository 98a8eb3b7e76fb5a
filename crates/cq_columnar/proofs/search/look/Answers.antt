use Rattle.std.proofs.Common.{◌∙◌, ◌++◌, sym, ap}
use Rattle.std.proofs.lemmas.List.{append-nil}
use Rattle.cq_columnar.proofs.search.look.Goals as goal

pub returns : goal.returns
returns g c = sym (ap (λ ps. c.args.found.now ++ ps) (c.may_be_in.ensures c.if-may_be_in.false) ∙ append-nil c.args.found.now)
