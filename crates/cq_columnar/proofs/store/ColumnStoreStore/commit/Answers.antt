use Rattle.std.proofs.Common.{◌∙◌, [], ap, refl, arith}
use Rattle.cq_columnar.specs.States.{held}
use Rattle.cq_columnar.proofs.RelaidLaws.{laid_table}
use Rattle.cq_columnar.proofs.store.ColumnStoreStore.commit.Goals as goal

pub returns : goal.returns
returns c =
    let s = c.args.self.now in
    record {
      state = ap held c.make_staged.ensures ∙ ap (λ t. record (held s) { rows = t; staged = [] }) (laid_table s.layout s.staged);
      counts = omega arith;
      steady = λ h. refl;
    }
