use Rattle.std.proofs.Common.{Err, subst}
use Rattle.cq_value.specs.declared.schema.Kind.{Kind}
use Rattle.cq_reading.specs.Outcomes.{Binds}
use Rattle.cq_reading.specs.Statements.{set_value, kind_at}
use Rattle.cq_bind.proofs.Following.{read, refused}
use Rattle.cq_bind.proofs.writes.EachSetStep.step.Goals as goal

pub returns-in_err-column : goal.returns-in_err-column
returns-in_err-column c = refused _ _ _ c.args.found.now _ _ (c.in_err-column.ensures c.args.found.now) c.from_residual.ensures.1

pub returns-in_err-value : goal.returns-in_err-value
returns-in_err-value c =
    let h : Binds (set_value c.args.self.now.scope.now (kind_at c.args.self.now.table.now c.in_ok-column.column) c.args.item.now.value c.args.found.now) (Err c.in_err-value.field-0.0) c.set_value.new.found =
    subst (λ (k : Kind). Binds (set_value c.args.self.now.scope.now k c.args.item.now.value c.args.found.now) (Err c.in_err-value.field-0.0) c.set_value.new.found) c.kind_at-kind.ensures c.in_err-value.ensures in
    read _ _ _ _ _ _ (c.in_ok-column.ensures c.args.found.now) (refused _ _ _ c.set_value.new.found _ _ h c.from_residual-in_err-value.ensures.1)
