use Rattle.std.proofs.Common.{ap, sym, ◌∙◌, arith}
use Rattle.std.specs.Ordering.{is_eq}
use Rattle.std.specs.Prelude.{length, ◌-◌}
use Rattle.cq_value.specs.Order.{value_cmp}
use Rattle.cq_shape.proofs.AscendingLaws.{last_at}
use Rattle.cq_shape.proofs.ascending.has_last.Goals as goal

pub returns-in-len1-up : goal.returns-in-len1-up
returns-in-len1-up c =
    c.is_eq.ensures
    ∙ (ap is_eq c.order.ensures
    ∙ (ap (λ w. is_eq (value_cmp w c.args.value.now)) c.last-item.is
    ∙ sym (last_at c.args.values.now c.args.value.now (length c.args.values.now - 1) c.last-item.result (omega arith))))
