use Rattle.std.proofs.Common.{List, [], ℕ, ap, arith, length, drop, sym, ◌∙◌}
use Rattle.cq_copy.specs.Rows.{filled}
use Rattle.cq_copy.proofs.RowLaws.{padded, padded_put, put_len, padded_all, filled_step, filled_all, is_none_one}
use Rattle.cq_copy.proofs.frame.Frame.values_of_line.Goals as goal

pub loop-column-preserved : goal.loop-column-preserved
loop-column-preserved c =
    let inv = rw c.in-Some.is at c.loop-column.invariant in
    let fields = rw c.separator.ensures at c.first_field.ensures.fields in
    let value = rw (c.in-Some-2.is, c.kind_at-kind.ensures) at c.in_ok-value.ensures in
    let put = padded_put c.args.self.now.whole c.args.self.now.table.now c.args.self.now.listed.now c.loop-column.values c.loop-column.column-index c.in-Some-2.value c.requires.whole inv.3 c.loop-column-test.true in (
      λ row. rw (c.in_ok-values-2.ensures, sym put) (
          sym (filled_step c.args.self.now.format c.args.self.now.table.now row c.args.self.now.listed.now c.first_field.result.0.now _ _ c.loop-column.column-index c.in-Some-2.value c.loop-column-test.true value (c.may_have.ensures c.if-not-may_have.false row))
          ∙ ap (λ (fs : List (List ℕ)). filled c.args.self.now.format c.args.self.now.table.now row (drop c.loop-column.column-index c.args.self.now.listed.now) fs (padded c.args.self.now.whole c.args.self.now.table.now c.loop-column.values)) (sym fields) ∙ inv.0 row),
      omega (arith, inv.1, ap length fields),
      c.first_field.ensures.simple_more inv.2,
      λ w. rw c.in_ok-values-2.ensures (put_len c.args.self.now.whole c.loop-column.values _ c.loop-column.column-index c.in-Some-2.value inv.3 w),
    )

pub returns : goal.returns
returns c =
    let none = is_none_one c.loop-column.left (sym c.if-is_some.ensures) in
    let inv = rw none at c.loop-column.invariant in
    let all = padded_all c.args.self.now.whole c.args.self.now.table.now c.args.self.now.listed.now c.loop-column.values c.loop-column.column-index c.requires.whole inv.3 c.loop-column-test.false in (
      omega (arith, inv.1, c.loop-column-test.false),
      λ row. sym (inv.0 row) ∙ ap (λ vs. filled c.args.self.now.format c.args.self.now.table.now row (drop c.loop-column.column-index c.args.self.now.listed.now) [] vs) all
          ∙ filled_all c.args.self.now.format c.args.self.now.table.now row c.args.self.now.listed.now _ c.loop-column.values c.loop-column.column-index c.loop-column-test.false,
    )
