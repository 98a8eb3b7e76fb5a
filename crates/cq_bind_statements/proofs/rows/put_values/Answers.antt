use Rattle.std.proofs.Common.{refl}
use Rattle.cq_bind_statements.proofs.RowLaws.{put_none, put_next, places_next}
use Rattle.cq_bind_statements.proofs.rows.put_values.Goals as goal

pub loop-v-init : goal.loop-v-init
loop-v-init c = (refl, put_none c.args.row c.args.columns.now)

pub loop-v-preserved : goal.loop-v-preserved
loop-v-preserved c = (
  places_next c.args.columns.now _ _ c.loop-v.yielded c.in-Some.v c.loop-v.invariant.0 c.behind_first-places.ensures,
  put_next c.args.row _ _ c.args.columns.now _ c.loop-v.yielded c.in-Some.v c.loop-v.invariant.1 c.loop-v.invariant.0 c.with_first-row.ensures,
)
