-- Whether two aggregates are one.
use Rattle.std.specs.Prelude.{Bool, true, false}
use Rattle.cq_tree.specs.declared.query.Agg.{Agg}
use Rattle.cq_tree.specs.declared.query.Agg.TheVariants as agg
use Rattle.cq_tree.specs.Equal.{equal_exprs}

abbrev pub equal_aggs : Agg → Agg → Bool
equal_aggs agg.CountAll agg.CountAll = true
equal_aggs (agg.Count e) (agg.Count f) = equal_exprs e f
equal_aggs (agg.Sum e) (agg.Sum f) = equal_exprs e f
equal_aggs (agg.Min e) (agg.Min f) = equal_exprs e f
equal_aggs (agg.Max e) (agg.Max f) = equal_exprs e f
equal_aggs _ _ = false
