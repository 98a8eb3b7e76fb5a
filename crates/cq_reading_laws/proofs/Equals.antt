-- Two aggregates of which the test is true are one.
use Rattle.std.proofs.Common.{◌≡◌, true, ap, refl}
use Rattle.cq_tree.specs.declared.query.Agg.{Agg}
use Rattle.cq_tree.specs.declared.query.Agg.TheVariants as agg
use Rattle.cq_same.proofs.Equals.{exprs_same}
use Rattle.cq_reading.specs.Equal.{equal_aggs}
use Rattle.cq_reading_laws.proofs.Standing.{no_truth}

pub aggs_same : (a b : Agg) → equal_aggs a b ≡ true → a ≡ b
aggs_same agg.CountAll agg.CountAll h = refl
aggs_same agg.CountAll (agg.Count f) h = absurd (no_truth h)
aggs_same agg.CountAll (agg.Sum f) h = absurd (no_truth h)
aggs_same agg.CountAll (agg.Min f) h = absurd (no_truth h)
aggs_same agg.CountAll (agg.Max f) h = absurd (no_truth h)
aggs_same (agg.Count e) agg.CountAll h = absurd (no_truth h)
aggs_same (agg.Count e) (agg.Count f) h = ap agg.Count (exprs_same e f h)
aggs_same (agg.Count e) (agg.Sum f) h = absurd (no_truth h)
aggs_same (agg.Count e) (agg.Min f) h = absurd (no_truth h)
aggs_same (agg.Count e) (agg.Max f) h = absurd (no_truth h)
aggs_same (agg.Sum e) agg.CountAll h = absurd (no_truth h)
aggs_same (agg.Sum e) (agg.Count f) h = absurd (no_truth h)
aggs_same (agg.Sum e) (agg.Sum f) h = ap agg.Sum (exprs_same e f h)
aggs_same (agg.Sum e) (agg.Min f) h = absurd (no_truth h)
aggs_same (agg.Sum e) (agg.Max f) h = absurd (no_truth h)
aggs_same (agg.Min e) agg.CountAll h = absurd (no_truth h)
aggs_same (agg.Min e) (agg.Count f) h = absurd (no_truth h)
aggs_same (agg.Min e) (agg.Sum f) h = absurd (no_truth h)
aggs_same (agg.Min e) (agg.Min f) h = ap agg.Min (exprs_same e f h)
aggs_same (agg.Min e) (agg.Max f) h = absurd (no_truth h)
aggs_same (agg.Max e) agg.CountAll h = absurd (no_truth h)
aggs_same (agg.Max e) (agg.Count f) h = absurd (no_truth h)
aggs_same (agg.Max e) (agg.Sum f) h = absurd (no_truth h)
aggs_same (agg.Max e) (agg.Min f) h = absurd (no_truth h)
aggs_same (agg.Max e) (agg.Max f) h = ap agg.Max (exprs_same e f h)
