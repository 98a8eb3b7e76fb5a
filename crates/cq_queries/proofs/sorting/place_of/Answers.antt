use Rattle.std.proofs.Common.{rules, Bool, List, length, sym, ◌∙◌, arith}
use Rattle.std.specs.Ordering.{is_lt}
use Rattle.std.proofs.lemmas.List.Sorted.{IsPartitionPoint-from_clause}
use Rattle.cq_meaning.specs.Values.{Row}
use Rattle.cq_meaning.specs.Sorting.{keys_cmp}
use Rattle.cq_meaning.proofs.KeyLaws.{keys_weak}
use Rattle.cq_queries.proofs.FirstLaws.{placed_at, parted, all_below}
use Rattle.cq_queries.proofs.sorting.place_of.Goals as goal

pub returns-then-is_below-clause-placed : goal.returns-then-is_below-clause-placed
returns-then-is_below-clause-placed c =
    let lt : Row → Row → Bool = λ x y. is_lt (keys_cmp c.args.keys.now x y) in
    let ys : List Row = c.args.rows.now in
    placed_at lt c.args.row.now ys (length ys) (all_below lt (keys_weak c.args.keys.now) c.args.row.now ys c.requires c.in-Some.last.now (sym c.in-Some.ensures.value) (sym c.is_below.ensures ∙ c.if-is_below.true)) (omega arith)

pub returns-clause-placed : goal.returns-clause-placed
returns-clause-placed c =
    let lt : Row → Row → Bool = λ x y. is_lt (keys_cmp c.args.keys.now x y) in
    let ys : List Row = c.args.rows.now in
    let point = IsPartitionPoint-from_clause (λ y. lt y c.args.row.now) ys c.partition_point.result c.partition_point.ensures.partitioned (parted lt (keys_weak c.args.keys.now) c.args.row.now ys c.requires) (λ a r f k. search rules) in
    placed_at lt c.args.row.now ys c.partition_point.result point c.partition_point.ensures.bound
