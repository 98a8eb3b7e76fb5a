use Rattle.std.proofs.Common.{rules, ◌≡◌, ◌+◌, ◌-◌, ◌<◌, length, map, drop, take, sym, ap, subst, ◌∙◌, arith}
use Rattle.std.specs.List.Sorted.{IsSorted}
use Rattle.cq_meaning.specs.Expressions.{items_of}
use Rattle.cq_meaning.specs.Sorting.{keys_cmp, placed}
use Rattle.cq_queries.specs.Cells.{row_in, rows_in}
use Rattle.cq_queries.specs.Wanted.{is_before, top_of}
use Rattle.cq_queries.proofs.TopLaws.{top_up, top_step}
use Rattle.cq_queries.proofs.wanted.top_items.Goals as goal

pub put_items-requires-clause-sorted : goal.put_items-requires-clause-sorted
put_items-requires-clause-sorted c =
    subst (IsSorted (keys_cmp c.args.top.keys.now)) (sym c.row.invariant.first)
    (top_up c.args.top c.requires.top (map (items_of c.args.es.now c.args.results.now) (drop c.row.at (rows_in c.args.rows))))

pub row-preserved : goal.row-preserved
row-preserved c =
    let f = items_of c.args.es.now c.args.results.now in
    let all = rows_in c.args.rows in
    let row = row_in c.row-in-row.result in
    record {
      within = omega (arith, c.row.invariant.within);
      first =
          c.in_ok-put_items.ensures
          ∙ (ap (λ us. take c.args.top.most (placed (is_before c.args.top.keys.now) (f row) us)) c.row.invariant.first
          ∙ top_step c.args.top f all c.row.at (c.row.at - 1) row (omega (arith, c.row.invariant.within, c.row-test.true)) (omega (arith, c.row-test.true)) c.row-in-row.ensures);
    }
