use Rattle.std.proofs.Common.{◌≡◌, true, length, sym, ◌∙◌, arith}
use Rattle.cq_meaning.specs.Values.{Row}
use Rattle.cq_meaning.specs.Expressions.{items_of}
use Rattle.cq_meaning.proofs.KeyLaws.{keys_weak}
use Rattle.cq_queries.specs.Cells.{row_in}
use Rattle.cq_queries.specs.Wanted.{is_before}
use Rattle.cq_queries.proofs.FirstLaws.{all_below, goes_behind}
use Rattle.cq_queries.proofs.wanted.goes_behind.Goals as goal

pub returns-in-Some : goal.returns-in-Some
returns-in-Some c e =
    let lt = is_before c.args.keys.now in
    let x = items_of c.args.es.now c.args.results.now (row_in c.args.row) in
    let ys = c.args.first.now in
    goes_behind lt c.args.most x ys
    (all_below lt (keys_weak c.args.keys.now) x ys c.requires.sorted c.in-Some.last.now (sym c.in-Some.ensures.value) (sym c.is_below_items.ensures ∙ e))
    (omega (arith, c.requires.few, c.if-first-most.true))
