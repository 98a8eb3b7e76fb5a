use Rattle.std.proofs.Common.{◌<◌, ◌∙◌, arith}
use Rattle.cq_store.proofs.IndexLaws.{holds_next, low_next, fits_next}
use Rattle.cq_store.proofs.index.Index.catch_up.Goals as goal

pub add_page-requires-clause-fits : goal.add_page-requires-clause-fits
add_page-requires-clause-fits c =
    let below = c.loop-page.invariant.below in
    let range : c.args.rows.now.next < 18446744073709551616 = omega (arith, c.next-next.type_inv, c.next-next.ensures) in
    fits_next c.args.rows.now.pairs below.0 c.pairs.result.now c.pages_from-page-items.result.now c.loop-page.page-index c.args.rows.now.next c.page-item.result below.1 c.loop-page-test.true
    (c.pairs.ensures ∙ c.page-item.is) c.ids_ascend.ensures range

pub returns-in_err-add_page-clause-holds : goal.returns-in_err-add_page-clause-holds
returns-in_err-add_page-clause-holds c =
    let at = c.loop-page in
    let below = at.invariant.below in
    holds_next c.args.rows.now.pairs below.0 c.pairs.result.now c.pages_from-page-items.result.now at.page-index c.args.rows.now.next c.page-item.result at.self c.add_page.new.self below.1 c.loop-page-test.true
    (c.pairs.ensures ∙ c.page-item.is) c.ids_ascend.ensures below.2 c.add_page.ensures.holds at.invariant.holds

pub loop-page-preserved : goal.loop-page-preserved
loop-page-preserved c =
    let at = c.loop-page in
    let below = at.invariant.below in
    record {
      holds = holds_next c.args.rows.now.pairs below.0 c.pairs.result.now c.pages_from-page-items.result.now at.page-index c.args.rows.now.next c.page-item.result at.self c.add_page.new.self below.1 c.loop-page-test.true
          (c.pairs.ensures ∙ c.page-item.is) c.ids_ascend.ensures below.2 c.add_page.ensures.holds at.invariant.holds;
      columns = c.add_page.ensures.columns ∙ at.invariant.columns;
      some = c.add_page.ensures.some ∙ at.invariant.some;
      below = (
        below.0,
        below.1,
        low_next c.args.rows.now.pairs below.0 c.pairs.result.now c.pages_from-page-items.result.now at.page-index c.args.rows.now.next c.page-item.result at.self c.add_page.new.self below.1 c.loop-page-test.true
            (c.pairs.ensures ∙ c.page-item.is) c.ids_ascend.ensures below.2 c.in_ok-add_page.ensures.all,
      );
    }
