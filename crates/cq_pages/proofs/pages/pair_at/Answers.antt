use Rattle.std.proofs.Common.{◌≡◌, ◌∙◌, ◌+◌, ◌++◌, length, drop, get_or, sym, ap, arith}
use Rattle.std.proofs.lemmas.List.{length-append}
use Rattle.cq_value.specs.Tables.{Pair}
use Rattle.cq_pages.specs.Pages.{pairs_of}
use Rattle.cq_pages.proofs.PageLaws.{pages_dropped, pair_here, pair_behind}
use Rattle.cq_pages.proofs.pages.pair_at.Goals as goal

pub loop-page-preserved : goal.loop-page-preserved
loop-page-preserved c =
    let page = c.pairs-pairs.result.now in
    let rest = pairs_of (drop (c.loop-page.page-index + 1) c.args.pages.now) in
    let split = pages_dropped c.args.pages.now c.loop-page.page-index c.page-item.result page c.loop-page-test.true c.page-item.is c.pairs-pairs.ensures in
    let long = c.loop-page.invariant.long in
    let parts = ap length split ∙ length-append page rest in
    let high = c.if-left-pairs.false in
    record {
      same = pair_behind (pairs_of c.args.pages.now) page rest c.args.place c.loop-page.left (λ d. c.loop-page.invariant.same d ∙ ap (λ v. get_or v c.loop-page.left d) split) high;
      long = omega (arith, long, parts, high);
    }

pub returns-then-left-pairs : goal.returns-then-left-pairs
returns-then-left-pairs c =
    let page = c.pairs-pairs.result.now in
    let rest = pairs_of (drop (c.loop-page.page-index + 1) c.args.pages.now) in
    let split = pages_dropped c.args.pages.now c.loop-page.page-index c.page-item.result page c.loop-page-test.true c.page-item.is c.pairs-pairs.ensures in
    pair_here (pairs_of c.args.pages.now) page rest c.args.place c.loop-page.left c.index-pairs-left.result
    (λ d. c.loop-page.invariant.same d ∙ ap (λ v. get_or v c.loop-page.left d) split) (c.loop-page.invariant.long ∙ ap (λ v. c.args.place + length v) split) c.if-left-pairs.true c.index-pairs-left.is
