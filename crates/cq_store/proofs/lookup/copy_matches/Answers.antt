use Rattle.std.proofs.Common.{◌∙◌, ◌++◌, Bool, filter, take, sym, ap}
use Rattle.cq_value.specs.Tables.{Pair}
use Rattle.cq_pages.specs.Pages.{pairs_of}
use Rattle.cq_store.specs.Stores.{has_values}
use Rattle.cq_store.proofs.IndexLaws.{filter_more}
use Rattle.cq_store.proofs.lookup.copy_matches.Goals as goal

pub loop-page-preserved : goal.loop-page-preserved
loop-page-preserved c =
    let q : Pair → Bool = λ p. has_values c.args.wanted.now p.1 in
    let pages = c.args.pages.now in
    let i = c.loop-page.page-index in
    c.in_ok-put_matches.ensures ∙ ap (λ ps. ps ++ filter q c.pairs.result.now) c.loop-page.invariant
    ∙ ap (λ ps. filter q (pairs_of (take i pages)) ++ filter q ps) (c.pairs.ensures ∙ c.page-item.is)
    ∙ sym (filter_more q pages i c.page-item.result c.loop-page-test.true)
