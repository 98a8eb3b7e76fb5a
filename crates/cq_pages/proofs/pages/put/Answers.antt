use Rattle.std.proofs.Common.{◌≡◌, ◌∙◌, [], get_or, set, ap}
use Rattle.std.proofs.lemmas.List.{get_or_default}
use Rattle.std.proofs.lemmas.Result.{on_ok_weaker}
use Rattle.cq_pages.specs.Pages.{pairs_of}
use Rattle.cq_pages.proofs.PageLaws.{row_put}
use Rattle.cq_pages.proofs.pages.put.Goals as goal

pub returns-clause-ok : goal.returns-clause-ok
returns-clause-ok c =
    let pages = c.args.pages.now.items in
    let place = c.place_in-place.result.0 in
    let l = rw c.deref.ensures.value at c.place_in-place.ensures.page in
    let within = rw c.deref.ensures.value at c.place_in-place.ensures.row in
    let here = rw c.deref.ensures.value at c.place_in-place.ensures.here in
    let stands = rw c.deref.ensures.value at c.place_in-place.ensures.stands in
    let page : c.index_mut.result.now ≡ get_or pages place [] = c.index_mut.ensures.value ∙ get_or_default pages place _ [] l in
    on_ok_weaker c.set.result (λ e.
    ap (λ ps. pairs_of (set pages place ps)) (e ∙ ap (λ ps. set ps c.place_in-place.result.1 (c.args.id, c.args.row)) page)
    ∙ row_put pages place c.place_in-place.result.1 c.args.id c.args.row [] (0, []) c.requires.laid stands l within here) c.set.ensures.ok
