use Rattle.std.proofs.Common.{◌≡◌, ◌∙◌, [], get_or, set, remove, length, sym, ap}
use Rattle.std.proofs.lemmas.List.{get_or_default}
use Rattle.std.proofs.lemmas.Result.{on_ok_weaker}
use Rattle.cq_pages.specs.Pages.{pairs_of}
use Rattle.cq_pages.proofs.PageLaws.{row_removed, last_removed}
use Rattle.cq_pages.proofs.pages.remove.Goals as goal

pub returns-then-pairs-eq1-clause-ok : goal.returns-then-pairs-eq1-clause-ok
returns-then-pairs-eq1-clause-ok c =
    let pages = c.args.pages.now.items in
    let place = c.place_in-place.result.0 in
    let l = rw c.deref.ensures.value at c.place_in-place.ensures.page in
    let within = rw c.deref.ensures.value at c.place_in-place.ensures.row in
    let here = rw c.deref.ensures.value at c.place_in-place.ensures.here in
    let stands = rw c.deref.ensures.value at c.place_in-place.ensures.stands in
    let page : c.pairs.result.now ≡ get_or pages place [] = c.pairs.ensures ∙ c.index.ensures ∙ get_or_default pages place _ [] l in
    rw c.remove.ensures.items (last_removed pages place c.place_in-place.result.1 c.args.id [] (0, []) stands l (ap length (sym page) ∙ c.if-pairs-eq1.true) within here)

pub returns-clause-ok : goal.returns-clause-ok
returns-clause-ok c =
    let pages = c.args.pages.now.items in
    let place = c.place_in-place.result.0 in
    let l = rw c.deref.ensures.value at c.place_in-place.ensures.page in
    let within = rw c.deref.ensures.value at c.place_in-place.ensures.row in
    let here = rw c.deref.ensures.value at c.place_in-place.ensures.here in
    let stands = rw c.deref.ensures.value at c.place_in-place.ensures.stands in
    let page : c.index_mut.result.now ≡ get_or pages place [] = c.index_mut.ensures.value ∙ get_or_default pages place _ [] l in
    on_ok_weaker c.remove-2.result (λ e.
    ap (λ ps. pairs_of (set pages place ps)) (e ∙ ap (λ ps. remove ps c.place_in-place.result.1) page)
    ∙ row_removed pages place c.place_in-place.result.1 c.args.id [] (0, []) c.requires.laid stands l within here) c.remove-2.ensures.ok
