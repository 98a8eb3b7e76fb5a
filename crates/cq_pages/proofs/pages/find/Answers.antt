use Rattle.std.proofs.Common.{◌≡◌, ◌<◌, ◌∙◌, get_or, length, sym, ap, subst, arith}
use Rattle.cq_pages.specs.Pages.{Ascends, named, pairs_of}
use Rattle.cq_pages.proofs.PageLaws.{named_none, named_page, page_ascends}
use Rattle.cq_pages.proofs.pages.find.Goals as goal

pub returns-then-place-pages : goal.returns-then-place-pages
returns-then-place-pages c = named_none c.args.pages.now c.args.id c.page_place-place.result c.page_place-place.ensures.stands c.if-place-pages.true

within : (c : goal.After-pairs) → c.page_place-place.result < length c.args.pages.now
within c = omega (arith, c.page_place-place.ensures.within, c.if-place-pages.false)

page : (c : goal.After-pairs) → c.pairs.result.now ≡ get_or c.args.pages.now c.page_place-place.result c.index-pages-place.result
page c = c.pairs.ensures ∙ c.index-pages-place.is

pub find_in-requires : goal.find_in-requires
find_in-requires c = subst Ascends (sym (page c)) (page_ascends c.args.pages.now c.page_place-place.result c.index-pages-place.result c.requires (within c))

pub returns : goal.returns
returns c =
    let e : named c.args.id (pairs_of c.args.pages.now) ≡ named c.args.id c.pairs.result.now =
    named_page c.args.pages.now c.args.id c.page_place-place.result c.index-pages-place.result c.page_place-place.ensures.stands (within c.before)
    ∙ ap (λ ps. named c.args.id ps) (sym (page c.before)) in
    rw e c.find_in.ensures
