use Rattle.std.proofs.Common.{◌≡◌, ◌<◌, ◌∙◌, [], get_or, length, true, sym, subst}
use Rattle.std.proofs.lemmas.List.{get_or_default}
use Rattle.cq_pages.specs.Pages.{Ascends, Splits, has}
use Rattle.cq_pages.proofs.PageLaws.{has_page, page_ascends, split_has}
use Rattle.cq_pages.proofs.pages.place_in.Goals as goal

pub bounds-pages-place : goal.bounds-pages-place
bounds-pages-place c = (has_page c.args.pages.now c.args.id c.page_place-place.result [] c.page_place-place.ensures.stands c.page_place-place.ensures.within c.requires.there).0

there : (c : goal.After-pairs) → (c.page_place-place.result < length c.args.pages.now) × (has (get_or c.args.pages.now c.page_place-place.result []) c.args.id ≡ true)
there c = has_page c.args.pages.now c.args.id c.page_place-place.result [] c.page_place-place.ensures.stands c.page_place-place.ensures.within c.requires.there

page : (c : goal.After-pairs) → c.pairs.result.now ≡ get_or c.args.pages.now c.page_place-place.result []
page c = c.pairs.ensures ∙ c.index-pages-place.is ∙ get_or_default c.args.pages.now c.page_place-place.result c.index-pages-place.result [] (there c).0

ascends : (c : goal.After-pairs) → Ascends (get_or c.args.pages.now c.page_place-place.result [])
ascends c = page_ascends c.args.pages.now c.page_place-place.result [] c.requires.laid (there c).0

pub spot-requires : goal.spot-requires
spot-requires c = subst Ascends (sym (page c)) (ascends c)

found : (c : goal.After-spot) → (c.spot.result < length (get_or c.args.pages.now c.page_place-place.result [])) × ((get_or (get_or c.args.pages.now c.page_place-place.result []) c.spot.result (0, [])).0 ≡ c.args.id)
found c =
    let up = ascends c.before in
    split_has (get_or c.args.pages.now c.page_place-place.result []) up.next c.args.id c.spot.result (0, []) up.up (subst (λ ps. Splits ps c.args.id c.spot.result) (page c.before) c.spot.ensures) (there c.before).1

pub returns-clause-page : goal.returns-clause-page
returns-clause-page c = (there c.before).0

pub returns-clause-row : goal.returns-clause-row
returns-clause-row c = (found c).0

pub returns-clause-here : goal.returns-clause-here
returns-clause-here c = (found c).1
