use Rattle.std.proofs.Common.{◌≡◌, [], ◌∷◌, ◌<◌, ap, subst, ◌∙◌, sym}
use Rattle.std.specs.Prelude.{IfOk}
use Rattle.cq_router.specs.Piles.{home, part_by, parts_of, piles}
use Rattle.cq_router.proofs.PileLaws.{one_row, only_row}
use Rattle.cq_router.proofs.writes.divided_parts.Goals as goal

pub returns-in-len1 : goal.returns-in-len1
returns-in-len1 c =
    let row = c.row-item.result in
    let table = c.args.table in
    let f = home c.args.catalog.now table c.args.column in
    let is : c.args.rows.now ≡ row ∷ [] = sym c.as_slice.ensures ∙ only_row c.as_slice.result.now row c.in-len1.len_at_least c.in-len1.len_below c.row-item.is in
    let group = c.home_of.ensures.group in
    let made = ap (λ g. part_by table g c.args.rows.now) group ∙ (ap (λ rows. part_by table (f row) rows) is
    ∙ (one_row f table c.args.catalog.now.groups row (subst (λ g. g < c.args.catalog.now.groups) group c.home_of.ensures.within)
    ∙ ap (λ rows. parts_of table (piles f c.args.catalog.now.groups rows)) (sym is))) in
    subst (λ ps. IfOk c.whole_part.result (λ v. v ≡ ps)) made c.whole_part.ensures
