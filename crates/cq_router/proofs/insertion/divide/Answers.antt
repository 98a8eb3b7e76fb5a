use Rattle.std.proofs.Common.{◌≡◌, ℕ, ◌+◌, ◌<◌, ◌++◌, [], ◌∷◌, List, length, take, sym, ap, ◌∙◌, arith}
use Rattle.std.proofs.lemmas.List.{take_more}
use Rattle.cq_meaning.specs.Values.{Row}
use Rattle.cq_router.specs.declared.insertion.Pile.{Pile}
use Rattle.cq_router.specs.Piles.{home, piles, added}
use Rattle.cq_router.proofs.PileLaws.{length_piles, row_added}
use Rattle.cq_router.proofs.insertion.divide.Goals as goal

pub put_row-requires : goal.put_row-requires
put_row-requires c =
    rw c.loop-row.invariant (rw length_piles c.home_of-group.ensures.within)

pub loop-row-preserved : goal.loop-row-preserved
loop-row-preserved c =
    let f : Row → ℕ = home c.args.catalog.now c.args.table c.args.column in
    let i : ℕ = c.loop-row.row-index in
    let row : Row = c.row-item.result in
    let h : i < length c.args.rows.now = omega arith in
    let more : take (i + 1) c.args.rows.now ≡ take i c.args.rows.now ++ row ∷ [] = take_more c.args.rows.now i row h ∙ ap (λ (r : Row). take i c.args.rows.now ++ r ∷ []) (sym c.row-item.is) in
    c.in_ok-put_row.ensures
    ∙ (ap (λ (ps : List Pile). added ps c.home_of-group.result c.in_ok-copy.field-0) c.loop-row.invariant
    ∙ (ap (λ (r : Row). added (piles f c.args.catalog.now.groups (take i c.args.rows.now)) c.home_of-group.result r) c.in_ok-copy.ensures
    ∙ (row_added f c.args.catalog.now.groups (take i c.args.rows.now) row c.home_of-group.result c.home_of-group.ensures.group c.home_of-group.ensures.within
    ∙ ap (piles f c.args.catalog.now.groups) (sym more))))
