use Rattle.std.proofs.Common.{◌≡◌, suc, ◌++◌, ◌∷◌, [], ◌+◌, ◌<◌, ◌^◌, sym, ap, subst, ◌∙◌, arith, take, drop, map, length}
use Rattle.std.specs.Prelude.{All}
use Rattle.std.proofs.lemmas.List.{take_more, length-take}
use Rattle.cq_meaning.specs.Safety.{IsSafeAggregate}
use Rattle.cq_queries.specs.Cells.{row_in, rows_in}
use Rattle.cq_queries.specs.Tallies.{tally_over, tally_with, CanTally}
use Rattle.cq_queries.proofs.TallyLaws.{tallies_more, split_at, can_tally}
use Rattle.cq_queries.proofs.aggregate.tally_rows.Goals as goal

pub add-requires : goal.add-requires
add-requires c =
    let rows = rows_in c.args.rows in
    let i = c.loop-at.at in
    let row = row_in c.row.result in
    let whole : take i rows ++ row ∷ drop (suc i) rows ≡ rows = subst (λ r. take i rows ++ r ∷ drop (suc i) rows ≡ rows) (sym c.row.ensures) (split_at rows i row (omega arith)) in
    let n = length-take i rows in
    let small : length (take i rows) < 2 ^ 64 = omega (arith, n) in
    subst (All (CanTally c.args.results.now row)) (sym c.loop-at.invariant)
    (can_tally c.args.results.now (take i rows) row (drop (suc i) rows) c.args.aggs.now (subst (λ us. All (IsSafeAggregate c.args.results.now us) c.args.aggs.now) (sym whole) c.requires) small)

pub loop-at-preserved : goal.loop-at-preserved
loop-at-preserved c =
    let rows = rows_in c.args.rows in
    let i = c.loop-at.at in
    let row = row_in c.row.result in
    let more : take (i + 1) rows ≡ take i rows ++ row ∷ [] = take_more rows i row (omega arith) ∙ ap (λ r. take i rows ++ r ∷ []) (sym c.row.ensures) in
    c.add.ensures
    ∙ (ap (λ ts. map (tally_with c.args.results.now row) ts) c.loop-at.invariant
    ∙ (tallies_more c.args.results.now (take i rows) row c.args.aggs.now
    ∙ ap (λ us. map (tally_over c.args.results.now us) c.args.aggs.now) (sym more)))
