use Rattle.std.proofs.Common.{◌≡◌, suc, ◌++◌, ◌∷◌, [], ◌+◌, ◌<◌, ◌^◌, sym, ap, subst, ◌∙◌, arith, take, drop, map, length}
use Rattle.std.specs.Prelude.{All}
use Rattle.std.proofs.lemmas.List.{take_more}
use Rattle.cq_meaning.specs.declared.Group.{Group}
use Rattle.cq_meaning.specs.Values.{Row}
use Rattle.cq_meaning.specs.Expressions.{items_of}
use Rattle.cq_meaning.specs.Groups.{groups_by}
use Rattle.cq_meaning.specs.Safety.{IsSafeAggregate}
use Rattle.cq_queries.specs.Cells.{row_in, rows_in}
use Rattle.cq_queries.specs.Tallied.{tallied, unseen, grown, put_changed}
use Rattle.cq_queries.proofs.TallyLaws.{split_at}
use Rattle.cq_queries.proofs.TalliedLaws.{groups_tallied, can_grow}
use Rattle.cq_queries.proofs.tallying.tally_groups.Goals as goal

pub put-requires : goal.put-requires
put-requires c =
    let results = c.args.results.now in
    let aggs = c.args.aggs.now in
    let rows = rows_in c.args.rows in
    let i = c.loop-at.at in
    let row = row_in c.row-row.result in
    let key : Row → Row = items_of c.args.es.now results in
    let whole : take i rows ++ row ∷ drop (suc i) rows ≡ rows = subst (λ r. take i rows ++ r ∷ drop (suc i) rows ≡ rows) (sym c.row-row.ensures) (split_at rows i row (omega arith)) in
    let safe : All (λ (g : Group). All (IsSafeAggregate results g.rows) aggs) (groups_by key (take i rows ++ row ∷ drop (suc i) rows)) =
    subst (λ us. All (λ (g : Group). All (IsSafeAggregate results g.rows) aggs) (groups_by key us)) (sym whole) c.requires.aggregates in
    let small : length (take i rows ++ row ∷ drop (suc i) rows) < 2 ^ 64 = subst (λ us. length us < 2 ^ 64) (sym whole) (omega arith) in
    rw (c.in_ok-take.ensures, c.loop-at.invariant) (can_grow results aggs key (take i rows) row (drop (suc i) rows) safe small)

pub loop-at-preserved : goal.loop-at-preserved
loop-at-preserved c =
    let results = c.args.results.now in
    let aggs = c.args.aggs.now in
    let rows = rows_in c.args.rows in
    let i = c.loop-at.at in
    let row = row_in c.row-row.result in
    let key : Row → Row = items_of c.args.es.now results in
    let more : take (i + 1) rows ≡ take i rows ++ row ∷ [] = take_more rows i row (omega arith) ∙ ap (λ r. take i rows ++ r ∷ []) (sym c.row-row.ensures) in
    c.in_ok-put.ensures
    ∙ (ap (λ k. put_changed (grown results row) (unseen results aggs k) c.loop-at.groups) c.in_ok-take.ensures
    ∙ (ap (λ gs. put_changed (grown results row) (unseen results aggs (key row)) gs) c.loop-at.invariant
    ∙ (groups_tallied results aggs key (take i rows) row
    ∙ ap (λ us. map (tallied results aggs) (groups_by key us)) (sym more))))
