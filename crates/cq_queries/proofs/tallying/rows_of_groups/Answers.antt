use Rattle.std.proofs.Common.{◌≡◌, sym, ap, subst, ◌∙◌, map}
use Rattle.std.specs.Prelude.{All, IfOk}
use Rattle.cq_meaning.specs.declared.Group.{Group}
use Rattle.cq_meaning.specs.Expressions.{items_of}
use Rattle.cq_meaning.specs.Groups.{group_row, groups_by, groups_of}
use Rattle.cq_meaning.specs.Safety.{IsSafeAggregate}
use Rattle.cq_queries.specs.Cells.{rows_in}
use Rattle.cq_queries.specs.Tallied.{row_of_tallied}
use Rattle.cq_queries.proofs.GroupPush.{by_keys}
use Rattle.cq_queries.proofs.TalliedLaws.{rows_are}
use Rattle.cq_queries.proofs.tallying.rows_of_groups.Goals as goal

pub tally_groups-requires-clause-aggregates : goal.tally_groups-requires-clause-aggregates
tally_groups-requires-clause-aggregates c =
    subst (λ gs. All (λ (g : Group). All (IsSafeAggregate c.args.results.now g.rows) c.args.aggs.now) gs)
    (sym (by_keys c.args.es.now c.args.results.now (rows_in c.args.rows) c.requires.keyed)) c.requires.aggregates

pub returns : goal.returns
returns c =
    let es = c.args.es.now in
    let results = c.args.results.now in
    let aggs = c.args.aggs.now in
    let rows = rows_in c.args.rows in
    let eq : map row_of_tallied c.in_ok-groups.groups ≡ map (group_row aggs results) (groups_of es results rows) =
    ap (λ gs. map row_of_tallied gs) c.in_ok-groups.ensures
    ∙ (rows_are results aggs (groups_by (items_of es results) rows)
    ∙ ap (λ gs. map (group_row aggs results) gs) (by_keys es results rows c.requires.keyed)) in
    subst (λ us. IfOk c.rows.result (λ made. made ≡ us)) eq c.rows.ensures
