use Rattle.std.proofs.Common.{[], ap, ◌∙◌, arith}
use Rattle.std.specs.List.{list_any}
use Rattle.cq_meaning.specs.Expressions.{items_of}
use Rattle.cq_meaning.specs.Groups.{groups_by}
use Rattle.cq_meaning.specs.Limits.{is_large_group}
use Rattle.cq_queries.specs.Cells.{rows_in}
use Rattle.cq_queries.specs.Tallied.{is_large_tallied}
use Rattle.cq_queries.proofs.GroupPush.{by_keys}
use Rattle.cq_queries.proofs.TalliedLaws.{large_are}
use Rattle.cq_queries.proofs.tallying.is_one_large.Goals as goal

pub tally_groups-requires-clause-aggregates : goal.tally_groups-requires-clause-aggregates
tally_groups-requires-clause-aggregates c = λ i g lt j a low. absurd (omega (arith, low))

pub returns : goal.returns
returns c =
    let es = c.args.es.now in
    let results = c.args.results.now in
    let rows = rows_in c.args.rows in
    c.has_large.ensures
    ∙ (ap (λ gs. list_any is_large_tallied gs) c.in_ok-groups.ensures
    ∙ (large_are results [] (groups_by (items_of es results) rows)
    ∙ ap (λ gs. list_any is_large_group gs) (by_keys es results rows c.requires.keyed)))
