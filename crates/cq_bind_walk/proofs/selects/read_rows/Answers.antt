use Rattle.std.proofs.Common.{ap, ◌∙◌}
use Rattle.cq_bind_walk.specs.Blocks.{layer_of, conditions_reading, made, rows_of, rows_from}
use Rattle.cq_bind_walk.proofs.Made.{binds_pair, made_twice}
use Rattle.cq_bind_walk.proofs.selects.read_rows.Goals as goal

pub returns : goal.returns
returns g c =
    binds_pair (conditions_reading (layer_of c.args.q.now) c.args.world.now) rows_of _ _ _ _ _ _ c.in_ok-relations.ensures c.conditions-conditions.ensures
    (c.rows_of.ensures ∙ ap (made rows_from) c.beside.ensures ∙ made_twice rows_from (λ y. (c.in_ok-relations.relations, y)) c.conditions-conditions.result)
