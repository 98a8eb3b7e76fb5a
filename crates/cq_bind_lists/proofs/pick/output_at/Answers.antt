use Rattle.std.proofs.Common.{rules, refl, map, ◌-◌}
use Rattle.cq_reading.specs.Selects.{targets}
use Rattle.cq_reading.specs.Walk.{item_part}
use Rattle.cq_bind_lists.proofs.Grouping.{by_place, no_place}
use Rattle.cq_bind_lists.proofs.Picks.{binds_picked}
use Rattle.cq_bind_calls.proofs.Loops.{binds_then, refused_then}
use Rattle.cq_bind_lists.specs.Picks.{the_pick}
use Rattle.cq_bind_lists.proofs.pick.output_at.Goals as goal

pub returns-then-n-eq0 : goal.returns-then-n-eq0
returns-then-n-eq0 g c = no_place c.args.scope.now (targets c.args.scope.now.columns (map item_part c.args.items.now)) c.args.n c.args.at c.args.found.now c.args.found.now _ c.if-n-eq0.true (search rules)

pub returns-in_err-pick : goal.returns-in_err-pick
returns-in_err-pick g c =
    by_place c.args.scope.now (targets c.args.scope.now.columns (map item_part c.args.items.now)) c.args.n (c.args.n - 1) c.args.at c.args.found.now _ c.picked.new.found c.if-n-eq0.false refl
    (binds_picked c.args.scope.now c.args.at (targets c.args.scope.now.columns (map item_part c.args.items.now)) (c.args.n - 1) c.args.found.now _ c.picked.new.found (refused_then _ (the_pick c.args.at) _ c.picked.new.found _ _ c.in_err-pick.ensures c.from_residual.ensures.1))

pub returns : goal.returns
returns g c =
    by_place c.args.scope.now (targets c.args.scope.now.columns (map item_part c.args.items.now)) c.args.n (c.args.n - 1) c.args.at c.args.found.now _ c.picked.new.found c.if-n-eq0.false refl
    (binds_picked c.args.scope.now c.args.at (targets c.args.scope.now.columns (map item_part c.args.items.now)) (c.args.n - 1) c.args.found.now _ c.picked.new.found (binds_then (the_pick c.args.at) _ _ _ _ _ c.in_ok-pick.ensures (c.the_pick.ensures _)))
