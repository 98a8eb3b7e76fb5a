use Rattle.std.proofs.Common.{◌-◌, ◌/◌, length, refl}
use Rattle.cq_planner.proofs.LoneLaws.{two_halved, rest_taken}
use Rattle.cq_planner.proofs.lone.+equals_any.Goals as goal

pub returns-in_ok-all-in-len2-up : goal.returns-in_ok-all-in-len2-up
returns-in_ok-all-in-len2-up t c =
    rw c.in_ok-all-in-len2-up.ensures (two_halved c.args.column c.args.values.now _ _ (length c.args.values.now - length c.args.values.now / 2) c.in_ok-first-in-len2-up.first c.in_ok-second-in-len2-up.second
    c.in-len2-up.len_at_least refl refl (rest_taken (length c.args.values.now - length c.args.values.now / 2) c.args.values.now) c.in_ok-first-in-len2-up.ensures c.in_ok-second-in-len2-up.ensures)
