use Rattle.std.proofs.Common.{map, sym, subst}
use Rattle.std.specs.Option.{option_map}
use Rattle.cq_reading.specs.Outcomes.{Binds}
use Rattle.cq_reading.specs.Selects.{targets, group_keys as keys_of}
use Rattle.cq_reading.specs.Walk.{item_part, group_part}
use Rattle.cq_bind_lists.proofs.groups.group_keys.Goals as goal

pub returns-in-Some : goal.returns-in-Some
returns-in-Some g c = subst (λ o. Binds (keys_of c.args.scope.now (targets c.args.scope.now.columns (map item_part c.args.items.now)) c.args.scope.now.joined (option_map group_part o) c.args.found.now) c.group_by.result c.group_by.new.found) (sym c.in-Some.is) c.group_by.ensures
