-- Whether an aggregate stands in a select list or in ORDER BY.
use Rattle.std.proofs.Common.{◌≡◌, ◌||◌, List, [], ◌∷◌, map, refl, ap, ◌∙◌}
use Rattle.std.specs.List.{list_any}
use Rattle.cq_grammar.specs.declared.query.Item.{Item}
use Rattle.cq_grammar.specs.declared.query.OrderKey.{OrderKey, out-OrderKey}
use Rattle.cq_reading.specs.Selects.{has_aggregate}
use Rattle.cq_reading.specs.Walk.{part_of, item_part, order_part}
use Rattle.cq_bind_looks.specs.Marks.{items_aggregate, keys_aggregate}
use Rattle.cq_bind_looks.proofs.Looks.{order_part_is}

pub items_is : (items : List Item) → list_any has_aggregate (map item_part items) ≡ items_aggregate items
unfolding items_aggregate
items_is [] = refl
items_is (i ∷ more) = ap (λ b. has_aggregate (item_part i) || b) (items_is more)

pub keys_is : (keys : List OrderKey) → list_any (λ o. o.key.aggregates) (map order_part keys) ≡ keys_aggregate keys
unfolding keys_aggregate
keys_is [] = refl
keys_is (k ∷ more) = ap (λ o. o.key.aggregates || list_any (λ o. o.key.aggregates) (map order_part more)) (order_part_is k) ∙ ap (λ b. (part_of (out-OrderKey k).key).aggregates || b) (keys_is more)

pub ruleset grouping = (items_is, keys_is)
