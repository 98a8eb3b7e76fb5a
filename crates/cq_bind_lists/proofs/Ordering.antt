-- A key of ORDER BY that is a value.
use Rattle.std.proofs.Common.{◌≡◌, ℕ, Bool, List, length, Result, Ok, sym, subst}
use Rattle.cq_grammar.specs.declared.query.OrderKey.{OrderKey, out-OrderKey}
use Rattle.cq_reading.specs.declared.bound.Found.{Found}
use Rattle.cq_reading.specs.declared.bound.Bound.{Bound}
use Rattle.cq_reading.specs.declared.bound.Shown.{Shown}
use Rattle.cq_reading.specs.declared.bound.Ordered.{Ordered}
use Rattle.cq_reading.specs.declared.error.BindError.{BindError}
use Rattle.cq_reading.specs.Outcomes.{Binds, Judges}
use Rattle.cq_reading.specs.Scopes.{Context}
use Rattle.cq_reading.specs.Expressions.{reads}
use Rattle.cq_reading.specs.Selects.{descends, value_of, key_by_value, order_by_expression}
use Rattle.cq_reading.specs.Walk.{part_of, order_part}
use Rattle.cq_bind_looks.proofs.Looks.{order_part_is}
use Rattle.cq_bind_calls.proofs.Loops.{binds_then}

pub by_value : (k : OrderKey) (cx : Context) (outputs : List Shown) (distinct : Bool) (o : Ordered) (f g : Found) (b : Bound) (d : Bool) (at : ℕ) (res : Result Ordered BindError)
    → value_of (part_of (out-OrderKey k).key).at (reads (part_of (out-OrderKey k).key) cx) f ≡ Ok (b, g) → d ≡ descends (out-OrderKey k).direction → at ≡ (part_of (out-OrderKey k).key).at → Judges (key_by_value 0 distinct d at o b) res
    → Binds (order_by_expression cx outputs distinct (order_part k) o f) res g
by_value k cx outputs distinct o f g b d at res e p q h =
    subst (λ x. Binds (order_by_expression cx outputs distinct x o f) res g) (sym (order_part_is k))
    (binds_then (key_by_value (length outputs) distinct (descends (out-OrderKey k).direction) (part_of (out-OrderKey k).key).at o) _ b g res g e
    (subst (λ t. Binds (key_by_value 0 distinct t (part_of (out-OrderKey k).key).at o b g) res g) p (subst (λ n. Binds (key_by_value 0 distinct d n o b g) res g) q (h g))))
