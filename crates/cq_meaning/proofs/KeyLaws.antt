-- The order by keys is total.
use Rattle.std.proofs.Common.{Bool, true, false, List, [], ◌∷◌, refl, Ordering, Equal}
use Rattle.std.specs.Ordering.{on, is_lt}
use Rattle.std.specs.Cmp.{IsTotalOrder, IsStrictWeakOrder}
use Rattle.std.proofs.lemmas.Cmp.{on_total, then_total, back_total}
use Rattle.std.proofs.lemmas.List.Sorted.{ranks_by}
use Rattle.cq_value.specs.Order.{value_cmp}
use Rattle.cq_value.proofs.OrderLaws.{value_cmp_total}
use Rattle.cq_tree.specs.declared.query.Key.{Key}
use Rattle.cq_meaning.specs.Values.{Row, column}
use Rattle.cq_meaning.specs.Sorting.{directed, keys_cmp}

directed_total : {X : Type 0} (b : Bool) (R : X → X → Ordering) → IsTotalOrder R → IsTotalOrder (directed b R)
directed_total false R o = o
directed_total true R o = back_total o

same_total : IsTotalOrder (λ (x y : Row). Equal)
same_total = record { antisymm = λ x y. refl; trans = λ x y z p q. p; congr = λ x y z p. refl }

pub keys_total : (ks : List Key) → IsTotalOrder (keys_cmp ks)
keys_total [] = same_total
keys_total (k ∷ ks) = then_total (directed_total k.descending (on (λ r. column r k.item) value_cmp) (on_total (λ r. column r k.item) value_cmp_total)) (keys_total ks)

pub keys_weak : (ks : List Key) → IsStrictWeakOrder (λ x y. is_lt (keys_cmp ks x y))
keys_weak ks = ranks_by (keys_total ks) (λ r. r)
