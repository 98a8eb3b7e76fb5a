-- The columns of keys and aggregates have their types.
use Rattle.std.proofs.Common.{◌≡◌, ℕ, zero, suc, ◌+◌, ◌<◌, if◌then◌else◌, Bool, true, false, List, [], ◌∷◌, ◌++◌, map, length, get_or, refl, sym, ◌∙◌, ap, subst, arith, Option, None, Some}
use Rattle.std.specs.Prelude.{position, slice_index_or, unwrap_or}
use Rattle.std.specs.List.{AllByRecursion}
use Rattle.std.proofs.lemmas.List.Quantifiers.{position-Some}
use Rattle.cq_value.proofs.Lists.{append_nil}
use Rattle.cq_tree.specs.declared.expression.Expr.{Expr}
use Rattle.cq_tree.specs.declared.query.Agg.{Agg}
use Rattle.cq_reading.specs.declared.bound.Type.TheVariants as type
use Rattle.cq_reading.specs.Widths.{ValueType, is_some}
use Rattle.cq_reading.specs.Equal.{equal_aggs}
use Rattle.cq_tree.specs.Equal.{equal_exprs}
use Rattle.cq_reading.specs.Rules.{place_among, with_aggregate}
use Rattle.cq_reading_laws.specs.Typing.{type_over, type_of_aggregate, group_types}
use Rattle.cq_same.proofs.Equals.{exprs_same}
use Rattle.cq_reading_laws.proofs.Equals.{aggs_same}

abbrev at : List ValueType → ℕ → ValueType
at ts i = slice_index_or ts i type.Null

mapped : {A : Type 0} (f : A → ValueType) (xs : List A) (i : ℕ) (d : A) (rest : List ValueType) → i < length xs → (i < length (map f xs ++ rest)) × (at (map f xs ++ rest) i ≡ f (get_or xs i d))
mapped f [] i d rest h = absurd (omega (arith, h))
mapped f (x ∷ xs) zero d rest h = (omega arith, refl)
mapped f (x ∷ xs) (suc i) d rest h = let k = mapped f xs i d rest (omega (arith, h)) in (omega (arith, k.0), k.1)

behind : {A : Type 0} (f : A → ValueType) (xs : List A) (i : ℕ) (rest : List ValueType) → i < length rest → (length xs + i < length (map f xs ++ rest)) × (at (map f xs ++ rest) (length xs + i) ≡ at rest i)
behind f [] i rest h = let e : 0 + i ≡ i = omega arith in (omega (arith, h), ap (λ j. at rest j) e)
behind f (x ∷ xs) i rest h =
    let k = behind f xs i rest h in
    let e : length (x ∷ xs) + i ≡ suc (length xs + i) = omega arith in
    (omega (arith, k.0), ap (λ j. at (f x ∷ (map f xs ++ rest)) j) e ∙ k.1)

-- of a key
pub key_has_type : (ts : List ValueType) (e : Expr) (keys : List Expr) (aggs : List Agg) (i : ℕ) → position (equal_exprs e) keys ≡ Some i
    → (i < length (group_types ts keys aggs)) × (slice_index_or (group_types ts keys aggs) i type.Null ≡ type_over ts e)
key_has_type ts e keys aggs i is =
    let p = position-Some (equal_exprs e) keys i e is in
    let k = mapped (type_over ts) keys i e (map (type_of_aggregate ts) aggs) p.0 in
    (k.0, k.1 ∙ ap (type_over ts) (sym (exprs_same e (get_or keys i e) p.1)))

-- an aggregate, at its place among those that there are then
abbrev AtPlace : List Agg → List Agg → ℕ → Agg → Type 0
AtPlace aggs more i a = (i < length (aggs ++ more)) × (get_or (aggs ++ more) i a ≡ a)

at_left : (aggs more : List Agg) (i : ℕ) (a : Agg) → i < length aggs → get_or aggs i a ≡ a → AtPlace aggs more i a
at_left [] more i a h e = absurd (omega (arith, h))
at_left (x ∷ aggs) more zero a h e = (omega arith, e)
at_left (x ∷ aggs) more (suc i) a h e = let k = at_left aggs more i a (omega (arith, h)) e in (omega (arith, k.0), k.1)

at_end : (aggs more : List Agg) (a : Agg) → AtPlace (aggs ++ a ∷ []) more (length aggs) a
at_end [] more a = (omega arith, refl)
at_end (x ∷ aggs) more a = let k = at_end aggs more a in (omega (arith, k.0), k.1)

at_place : (aggs more : List Agg) (a : Agg) (o : Option ℕ) → position (equal_aggs a) aggs ≡ o → AtPlace (if is_some o then aggs else aggs ++ a ∷ []) more (unwrap_or o (length aggs)) a
at_place aggs more a None is = at_end aggs more a
at_place aggs more a (Some i) is =
    let p = position-Some (equal_aggs a) aggs i a is in
    at_left aggs more i a p.0 (sym (aggs_same a (get_or aggs i a) p.1))

-- of an aggregate
pub aggregate_has_type : (ts : List ValueType) (keys : List Expr) (aggs later more : List Agg) (a : Agg) → later ≡ with_aggregate aggs a ++ more
    → (length keys + place_among aggs a < length (group_types ts keys later)) × (slice_index_or (group_types ts keys later) (length keys + place_among aggs a) type.Null ≡ type_of_aggregate ts a)
aggregate_has_type ts keys aggs later more a is =
    let p = at_place aggs more a (position (equal_aggs a) aggs) refl in
    let i = place_among aggs a in
    let q : (i < length later) × (get_or later i a ≡ a) = subst (λ l. (i < length l) × (get_or l i a ≡ a)) (sym is) p in
    let m = mapped (type_of_aggregate ts) later i a [] q.0 in
    let e = append_nil (map (type_of_aggregate ts) later) in
    let b = behind (type_over ts) keys i (map (type_of_aggregate ts) later) (subst (λ l. i < length l) e m.0) in
    (b.0, b.1 ∙ (ap (λ l. at l i) (sym e) ∙ (m.1 ∙ ap (type_of_aggregate ts) q.1)))

all_with : (P : Agg → Type 0) (aggs : List Agg) (a : Agg) (t : Bool) → AllByRecursion P aggs → P a → AllByRecursion P (if t then aggs else aggs ++ a ∷ [])
all_with P aggs a true h k = h
all_with P [] a false h k = (k, tt)
all_with P (b ∷ aggs) a false h k = (h.0, all_with P aggs a false h.1 k)

pub all_aggregates : (P : Agg → Type 0) (aggs : List Agg) (a : Agg) → AllByRecursion P aggs → P a → AllByRecursion P (with_aggregate aggs a)
all_aggregates P aggs a h k = all_with P aggs a (is_some (position (equal_aggs a) aggs)) h k
