-- The rules over operands that name only such results give what names only such results.
use Rattle.std.proofs.Common.{ℕ, zero, suc, ℤ, ◌+◌, ◌-◌, ◌/◌, Bool, true, ◌&&◌, not, List, [], ◌∷◌, ◌++◌, map, length, take, drop, if◌then◌else◌, refl, Option, None, Some, Result, Ok, Err}
use Rattle.std.specs.Prelude.{false, position}
use Rattle.std.specs.List.{AllByRecursion, list_all}
use Rattle.cq_meaning_laws.proofs.WithinLaws.{all_drop, all_take}
use Rattle.cq_tree.specs.declared.expression.Op.TheVariants as op
use Rattle.cq_tree.specs.declared.expression.Expr.{Expr, Column, Add, Sub, Mul, Neg, Div, Rem, Case, Coalesce}
use Rattle.cq_tree.specs.declared.expression.Cond.{Cond, Compare, IsNull, And}
use Rattle.cq_tree.specs.declared.query.Agg.{Agg}
use Rattle.cq_tree.specs.declared.query.Agg.TheVariants as agg
use Rattle.cq_grammar.specs.declared.expr.AddOperator.{AddOperator}
use Rattle.cq_grammar.specs.declared.expr.AddOperator.TheVariants as add
use Rattle.cq_grammar.specs.declared.expr.MultiplyOperator.{MultiplyOperator}
use Rattle.cq_grammar.specs.declared.expr.MultiplyOperator.TheVariants as multiply
use Rattle.cq_grammar.specs.declared.expr.Comparison.{Comparison}
use Rattle.cq_grammar.specs.declared.expr.Aggregate.{Aggregate}
use Rattle.cq_grammar.specs.declared.expr.Aggregate.TheVariants as aggregate
use Rattle.cq_reading.specs.declared.bound.Found.{Found}
use Rattle.cq_reading.specs.declared.bound.Source.{Source}
use Rattle.cq_reading.specs.declared.bound.Bound.{Bound}
use Rattle.cq_reading.specs.declared.bound.Bound.TheVariants.{Value, Truth}
use Rattle.cq_reading.specs.declared.bound.Type.TheVariants as type
use Rattle.cq_reading.specs.declared.error.BindError.{BindError}
use Rattle.cq_reading.specs.declared.error.BindError.TheVariants as error
use Rattle.cq_reading.specs.Steps.{Reading, give, provided, ◌then◌}
use Rattle.cq_reading.specs.Widths.{ValueType, expr_of, width_of, cond_of, is_number, common_of, fits_width, greatest_width, is_some, is_truth, count_width, sum_width, product_width}
use Rattle.cq_reading.specs.Equal.{equal_aggs}
use Rattle.cq_reading.specs.Scopes.{Context, Place, Nowhere, Once, Repeated, found_column, column_bound, column_at}
use Rattle.cq_reading.specs.Rules as rule
use Rattle.cq_plan_laws.specs.Scoping.{Names, CondNames, AggNames}
use Rattle.cq_bound_laws.proofs.NamedForms.{BoundNames, names_neg, names_add, names_sub, names_mul, names_div, names_rem, names_and, names_negated, names_joined, names_listed, names_coalesce, PairNames, names_case}
use Rattle.cq_bound_laws.proofs.NamedReadings.{AggsName, Reads, adds_none, reads_give, reads_refuse, reads_provided, reads_then}

module _ (O P : ℕ → Type 0) (may : Bool) where
  -- under C it gives what names only such results
  abbrev pub Gives : Type 0 → Reading Bound → Type 0
  Gives C r = Reads O P may C (BoundNames P) r

  module _ (C : Type 0) where
    pub gives_value : (e : Expr) (t : ValueType) (width : ℕ) → (C → Names P e) → Gives C (give (Value e t width))
    gives_value e t width h = reads_give O P may C (BoundNames P) (Value e t width) (λ c. (h c, tt))

    -- provided that some tests hold
    pub gives_where : (t : Bool) (e : BindError) (r : Reading Bound) → Gives C r → Gives C (provided t e r)
    gives_where t e r h = reads_provided O P may C (BoundNames P) t e r h

    numbers_give : (e : Expr) (width : ℕ) (fit : Bool) (at : ℕ) → (C → Names P e) → Gives C (rule.numbers e width fit at)
    numbers_give e width fit at h =
        gives_where fit (error.Type at) _ (gives_where (fits_width width) (error.TooWide at) (give (Value e type.Number width)) (gives_value e type.Number width h))

    pub added_gives : (o : AddOperator) (a b : Bound) (at : ℕ) → (C → BoundNames P a × BoundNames P b) → Gives C (rule.added o a b at)
    added_gives add.Plus a b at h = numbers_give (Add (expr_of a) (expr_of b)) (sum_width (width_of a) (width_of b)) (is_number a && is_number b) at (λ c. let k = h c in names_add P (expr_of a) (expr_of b) k.0.0 k.1.0)
    added_gives add.Minus a b at h = numbers_give (Sub (expr_of a) (expr_of b)) (sum_width (width_of a) (width_of b)) (is_number a && is_number b) at (λ c. let k = h c in names_sub P (expr_of a) (expr_of b) k.0.0 k.1.0)

    pub signed_gives : (o : AddOperator) (a : Bound) (at : ℕ) → (C → BoundNames P a) → Gives C (rule.signed o a at)
    signed_gives add.Plus a at h = numbers_give (expr_of a) (width_of a) (is_number a) at (λ c. (h c).0)
    signed_gives add.Minus a at h = numbers_give (Neg (expr_of a)) (width_of a + 1) (is_number a) at (λ c. names_neg P (expr_of a) (h c).0)

    divided_gives : (make : Expr → ℤ → Expr) (width : ℕ) (a : Bound) (at : ℕ) (c : Option ℤ) → ((c : ℤ) → C → Names P (make (expr_of a) c)) → Gives C (rule.divided_by make width a at c)
    divided_gives make width a at None h = reads_refuse O P may Bound C (BoundNames P) (error.Divisor at)
    divided_gives make width a at (Some c) h =
        gives_where _ (error.Divisor at) _ (gives_where (fits_width width) (error.TooWide at) (give (Value (make (expr_of a) c) type.Number width)) (gives_value (make (expr_of a) c) type.Number width (h c)))

    pub multiplied_gives : (o : MultiplyOperator) (a b : Bound) (c : Option ℤ) (at : ℕ) → (C → BoundNames P a × BoundNames P b) → Gives C (rule.multiplied o a b c at)
    multiplied_gives multiply.Times a b c at h = numbers_give (Mul (expr_of a) (expr_of b)) (product_width (width_of a) (width_of b)) (is_number a && is_number b) at (λ c. let k = h c in names_mul P (expr_of a) (expr_of b) k.0.0 k.1.0)
    multiplied_gives multiply.Divide a b c at h =
        gives_where (is_number a && is_number b) (error.Type at) (rule.divided_by Div (width_of a + 1) a at c) (divided_gives Div (width_of a + 1) a at c (λ d k. names_div P (expr_of a) d (h k).0.0))
    multiplied_gives multiply.Remainder a b c at h =
        gives_where (is_number a && is_number b) (error.Type at) (rule.divided_by Rem (width_of a) a at c) (divided_gives Rem (width_of a) a at c (λ d k. names_rem P (expr_of a) d (h k).0.0))

    -- ---- conditions

    condition_gives : (d : Cond) (fit : Bool) (at : ℕ) → (C → CondNames P d) → Gives C (rule.condition d fit at)
    condition_gives d fit at h = gives_where fit (error.Type at) (give (Truth d)) (reads_give O P may C (BoundNames P) (Truth d) (λ c. (tt, h c)))

    pub compared_gives : (o : Comparison) (a b : Bound) (at : ℕ) → (C → BoundNames P a × BoundNames P b) → Gives C (rule.compared o a b at)
    compared_gives o a b at h = condition_gives (Compare (rule.op_of o) (expr_of a) (expr_of b)) _ at (λ c. let k = h c in (k.0.0, k.1.0))

    pub negated_gives : (a : Bound) (at : ℕ) → (C → BoundNames P a) → Gives C (rule.negated a at)
    negated_gives a at h = condition_gives (rule.negated_if true (cond_of a)) (is_truth a) at (λ c. names_negated P true (cond_of a) (h c).1)

    pub null_tested_gives : (not_null : Bool) (a : Bound) (at : ℕ) → (C → BoundNames P a) → Gives C (rule.null_tested not_null a at)
    null_tested_gives not_null a at h = condition_gives (rule.negated_if not_null (IsNull (expr_of a))) _ at (λ c. names_negated P not_null (IsNull (expr_of a)) (h c).0)

    pub between_gives : (negate : Bool) (x a b : Bound) (at : ℕ) → (C → BoundNames P x × BoundNames P a × BoundNames P b) → Gives C (rule.between negate x a b at)
    between_gives negate x a b at h =
        let d = Compare op.Ge (expr_of x) (expr_of a) in let e = Compare op.Le (expr_of x) (expr_of b) in
        condition_gives (rule.negated_if negate (And d e)) _ at (λ c. let k = h c in names_negated P negate (And d e) (names_and P d e (k.0.0, k.1.0) (k.0.0, k.2.0)))

    pub listed_gives : (negate : Bool) (x : Bound) (items : List Bound) (at : ℕ) → (C → BoundNames P x × AllByRecursion (BoundNames P) items) → Gives C (rule.listed negate x items at)
    listed_gives negate x items at h = condition_gives (rule.negated_if negate (rule.halved true (map (λ i. Compare op.Eq (expr_of x) (expr_of i)) items))) _ at (λ c. let k = h c in names_listed P op.Eq negate x items k.0.0 k.1)

    pub joined_gives : (any : Bool) (a b : Bound) (at : ℕ) → (C → BoundNames P a × BoundNames P b) → Gives C (rule.joined any a b at)
    joined_gives any a b at h = condition_gives (rule.joined_by any (cond_of a) (cond_of b)) _ at (λ c. let k = h c in names_joined P any (cond_of a) (cond_of b) k.0.1 k.1.1)

    -- ---- CASE and COALESCE

    of_type_gives : (t : Option ValueType) (e : Expr) (width at : ℕ) → (C → Names P e) → Gives C (rule.of_type t e width at)
    of_type_gives None e width at h = reads_refuse O P may Bound C (BoundNames P) (error.Type at)
    of_type_gives (Some t) e width at h = gives_value e t width h

    pub coalesced_gives : (bs : List Bound) (at : ℕ) → (C → AllByRecursion (BoundNames P) bs) → Gives C (rule.coalesced bs at)
    coalesced_gives bs at h = of_type_gives (common_of bs) (Coalesce (map expr_of bs)) _ at (λ c. names_coalesce P bs (h c))

    pub chosen_gives : (arms : List rule.Pair) (other : Bound) (at : ℕ) → (C → AllByRecursion (PairNames P) arms × BoundNames P other) → Gives C (rule.chosen arms other at)
    chosen_gives arms other at h =
        let results = map (λ p. p.1) arms ++ other ∷ [] in
        gives_where (list_all (λ p. is_truth p.0) arms) (error.Type at) (rule.of_type (common_of results) (Case (map rule.arm_of arms) (expr_of other)) (greatest_width results) at)
        (of_type_gives (common_of results) (Case (map rule.arm_of arms) (expr_of other)) (greatest_width results) at (λ c. let k = h c in names_case P arms (expr_of other) k.0 k.1.0))

    -- ---- aggregates

    with_agg : (t : Bool) (aggs : List Agg) (a : Agg) → AggsName O P aggs → AggNames P a → AggsName O P (if t then aggs else aggs ++ a ∷ [])
    with_agg true aggs a h k = h
    with_agg false [] a h k = (k, tt)
    with_agg false (b ∷ bs) a h k = (h.0, with_agg false bs a h.1 k)

    aggregated_gives : (cx : Context) (a : Agg) (t : ValueType) (width : ℕ) → (C → AggNames P a) → Gives C (rule.aggregated cx a t width)
    unfolding Reads
    aggregated_gives cx a t width h f =
        let at = length cx.keys + rule.place_among f.aggs a in
        adds_none O P may C (BoundNames P) f (Value (Column at) t width) (record f { aggs = rule.with_aggregate f.aggs a }) refl refl refl
        (λ c aggs. ((tt, tt), with_agg (is_some (position (equal_aggs a) f.aggs)) f.aggs a aggs (h c)))

    pub counted_gives : (cx : Context) (at : ℕ) → Gives C (rule.counted cx at)
    counted_gives cx at =
        gives_where cx.may_aggregate (error.NotGrouped at) _ (gives_where (not cx.joined) (error.GroupedJoin at) (rule.aggregated cx agg.CountAll type.Number count_width)
        (aggregated_gives cx agg.CountAll type.Number count_width (λ c. tt)))

    agg_names : (f : Aggregate) (e : Expr) → Names P e → AggNames P (rule.agg_of f e)
    agg_names aggregate.Count e h = h
    agg_names aggregate.Sum e h = h
    agg_names aggregate.Min e h = h
    agg_names aggregate.Max e h = h

    pub summed_gives : (cx : Context) (f : Aggregate) (a : Bound) (at : ℕ) → (C → BoundNames P a) → Gives C (rule.summed cx f a at)
    summed_gives cx f a at h =
        let last = rule.aggregated cx (rule.agg_of f (expr_of a)) (rule.aggregate_type f a) (rule.aggregate_width f a) in
        gives_where cx.may_aggregate (error.NotGrouped at) _ (gives_where (rule.takes f a) (error.Type at) _ (gives_where (fits_width (rule.aggregate_width f a)) (error.TooWide at) _
        (gives_where (not cx.joined) (error.GroupedJoin at) last (aggregated_gives cx (rule.agg_of f (expr_of a)) (rule.aggregate_type f a) (rule.aggregate_width f a) (λ c. agg_names f (expr_of a) (h c).0)))))

    -- ---- keys and columns

    key_gives : (i : Option ℕ) (t : ValueType) (width : ℕ) (r : Reading Bound) → Gives C r → Gives C (rule.if_key (rule.key_at i t width) r)
    key_gives None t width r h = h
    key_gives (Some i) t width r h = gives_value (Column i) t width (λ c. tt)

    if_key_gives : (keys : List Expr) (b : Bound) (r : Reading Bound) → Gives C r → Gives C (rule.if_key (rule.key_column keys b) r)
    if_key_gives keys (Value e t w) r h = key_gives _ t w r h
    if_key_gives keys (Truth d) r h = h

    keyed_by_gives : (keys : List Expr) (o : Result (Bound × Found) BindError) (r : Reading Bound) → Gives C r → Gives C (rule.keyed_by keys o r)
    keyed_by_gives keys (Ok p) r h = if_key_gives keys p.0 r h
    keyed_by_gives keys (Err e) r h = h

    pub keyed_gives : (keys : List Expr) (before r : Reading Bound) → Gives C r → Gives C (rule.keyed keys before r)
    unfolding Reads
    keyed_gives keys before r h f = keyed_by_gives keys (before rule.nothing) r h f

    column_names : (i : ℕ) (s : Option Source) → BoundNames P (column_bound i s)
    column_names i None = (tt, tt)
    column_names i (Some s) = (tt, tt)

    pub column_gives : (cx : Context) (i : ℕ) → Gives C (give (column_at cx i))
    column_gives cx i = reads_give O P may C (BoundNames P) (column_at cx i) (λ c. column_names _ _)

    pub found_column_gives : (cx : Context) (at : ℕ) (p : Place) → Gives C (found_column cx at p)
    found_column_gives cx at Nowhere = reads_refuse O P may Bound C (BoundNames P) (error.Unknown at)
    found_column_gives cx at Repeated = reads_refuse O P may Bound C (BoundNames P) (error.Ambiguous at)
    found_column_gives cx at (Once i) = column_gives cx i

  -- ---- chains

  abbrev pub PartNames : rule.ChainPart → Type 0
  PartNames p = BoundNames P p.0

  pub chain_gives : (C : Type 0) (most : ℕ) (any : Bool) (parts : List rule.ChainPart) → (C → AllByRecursion PartNames parts) → Gives C (rule.chain_of most any parts)
  chain_gives C most any [] h = reads_give O P may C (BoundNames P) _ (λ c. (tt, tt))
  chain_gives C most any (p ∷ []) h = reads_give O P may C (BoundNames P) p.0 (λ c. (h c).0)
  chain_gives C zero any (p ∷ q ∷ more) h = reads_give O P may C (BoundNames P) _ (λ c. (tt, tt))
  chain_gives C (suc most) any (p ∷ q ∷ more) h =
      let parts = p ∷ q ∷ more in let m = length parts - length parts / 2 in
      reads_then O P may C (BoundNames P) (BoundNames P) (rule.chain_of most any (take m parts)) _ (chain_gives C most any (take m parts) (λ c. all_take PartNames m parts (h c))) (λ a.
      reads_then O P may (C × BoundNames P a) (BoundNames P) (BoundNames P) (rule.chain_of most any (drop m parts)) _ (chain_gives (C × BoundNames P a) most any (drop m parts) (λ c. all_drop PartNames m parts (h c.0))) (λ b.
      joined_gives ((C × BoundNames P a) × BoundNames P b) any a b (rule.place_after m parts) (λ c. (c.0.1, c.1))))
