-- Columns, aggregates and keys stand.
use Rattle.std.proofs.Common.{◌≡◌, ℕ, ◌+◌, ◌-◌, ◌≤◌, Bool, true, false, not, List, length, refl, sym, subst, arith, Option, None, Some, Result, Ok, Err}
use Rattle.std.specs.Prelude.{position, slice_get}
use Rattle.cq_tree.specs.declared.expression.Expr.{Expr, Column}
use Rattle.cq_tree.specs.declared.query.Agg.{Agg}
use Rattle.cq_tree.specs.declared.query.Agg.TheVariants as agg
use Rattle.cq_grammar.specs.declared.expr.Aggregate.{Aggregate}
use Rattle.cq_grammar.specs.declared.expr.Aggregate.TheVariants as aggregate
use Rattle.cq_meaning.specs.Widths.{bits_of_aggregate, group_bits, input_bits, IsBoundAggregate}
use Rattle.cq_reading.specs.declared.bound.Found.{Found}
use Rattle.cq_reading.specs.declared.bound.Source.{Source}
use Rattle.cq_reading.specs.declared.bound.Bound.{Bound}
use Rattle.cq_reading.specs.declared.error.BindError.{BindError}
use Rattle.cq_reading.specs.declared.bound.Bound.TheVariants.{Value, Truth}
use Rattle.cq_reading.specs.declared.bound.Type.TheVariants as type
use Rattle.cq_reading.specs.declared.error.BindError.TheVariants as error
use Rattle.cq_reading.specs.Steps.{Reading, give, provided}
use Rattle.cq_reading.specs.Widths.{ValueType, expr_of, type_of, width_of, is_value, is_number, is_number_type, fits_width, count_width}
use Rattle.cq_tree.specs.Equal.{equal_exprs}
use Rattle.cq_reading.specs.Scopes.{Context, Place, Nowhere, Once, Repeated, place_of, column_bound, column_at, found_column, named, named_of, has_name, has_full_name}
use Rattle.cq_reading.specs.Rules as rule
use Rattle.cq_reading.specs.Expressions.{named_in_group}
use Rattle.cq_reading_laws.specs.Bounds.{Stands, HaveBits, Onward}
use Rattle.cq_reading_laws.proofs.Onwards.{Later, Kept, Fine, now, more_results, gives, where_fit, onwards}
use Rattle.cq_reading_laws.proofs.Standing.{no_truth, stands_null}
use Rattle.cq_reading_laws.proofs.Places.{key_has_bits, aggregate_has_bits, aggregates_go_on, aggregates_bound}
use Rattle.cq_reading_laws.proofs.FineRules.{fits}

pub not_true : (t : Bool) → not t ≡ true → t ≡ false
not_true true h = absurd (no_truth h)
not_true false h = refl

-- over the columns of the FROM
abbrev pub Plain : List ℕ → Found → Bound → Type 0
Plain ks later b = Stands ks later.results b

module _ (ks : List ℕ) (cx : Context) (have : HaveBits ks cx) where
  column_stands : (n i : ℕ) (o : Option Source) → slice_get cx.columns i ≡ o → Stands ks n (column_bound (cx.first + i) o)
  column_stands n i None is = stands_null ks n type.Null
  column_stands n i (Some s) is = let h = have i s is in
      record { expression = h.is_there; condition = tt; within = h.within; fits = h.fits; some = h.some }

  pub column_at_stands : (n i : ℕ) → Stands ks n (column_at cx i)
  column_at_stands n i = column_stands n i (slice_get cx.columns i) refl

  found_column_stands : (found : Found) (at : ℕ) (p : Place) → Kept ks (Plain ks) found (found_column cx at p found)
  found_column_stands found at Nowhere = tt
  found_column_stands found at Repeated = tt
  found_column_stands found at (Once i) = gives ks (Plain ks) found (column_at cx i) (λ later l. column_at_stands later.results i)

  -- in a query that groups it is refused
  pub in_group_fine : (found : Found) (r : Reading Bound) (at : ℕ) → Kept ks (Plain ks) found (r found) → Kept ks (Fine ks cx) found (named_in_group cx r at found)
  in_group_fine found r at h = onwards ks (Plain ks) (Fine ks cx) found (r found) (λ b. provided (not cx.grouped) (error.NotGrouped at) (give b)) h (λ b mid l g.
      where_fit ks (Fine ks cx) mid (not cx.grouped) (error.NotGrouped at) (give b) (λ t.
      gives ks (Fine ks cx) mid b (λ later k. subst (λ grouped. Stands (input_bits ks grouped cx.keys later.aggs) later.results b) (sym (not_true cx.grouped t)) (g later k))))

  pub named_fine : (found : Found) (name : List ℕ) (at place : ℕ) → Kept ks (Fine ks cx) found (named_in_group cx (named cx name at) place found)
  named_fine found name at place = in_group_fine found (named cx name at) place (found_column_stands found at (place_of (has_name name) cx.columns))

  pub named_of_fine : (found : Found) (relation name : List ℕ) (at place : ℕ) → Kept ks (Fine ks cx) found (named_in_group cx (named_of cx relation name at) place found)
  named_of_fine found relation name at place = in_group_fine found (named_of cx relation name at) place (found_column_stands found at (place_of (has_full_name relation name) cx.columns))

module _ (ks : List ℕ) (cx : Context) (found : Found) where
  -- ---- aggregates

  aggregated_fine : (a : Agg) (t : ValueType) (width : ℕ) → cx.grouped ≡ true → ((n : ℕ) → found.results ≤ n → IsBoundAggregate ks n a)
      → bits_of_aggregate ks a ≤ width - 1 → width ≤ 127 → (is_number_type t ≡ true → 1 ≤ width) → Kept ks (Fine ks cx) found (rule.aggregated cx a t width found)
  aggregated_fine a t width grouped bound within narrow some =
      let next : Found = record found { aggs = rule.with_aggregate found.aggs a } in
      let goes : Onward ks found next = record { results = omega arith; aggs = aggregates_go_on found.aggs a; stand = λ h n l. aggregates_bound ks n found.aggs a (h n l) (bound n l) } in (
        goes,
        λ later l.
            let p = aggregate_has_bits ks cx.keys found.aggs later.aggs l.aggs.0 a l.aggs.1 in
            let s : Stands (group_bits ks cx.keys later.aggs) later.results (Value (Column (length cx.keys + rule.place_among found.aggs a)) t width) =
            record { expression = p.0; condition = tt; within = subst (λ k. k ≤ width - 1) (sym p.1) within; fits = narrow; some = some } in
            subst (λ g. Stands (input_bits ks g cx.keys later.aggs) later.results (Value (Column (length cx.keys + rule.place_among found.aggs a)) t width)) (sym grouped) s,
      )

  pub counted_fine : (at : ℕ) → (cx.may_aggregate ≡ true → cx.grouped ≡ true) → Kept ks (Fine ks cx) found (rule.counted cx at found)
  counted_fine at may =
      let last = rule.aggregated cx agg.CountAll type.Number count_width in
      where_fit ks (Fine ks cx) found cx.may_aggregate (error.NotGrouped at) (provided (not cx.joined) (error.GroupedJoin at) last) (λ t.
      where_fit ks (Fine ks cx) found (not cx.joined) (error.GroupedJoin at) last (λ j.
      aggregated_fine agg.CountAll type.Number count_width (may t) (λ n l. tt) (omega arith) (omega arith) (λ e. omega arith)))

  pub value_type : (a : Bound) → is_value a ≡ true → is_number_type (type_of a) ≡ true → is_number a ≡ true
  value_type (Value e t w) v h = h
  value_type (Truth c) v h = absurd (no_truth v)

  summed_by : (f : Aggregate) (a : Bound) → Later ks (Plain ks) found a → cx.grouped ≡ true → rule.takes f a ≡ true → rule.aggregate_width f a ≤ 127
      → Kept ks (Fine ks cx) found (rule.aggregated cx (rule.agg_of f (expr_of a)) (rule.aggregate_type f a) (rule.aggregate_width f a) found)
  summed_by aggregate.Count a h g t f = aggregated_fine (agg.Count (expr_of a)) type.Number count_width g (λ n l. (h (record found { results = n }) (more_results ks found (record found { results = n }) l refl)).expression) (omega arith) f (λ e. omega arith)
  summed_by aggregate.Sum a h g t f =
      let s = h found (now ks found) in let r = s.some t in
      aggregated_fine (agg.Sum (expr_of a)) type.Number (rule.aggregate_width aggregate.Sum a) g (λ n l. ((h (record found { results = n }) (more_results ks found (record found { results = n }) l refl)).expression, omega (arith, s.within, r, f))) (omega (arith, s.within, r)) f (λ e. omega (arith, r))
  summed_by aggregate.Min a h g t f =
      let s = h found (now ks found) in
      aggregated_fine (agg.Min (expr_of a)) (type_of a) (width_of a) g (λ n l. (h (record found { results = n }) (more_results ks found (record found { results = n }) l refl)).expression) s.within f (λ e. s.some (value_type a t e))
  summed_by aggregate.Max a h g t f =
      let s = h found (now ks found) in
      aggregated_fine (agg.Max (expr_of a)) (type_of a) (width_of a) g (λ n l. (h (record found { results = n }) (more_results ks found (record found { results = n }) l refl)).expression) s.within f (λ e. s.some (value_type a t e))

  pub summed_fine : (f : Aggregate) (a : Bound) (at : ℕ) → (cx.may_aggregate ≡ true → cx.grouped ≡ true) → Later ks (Plain ks) found a → Kept ks (Fine ks cx) found (rule.summed cx f a at found)
  summed_fine f a at may h =
      let last = rule.aggregated cx (rule.agg_of f (expr_of a)) (rule.aggregate_type f a) (rule.aggregate_width f a) in
      let third = provided (not cx.joined) (error.GroupedJoin at) last in
      let second = provided (fits_width (rule.aggregate_width f a)) (error.TooWide at) third in
      where_fit ks (Fine ks cx) found cx.may_aggregate (error.NotGrouped at) (provided (rule.takes f a) (error.Type at) second) (λ t.
      where_fit ks (Fine ks cx) found (rule.takes f a) (error.Type at) second (λ u.
      where_fit ks (Fine ks cx) found (fits_width (rule.aggregate_width f a)) (error.TooWide at) third (λ w.
      where_fit ks (Fine ks cx) found (not cx.joined) (error.GroupedJoin at) last (λ j.
      summed_by f a h (may t) u (fits (rule.aggregate_width f a) w)))))

  -- ---- keys

  key_fine : (e : Expr) (t : ValueType) (w : ℕ) (i : Option ℕ) (other : Reading Bound) (n : ℕ) → cx.grouped ≡ true → position (equal_exprs e) cx.keys ≡ i → Stands ks n (Value e t w)
      → Kept ks (Fine ks cx) found (other found) → Kept ks (Fine ks cx) found (rule.if_key (rule.key_at i t w) other found)
  key_fine e t w None other n grouped is s h = h
  key_fine e t w (Some i) other n grouped is s h = gives ks (Fine ks cx) found (Value (Column i) t w) (λ later l.
      let p = key_has_bits ks e cx.keys later.aggs i is in
      let r : Stands (group_bits ks cx.keys later.aggs) later.results (Value (Column i) t w) =
      record { expression = p.0; condition = tt; within = subst (λ k. k ≤ w - 1) (sym p.1) s.within; fits = s.fits; some = s.some } in
      subst (λ g. Stands (input_bits ks g cx.keys later.aggs) later.results (Value (Column i) t w)) (sym grouped) r)

  keyed_by_fine : (o : Result (Bound × Found) BindError) (other : Reading Bound) → cx.grouped ≡ true → Kept ks (Plain ks) rule.nothing o → Kept ks (Fine ks cx) found (other found) → Kept ks (Fine ks cx) found (rule.keyed_by cx.keys o other found)
  keyed_by_fine (Err e) other grouped g h = h
  keyed_by_fine (Ok p) other grouped g h = of_bound p.0 (g.1 p.1 (now ks p.1))
    where
      of_bound : (b : Bound) → Stands ks p.1.results b → Kept ks (Fine ks cx) found (rule.if_key (rule.key_column cx.keys b) other found)
      of_bound (Value e t w) s = key_fine e t w (position (equal_exprs e) cx.keys) other p.1.results grouped refl s h
      of_bound (Truth c) s = h

  pub keyed_fine : (before other : Reading Bound) → cx.grouped ≡ true → Kept ks (Plain ks) rule.nothing (before rule.nothing) → Kept ks (Fine ks cx) found (other found) → Kept ks (Fine ks cx) found (rule.keyed cx.keys before other found)
  keyed_fine before other grouped g h = keyed_by_fine (before rule.nothing) other grouped g h
