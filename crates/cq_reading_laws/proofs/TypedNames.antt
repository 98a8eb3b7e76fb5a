-- Columns, aggregates and keys are well typed.
use Rattle.std.proofs.Common.{◌≡◌, ℕ, ◌+◌, true, not, List, [], length, refl, sym, ◌∙◌, subst, Option, None, Some, Result, Ok, Err}
use Rattle.std.specs.Prelude.{position, slice_get}
use Rattle.cq_value.proofs.Lists.{append_nil}
use Rattle.cq_tree.specs.declared.expression.Expr.{Expr, Column}
use Rattle.cq_tree.specs.declared.query.Agg.{Agg}
use Rattle.cq_tree.specs.declared.query.Agg.TheVariants as agg
use Rattle.cq_grammar.specs.declared.expr.Aggregate.{Aggregate}
use Rattle.cq_grammar.specs.declared.expr.Aggregate.TheVariants as aggregate
use Rattle.cq_reading.specs.declared.bound.Found.{Found}
use Rattle.cq_reading.specs.declared.bound.Source.{Source}
use Rattle.cq_reading.specs.declared.bound.Bound.{Bound}
use Rattle.cq_reading.specs.declared.error.BindError.{BindError}
use Rattle.cq_reading.specs.declared.bound.Bound.TheVariants.{Value, Truth}
use Rattle.cq_reading.specs.declared.bound.Type.TheVariants as type
use Rattle.cq_reading.specs.declared.error.BindError.TheVariants as error
use Rattle.cq_reading.specs.Steps.{Reading, give, provided}
use Rattle.cq_reading.specs.Widths.{ValueType, expr_of, type_of, fits_width, count_width, null_width}
use Rattle.cq_tree.specs.Equal.{equal_exprs}
use Rattle.cq_reading.specs.Scopes.{Context, plain, Place, Nowhere, Once, Repeated, place_of, column_bound, column_at, found_column, named, named_of, has_name, has_full_name}
use Rattle.cq_reading.specs.Rules as rule
use Rattle.cq_reading.specs.Expressions.{named_in_group}
use Rattle.cq_reading_laws.proofs.Standing.{no_truth}
use Rattle.cq_reading_laws.proofs.Places.{aggregates_go_on}
use Rattle.cq_reading_laws.proofs.FineNames.{not_true}
use Rattle.cq_reading_laws.specs.Typing.{Fits, type_over, type_of_aggregate, group_types, input_types, IsTypedAggregate}
use Rattle.cq_reading_laws.specs.Reach.{HaveKinds, Onward}
use Rattle.cq_reading_laws.proofs.TypedForms.{number_of}
use Rattle.cq_reading_laws.proofs.TypedNodes.{Sound, sound_null}
use Rattle.cq_reading_laws.proofs.TypedKeeping.{Setting, Given, Good, Later, Run, RunIf, Fine, now, gives, where_fit, onwards}
use Rattle.cq_reading_laws.proofs.TypedPlaces.{key_has_type, aggregate_has_type, all_aggregates}

-- over the columns of the FROM
abbrev pub Plain : Setting → Found → Bound → Type 0
Plain z later b = Sound (Given z later) z.columns z.types.results b

module _ (z : Setting) (cx : Context) (have : HaveKinds z.columns cx) where
  column_sound : (G : Type 0) (i : ℕ) (o : Option Source) → slice_get cx.columns i ≡ o → Sound G z.columns z.types.results (column_bound (cx.first + i) o)
  column_sound G i None is = sound_null G z.columns z.types.results null_width
  column_sound G i (Some s) is = let h = have i s is in record { of = h.fits; expression = λ g. h.is_there; condition = λ g. tt }

  pub column_at_sound : (G : Type 0) (i : ℕ) → Sound G z.columns z.types.results (column_at cx i)
  column_at_sound G i = column_sound G i (slice_get cx.columns i) refl

  found_column_sound : (found : Found) (at : ℕ) (p : Place) → Run z cx (Later (Plain z)) found (found_column cx at p found)
  found_column_sound found at Nowhere = λ good. tt
  found_column_sound found at Repeated = λ good. tt
  found_column_sound found at (Once i) = gives z cx (Later (Plain z)) found (column_at cx i) (λ later l. column_at_sound (Given z later) i)

  -- in a query that groups it is refused
  pub in_group_fine : (found : Found) (r : Reading Bound) (at : ℕ) → Run z cx (Later (Plain z)) found (r found) → Run z cx (Later (Fine z cx)) found (named_in_group cx r at found)
  in_group_fine found r at h = onwards z cx (Later (Plain z)) (Later (Fine z cx)) found (r found) (λ b. provided (not cx.grouped) (error.NotGrouped at) (give b)) h (λ b mid l g.
      where_fit z cx (Later (Fine z cx)) mid (not cx.grouped) (error.NotGrouped at) (give b) (λ t.
      gives z cx (Later (Fine z cx)) mid b (λ later k. subst (λ grouped. Sound (Given z later) (input_types z.columns grouped cx.keys later.aggs) z.types.results b) (sym (not_true cx.grouped t)) (g later k))))

  pub named_fine : (found : Found) (name : List ℕ) (at place : ℕ) → Run z cx (Later (Fine z cx)) found (named_in_group cx (named cx name at) place found)
  named_fine found name at place = in_group_fine found (named cx name at) place (found_column_sound found at (place_of (has_name name) cx.columns))

  pub named_of_fine : (found : Found) (relation name : List ℕ) (at place : ℕ) → Run z cx (Later (Fine z cx)) found (named_in_group cx (named_of cx relation name at) place found)
  named_of_fine found relation name at place = in_group_fine found (named_of cx relation name at) place (found_column_sound found at (place_of (has_full_name relation name) cx.columns))

module _ (z : Setting) (cx : Context) (found : Found) where
  -- ---- aggregates

  aggregated_fine : (a : Agg) (t : ValueType) (width : ℕ) → cx.may_aggregate ≡ true → cx.grouped ≡ true → (Given z found → IsTypedAggregate z.columns z.types.results a)
      → Fits (type_of_aggregate z.columns a) t → Run z cx (Later (Fine z cx)) found (rule.aggregated cx a t width found)
  aggregated_fine a t width may grouped typed fits good =
      let next : Found = record found { aggs = rule.with_aggregate found.aggs a } in
      let goes : Onward found next = record { aggs = aggregates_go_on found.aggs a; subs = ([], sym (append_nil found.subs)) } in (
        record {
          typed = record { numbered = good.typed.numbered; subs = good.typed.subs; aggs = λ g. all_aggregates (IsTypedAggregate z.columns z.types.results) found.aggs a (good.typed.aggs g) (typed g) };
          steady = good.steady;
        },
        record { onward = goes; no_aggs = λ e. absurd (no_truth (sym e ∙ may)); no_subs = λ e. refl },
        λ later l.
            let p = aggregate_has_type z.columns cx.keys found.aggs later.aggs l.aggs.0 a l.aggs.1 in
            let i = length cx.keys + rule.place_among found.aggs a in
            let s : Sound (Given z later) (group_types z.columns cx.keys later.aggs) z.types.results (Value (Column i) t width) =
            record { of = subst (λ u. Fits u t) (sym p.1) fits; expression = λ g. p.0; condition = λ g. tt } in
            subst (λ g. Sound (Given z later) (input_types z.columns g cx.keys later.aggs) z.types.results (Value (Column i) t width)) (sym grouped) s,
      )

  pub counted_fine : (at : ℕ) → (cx.may_aggregate ≡ true → cx.grouped ≡ true) → Run z cx (Later (Fine z cx)) found (rule.counted cx at found)
  counted_fine at may =
      let last = rule.aggregated cx agg.CountAll type.Number count_width in
      where_fit z cx (Later (Fine z cx)) found cx.may_aggregate (error.NotGrouped at) (provided (not cx.joined) (error.GroupedJoin at) last) (λ t.
      where_fit z cx (Later (Fine z cx)) found (not cx.joined) (error.GroupedJoin at) last (λ j.
      aggregated_fine agg.CountAll type.Number count_width t (may t) (λ g. tt) refl))

  summed_by : (f : Aggregate) (a : Bound) → Plain z found a → cx.may_aggregate ≡ true → cx.grouped ≡ true → rule.takes f a ≡ true
      → Run z cx (Later (Fine z cx)) found (rule.aggregated cx (rule.agg_of f (expr_of a)) (rule.aggregate_type f a) (rule.aggregate_width f a) found)
  summed_by aggregate.Count a h m g t = aggregated_fine (agg.Count (expr_of a)) type.Number count_width m g h.expression refl
  summed_by aggregate.Sum a h m g t = aggregated_fine (agg.Sum (expr_of a)) type.Number _ m g (λ y. (h.expression y, number_of z.columns a h.of t)) refl
  summed_by aggregate.Min a h m g t = aggregated_fine (agg.Min (expr_of a)) (type_of a) _ m g h.expression h.of
  summed_by aggregate.Max a h m g t = aggregated_fine (agg.Max (expr_of a)) (type_of a) _ m g h.expression h.of

  pub summed_fine : (f : Aggregate) (a : Bound) (at : ℕ) → (cx.may_aggregate ≡ true → cx.grouped ≡ true) → Later (Plain z) found a → Run z cx (Later (Fine z cx)) found (rule.summed cx f a at found)
  summed_fine f a at may h =
      let last = rule.aggregated cx (rule.agg_of f (expr_of a)) (rule.aggregate_type f a) (rule.aggregate_width f a) in
      let third = provided (not cx.joined) (error.GroupedJoin at) last in
      let second = provided (fits_width (rule.aggregate_width f a)) (error.TooWide at) third in
      where_fit z cx (Later (Fine z cx)) found cx.may_aggregate (error.NotGrouped at) (provided (rule.takes f a) (error.Type at) second) (λ t.
      where_fit z cx (Later (Fine z cx)) found (rule.takes f a) (error.Type at) second (λ u.
      where_fit z cx (Later (Fine z cx)) found (fits_width (rule.aggregate_width f a)) (error.TooWide at) third (λ w.
      where_fit z cx (Later (Fine z cx)) found (not cx.joined) (error.GroupedJoin at) last (λ j.
      summed_by f a (h found (now found)) t (may t) u))))

  -- ---- keys

  key_fine : (e : Expr) (t : ValueType) (w : ℕ) (i : Option ℕ) (other : Reading Bound) → cx.grouped ≡ true → position (equal_exprs e) cx.keys ≡ i → Fits (type_over z.columns e) t
      → Run z cx (Later (Fine z cx)) found (other found) → Run z cx (Later (Fine z cx)) found (rule.if_key (rule.key_at i t w) other found)
  key_fine e t w None other grouped is s h = h
  key_fine e t w (Some i) other grouped is s h = gives z cx (Later (Fine z cx)) found (Value (Column i) t w) (λ later l.
      let p = key_has_type z.columns e cx.keys later.aggs i is in
      let r : Sound (Given z later) (group_types z.columns cx.keys later.aggs) z.types.results (Value (Column i) t w) =
      record { of = subst (λ u. Fits u t) (sym p.1) s; expression = λ g. p.0; condition = λ g. tt } in
      subst (λ g. Sound (Given z later) (input_types z.columns g cx.keys later.aggs) z.types.results (Value (Column i) t w)) (sym grouped) r)

  keyed_by_fine : (y : Setting) (o : Result (Bound × Found) BindError) (other : Reading Bound) → y.columns ≡ z.columns → cx.grouped ≡ true → RunIf y (plain cx) (Later (Plain y)) rule.nothing o
      → Run z cx (Later (Fine z cx)) found (other found) → Run z cx (Later (Fine z cx)) found (rule.keyed_by cx.keys o other found)
  keyed_by_fine y (Err e) other same grouped g h = h
  keyed_by_fine y (Ok p) other same grouped g h = of_bound p.0 (g.2 p.1 (now p.1)).of
    where
      of_bound : (b : Bound) → Fits (type_over y.columns (expr_of b)) (type_of b) → Run z cx (Later (Fine z cx)) found (rule.if_key (rule.key_column cx.keys b) other found)
      of_bound (Value e t w) s = key_fine e t w (position (equal_exprs e) cx.keys) other grouped refl (subst (λ ts. Fits (type_over ts e) t) same s) h
      of_bound (Truth c) s = h

  -- before any grouping, and with nothing found
  abbrev pub alone : Setting
  alone = record z { base = 0 }

  nothing_good : Good alone rule.nothing
  nothing_good = record { typed = record { numbered = refl; subs = λ g. tt; aggs = λ g. tt }; steady = λ e. tt }

  pub keyed_fine : (before other : Reading Bound) → cx.grouped ≡ true → Run alone (plain cx) (Later (Plain alone)) rule.nothing (before rule.nothing) → Run z cx (Later (Fine z cx)) found (other found) → Run z cx
      (Later (Fine z cx)) found (rule.keyed cx.keys before other found)
  keyed_fine before other grouped g h = keyed_by_fine alone (before rule.nothing) other refl grouped (g nothing_good) h
