-- The types of a FROM and of a query, and what makes them well typed, at the nodes as the walk makes them.
use Rattle.std.proofs.Common.{◌≡◌, ◌≤◌, List, [], ◌∷◌, ◌++◌, map, take, length, refl, sym, ap, ◌∙◌, subst}
use Rattle.std.specs.List.{AllByRecursion}
use denote.Hole.Carrier.{hidden}
use Rattle.cq_tree.specs.declared.expression.Cond.{Cond}
use Rattle.cq_tree.specs.declared.query.FromTree.{FromTree, Sub, Cross, Inner, Left}
use Rattle.cq_tree.specs.declared.query.FromTree.TheBlock.{hidden-the_row-FromTree-1, hidden-the_row-Query-0, hidden-the_row-Query-2}
use Rattle.cq_tree.specs.declared.query.FromTree.TheOpen.{Query-F}
use Rattle.cq_tree.specs.declared.query.Query.{Query, Query', roll-Query, out-Query, out-roll-Query, roll-out-Query, Row_of-Query, end_of-Query, more_of-Query, items-the_row-Query, items_hidden-the_row-Query-2}
use Rattle.cq_reading.specs.Widths.{ValueType}
use Rattle.cq_reading_laws.specs.Typing.{type_over, input_types, IsTypedCondition}
use Rattle.cq_reading_laws.specs.TypedQueries.{Types, from_types, output_types, results_in, results_in_from, results_in_row, results_of, AreTypedItems, IsTypedFrom, IsTypedQuery, AreTypedQueries}

module _ (cs : Types) where
  pub types_cross : (a b : FromTree) → from_types cs (Cross a b) ≡ from_types cs a ++ from_types cs b
  unfolding hidden-the_row-FromTree-1 hidden
  types_cross a b = refl

  pub types_inner : (a b : FromTree) (on : Cond) → from_types cs (Inner a b on) ≡ from_types cs a ++ from_types cs b
  unfolding hidden-the_row-FromTree-1 hidden
  types_inner a b on = refl

  pub types_left : (a b : FromTree) (on : Cond) → from_types cs (Left a b on) ≡ from_types cs a ++ from_types cs b
  unfolding hidden-the_row-FromTree-1 hidden
  types_left a b on = refl

  pub types_sub : (q : Query) → from_types cs (Sub q) ≡ output_types cs q
  unfolding hidden-the_row-Query-0 hidden
  types_sub q = refl

  pub results_cross : (a b : FromTree) → results_in_from cs (Cross a b) ≡ results_in_from cs a ++ results_in_from cs b
  unfolding hidden-the_row-FromTree-1 hidden
  results_cross a b = refl

  pub results_inner : (a b : FromTree) (on : Cond) → results_in_from cs (Inner a b on) ≡ results_in_from cs a ++ results_in_from cs b
  unfolding hidden-the_row-FromTree-1 hidden
  results_inner a b on = refl

  pub results_left : (a b : FromTree) (on : Cond) → results_in_from cs (Left a b on) ≡ results_in_from cs a ++ results_in_from cs b
  unfolding hidden-the_row-FromTree-1 hidden
  results_left a b on = refl

  pub results_sub : (q : Query) → results_in_from cs (Sub q) ≡ results_in cs q
  unfolding hidden-the_row-Query-0 hidden
  results_sub q = refl

  pub typed_cross : (ahead : List ValueType) (a b : FromTree) → IsTypedFrom cs ahead a → IsTypedFrom cs (ahead ++ from_types cs a) b → IsTypedFrom cs ahead (Cross a b)
  unfolding hidden-the_row-FromTree-1 hidden
  typed_cross ahead a b h k = (h, k)

  pub typed_inner : (ahead : List ValueType) (a b : FromTree) (on : Cond) → IsTypedFrom cs ahead a → IsTypedFrom cs (ahead ++ from_types cs a) b → IsTypedCondition (ahead ++ (from_types cs a ++ from_types cs b)) cs.results on
      → IsTypedFrom cs ahead (Inner a b on)
  unfolding hidden-the_row-FromTree-1 hidden
  typed_inner ahead a b on h k c = (h, k, c)

  pub typed_left : (ahead : List ValueType) (a b : FromTree) (on : Cond) → IsTypedFrom cs ahead a → IsTypedFrom cs (ahead ++ from_types cs a) b → IsTypedCondition (ahead ++ (from_types cs a ++ from_types cs b)) cs.results on
      → IsTypedFrom cs ahead (Left a b on)
  unfolding hidden-the_row-FromTree-1 hidden
  typed_left ahead a b on h k c = (h, k, c)

  pub typed_sub : (ahead : List ValueType) (q : Query) → IsTypedQuery cs q → IsTypedFrom cs ahead (Sub q)
  unfolding hidden-the_row-Query-0 hidden
  typed_sub ahead q h = h

  -- ---- rows of queries

  row_results : {n : _} (k : Row_of-Query n) → results_in_row cs k ≡ results_of cs (items-the_row-Query _ k)
  row_results end_of-Query = refl
  row_results (more_of-Query q more) = ap (λ rs. output_types cs q ∷ (results_in cs q ++ rs)) (row_results more)

  row_typed : {n : _} (k : Row_of-Query n) → AllByRecursion (IsTypedQuery cs) (items-the_row-Query _ k) → AreTypedQueries cs k
  row_typed end_of-Query h = tt
  row_typed (more_of-Query q more) h = (h.0, row_typed more h.1)

  row_each : {n : _} (k : Row_of-Query n) → AreTypedQueries cs k → AllByRecursion (IsTypedQuery cs) (items-the_row-Query _ k)
  row_each end_of-Query h = tt
  row_each (more_of-Query q more) h = (h.0, row_each more h.1)

  -- ---- queries

  abbrev pub Layer : Type 0
  Layer = Query-F FromTree Query

  abbrev types_at : Layer → List ValueType
  types_at x = take x.shown (map (type_over (input_types (from_types cs x.from) x.grouped x.keys x.aggs)) x.items)

  abbrev results_at : Layer → List (List ValueType)
  results_at x = results_in_from cs x.from ++ results_of cs x.subs

  abbrev pub TypedLayer : Layer → Type 0
  TypedLayer x = IsTypedFrom cs [] x.from × AreTypedItems (from_types cs x.from) cs.results x.filter x.grouped x.keys x.aggs x.having x.items × (x.shown ≤ length x.items) × AllByRecursion (IsTypedQuery cs) x.subs

  output_types_out : (q : Query) → output_types cs q ≡ types_at (out-Query q)
  unfolding out-Query denote.Hole.Carrier.out
  output_types_out (Query' ts ctes ss subs from filter_ grouped keys aggs having items shown distinct order limit offset names) = refl

  pub output_types_of : (x : Layer) → output_types cs (roll-Query x) ≡ take x.shown (map (type_over (input_types (from_types cs x.from) x.grouped x.keys x.aggs)) x.items)
  output_types_of x = output_types_out (roll-Query x) ∙ ap types_at (out-roll-Query x)

  pub results_in_of : (x : Layer) → results_in cs (roll-Query x) ≡ results_in_from cs x.from ++ results_of cs x.subs
  unfolding roll-Query denote.Hole.Carrier.roll
  results_in_of x = ap (λ rs. results_in_from cs x.from ++ rs) (row_results (hidden-the_row-Query-2 x.subs) ∙ ap (results_of cs) (items_hidden-the_row-Query-2 x.subs))

  pub results_in_out : (q : Query) → results_in cs q ≡ results_in_from cs (out-Query q).from ++ results_of cs (out-Query q).subs
  results_in_out q = ap (results_in cs) (sym (roll-out-Query q)) ∙ results_in_of (out-Query q)

  pub typed_query : (x : Layer) → TypedLayer x → IsTypedQuery cs (roll-Query x)
  unfolding roll-Query denote.Hole.Carrier.roll
  typed_query x h = (h.0, h.1, h.2, row_typed (hidden-the_row-Query-2 x.subs) (subst (AllByRecursion (IsTypedQuery cs)) (sym (items_hidden-the_row-Query-2 x.subs)) h.3))

  rolled : (x : Layer) → IsTypedQuery cs (roll-Query x) → TypedLayer x
  unfolding roll-Query denote.Hole.Carrier.roll
  rolled x h = (h.0, h.1, h.2, subst (AllByRecursion (IsTypedQuery cs)) (items_hidden-the_row-Query-2 x.subs) (row_each (hidden-the_row-Query-2 x.subs) h.3))

  pub opened : (q : Query) → IsTypedQuery cs q → TypedLayer (out-Query q)
  opened q h = rolled (out-Query q) (subst (IsTypedQuery cs) (sym (roll-out-Query q)) h)
