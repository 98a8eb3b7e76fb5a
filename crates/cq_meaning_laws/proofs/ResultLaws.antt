-- Expressions and conditions don't depend on the order of the rows of results.
use Rattle.std.proofs.Common.{◌≡◌, ℕ, pos, Bool, true, false, map, length, ◌++◌, List, [], ◌∷◌, refl, ap, ◌∙◌}
use Rattle.std.specs.Prelude.{filter, replicate, unwrap_or, ◌+ℤ◌, ◌-ℤ◌, ◌*ℤ◌, neg_ℤ, int_div, int_rem}
use Rattle.cq_value.specs.Order.{compared}
use Rattle.cq_value.specs.declared.value.Value.{Value}
use Rattle.cq_value.specs.declared.value.Truth.{Truth}
use Rattle.cq_value.specs.declared.value.Truth.TheVariants.{Yes, No, Unknown}
use Rattle.cq_tree.specs.declared.expression.Expr.{Expr, Literal, Column, Neg', Add', Sub', Mul', Div', Rem', Case', Coalesce', Row_of-Expr, end_of-Expr, more_of-Expr, Row_of-Arm, end_of-Arm, more_of-Arm}
use Rattle.cq_tree.specs.declared.expression.Cond.{Cond, Compare, IsNull, InResult, And', Or', Not', Always, more_of-Cond, end_of-Cond}
use Rattle.cq_meaning.specs.Values.{Row, result_at, column}
use Rattle.cq_meaning.specs.Logic.{among, or_of, and_of, not_of, equals, met, null_test, is_yes}
use Rattle.cq_meaning.specs.Expressions.{value_of, truth_of, arm_value, first_known, if_yes, known_or, of_number, of_numbers, keeps, items_of}
use Rattle.cq_meaning.specs.Groups.{known_values, is_known, aggregate, sum_of, least, greatest, group_row, groups_of, groups_by}
use Rattle.cq_meaning.specs.Queries.{item_rows, joins}
use Rattle.cq_tree.specs.declared.query.Agg.{Agg}
use Rattle.cq_tree.specs.declared.query.Agg.TheVariants as agg
use Rattle.cq_value.specs.declared.value.Value.TheVariants.{Null, Int}
use Rattle.cq_meaning.proofs.Reorder.{Reordered, none, kept, turned, then}

-- each result has the same rows, in some order
abbrev pub SameResults : List (List Row) → List (List Row) → Type 0
SameResults rs ss = (i : ℕ) → Reordered (result_at rs i) (result_at ss i)

or_turned : (a b c : Truth) → or_of a (or_of b c) ≡ or_of b (or_of a c)
or_turned Yes Yes c = refl
or_turned Yes No c = refl
or_turned Yes Unknown c = refl
or_turned No b c = refl
or_turned Unknown Yes c = refl
or_turned Unknown No c = refl
or_turned Unknown Unknown c = refl

pub among_again : (x : Value) {us vs : List Row} → Reordered us vs → among x us ≡ among x vs
among_again x none = refl
among_again x (kept {x = r} h) = ap (λ t. or_of (equals x (column r 0)) t) (among_again x h)
among_again x (turned {x = r} {y = s} {xs = us}) = or_turned (equals x (column r 0)) (equals x (column s 0)) (among x us)
among_again x (then h k) = among_again x h ∙ among_again x k

module _ (rs ss : List (List Row)) (again : SameResults rs ss) where
  mutual
    pub val_again : (e : Expr) (row : Row) → value_of e row rs ≡ value_of e row ss
    val_again (Literal v) row = refl
    val_again (Column at) row = refl
    val_again (Neg' p (more_of-Expr e end_of-Expr)) row = ap (of_number neg_ℤ) (val_again e row)
    val_again (Add' p (more_of-Expr a end_of-Expr) q (more_of-Expr b end_of-Expr)) row = λ i. of_numbers ◌+ℤ◌ (val_again a row i) (val_again b row i)
    val_again (Sub' p (more_of-Expr a end_of-Expr) q (more_of-Expr b end_of-Expr)) row = λ i. of_numbers ◌-ℤ◌ (val_again a row i) (val_again b row i)
    val_again (Mul' p (more_of-Expr a end_of-Expr) q (more_of-Expr b end_of-Expr)) row = λ i. of_numbers ◌*ℤ◌ (val_again a row i) (val_again b row i)
    val_again (Div' p (more_of-Expr a end_of-Expr) c) row = ap (of_number (λ x. int_div x c)) (val_again a row)
    val_again (Rem' p (more_of-Expr a end_of-Expr) c) row = ap (of_number (λ x. int_rem x c)) (val_again a row)
    val_again (Case' s arms p (more_of-Expr other end_of-Expr)) row = λ i. unwrap_or (arms_again arms row i) (val_again other row i)
    val_again (Coalesce' s es) row = first_again es row

    arms_again : {n : _} (k : Row_of-Arm n) (row : Row) → arm_value k row rs ≡ arm_value k row ss
    arms_again end_of-Arm row = refl
    arms_again (more_of-Arm c e more) row = λ i. if_yes (truth_again c row i) (val_again e row i) (arms_again more row i)

    first_again : {n : _} (k : Row_of-Expr n) (row : Row) → first_known k row rs ≡ first_known k row ss
    first_again end_of-Expr row = refl
    first_again (more_of-Expr e more) row = λ i. known_or (val_again e row i) (first_again more row i)

    pub truth_again : (c : Cond) (row : Row) → truth_of c row rs ≡ truth_of c row ss
    truth_again (Compare op a b) row = λ i. met op (compared (val_again a row i) (val_again b row i))
    truth_again (IsNull e) row = ap null_test (val_again e row)
    truth_again (InResult e k) row = ap (λ v. among v (result_at rs k)) (val_again e row) ∙ among_again (value_of e row ss) (again k)
    truth_again (And' p (more_of-Cond a end_of-Cond) q (more_of-Cond b end_of-Cond)) row = λ i. and_of (truth_again a row i) (truth_again b row i)
    truth_again (Or' p (more_of-Cond a end_of-Cond) q (more_of-Cond b end_of-Cond)) row = λ i. or_of (truth_again a row i) (truth_again b row i)
    truth_again (Not' p (more_of-Cond a end_of-Cond)) row = ap not_of (truth_again a row)
    truth_again Always row = refl

  pub keeps_again : (c : Cond) → keeps c rs ≡ keeps c ss
  keeps_again c = λ i row. is_yes (truth_again c row i)

  pub items_again : (es : List Expr) → items_of es rs ≡ items_of es ss
  items_again es = λ i row. map (λ e. val_again e row i) es

  values_same : (e : Expr) → known_values e rs ≡ known_values e ss
  values_same e = λ i rows. filter is_known (map (λ r. val_again e r i) rows)

  aggregate_same : (a : Agg) (rows : List Row) → aggregate rs rows a ≡ aggregate ss rows a
  aggregate_same agg.CountAll rows = refl
  aggregate_same (agg.Count e) rows = λ i. Int (pos (length (values_same e i rows)))
  aggregate_same (agg.Sum e) rows = λ i. sum_of (values_same e i rows)
  aggregate_same (agg.Min e) rows = λ i. least (values_same e i rows)
  aggregate_same (agg.Max e) rows = λ i. greatest (values_same e i rows)

  group_row_same : (aggs : List Agg) → group_row aggs rs ≡ group_row aggs ss
  group_row_same aggs = λ i g. g.keys ++ map (λ a. aggregate_same a g.rows i) aggs

  groups_same : (keys : List Expr) → groups_of keys rs ≡ groups_of keys ss
  groups_same [] = λ i rows. record { keys = []; rows = rows } ∷ []
  groups_same (e ∷ es) = λ i rows. groups_by (items_again (e ∷ es) i) rows

  pub itemed_same : (filter_ : Cond) (grouped : Bool) (keys : List Expr) (aggs : List Agg) (having : Cond) (items : List Expr) (rows : List Row) →
      item_rows filter_ grouped keys aggs having items rs rows ≡ item_rows filter_ grouped keys aggs having items ss rows
  itemed_same filter_ false keys aggs having items rows = λ i. map (items_again items i) (filter (keeps_again filter_ i) rows)
  itemed_same filter_ true keys aggs having items rows =
      λ i. map (items_again items i) (filter (keeps_again having i) (map (group_row_same aggs i) (groups_same keys i (filter (keeps_again filter_ i) rows))))

  pub joins_again : (on : Cond) (start : ℕ) → joins on rs start ≡ joins on ss start
  joins_again on start = λ i row. keeps_again on i (replicate start Null ++ row)
