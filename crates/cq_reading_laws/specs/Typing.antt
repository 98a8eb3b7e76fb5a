-- Which expressions, conditions and aggregates are well typed, over the types of the columns in reach and the types of results.
use Rattle.std.specs.Prelude.{◌≡◌, ◌<◌, ⊤, List, [], ◌∷◌, ◌++◌, map, length, true, false, Bool, slice_index_or}
use Rattle.cq_value.specs.declared.value.Value.{Value}
use Rattle.cq_value.specs.declared.value.Value.TheVariants.{Null, Int, Text}
use Rattle.cq_tree.specs.declared.expression.Expr.{Expr, Literal, Column, Neg', Add', Sub', Mul', Div', Rem', Case', Coalesce', Row_of-Expr, end_of-Expr, more_of-Expr, Row_of-Arm, end_of-Arm, more_of-Arm}
use Rattle.cq_tree.specs.declared.expression.Cond.{Cond, Compare, IsNull, InResult, And', Or', Not', Always, end_of-Cond, more_of-Cond}
use Rattle.cq_tree.specs.declared.query.Agg.{Agg}
use Rattle.cq_tree.specs.declared.query.Agg.TheVariants as agg
use Rattle.cq_reading.specs.declared.bound.Type.TheVariants as type
use Rattle.cq_reading.specs.Widths.{ValueType, common, is_some, is_number_type}

-- values of these types can be compared: two numbers, two texts, and NULL with any
abbrev pub AreAlike : ValueType → ValueType → Type 0
AreAlike t u = is_some (common t u) ≡ true

-- NULL fits where a number is taken
abbrev pub IsNumber : ValueType → Type 0
IsNumber t = is_number_type t ≡ true

-- the first of the two that isn't NULL's
abbrev pub either : ValueType → ValueType → ValueType
either type.Null t = t
either type.Number t = type.Number
either type.Text t = type.Text

-- a value of the one type stands where the other is said: it is the same, or NULL's. Of `+NULL` it is said that it is a number, and what
-- is bound is NULL
abbrev pub Fits : ValueType → ValueType → Type 0
Fits t u = either t u ≡ u

-- each in its place
abbrev pub AllFit : List ValueType → List ValueType → Type 0
AllFit [] [] = ⊤
AllFit [] (u ∷ us) = ⊥
AllFit (t ∷ ts) [] = ⊥
AllFit (t ∷ ts) (u ∷ us) = Fits t u × AllFit ts us

-- ---- the types of expressions, given those of the columns

abbrev pub type_of_value : Value → ValueType
type_of_value Null = type.Null
type_of_value (Int x) = type.Number
type_of_value (Text t) = type.Text

abbrev mutual
  pub type_over : List ValueType → Expr → ValueType
  type_over ts (Literal v) = type_of_value v
  type_over ts (Column at) = slice_index_or ts at type.Null
  type_over ts (Neg' p (more_of-Expr e end_of-Expr)) = type.Number
  type_over ts (Add' p (more_of-Expr a end_of-Expr) q (more_of-Expr b end_of-Expr)) = type.Number
  type_over ts (Sub' p (more_of-Expr a end_of-Expr) q (more_of-Expr b end_of-Expr)) = type.Number
  type_over ts (Mul' p (more_of-Expr a end_of-Expr) q (more_of-Expr b end_of-Expr)) = type.Number
  type_over ts (Div' p (more_of-Expr e end_of-Expr) c) = type.Number
  type_over ts (Rem' p (more_of-Expr e end_of-Expr) c) = type.Number
  type_over ts (Case' shape arms p (more_of-Expr other end_of-Expr)) = either (type_of_arms ts arms) (type_over ts other)
  type_over ts (Coalesce' shape es) = type_of_all ts es

  pub type_of_arms : List ValueType → {n : _} → Row_of-Arm n → ValueType
  type_of_arms ts end_of-Arm = type.Null
  type_of_arms ts (more_of-Arm c e more) = either (type_over ts e) (type_of_arms ts more)

  pub type_of_all : List ValueType → {n : _} → Row_of-Expr n → ValueType
  type_of_all ts end_of-Expr = type.Null
  type_of_all ts (more_of-Expr e more) = either (type_over ts e) (type_of_all ts more)

-- ---- what is well typed

-- the only column of a result can be compared with values of this type
abbrev pub IsOneAlike : ValueType → List ValueType → Type 0
IsOneAlike t [] = ⊥
IsOneAlike t (u ∷ []) = AreAlike t u
IsOneAlike t (u ∷ v ∷ more) = ⊥

abbrev mutual
  pub IsTyped : List ValueType → List (List ValueType) → Expr → Type 0
  IsTyped ts rs (Literal v) = ⊤
  IsTyped ts rs (Column at) = at < length ts
  IsTyped ts rs (Neg' p (more_of-Expr e end_of-Expr)) = IsTyped ts rs e × IsNumber (type_over ts e)
  IsTyped ts rs (Add' p (more_of-Expr a end_of-Expr) q (more_of-Expr b end_of-Expr)) = IsTyped ts rs a × IsTyped ts rs b × IsNumber (type_over ts a) × IsNumber (type_over ts b)
  IsTyped ts rs (Sub' p (more_of-Expr a end_of-Expr) q (more_of-Expr b end_of-Expr)) = IsTyped ts rs a × IsTyped ts rs b × IsNumber (type_over ts a) × IsNumber (type_over ts b)
  IsTyped ts rs (Mul' p (more_of-Expr a end_of-Expr) q (more_of-Expr b end_of-Expr)) = IsTyped ts rs a × IsTyped ts rs b × IsNumber (type_over ts a) × IsNumber (type_over ts b)
  IsTyped ts rs (Div' p (more_of-Expr e end_of-Expr) c) = IsTyped ts rs e × IsNumber (type_over ts e)
  IsTyped ts rs (Rem' p (more_of-Expr e end_of-Expr) c) = IsTyped ts rs e × IsNumber (type_over ts e)
  IsTyped ts rs (Case' shape arms p (more_of-Expr other end_of-Expr)) =
      AreTypedArms ts rs (either (type_of_arms ts arms) (type_over ts other)) arms
      × IsTyped ts rs other × AreAlike (either (type_of_arms ts arms) (type_over ts other)) (type_over ts other)
  IsTyped ts rs (Coalesce' shape es) = AreTyped ts rs (type_of_all ts es) es

  -- each condition is typed, and each result too, and fits the type of the whole
  pub AreTypedArms : List ValueType → List (List ValueType) → ValueType → {m : _} → Row_of-Arm m → Type 0
  AreTypedArms ts rs t end_of-Arm = ⊤
  AreTypedArms ts rs t (more_of-Arm c e more) = IsTypedCondition ts rs c × IsTyped ts rs e × AreAlike t (type_over ts e) × AreTypedArms ts rs t more

  pub AreTyped : List ValueType → List (List ValueType) → ValueType → {m : _} → Row_of-Expr m → Type 0
  AreTyped ts rs t end_of-Expr = ⊤
  AreTyped ts rs t (more_of-Expr e more) = IsTyped ts rs e × AreAlike t (type_over ts e) × AreTyped ts rs t more

  pub IsTypedCondition : List ValueType → List (List ValueType) → Cond → Type 0
  IsTypedCondition ts rs (Compare op a b) = IsTyped ts rs a × IsTyped ts rs b × AreAlike (type_over ts a) (type_over ts b)
  IsTypedCondition ts rs (IsNull e) = IsTyped ts rs e
  IsTypedCondition ts rs (InResult e i) = IsTyped ts rs e × IsOneAlike (type_over ts e) (slice_index_or rs i [])
  IsTypedCondition ts rs (And' p (more_of-Cond a end_of-Cond) q (more_of-Cond b end_of-Cond)) = IsTypedCondition ts rs a × IsTypedCondition ts rs b
  IsTypedCondition ts rs (Or' p (more_of-Cond a end_of-Cond) q (more_of-Cond b end_of-Cond)) = IsTypedCondition ts rs a × IsTypedCondition ts rs b
  IsTypedCondition ts rs (Not' p (more_of-Cond a end_of-Cond)) = IsTypedCondition ts rs a
  IsTypedCondition ts rs Always = ⊤

-- an expression is well typed, and stands where this type is said
abbrev pub HasType : List ValueType → List (List ValueType) → Expr → ValueType → Type 0
HasType ts rs e t = Fits (type_over ts e) t × IsTyped ts rs e

-- ---- aggregates

abbrev pub type_of_aggregate : List ValueType → Agg → ValueType
type_of_aggregate ts agg.CountAll = type.Number
type_of_aggregate ts (agg.Count e) = type.Number
type_of_aggregate ts (agg.Sum e) = type.Number
type_of_aggregate ts (agg.Min e) = type_over ts e
type_of_aggregate ts (agg.Max e) = type_over ts e

abbrev pub IsTypedAggregate : List ValueType → List (List ValueType) → Agg → Type 0
IsTypedAggregate ts rs agg.CountAll = ⊤
IsTypedAggregate ts rs (agg.Count e) = IsTyped ts rs e
IsTypedAggregate ts rs (agg.Sum e) = IsTyped ts rs e × IsNumber (type_over ts e)
IsTypedAggregate ts rs (agg.Min e) = IsTyped ts rs e
IsTypedAggregate ts rs (agg.Max e) = IsTyped ts rs e

-- of a group's keys and aggregates
abbrev pub group_types : List ValueType → List Expr → List Agg → List ValueType
group_types ts keys aggs = map (type_over ts) keys ++ map (type_of_aggregate ts) aggs

-- of what the items of a query stand on
abbrev pub input_types : List ValueType → Bool → List Expr → List Agg → List ValueType
input_types ts false keys aggs = ts
input_types ts true keys aggs = group_types ts keys aggs
