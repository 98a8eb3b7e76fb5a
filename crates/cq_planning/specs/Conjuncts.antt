-- The conjuncts of a query: the parts joined by AND, and what each says of columns.
use Rattle.std.specs.Prelude.{ℕ, suc, List, [], ◌∷◌, ◌++◌, filter_map, length, ◌&&◌, ◌||◌, if◌then◌else◌, nat_eq, Option, None, Some}
use Rattle.cq_value.specs.declared.value.Value.{Value}
use Rattle.cq_tree.specs.declared.expression.Op.TheVariants.{Eq}
use Rattle.cq_tree.specs.declared.expression.Expr.{Expr, Literal, Column}
use Rattle.cq_tree.specs.declared.expression.Cond.{Cond, Compare, IsNull, InResult, And', Or', Not', Always, end_of-Cond, more_of-Cond}
use Rattle.cq_tree.specs.declared.query.FromTree.{FromTree, Table, Sub', Result, Cross', Inner', Left', end_of-FromTree, more_of-FromTree}

-- the parts of a condition that AND joins at the top
abbrev pub conjuncts : Cond → List Cond
conjuncts (Compare op a b) = Compare op a b ∷ []
conjuncts (IsNull e) = IsNull e ∷ []
conjuncts (InResult e i) = InResult e i ∷ []
conjuncts (And' p (more_of-Cond a end_of-Cond) q (more_of-Cond b end_of-Cond)) = conjuncts a ++ conjuncts b
conjuncts (Or' p a q b) = Or' p a q b ∷ []
conjuncts (Not' p a) = Not' p a ∷ []
conjuncts Always = []

-- those of the ON of a FROM's inner joins. The right side of a LEFT JOIN has none, and neither has its ON
abbrev pub inner_conjuncts : FromTree → List Cond
inner_conjuncts (Table t n) = []
inner_conjuncts (Sub' p q) = []
inner_conjuncts (Result i n) = []
inner_conjuncts (Cross' p (more_of-FromTree a end_of-FromTree) q (more_of-FromTree b end_of-FromTree)) = inner_conjuncts a ++ inner_conjuncts b
inner_conjuncts (Inner' p (more_of-FromTree a end_of-FromTree) q (more_of-FromTree b end_of-FromTree) on) = (inner_conjuncts a ++ inner_conjuncts b) ++ conjuncts on
inner_conjuncts (Left' p (more_of-FromTree a end_of-FromTree) q (more_of-FromTree b end_of-FromTree) on) = inner_conjuncts a

-- those of a query, by its WHERE and its FROM
abbrev pub conjuncts_of : Cond → FromTree → List Cond
conjuncts_of filter_ from = conjuncts filter_ ++ inner_conjuncts from

-- ---- bare columns and literals

-- the number of a bare column
abbrev pub column_of : Expr → Option ℕ
column_of (Column at) = Some at
column_of _ = None

-- the value of a literal
abbrev pub literal_of : Expr → Option Value
literal_of (Literal v) = Some v
literal_of _ = None

-- two things, where there are both
abbrev pub both_of : {X Y : Type 0} → Option X → Option Y → Option (X × Y)
both_of (Some x) (Some y) = Some (x, y)
both_of _ _ = None

-- ---- column = column

-- the two columns of `x = y`
abbrev pub equality : Cond → Option (ℕ × ℕ)
equality (Compare Eq a b) = both_of (column_of a) (column_of b)
equality _ = None

-- those of all conjuncts that are such
abbrev pub equalities : List Cond → List (ℕ × ℕ)
equalities cs = filter_map equality cs

-- ---- column = literal, and column IN (literals)

-- a column with a list of one value
abbrev pub one_value : Option (ℕ × Value) → Option (ℕ × List Value)
one_value (Some p) = Some (p.0, p.1 ∷ [])
one_value None = None

-- two lists of one column, where the first has as many values as the second or one more
abbrev pub both_halves : Option (ℕ × List Value) → Option (ℕ × List Value) → Option (ℕ × List Value)
both_halves (Some p) (Some q) =
    if nat_eq p.0 q.0 && (nat_eq (length p.1) (length q.1) || nat_eq (length p.1) (suc (length q.1))) then Some (p.0, p.1 ++ q.1) else None
both_halves _ _ = None

-- the column and the values of `x IN (literals)`. Such an IN is bound as equalities that OR joins, which are halved again and again; what has
-- that form is such an IN, whatever it was written as, and no other OR is
abbrev pub in_list : Cond → Option (ℕ × List Value)
in_list (Compare Eq a b) = one_value (both_of (column_of a) (literal_of b))
in_list (Or' p (more_of-Cond a end_of-Cond) q (more_of-Cond b end_of-Cond)) = both_halves (in_list a) (in_list b)
in_list _ = None

-- the column and the value of `literal = x`
abbrev pub turned_equality : Cond → Option (ℕ × List Value)
turned_equality (Compare Eq a b) = one_value (both_of (column_of b) (literal_of a))
turned_equality _ = None
