-- The definitions say what the rules say: t and u in groups 0 to 3, by their first columns, and v in groups 4 and 5.
use Rattle.std.proofs.Common.{◌≡◌, ℕ, map, Bool, true, false, List, [], ◌∷◌, ◌++◌, refl, Some, None, Option}
use Rattle.std.specs.Prelude.{pos}
use Rattle.std.specs.List.{flat_map}
use Rattle.cq_value.specs.declared.value.Value.TheVariants.{Null, Int}
use Rattle.cq_value.specs.declared.schema.Kind.TheVariants.{Bigint}
use Rattle.cq_tree.specs.declared.expression.Op.TheVariants.{Eq}
use Rattle.cq_tree.specs.declared.expression.Expr.{Expr, Literal, Column}
use Rattle.cq_tree.specs.declared.expression.Cond.{Cond, Compare, And', Or', Always, end_of-Cond, more_of-Cond}
use Rattle.cq_tree.specs.declared.expression.Cond.TheBlock.{shape-the_row-Cond-0}
use Rattle.cq_tree.specs.declared.query.FromTree.{FromTree, Table, Sub', Inner', Left', end_of-FromTree, more_of-FromTree, end_of-Query, more_of-Query}
use Rattle.cq_tree.specs.declared.query.FromTree.TheBlock.{shape-the_row-FromTree-1, shape-the_row-Query-0}
use Rattle.cq_tree.specs.declared.query.Query.{Query, Query'}
use Rattle.cq_tree.specs.declared.write.ShardOp.TheVariants.{Insert, Update, Remove}
use Rattle.cq_tree.specs.declared.statement.Statement.TheVariants as statement
use Rattle.cq_catalog.specs.Contents.{Contents}
use Rattle.cq_catalog.specs.Ranges.{ends}
use Rattle.cq_catalog.specs.declared.info.Place.TheVariants.{Distributed, Reference}
use Rattle.cq_planning.specs.Conjuncts.{conjuncts_of, in_list}
use Rattle.cq_planning.specs.Occurrences.{occurrences_from}
use Rattle.cq_planning.specs.Touched.{groups_of, in_order, touched}
use Rattle.cq_planning.specs.ValueSets.{value_set}

abbrev three : Contents
three = record {
  tables = record { name = []; columns = []; key = []; place = Distributed 0 0 0 } ∷ (record { name = []; columns = []; key = []; place = Distributed 0 0 4 } ∷ (record { name = []; columns = []; key = []; place = Distributed 0 1 8 } ∷ []));
  colocations = record { kind = Bigint; count = 4; first_group = 0; joinable = true; ends = ends 4 } ∷ (record { kind = Bigint; count = 2; first_group = 4; joinable = true; ends = ends 2 } ∷ []);
  groups = 6;
  next_shard = 10;
}

abbrev is : ℕ → ℕ → Cond
is x n = Compare Eq (Column x) (Literal (Int (pos n)))

abbrev pub equal : ℕ → ℕ → Cond
equal x y = Compare Eq (Column x) (Column y)

abbrev either : Cond → Cond → Cond
either a b = Or' (shape-the_row-Cond-0 a) (more_of-Cond a end_of-Cond) (shape-the_row-Cond-0 b) (more_of-Cond b end_of-Cond)

abbrev pub both : Cond → Cond → Cond
both a b = And' (shape-the_row-Cond-0 a) (more_of-Cond a end_of-Cond) (shape-the_row-Cond-0 b) (more_of-Cond b end_of-Cond)

abbrev pub inner : FromTree → FromTree → Cond → FromTree
inner a b on = Inner' (shape-the_row-FromTree-1 a) (more_of-FromTree a end_of-FromTree) (shape-the_row-FromTree-1 b) (more_of-FromTree b end_of-FromTree) on

abbrev pub left : FromTree → FromTree → Cond → FromTree
left a b on = Left' (shape-the_row-FromTree-1 a) (more_of-FromTree a end_of-FromTree) (shape-the_row-FromTree-1 b) (more_of-FromTree b end_of-FromTree) on

abbrev sub : Query → FromTree
sub q = Sub' (shape-the_row-Query-0 q) (more_of-Query q end_of-Query)

abbrev groups : FromTree → Cond → List ℕ
groups from filter_ = in_order three (flat_map (groups_of three) (occurrences_from three (value_set [] (conjuncts_of filter_ from)) from 0))

-- ---- conjuncts and value sets

one_value : groups (Table 0 2) (is 0 1) ≡ 0 ∷ []
one_value = refl

another_column : groups (Table 0 2) (is 1 1) ≡ 0 ∷ 1 ∷ 2 ∷ 3 ∷ []
another_column = refl

in_three : in_list (either (either (is 0 1) (is 0 2)) (is 0 3)) ≡ Some (0, Int (pos 1) ∷ Int (pos 2) ∷ Int (pos 3) ∷ [])
in_three = refl

other_halves : in_list (either (is 0 1) (either (is 0 2) (is 0 3))) ≡ None
other_halves = refl

-- an IN of other halves, or one part of which is turned round, is no IN
touches_all : groups (Table 0 2) (either (is 0 1) (either (is 0 2) (is 0 3))) ≡ 0 ∷ 1 ∷ 2 ∷ 3 ∷ []
touches_all = refl

turned_part : groups (Table 0 2) (either (Compare Eq (Literal (Int (pos 1))) (Column 0)) (is 0 2)) ≡ 0 ∷ 1 ∷ 2 ∷ 3 ∷ []
turned_part = refl

-- but an OR of that form is one, whatever it was written as
or_is_in : groups (Table 0 2) (either (is 0 1) (is 0 2)) ≡ 0 ∷ 2 ∷ []
or_is_in = refl

turned_alone : groups (Table 0 2) (Compare Eq (Literal (Int (pos 1))) (Column 0)) ≡ 0 ∷ []
turned_alone = refl

-- values in ascending order, each once, without NULL
in_ascending : value_set [] (either (either (is 0 3) (Compare Eq (Column 0) (Literal Null))) (either (is 0 1) (is 0 3)) ∷ []) 0 ≡ Some (Int (pos 1) ∷ Int (pos 3) ∷ [])
in_ascending = refl

two_columns : in_list (either (is 0 1) (is 1 2)) ≡ None
two_columns = refl

contradiction : groups (Table 0 2) (both (is 0 1) (is 0 2)) ≡ []
contradiction = refl

of_null : groups (Table 0 2) (Compare Eq (Column 0) (Literal Null)) ≡ []
of_null = refl

-- ---- classes

joined : groups (inner (Table 0 2) (Table 1 2) (equal 0 2)) (is 2 1) ≡ 0 ∷ []
joined = refl

apart : groups (inner (Table 0 2) (Table 1 2) (equal 1 2)) (is 0 1) ≡ 0 ∷ 1 ∷ 2 ∷ 3 ∷ []
apart = refl

-- ---- LEFT JOINs

right : groups (left (Table 0 2) (Table 2 2) (equal 0 2)) (is 0 1) ≡ 0 ∷ 4 ∷ []
right = refl

not_left : groups (left (Table 0 2) (Table 2 2) (both (equal 0 2) (is 0 1))) Always ≡ 0 ∷ 1 ∷ 2 ∷ 3 ∷ 4 ∷ 5 ∷ []
not_left = refl

twice : groups (left (left (Table 0 2) (Table 1 2) (equal 0 2)) (Table 2 2) (equal 2 4)) (is 0 1) ≡ 0 ∷ 4 ∷ []
twice = refl

other_key : groups (left (left (Table 0 2) (Table 1 2) (equal 0 3)) (Table 2 2) (equal 3 4)) (is 0 1) ≡ 0 ∷ 1 ∷ 2 ∷ 3 ∷ 4 ∷ 5 ∷ []
other_key = refl

-- ---- subqueries

-- a subquery with these parts
abbrev of_parts : Query → FromTree → Cond → Bool → List Expr → List Expr → Option ℕ → Query
of_parts (Query' cs ctes ss subs from filter_ grouped keys aggs having items shown distinct order limit offset names) f w g ks outputs most =
    Query' cs ctes ss subs f w g ks aggs having outputs 2 false [] most 0 names

pushed_plain : (q : Query) → groups (sub (of_parts q (Table 0 2) Always false [] (Column 1 ∷ Column 0 ∷ []) None)) (is 1 1) ≡ 0 ∷ []
pushed_plain (Query' cs ctes ss subs from filter_ grouped keys aggs having items shown distinct order limit offset names) = refl

pushed_grouped : (q : Query) → groups (sub (of_parts q (Table 0 2) Always true (Column 0 ∷ []) (Column 0 ∷ Column 1 ∷ []) None)) (is 0 1) ≡ 0 ∷ []
pushed_grouped (Query' cs ctes ss subs from filter_ grouped keys aggs having items shown distinct order limit offset names) = refl

another_key : (q : Query) → groups (sub (of_parts q (Table 0 2) Always true (Column 1 ∷ []) (Column 0 ∷ Column 1 ∷ []) None)) (is 0 1) ≡ 0 ∷ 1 ∷ 2 ∷ 3 ∷ []
another_key (Query' cs ctes ss subs from filter_ grouped keys aggs having items shown distinct order limit offset names) = refl

limited : (q : Query) → groups (sub (of_parts q (Table 0 2) Always false [] (Column 0 ∷ Column 1 ∷ []) (Some 1))) (is 0 1) ≡ 0 ∷ 1 ∷ 2 ∷ 3 ∷ []
limited (Query' cs ctes ss subs from filter_ grouped keys aggs having items shown distinct order limit offset names) = refl

pushed_join : (q : Query) → groups (sub (of_parts q (inner (Table 0 2) (Table 1 2) (equal 0 2)) Always false [] (Column 1 ∷ Column 2 ∷ []) None)) (is 1 1) ≡ 0 ∷ []
pushed_join (Query' cs ctes ss subs from filter_ grouped keys aggs having items shown distinct order limit offset names) = refl

not_colocated : (q : Query) → groups (sub (of_parts q (inner (Table 0 2) (Table 2 2) (equal 0 2)) Always false [] (Column 0 ∷ Column 1 ∷ []) None)) (is 0 1) ≡ 0 ∷ 1 ∷ 2 ∷ 3 ∷ 4 ∷ 5 ∷ []
not_colocated (Query' cs ctes ss subs from filter_ grouped keys aggs having items shown distinct order limit offset names) = refl

-- with a reference table, 3, of group 6
abbrev four : Contents
four = record three { tables = three.tables ++ record { name = []; columns = []; key = []; place = Reference 6 10 } ∷ []; groups = 7; next_shard = 11 }

-- of `r LEFT JOIN t ON r.a = t.k JOIN v ON r.a = v.k` under `v.k = 1` the right side t is narrowed too, although it isn't co-located with v
narrowed_alone : (q : Query) →
    in_order four (flat_map (groups_of four) (occurrences_from four (value_set [] (is 0 1 ∷ []))
    (sub (of_parts q (inner (left (Table 3 2) (Table 0 2) (equal 0 2)) (Table 2 2) (equal 0 4)) Always false [] (Column 4 ∷ Column 3 ∷ []) None)) 0))
    ≡ 0 ∷ 4 ∷ 6 ∷ []
narrowed_alone (Query' cs ctes ss subs from filter_ grouped keys aggs having items shown distinct order limit offset names) = refl

-- ---- whole statements

-- each occurrence by itself: of the left side one group, of the right side its own
each : map (λ o. in_order three (groups_of three o)) (occurrences_from three (value_set [] (conjuncts_of (is 0 1) (left (Table 0 2) (Table 2 2) (equal 0 2)))) (left (Table 0 2) (Table 2 2) (equal 0 2)) 0) ≡ (0 ∷ []) ∷ ((4 ∷ []) ∷ [])
each = refl

updated : (sets : _) → touched three (statement.Write (Update 0 (is 0 2) sets)) ≡ 2 ∷ []
updated sets = refl

removed : touched three (statement.Write (Remove 2 (either (is 0 1) (is 1 1)))) ≡ 4 ∷ 5 ∷ []
removed = refl

inserted : touched three (statement.Write (Insert 0 ((Int (pos 2) ∷ []) ∷ ((Int (pos 1) ∷ []) ∷ ((Int (pos 2) ∷ []) ∷ []))))) ≡ 0 ∷ 2 ∷ []
inserted = refl

-- a reference table is touched by rows, and by an UPDATE whatever its WHERE is
abbrev referenced : Contents
referenced = record { tables = record { name = []; columns = []; key = []; place = Reference 0 0 } ∷ []; colocations = []; groups = 1; next_shard = 1 }

no_rows : touched referenced (statement.Write (Insert 0 [])) ≡ []
no_rows = refl

one_row : touched referenced (statement.Write (Insert 0 ((Null ∷ []) ∷ []))) ≡ 0 ∷ []
one_row = refl

no_such_row : touched referenced (statement.Write (Remove 0 (both (is 0 1) (is 0 2)))) ≡ 0 ∷ []
no_such_row = refl
