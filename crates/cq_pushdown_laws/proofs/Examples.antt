-- The definitions say what the rules say: t, u and w are of one co-location group, by their first columns, v is of another, and r is a reference table.
use Rattle.std.proofs.Common.{◌≡◌, Bool, true, false, List, [], ℕ, ◌∷◌, refl, None}
use Rattle.std.specs.Prelude.{◌&&◌}
use Rattle.cq_value.specs.declared.schema.Kind.TheVariants.{Bigint}
use Rattle.cq_tree.specs.declared.expression.Cond.{Cond, Always}
use Rattle.cq_tree.specs.declared.expression.Expr.{Column}
use Rattle.cq_tree.specs.declared.query.Agg.TheVariants as agg
use Rattle.cq_tree.specs.declared.query.FromTree.{FromTree, Table, Sub', Result, Cross', end_of-FromTree, more_of-FromTree, end_of-Query, more_of-Query}
use Rattle.cq_tree.specs.declared.query.FromTree.TheBlock.{shape-the_row-FromTree-1, shape-the_row-Query-0}
use Rattle.cq_tree.specs.declared.query.Query.{Query, roll-Query}
use Rattle.cq_catalog.specs.Contents.{Contents}
use Rattle.cq_catalog.specs.Ranges.{ends}
use Rattle.cq_catalog.specs.declared.info.Place.TheVariants.{Distributed, Reference}
use Rattle.cq_planning.specs.Classes.{first_of_class}
use Rattle.cq_planning.specs.Conjuncts.{conjuncts_of, equalities}
use Rattle.cq_planning.specs.Pushable.{relations}
use Rattle.cq_planning.specs.Relations.{Relation, distributions, is_plain}
use Rattle.cq_planning_laws.proofs.Examples.{equal, both, inner, left}
use Rattle.cq_pushdown_laws.specs.Pushed.{reads_references, joins_pushed, are_pushed}

abbrev five : Contents
five = record {
  tables = record { name = []; columns = []; key = []; place = Distributed 0 0 0 } ∷ (record { name = []; columns = []; key = []; place = Distributed 0 0 4 } ∷ (record { name = []; columns = []; key = []; place = Distributed 0 0 8 }
      ∷ (record { name = []; columns = []; key = []; place = Distributed 0 1 12 } ∷ (record { name = []; columns = []; key = []; place = Reference 6 14 } ∷ []))));
  colocations = record { kind = Bigint; count = 4; first_group = 0; joinable = true; ends = ends 4 } ∷ (record { kind = Bigint; count = 2; first_group = 4; joinable = true; ends = ends 2 } ∷ []);
  groups = 7;
  next_shard = 15;
}

-- tables of two columns
abbrev t : FromTree
t = Table 0 2

abbrev u : FromTree
u = Table 1 2

abbrev w : FromTree
w = Table 2 2

abbrev v : FromTree
v = Table 3 2

abbrev r : FromTree
r = Table 4 2

-- a result of two columns
abbrev e : FromTree
e = Result 0 2

abbrev cross : FromTree → FromTree → FromTree
cross a b = Cross' (shape-the_row-FromTree-1 a) (more_of-FromTree a end_of-FromTree) (shape-the_row-FromTree-1 b) (more_of-FromTree b end_of-FromTree)

-- whether a query with this FROM and this WHERE is pushed, by its relations
abbrev pushed_by : List Relation → FromTree → Cond → Bool
pushed_by rels from filter_ = joins_pushed five from && are_pushed (first_of_class (equalities (conjuncts_of filter_ from))) rels (distributions is_plain rels)

abbrev pushed : FromTree → Cond → Bool
pushed from filter_ = pushed_by (relations five from 0 None) from filter_

-- ---- inner joins

alone : pushed t Always ≡ true
alone = refl

by_on : pushed (inner t u (equal 0 2)) Always ≡ true
by_on = refl

by_where : pushed (cross t u) (equal 2 0) ≡ true
by_where = refl

-- by a third column
by_class : pushed (cross t u) (both (equal 0 3) (equal 3 2)) ≡ true
by_class = refl

other_column : pushed (inner t u (equal 0 3)) Always ≡ false
other_column = refl

other_colocation : pushed (inner t v (equal 0 2)) Always ≡ false
other_colocation = refl

with_reference : pushed (inner r t (equal 1 2)) Always ≡ true
with_reference = refl

references_alone : pushed (inner r r (equal 0 2)) Always ≡ false
references_alone = refl

-- ---- LEFT JOINs

right : pushed (left t u (equal 0 2)) Always ≡ true
right = refl

right_by_class : pushed (left t u (equal 1 2)) (equal 0 1) ≡ true
right_by_class = refl

right_apart : pushed (left t u (equal 1 2)) Always ≡ false
right_apart = refl

-- by an earlier right side's distribution column, and not by another of its columns
right_of_right : pushed (left (left t u (equal 0 2)) w (equal 2 4)) Always ≡ true
right_of_right = refl

right_of_other : pushed (left (left t u (equal 0 2)) w (equal 3 4)) Always ≡ false
right_of_other = refl

right_reference : pushed (left t r (equal 1 3)) Always ≡ true
right_reference = refl

-- a distributed table at the right of reference tables alone is planned by itself
left_reference : pushed (cross t (left r u (equal 2 4))) (equal 0 2) ≡ false
left_reference = refl

-- a right side that is a join
right_join : pushed (left t (inner u w (equal 2 4)) (equal 0 2)) (both (equal 0 2) (equal 2 4)) ≡ false
right_join = refl

-- ---- subqueries

abbrev from_sub : Query → FromTree
from_sub q = Sub' (shape-the_row-Query-0 q) (more_of-Query q end_of-Query)

-- a column of a FROM, and how many rows have its value
abbrev counts : FromTree → ℕ → FromTree
counts from column = from_sub (roll-Query (record {
  ctes = [];
  subs = [];
  from = from;
  filter = Always;
  grouped = true;
  keys = Column column ∷ [];
  aggs = agg.CountAll ∷ [];
  having = Always;
  items = Column 0 ∷ (Column 1 ∷ []);
  shown = 2;
  distinct = false;
  order = [];
  limit = None;
  offset = 0;
  names = [];
}))

sub_by_key : pushed (inner u (counts t 0) (equal 0 2)) Always ≡ true
unfolding roll-Query denote.Hole.Carrier.roll
sub_by_key = refl

sub_by_other : pushed (inner u (counts t 1) (equal 0 2)) Always ≡ false
unfolding roll-Query denote.Hole.Carrier.roll
sub_by_other = refl

sub_joined_by_count : pushed (inner u (counts t 0) (equal 0 3)) Always ≡ false
unfolding roll-Query denote.Hole.Carrier.roll
sub_joined_by_count = refl

sub_right : pushed (left u (counts t 0) (equal 0 2)) Always ≡ true
unfolding roll-Query denote.Hole.Carrier.roll
sub_right = refl

sub_of_sub : pushed (counts (counts t 0) 0) Always ≡ true
unfolding roll-Query denote.Hole.Carrier.roll
sub_of_sub = refl

sub_of_reference : pushed (inner u (counts r 1) (equal 1 2)) Always ≡ true
unfolding roll-Query denote.Hole.Carrier.roll
sub_of_reference = refl

-- ---- results

with_result : pushed (inner t e (equal 0 2)) Always ≡ true
with_result = refl

right_result : pushed (left t e (equal 0 2)) Always ≡ true
right_result = refl

-- a distributed table at the right of a result is planned by itself
left_result : pushed (left e t (equal 0 2)) Always ≡ false
left_result = refl

results_alone : pushed (inner e r (equal 0 2)) Always ≡ false
results_alone = refl

results_suffice : reads_references five (inner e r (equal 0 2)) ≡ true
results_suffice = refl

sub_of_result : pushed (inner u (counts e 1) (equal 1 2)) Always ≡ true
unfolding roll-Query denote.Hole.Carrier.roll
sub_of_result = refl
