-- What the relations of a FROM are read as, from left to right, each ON at its join.
use Rattle.std.specs.Prelude.{ℕ, Bool, true, false, not, List, [], ◌∷◌, ◌++◌, length, position, slice_get, bytes_eq, nat_lt, Option, None, Some}
use Rattle.std.specs.List.{list_any}
use Rattle.cq_tree.specs.declared.expression.Cond.{Cond}
use Rattle.cq_tree.specs.declared.query.FromTree.{FromTree, Table, Sub, Result, Cross, Inner, Left}
use Rattle.cq_grammar.specs.declared.expr.Expr.TheOpen.{Relation-F, Join-F, From-F}
use Rattle.cq_catalog.specs.declared.info.TableInfo.{TableInfo}
use Rattle.cq_catalog.specs.Contents.{number_of, is_local}
use Rattle.cq_grammar.specs.declared.name.Name.{Name}
use Rattle.cq_reading.specs.Types.{Source, Common, Block, Relations}
use Rattle.cq_reading.specs.declared.error.BindError.TheVariants as error
use Rattle.cq_reading.specs.declared.error.Limited.TheVariants as limited
use Rattle.cq_reading.specs.Steps.{Reading, give, refuse, ◌then◌, provided, through}
use Rattle.cq_reading.specs.Widths.{is_truth, cond_of}
use Rattle.cq_reading.specs.Scopes.{World, Context, table_sources, output_sources}
use Rattle.cq_reading.specs.Parts.{Part, RelationPart, JoinPart, FromPart}
use Rattle.cq_reading.specs.Expressions.{Layer, reads}

abbrev pub is_named : List ℕ → List (List ℕ) → Bool
is_named name names = list_any (λ other. bytes_eq other name) names

-- a relation under a name that none before it has
abbrev pub under : Name → List (List ℕ) → FromTree → List Source → Bool → Reading Relations
under name names tree columns joined =
    provided (not (is_named name.text names)) (error.NameTaken name.text) (give (record { tree = tree; columns = columns; names = name.text ∷ []; joined = joined }))

abbrev pub common_under : Name → List (List ℕ) → ℕ → Common → Reading Relations
common_under alias names i c = under alias names (Result i (length c.outputs)) (output_sources alias.text c.outputs) c.joined

abbrev pub table_under : Name → Name → List (List ℕ) → ℕ → Option TableInfo → Reading Relations
table_under name alias names i None = refuse (error.UnknownTable name.text)
table_under name alias names i (Some t) =
    provided (not (is_local t.place)) (error.LocalTable name.at) (under alias names (Table i (length t.columns)) (table_sources alias.text t) false)

-- the table of a name, under another
abbrev pub table_by : World → Name → Name → List (List ℕ) → Option ℕ → Reading Relations
table_by w name alias names None = refuse (error.UnknownTable name.text)
table_by w name alias names (Some i) = table_under name alias names i (slice_get w.tables i)

abbrev pub common_by : World → Name → List (List ℕ) → ℕ → Option Common → Reading Relations
common_by w alias names i None = refuse (error.Unknown alias.at)
common_by w alias names i (Some c) = common_under alias names i c

-- a CTE's name comes before a table's
abbrev pub relation_by : World → Name → Name → List (List ℕ) → Option ℕ → Reading Relations
relation_by w name alias names None = table_by w name alias names (number_of w.tables name.text)
relation_by w name alias names (Some i) = common_by w alias names i (slice_get w.commons i)

-- there are at most 8 relations in a FROM
abbrev pub one_more : List (List ℕ) → Reading Relations → Reading Relations
one_more names r = provided (nat_lt (length names) 8) (error.Limit limited.Relations 8) r

abbrev pub table_relation : World → Name → Name → List (List ℕ) → Reading Relations
table_relation w name alias names = one_more names (relation_by w name alias names (position (λ c. bytes_eq c.name name.text) w.commons))

abbrev pub subquery_relation : Name → List (List ℕ) → Block → Reading Relations
subquery_relation alias names block = under alias names (Sub block.query) (output_sources alias.text block.outputs) block.joined

abbrev pub relation_step : Layer Relation-F → RelationPart
relation_step (Relation-F.Table name) w names = table_relation w name name names
relation_step (Relation-F.TableAs name spelled alias) w names = table_relation w name alias names
relation_step (Relation-F.Subquery select spelled alias at) w names = one_more names (select w then subquery_relation alias names)

-- ---- joins

-- what an ON stands in: the relations of its own join, of which the first column is the column `first` of the FROM
abbrev pub on_context : World → ℕ → List Source → Context
on_context w first columns = record {
  world = w;
  first = first;
  columns = columns;
  grouped = false;
  keys = [];
  joined = false;
  may_aggregate = false;
  may_select = false;
}

abbrev pub both : (FromTree → FromTree → FromTree) → Relations → Relations → Relations
both make a b = record { tree = make a.tree b.tree; columns = a.columns ++ b.columns; names = a.names ++ b.names; joined = true }

-- a condition, which is refused at its root where it is none
abbrev pub condition_of : Part → Context → Reading Cond
condition_of p cx = reads p cx then (λ b. provided (is_truth b) (error.Type p.at) (give (cond_of b)))

abbrev pub joined_on : World → ℕ → (FromTree → FromTree → Cond → FromTree) → Part → Relations → Relations → Reading Relations
joined_on w first make on a b = condition_of on (on_context w first (a.columns ++ b.columns)) then (λ c. give (both (λ x y. make x y c) a b))

abbrev pub join_step : Layer Join-F → JoinPart
join_step (Join-F.Inner spelled relation on at) w names first a = relation w (names ++ a.names) then joined_on w first Inner on a
join_step (Join-F.Left spelled relation on at) w names first a = relation w (names ++ a.names) then joined_on w first Left on a
join_step (Join-F.Cross relation at) w names first a = relation w (names ++ a.names) then (λ b. give (both Cross a b))

-- joins are read from left to right
abbrev pub with_join : World → List (List ℕ) → ℕ → Relations → JoinPart → Reading Relations
with_join w names first a j = j w names first a

abbrev pub from_step : Layer From-F → FromPart
from_step f w names first = f.first w names then through (with_join w names first) f.joins

-- parts with commas between are a product
abbrev pub with_product : World → Relations → FromPart → Reading Relations
with_product w a f = f w a.names (length a.columns) then (λ b. give (both Cross a b))

-- a FROM of no relation is none of the grammar
abbrev pub no_relations : Relations
no_relations = record { tree = Table 0 0; columns = []; names = []; joined = false }

abbrev pub from_of : World → List FromPart → Reading Relations
from_of w [] = give no_relations
from_of w (f ∷ more) = f w [] 0 then through (with_product w) more
