-- Results are only added by the walk, through a whole tree.
use Rattle.std.proofs.Common.{ℕ, Bool, true, ◌&&◌, List, [], ◌∷◌, ◌++◌, map}
use Rattle.std.specs.Prelude.{⊤}
use Rattle.std.specs.List.{AllByRecursion}
use Rattle.cq_grammar.specs.declared.expr.Expr.{Expr}
use Rattle.cq_grammar.specs.declared.query.Select.{Select}
use Rattle.cq_grammar.specs.declared.expr.Expr.TheOpen.{Join-F, Relation-F}
use Rattle.cq_tree.specs.declared.query.FromTree.{Inner, Left}
use Rattle.cq_reading.specs.declared.bound.Bound.{Bound}
use Rattle.cq_reading.specs.Steps.{through}
use Rattle.cq_reading.specs.Scopes.{Context}
use Rattle.cq_reading.specs.Parts.{JoinPart, RelationPart, FromPart, SelectPart}
use Rattle.cq_reading.specs.Expressions as e
use Rattle.cq_reading.specs.Relations as r
use Rattle.cq_reading.specs.Walk.{part_of, join_part, relation_part, from_part, select_of}
use Rattle.cq_reading_laws.specs.Written.{written_select}
use Rattle.cq_reading_laws.proofs.Carrying.{carries_then, carries_through}
use Rattle.cq_reading_laws.proofs.CarryingParts.{PartCarries}
use Rattle.cq_reading_laws.proofs.CarryingWalk as walk
use Rattle.cq_reading_laws.proofs.Growth.{Grows, growing, growing_in, same_growing}
use Rattle.cq_reading_laws.proofs.GrowthParts.{SelectGrows, in_select_grows}
use Rattle.cq_reading_laws.proofs.GrowthSelects.{RelationGrows, JoinGrows, FromGrows, table_relation_grows, subquery_grows, joined_on_grows, joins_grow, select_step_grows, cross_grows}

-- no flag is wanted
abbrev Any : Bool → Type 0
Any w = ⊤

any : (a b : Bool) → Any (a && b) → ⊤
any a b h = tt

abbrev OfJoin : Bool → JoinPart → Type 0
OfJoin w j = JoinGrows j

abbrev OfRelation : Bool → RelationPart → Type 0
OfRelation w r = RelationGrows r

abbrev OfFrom : Bool → FromPart → Type 0
OfFrom w f = FromGrows f

abbrev OfSelect : Bool → SelectPart → Type 0
OfSelect w s = SelectGrows s

all_parts : {A P : Type 0} (Q : P → Type 0) (f : A → P) (xs : List ((a : A) × Q (f a))) → AllByRecursion Q (map f (map (λ e. e.0) xs))
all_parts Q f [] = tt
all_parts Q f (e ∷ xs) = (e.1, all_parts Q f xs)

of_in : (x : Select) → SelectGrows (select_of x) → Any (written_select x) → (cx : Context) (b : Bound) (negate : Bool) (at : ℕ) → Grows cx.may_select (e.in_select_reading (select_of x) cx b negate at)
of_in x h t = in_select_grows (select_of x) h

joins : walk.Joins Any any any growing_in same_growing OfJoin OfRelation OfFrom OfSelect of_in
joins (Join-F.Inner spelled relation on at) w names first a =
    carries_then (growing true) (relation_part relation.0 w (names ++ a.names)) (r.joined_on w first Inner (part_of on.0) a) (relation.1 w (names ++ a.names))
    (λ b. joined_on_grows w first Inner (part_of on.0) a b (on.1 tt))
joins (Join-F.Left spelled relation on at) w names first a =
    carries_then (growing true) (relation_part relation.0 w (names ++ a.names)) (r.joined_on w first Left (part_of on.0) a) (relation.1 w (names ++ a.names))
    (λ b. joined_on_grows w first Left (part_of on.0) a b (on.1 tt))
joins (Join-F.Cross relation at) w names first a = cross_grows (relation_part relation.0) w (names ++ a.names) a relation.1

relations : walk.Relations Any any any growing_in same_growing OfJoin OfRelation OfFrom OfSelect of_in
relations (Relation-F.Table name) w names = table_relation_grows w name name names
relations (Relation-F.TableAs name spelled alias) w names = table_relation_grows w name alias names
relations (Relation-F.Subquery select spelled alias at) w names = subquery_grows (select_of select.0) alias w names select.1

froms : walk.Froms Any any any growing_in same_growing OfJoin OfRelation OfFrom OfSelect of_in
froms f w names first =
    let js = map join_part (map (λ e. e.0) f.joins) in
    carries_then (growing true) (relation_part f.first.0 w names) (through (r.with_join w names first) js) (f.first.1 w names) (λ a.
    carries_through (growing true) (r.with_join w names first) js a (joins_grow w names first js (all_parts JoinGrows join_part f.joins)))

selects : walk.Selects Any any any growing_in same_growing OfJoin OfRelation OfFrom OfSelect of_in
selects q = select_step_grows (walk.layer_of Any any any growing_in same_growing OfJoin OfRelation OfFrom OfSelect of_in q)
    (walk.select_parts Any any any growing_in same_growing OfJoin OfRelation OfFrom OfSelect of_in q tt) (all_parts FromGrows from_part q.from)

pub expression_grows : (x : Expr) → PartCarries growing_in (part_of x)
expression_grows x = walk.of_expression Any any any growing_in same_growing OfJoin OfRelation OfFrom OfSelect of_in joins relations froms selects x tt

pub select_grows : (x : Select) → SelectGrows (select_of x)
select_grows = walk.of_select Any any any growing_in same_growing OfJoin OfRelation OfFrom OfSelect of_in joins relations froms selects
