-- The steps in a SELECT of a tree that is written so: the induction over the tree.
use Rattle.std.proofs.Common.{◌≡◌, ℕ, Bool, true, map}
use Rattle.cq_value.proofs.Truths.{and_left, and_right}
use Rattle.cq_grammar.specs.declared.query.Select.{Select}
use Rattle.cq_grammar.specs.declared.expr.Expr.TheOpen.{Join-F, Relation-F}
use Rattle.cq_tree.specs.declared.query.FromTree.{Inner, Left}
use Rattle.cq_reading.specs.declared.bound.Bound.{Bound}
use Rattle.cq_reading.specs.Scopes.{Context}
use Rattle.cq_reading.specs.Expressions as e
use Rattle.cq_reading.specs.Parts.{JoinPart, RelationPart, FromPart, SelectPart}
use Rattle.cq_reading.specs.Walk.{part_of, join_part, relation_part, from_part, select_of}
use Rattle.cq_reading_laws.specs.Written.{written_join, written_from, written_select}
use Rattle.cq_reading_laws.proofs.Carrying.{Carries}
use Rattle.cq_reading_laws.proofs.CarryingWalk as walk
use Rattle.cq_reading_laws.proofs.FineTree.{select_stands}
use Rattle.cq_reading_laws.proofs.StepSubs.{law, same_law, SelectSteps, in_select_steps}
use Rattle.cq_reading_laws.proofs.StepFrom.{RelationSteps, JoinSteps, FromPartSteps, table_relation_steps, subquery_steps, inner_makes, left_makes, on_join_steps, cross_join_steps, from_part_steps}
use Rattle.cq_reading_laws.proofs.StepSelect.{select_step_steps}

abbrev IsWritten : Bool → Type 0
IsWritten w = w ≡ true

abbrev OfJoin : Bool → JoinPart → Type 0
OfJoin w j = IsWritten w → JoinSteps j

abbrev OfRelation : Bool → RelationPart → Type 0
OfRelation w r = IsWritten w → RelationSteps r

abbrev OfFrom : Bool → FromPart → Type 0
OfFrom w f = IsWritten w → FromPartSteps f

abbrev OfSelect : Bool → SelectPart → Type 0
OfSelect w s = IsWritten w → SelectSteps s

of_in : (x : Select) → OfSelect (written_select x) (select_of x) → IsWritten (written_select x) → (cx : Context) (b : Bound) (negate : Bool) (at : ℕ) → Carries (law cx) (e.in_select_reading (select_of x) cx b negate at)
of_in x h w = in_select_steps (select_of x) (h w) (select_stands x w)

joins : walk.Joins IsWritten and_left and_right law same_law OfJoin OfRelation OfFrom OfSelect of_in
joins (Join-F.Inner spelled relation on at) h =
    on_join_steps Inner inner_makes (relation_part relation.0) (part_of on.0) (relation.1 (and_left _ _ h)) (on.1 (and_right _ _ h))
joins (Join-F.Left spelled relation on at) h =
    on_join_steps Left left_makes (relation_part relation.0) (part_of on.0) (relation.1 (and_left _ _ h)) (on.1 (and_right _ _ h))
joins (Join-F.Cross relation at) h = cross_join_steps (relation_part relation.0) (relation.1 h)

relations : walk.Relations IsWritten and_left and_right law same_law OfJoin OfRelation OfFrom OfSelect of_in
relations (Relation-F.Table name) h = λ w names found. table_relation_steps w found name name names
relations (Relation-F.TableAs name spelled alias) h = λ w names found. table_relation_steps w found name alias names
relations (Relation-F.Subquery select spelled alias at) h = subquery_steps (select_of select.0) alias (select.1 h)

froms : walk.Froms IsWritten and_left and_right law same_law OfJoin OfRelation OfFrom OfSelect of_in
froms f h =
    from_part_steps (relation_part f.first.0) (map join_part (map (λ e. e.0) f.joins)) (f.first.1 (and_left _ _ h)) (walk.all_parts IsWritten and_left and_right written_join join_part JoinSteps f.joins (and_right _ _ h))

selects : walk.Selects IsWritten and_left and_right law same_law OfJoin OfRelation OfFrom OfSelect of_in
selects q h = λ w found.
    let flags = walk.flags_of IsWritten and_left and_right (walk.written_of IsWritten and_left and_right law same_law OfJoin OfRelation OfFrom OfSelect of_in q) h in
    select_step_steps w (walk.layer_of IsWritten and_left and_right law same_law OfJoin OfRelation OfFrom OfSelect of_in q)
    (walk.select_parts IsWritten and_left and_right law same_law OfJoin OfRelation OfFrom OfSelect of_in q h)
    (walk.all_parts IsWritten and_left and_right written_from from_part FromPartSteps q.from flags.from) found

-- a SELECT that is written so
pub select_steps : (x : Select) → written_select x ≡ true → SelectSteps (select_of x)
select_steps = walk.of_select IsWritten and_left and_right law same_law OfJoin OfRelation OfFrom OfSelect of_in joins relations froms selects
