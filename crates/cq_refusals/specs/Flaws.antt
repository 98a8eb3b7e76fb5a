-- The refusals of a block as code holds them, told by what it finds in the block: its equalities and its relations.
use Rattle.std.specs.Prelude.{ℕ, List, ◌++◌, map, Bool, false, not, ◌&&◌, if◌then◌else◌, Option, None, Some}
use Rattle.std.specs.List.{list_any}
use Rattle.cq_tree.specs.declared.query.Query.{Query}
use Rattle.cq_tree.specs.declared.unsupported.Unsupported.{Unsupported}
use Rattle.cq_tree.specs.declared.unsupported.Unsupported.TheVariants.{NeedsRepartition, NoEquality, OuterJoin, LimitWithoutOrder}
use Rattle.cq_catalog.specs.Contents.{Contents}
use Rattle.cq_planning.specs.Classes.{first_of_class}
use Rattle.cq_planning.specs.Relations.{Relation, distributions, is_plain}
use Rattle.cq_planning.specs.Components.{is_loose}
use Rattle.cq_planning.specs.Blocks.{blocks_in}
use Rattle.cq_planning.specs.Joins.{are_one_component, are_one_class, pairs_of_each, needs_repartition, lacks_equality, has_loose_join}
use Rattle.cq_refusals.specs.declared.flaws.Flaws.{Flaws}

-- which of U1, U2 and U3 hold of a block
abbrev pub flaws_of : Bool → Contents → Query → Flaws
flaws_of repartition c q = record { needs_repartition = needs_repartition repartition c q; lacks_equality = lacks_equality c q; has_loose_join = has_loose_join c q }

-- those of a query that is planned by itself, and of the blocks in it
abbrev pub flaws_within : Bool → Contents → Query → List Flaws
flaws_within repartition c q = map (flaws_of repartition c) (blocks_in c q)

abbrev pub no_flaws : Flaws
no_flaws = record { needs_repartition = false; lacks_equality = false; has_loose_join = false }

-- those of a block that isn't taken whole, by whether it has several components, and whether shared classes connect them
abbrev pub flaws_by : Bool → Bool → Bool → Bool → Flaws
flaws_by repartition several connected loose =
    record { needs_repartition = several && (connected && not repartition); lacks_equality = several && not connected; has_loose_join = loose }

-- by the number of columns of its FROM, its equalities and its relations
abbrev pub flaws_over : Bool → ℕ → List (ℕ × ℕ) → List Relation → Flaws
flaws_over repartition width pairs rels =
    flaws_by repartition (not (are_one_component (first_of_class pairs) (distributions is_plain rels)))
    (are_one_class (first_of_class (pairs ++ pairs_of_each width rels)) (distributions is_plain rels))
    (list_any (is_loose (first_of_class pairs) rels) rels)

-- the lowest refusal of blocks with these flaws, where a subquery may be cut without a full order
abbrev pub lowest : List Flaws → Bool → Option Unsupported
lowest flaws is_cut =
    if list_any (λ (f : Flaws). f.needs_repartition) flaws then Some NeedsRepartition else
    (if list_any (λ (f : Flaws). f.lacks_equality) flaws then Some NoEquality else
    (if list_any (λ (f : Flaws). f.has_loose_join) flaws then Some OuterJoin else
    (if is_cut then Some LimitWithoutOrder else None)))
