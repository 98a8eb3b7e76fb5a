-- A table of a FROM by what code finds of it.
use Rattle.std.proofs.Common.{◌≡◌, ℕ, List, [], ◌∷◌, ◌++◌, Option, sym, ap, ◌∙◌}
use Rattle.cq_value.specs.declared.value.Value.{Value}
use Rattle.cq_tree.specs.declared.query.FromTree.{FromTree, Table}
use Rattle.cq_catalog.specs.Contents.{Contents}
use Rattle.cq_catalog.specs.Placement.{place_at}
use Rattle.cq_planning.specs.ValueSets.{ValueSet}
use Rattle.cq_planning.specs.Relations.{OuterJoin, Relation, distribution_at}
use Rattle.cq_planning.specs.Occurrences.{occurrence_of}
use Rattle.cq_plan.specs.declared.sets.Begun.{Begun}
use Rattle.cq_plan.specs.Begun.{one_begun, set_of, seen}
use Rattle.cq_plan.specs.Touches.{touches}
use Rattle.cq_plan.proofs.WalkLaws.{key_is}
use Rattle.cq_outline.specs.declared.outline.Leaving.{Leaving}
use Rattle.cq_outline.specs.Leaving.{leaves}
use Rattle.cq_planner.specs.Sides.{first_set}
use Rattle.cq_one_plan.specs.declared.plan.Part.{Part}
use Rattle.cq_one_plan.specs.Stays.{result_if}
use Rattle.cq_planner.specs.declared.joins.Walked.{Walked}
use Rattle.cq_planner.specs.declared.tables.Start.{Start}
use Rattle.cq_planner.specs.Walks.{IsWalked, part_of_touch}

abbrev relation_at : Contents → ℕ → ℕ → Option OuterJoin → Relation
relation_at c table start outer = record { start = start; distribution = distribution_at start (place_at c table); outer = outer }

module _ (c : Contents) (leaving : Leaving) (rels : List Relation) (labels : List ℕ) (said : List (ℕ × List Value)) (before_it : List Begun) (low : ℕ) (pairs : List (ℕ × ℕ)) (table columns : ℕ) (start : Start) where
  -- the value sets of the table's columns
  abbrev sets : ℕ → ValueSet
  sets = seen c labels said before_it low pairs (Table table columns) start.column

  abbrev tree : FromTree
  tree = Table table columns

  pub table_walked : (outer : Option OuterJoin) (groups : List ℕ) (found : List Begun) (part : Part) (stays : FromTree) (w : Walked) (before after : List Part) →
      (table, groups) ≡ touches c (occurrence_of c sets start.column table) →
      found ≡ one_begun start.column (distribution_at start.column (place_at c table)) (set_of sets (distribution_at start.column (place_at c table))) →
      part ≡ part_of_touch c leaving rels (relation_at c table start.column outer) tree table groups (first_set found) start.relations →
      stays ≡ result_if (leaves leaving rels (relation_at c table start.column outer)) start.relations columns tree →
      after ≡ before ++ part ∷ [] → w ≡ record { relations = found; from = stays } → IsWalked c leaving rels sets tree start outer w before after
  table_walked outer groups found part stays w before after t l p s put is = record {
    found = ap (λ (w : Walked). w.relations) is ∙ l;
    stays = ap (λ (w : Walked). w.from) is ∙ s;
    parted = put ∙ ap (λ (x : Part). before ++ x ∷ []) (p
        ∙ (λ i. part_of_touch c leaving rels (relation_at c table start.column outer) tree (t i).0 (t i).1 ((ap first_set l ∙ sym (key_is sets start.column (place_at c table))) i) start.relations));
  }
