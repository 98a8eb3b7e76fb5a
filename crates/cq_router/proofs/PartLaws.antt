-- The parts of a write, by the place of its table.
use Rattle.std.proofs.Common.{◌≡◌, ℕ, ◌+◌, ◌<◌, Bool, true, false, List, [], ◌∷◌, map, filter, length, Option, None, Some, inl, inr, refl, sym, ap, ◌∙◌, arith, subst, nat_eq, ◌||◌}
use Rattle.std.specs.Prelude.{slice_get}
use Rattle.cq_value.proofs.Truths.{two_ways}
use Rattle.cq_value.proofs.Lists.{map_map}
use Rattle.cq_tree.specs.declared.write.Set.{Set}
use Rattle.cq_tree.specs.declared.expression.Cond.{Cond}
use Rattle.cq_tree.specs.declared.write.ShardOp.{ShardOp}
use Rattle.cq_tree.specs.declared.write.ShardOp.TheVariants.{Insert, Update, Remove}
use Rattle.cq_meaning.specs.Values.{Row}
use Rattle.cq_catalog.specs.Contents.{Contents, place_in}
use Rattle.cq_catalog.specs.Placement.{place_at}
use Rattle.cq_catalog.specs.Whole.{IsWhole, IsPlaced}
use Rattle.cq_catalog.specs.declared.info.Place.{Place}
use Rattle.cq_catalog.specs.declared.info.Place.TheVariants.{Local, Distributed, Reference}
use Rattle.cq_catalog.specs.declared.info.TableInfo.{TableInfo}
use Rattle.cq_planning.specs.Touched.{numbers, among, in_order, row_groups, touched_by_where}
use Rattle.cq_planning.specs.Parts.{parts, rows_in}
use Rattle.cq_router.specs.Piles.{home, piles, as_part, part_by, parts_of}
use Rattle.cq_router.proofs.NumberLaws.{filter_none, filter_one, filter_same}
use Rattle.cq_router.proofs.PileLaws.{parts_are}

-- the parts of an INSERT into a table at this place
abbrev parts_at : Contents → ℕ → Place → List Row → List (ℕ × ShardOp)
parts_at c table place rows = map (λ g. (g, Insert table (rows_in c table place g rows))) (in_order c (row_groups c table place rows))

pub insert_local : (c : Contents) (table : ℕ) (rows : List Row) → place_at c table ≡ Local → [] ≡ map as_part (parts c (Insert table rows))
insert_local c table rows e = sym (ap (λ place. map as_part (parts_at c table place rows)) e ∙ ap (λ (gs : List ℕ). map as_part (map (λ g. (g, Insert table rows)) gs)) (filter_none (numbers 0 c.groups)))

pub insert_distributed : (c : Contents) (table at colocation first_shard : ℕ) (rows : List Row) → place_at c table ≡ Distributed at colocation first_shard →
    parts_of table (piles (home c table at) c.groups rows) ≡ map as_part (parts c (Insert table rows))
insert_distributed c table at colocation first_shard rows e =
    parts_are (home c table at) table rows (numbers 0 c.groups)
    ∙ (sym (map_map as_part (λ g. (g, Insert table (filter (λ (row : Row). nat_eq (home c table at row) g) rows))) (filter (λ g. among g (map (home c table at) rows)) (numbers 0 c.groups)))
    ∙ sym (ap (λ place. map as_part (parts_at c table place rows)) e))

-- ---- of a reference table

placed : (c : Contents) → IsWhole c → (t : ℕ) → IsPlaced c (place_at c t)
placed c w t = look (slice_get c.tables t) refl
  where
    look : (o : Option TableInfo) → slice_get c.tables t ≡ o → IsPlaced c (place_in o)
    look None e = tt
    look (Some i) e = (w.tables t i e).placed

among_all : (g group : ℕ) (row : Row) (rows : List Row) → among g (map (λ (r : Row). group) (row ∷ rows)) ≡ nat_eq g group
among_all g group row [] = either_false (nat_eq g group)
  where
    either_false : (b : Bool) → (b || false) ≡ b
    either_false true = refl
    either_false false = refl
among_all g group row (next ∷ rows) =
    let more : Bool = among g (map (λ (r : Row). group) (next ∷ rows)) in
    elim (two_ways (nat_eq g group)) [ inl y ↦ ap (λ b. b || more) y ∙ sym y | inr n ↦ ap (λ b. b || more) n ∙ among_all g group next rows ]

pub insert_reference : (c : Contents) (table group shard : ℕ) (rows : List Row) → IsWhole c → place_at c table ≡ Reference group shard →
    part_by table group rows ≡ map as_part (parts c (Insert table rows))
insert_reference c table group shard [] w e = sym (ap (λ place. map as_part (parts_at c table place [])) e ∙ ap (λ (gs : List ℕ). map as_part (map (λ g. (g, Insert table [])) gs)) (filter_none (numbers 0 c.groups)))
insert_reference c table group shard (row ∷ rows) w e =
    let within : group < c.groups = (subst (IsPlaced c) e (placed c w table)).0 in
    let less : group < 0 + c.groups = omega arith in
    sym (ap (λ place. map as_part (parts_at c table place (row ∷ rows))) e
    ∙ ap (λ (gs : List ℕ). map as_part (map (λ g. (g, Insert table (row ∷ rows))) gs))
    (filter_same (λ g. among g (map (λ (r : Row). group) (row ∷ rows))) (λ h. nat_eq h group) 0 c.groups (λ g a b. among_all g group row rows) ∙ filter_one 0 c.groups group (omega arith) less))

-- ---- of UPDATE and DELETE

pub parts_of_update : (c : Contents) (op : ShardOp) (table : ℕ) (f : Cond) (sets : List Set) (gs : List ℕ) → op ≡ Update table f sets → gs ≡ in_order c (touched_by_where c table f) →
    map (λ g. as_part (g, op)) gs ≡ map as_part (parts c op)
parts_of_update c op table f sets gs is e =
    (λ i. map (λ g. as_part (g, is i)) (e i))
    ∙ (sym (map_map as_part (λ g. (g, Update table f sets)) (in_order c (touched_by_where c table f))) ∙ ap (λ o. map as_part (parts c o)) (sym is))

pub parts_of_delete : (c : Contents) (op : ShardOp) (table : ℕ) (f : Cond) (gs : List ℕ) → op ≡ Remove table f → gs ≡ in_order c (touched_by_where c table f) →
    map (λ g. as_part (g, op)) gs ≡ map as_part (parts c op)
parts_of_delete c op table f gs is e =
    (λ i. map (λ g. as_part (g, is i)) (e i))
    ∙ (sym (map_map as_part (λ g. (g, Remove table f)) (in_order c (touched_by_where c table f))) ∙ ap (λ o. map as_part (parts c o)) (sym is))

-- a distributed table's co-location group is there
pub colocation_there : (c : Contents) (t at colocation first_shard : ℕ) → IsWhole c → place_at c t ≡ Distributed at colocation first_shard → colocation < length c.colocations
colocation_there c t at colocation first_shard w e = (subst (IsPlaced c) e (placed c w t)).0
