-- The tables of a shard's group, as a session knows it whose block was opened over the groups of the catalogue.
use Rattle.std.proofs.Common.{◌≡◌, ◌≢◌, ◌<◌, ◌+◌, ℕ, List, [], ◌∷◌, length, refl, sym, ◌∙◌, ap, subst, arith, Some, Option, slice_get}
use Rattle.std.specs.List.{AllByRecursion, sum_by}
use Rattle.std.proofs.lemmas.List.{length-map}
use Rattle.std.proofs.lemmas.Option.{same_Some}
use Rattle.cq_value.proofs.Lists.{all_weaker}
use Rattle.cq_value.specs.Tables.{rows_of}
use Rattle.cq_tree.specs.declared.journal.Entry.{Entry}
use Rattle.cq_catalog.specs.Contents.{Contents}
use Rattle.cq_catalog.specs.Placement.{HasShard, shard_in}
use Rattle.cq_catalog.specs.Contents.{colocation_of}
use Rattle.cq_catalog.specs.declared.info.Colocation.{Colocation}
use Rattle.cq_catalog.specs.declared.info.Place.{Place}
use Rattle.cq_catalog.specs.declared.info.Place.TheVariants.{Distributed}
use Rattle.cq_journal.specs.Journals.{replay}
use Rattle.cq_planning.specs.Database.{shape_in}
use Rattle.cq_history.specs.Faults.{IsShardIn}
use Rattle.cq_history.specs.Looks.{has_shard}
use Rattle.cq_history.specs.Room.{tables_in}
use Rattle.cq_store.specs.Stores.{StoreState}
use Rattle.cq_group.specs.declared.group.GroupState.{GroupState}
use Rattle.cq_group.specs.Groups.{Outline, outlines}
use Rattle.cq_group.specs.Incoming.{rows_in}
use Rattle.cq_cluster.specs.Cluster.{AreGroups, IsShardOf}
use Rattle.cq_cluster.proofs.CountLaws.{ArePassing, count_of_passing, sum_more, sum_of_passing}
use Rattle.cq_cluster.proofs.HeldLaws.{shards_of_covered, table_numbers}
use Rattle.cq_cluster.proofs.MovingLawsGroups.{IsFoundAt, found_at}
use Rattle.cq_move_laws.specs.Moving.{HasTables, seen_behind}
use Rattle.cq_move_laws.specs.Laws.{GroupHasTables}

-- the rows of a group's tables are those of the catalogue's tables of these numbers
rows_listed : (c : Contents) (colocation i : ℕ) (es : List Entry) (os : List Outline) → AllByRecursion (IsShardOf c colocation i) os →
    sum_by (λ table. length (rows_of (replay table (shape_in c table) es))) (table_numbers os) ≡ rows_in es os
rows_listed c colocation i es [] all = refl
rows_listed c colocation i es (o ∷ os) all =
    let f : ℕ → ℕ = λ table. length (rows_of (replay table (shape_in c table) es)) in
    let h : Outline → ℕ = λ (v : Outline). length (replay v.0 v.1 es).pairs in
    let more : sum_by f (table_numbers os) ≡ sum_by h os = rows_listed c colocation i es os all.1 in
    let a : sum_by f (o.0 ∷ table_numbers os) ≡ f o.0 + sum_by f (table_numbers os) = sum_more f o.0 (table_numbers os) in
    let b : sum_by h (o ∷ os) ≡ h o + sum_by h os = sum_more h o os in
    let shape : o.1 ≡ shape_in c o.0 = ap (λ (v : Outline). v.1) all.0.3 in
    let own : f o.0 ≡ h o = length-map (replay o.0 (shape_in c o.0) es).pairs (λ p. p.1) ∙ ap (λ s. length (replay o.0 s es).pairs) (sym shape) in
    omega (arith, more, a, b, own)

-- a table's shard in a group of its co-location group is that group's
shard_there : (c : Contents) (colocation i group : ℕ) (co : Colocation) → slice_get c.colocations colocation ≡ Some co → i < co.count → group ≡ co.first_group + i → (o : Outline) → IsShardOf c colocation i o → IsShardIn c group o.2
shard_there c colocation i group co there within at o h = record {
  table = o.0;
  there = subst (λ (p : Place). HasShard (slice_get c.colocations (colocation_of p)) p group) (sym h.2)
      (subst (λ (m : Option Colocation). HasShard m (Distributed h.0 colocation h.1) group) (sym there) (omega (arith, at), omega (arith, at, within)));
  is = ap (λ (v : Outline). v.2) h.3 ∙ subst (λ (p : Place). h.1 + i ≡ shard_in (slice_get c.colocations (colocation_of p)) p group) (sym h.2)
      (subst (λ (m : Option Colocation). h.1 + i ≡ shard_in m (Distributed h.0 colocation h.1) group) (sym there) (omega (arith, at)));
}

module _ {X : Type 0} (state : X → StoreState) (nodes : ℕ) (c : Contents) (groups : List (GroupState X)) (group : ℕ) (all : AreGroups state nodes c groups) (f : IsFoundAt state nodes c group groups) (es : List Entry) where
  abbrev passing : ArePassing (has_shard c group) (length c.tables) (table_numbers (outlines f.g))
  passing = shards_of_covered state nodes c groups all group f.g f.was f.there

  as_many : length (outlines f.g) ≡ length (tables_in c group)
  as_many = sym (length-map (outlines f.g) (λ (o : Outline). o.0)) ∙ sym (count_of_passing (has_shard c group) (length c.tables) (table_numbers (outlines f.g)) passing)

  has_tables : HasTables c group (seen_behind f.g es)
  has_tables = record {
    shards = all_weaker (IsShardOf c f.was.colocation f.was.i) (λ (o : Outline). IsShardIn c group o.2) (shard_there c f.was.colocation f.was.i group f.was.co f.was.there f.was.within f.was.is) (outlines f.g) f.of.shards;
    rows = λ more.
        sym (rows_listed c f.was.colocation f.was.i more (outlines f.g) f.of.shards)
        ∙ sym (sum_of_passing (λ table. length (rows_of (replay table (shape_in c table) more))) (has_shard c group) (length c.tables) (table_numbers (outlines f.g)) passing);
  }

  has_all : HasTables c group (seen_behind f.g es) × (length (outlines f.g) ≡ length (tables_in c group)) × (group < c.groups) × (f.g.journal.opening ≢ 0)
  has_all = (has_tables, as_many, f.below, λ none. (let home = f.of.opening in absurd (omega (arith, none, home))))

pub group_has_tables : {X : Type 0} (state : X → StoreState) → GroupHasTables state
group_has_tables state nodes c groups shard group g es whole all is at =
    let f = found_at state nodes c shard group groups whole all is in
    subst (λ (v : GroupState _). HasTables c group (seen_behind v es) × (length (outlines v) ≡ length (tables_in c group)) × (group < c.groups) × (v.journal.opening ≢ 0))
    (same_Some f.g g (sym f.there ∙ at)) (has_all state nodes c groups group all f es)
