-- The group of a shard, as a session of a block knows it between two statements.
use Rattle.std.proofs.Common.{◌≡◌, ◌≢◌, inl, inr, ℕ, zero, suc, ◌<◌, ◌≤◌, true, false, ◌||◌, List, [], ◌∷◌, ◌++◌, length, map, refl, sym, ap, ◌∙◌, subst, arith, Option, Some, None, slice_get}
use Rattle.std.specs.Prelude.{slice_index_or}
use Rattle.std.proofs.lemmas.Bool.{ne_eqb}
use Rattle.std.proofs.lemmas.Bool.Decides.{eqb_tells}
use Rattle.std.proofs.lemmas.Option.{same_Some}
use Rattle.std.specs.List.{AllZip, AllByRecursion}
use Rattle.atomic_table.specs.Seated.{TableId}
use Rattle.cq_value.specs.Tables.{empty_table}
use Rattle.cq_value.proofs.Lists.{all_weaker}
use Rattle.cq_tree.specs.declared.journal.Entry.{Entry}
use Rattle.cq_tree.specs.declared.journal.Who.{Who}
use Rattle.cq_catalog.specs.Contents.{Contents, place_in, colocation_of}
use Rattle.cq_catalog.specs.Placement.{group_of_shard}
use Rattle.cq_catalog.specs.declared.info.TableInfo.{TableInfo}
use Rattle.cq_journal.specs.Records.{Journal}
use Rattle.cq_journal.specs.Stations.{moving_of, node_of}
use Rattle.cq_planning.specs.Database.{shape_in}
use Rattle.cq_planning.specs.Touched.{among}
use Rattle.cq_history.specs.Journals.{journal_in}
use Rattle.cq_history.specs.Legality.{IsLegal, IsLegalKind}
use Rattle.cq_history.specs.Looks.{has_shard_at, has_shard}
use Rattle.cq_store.specs.Stores.{StoreState}
use Rattle.cq_group.specs.declared.group.GroupState.{GroupState}
use Rattle.cq_group.specs.Groups.{Outline, entries_of, journal_of, or_no_shape, outlines, shape_at}
use Rattle.cq_reach.specs.Seen.{Seen, seen_of, shape_seen}
use Rattle.cq_reach.proofs.Growth.{got, got_below, journal_at}
use Rattle.cq_move.specs.declared.outcome.MoveReport.{MoveReport}
use Rattle.cq_transfer.specs.Entering.{HasMoved}
use Rattle.cq_cluster.specs.Cluster.{IsShardOf}
use Rattle.cq_cluster.proofs.HeldLaws.{shards_of_covered, table_numbers}
use Rattle.cq_cluster.proofs.MovingLawsGroups.{IsFoundAt, found_at}
use Rattle.cq_shared.specs.declared.content.Shard.{Shard}
use Rattle.cq_shared.specs.Notes.{Stands, entries_in}
use Rattle.cq_shared.specs.Seen.{HasStood, Pass, group_of, seen_by, seen_since}
use Rattle.cq_shared.specs.Terms.{Terms}
use Rattle.cq_shared.proofs.Legal.{stands_legal}
use Rattle.cq_desk.specs.Moving.{AreKept, seen_at, seen_in}
use Rattle.cq_block_laws.specs.Sessions.{Hands, journals_by}
use Rattle.cq_move_laws.specs.Moving.{HasTables, seen_behind}
use Rattle.cq_move_laws.proofs.Tables.{group_has_tables}
use Rattle.cq_block_move.specs.Hands.{IsPassTo, AreHands}
use Rattle.cq_block_move.proofs.Placed.{found_place}

-- ---- lists

-- what is beside the item at a place
record Beside {A B : Type 0} (R : A → B → Type 0) (ys : List B) (k : ℕ) (x : A) : Type 0 where
  item : B
  there : slice_get ys k ≡ Some item
  holds : R x item

beside_it : {A B : Type 0} (R : A → B → Type 0) (xs : List A) (ys : List B) → AllZip R xs ys → (k : ℕ) (x : A) → slice_get xs k ≡ Some x → Beside R ys k x
beside_it R [] [] h k x e = absurd (cc e)
beside_it R [] (b ∷ ys) h k x e = absurd h
beside_it R (a ∷ xs) [] h k x e = absurd h
beside_it R (a ∷ xs) (b ∷ ys) h zero x e = record { item = b; there = refl; holds = subst (λ z. R z b) (same_Some a x e) h.0 }
beside_it R (a ∷ xs) (b ∷ ys) h (suc k) x e = let r = beside_it R xs ys h.1 k x e in record { item = r.item; there = r.there; holds = r.holds }

pub as_long : {A B : Type 0} (R : A → B → Type 0) (xs : List A) (ys : List B) → AllZip R xs ys → length ys ≡ length xs
as_long R [] [] h = refl
as_long R [] (y ∷ ys) h = absurd h
as_long R (x ∷ xs) [] h = absurd h
as_long R (x ∷ xs) (y ∷ ys) h = ap suc (as_long R xs ys h.1)

-- ---- journals, by places

abbrev at_or : {A B : Type 0} → (A → B) → B → Option A → B
at_or f d None = d
at_or f d (Some x) = f x

read_map : {A B : Type 0} (f : A → B) (xs : List A) (k : ℕ) (d : B) → slice_index_or (map f xs) k d ≡ at_or f d (slice_get xs k)
read_map f [] k d = refl
read_map f (x ∷ xs) zero d = refl
read_map f (x ∷ xs) (suc k) d = read_map f xs k d

abbrev none_at : ℕ → Journal
none_at g = record { number = g; opening = 0; base = λ table. empty_table; entries = [] }

module _ {X C : Type 0} where
  journal_here : (passes : List (Pass X C)) (g : ℕ) → journal_in (journals_by passes) g ≡ at_or (λ (p : Pass X C). (seen_by p.place).journal) (none_at g) (slice_get passes g)
  journal_here passes g = read_map (λ (p : Pass X C). (seen_by p.place).journal) passes g (none_at g)

  -- the journal that a session knows of a group
  journal_known : (passes : List (Pass X C)) (g : ℕ) (p : Pass X C) → slice_get passes g ≡ Some p → journal_in (journals_by passes) g ≡ (seen_at passes g).journal
  journal_known passes g p at = journal_here passes g ∙ (ap (at_or (λ (q : Pass X C). (seen_by q.place).journal) (none_at g)) at ∙ ap (λ (v : Option (Pass X C)). (seen_in v).journal) (sym at))

  pub journal_same : (old new : List (Pass X C)) (g : ℕ) → slice_get new g ≡ slice_get old g → journal_in (journals_by new) g ≡ journal_in (journals_by old) g
  journal_same old new g same = journal_here new g ∙ (ap (at_or (λ (q : Pass X C). (seen_by q.place).journal) (none_at g)) same ∙ sym (journal_here old g))

-- ---- shapes

-- a table with a shard in some group is the catalogue's
is_below : (c : Contents) (group table : ℕ) (t : Option TableInfo) → slice_get c.tables table ≡ t → has_shard c group table ≡ true → table < length c.tables
is_below c group table None e has = absurd (let bad : false ≡ true = sym (ap (λ (v : Option TableInfo). has_shard_at (slice_get c.colocations (colocation_of (place_in v))) (place_in v) group) e) ∙ has in cc bad)
is_below c group table (Some t) e has = got_below c.tables table t e

-- the tables of a group have their shapes
shape_there : (c : Contents) (colocation i table : ℕ) (os : List Outline) → AllByRecursion (IsShardOf c colocation i) os → among table (table_numbers os) ≡ true → shape_at os table ≡ Some (shape_in c table)
shape_there c colocation i table [] all is = absurd (let bad : false ≡ true = is in cc bad)
shape_there c colocation i table (o ∷ os) all is = elim (eqb_tells o.0 table) [
  | inl y ↦ rw y.0 (ap (λ (v : Outline). Some v.1) all.0.3 ∙ ap (λ t. Some (shape_in c t)) y.1)
  | inr z ↦ rw z.0 (shape_there c colocation i table os all.1 (sym (ap (λ b. b || among table (table_numbers os)) (ne_eqb table o.0 (λ e. z.1 (sym e)))) ∙ is))
]

-- ---- the group

kinds_weaker : {X : Type 0} (state : X → StoreState) (n : ℕ) (c : Contents) (allowed : _ → Type 0) (o x : GroupState X) (notes : _) → ((kind : _) → allowed kind → IsLegalKind c n kind) → Stands state allowed o x notes → Stands state (IsLegalKind c n) o x notes
kinds_weaker state n c allowed o x notes may h = record {
  remains = h.remains;
  journal = h.journal;
  kinds = all_weaker (λ (e : Entry). allowed e.kind) (λ (e : Entry). IsLegalKind c n e.kind) (λ e. may e.kind) (entries_of x) h.kinds;
  resting = h.resting;
  moves = h.moves;
  stores = h.stores;
  failed = h.failed;
}

module _ {X C : Type 0} (state : X → StoreState) (terms : C → Terms) (c : Contents) (nodes : ℕ) (cells stalls : List TableId) (sessions : List ℕ) (session : ℕ) (h : Hands X C) (hands : AreHands state terms c nodes cells stalls sessions session h)
    (shard group : ℕ) (is : group_of_shard c shard ≡ Some group) where
  abbrev found : IsFoundAt state nodes c group hands.opened
  found = found_at state nodes c shard group hands.opened hands.ground.whole hands.ground.are is

  abbrev to_it : Beside (IsPassTo hands.rule) h.passes group found.g
  to_it = beside_it (IsPassTo hands.rule) hands.opened h.passes hands.to group found.g found.there

  -- the session's pass to it
  abbrev pass : Pass X C
  pass = to_it.item

  pub group_below : group < c.groups
  group_below = found.below

  pub pass_below : group < length h.passes
  pass_below = got_below h.passes group pass to_it.there

  pub its_known : journal_in (journals_by h.passes) group ≡ (seen_at h.passes group).journal
  its_known = journal_known h.passes group pass to_it.there

  abbrev entries : List Entry
  entries = entries_of found.g ++ entries_in pass.place.me.0.news

  seen_is : seen_at h.passes group ≡ seen_behind found.g entries
  seen_is =
      ap seen_in to_it.there
      ∙ (ap (λ (o : Option (Shard X C)). seen_since (group_of o) pass.place.me.0.news) to_it.holds.origin ∙ ap (λ (g : GroupState X). seen_since (Some g) pass.place.me.0.news) to_it.holds.shared.0)

  pub known_tables : HasTables c group (seen_at h.passes group)
  known_tables = subst (HasTables c group) (sym seen_is) (group_has_tables state nodes c hands.opened shard group found.g entries hands.ground.whole hands.ground.are is found.there).0

  pub known_opened : (seen_at h.passes group).journal.opening ≢ 0
  known_opened = subst (λ (s : Seen). s.journal.opening ≢ 0) (sym seen_is) (group_has_tables state nodes c hands.opened shard group found.g entries hands.ground.whole hands.ground.are is found.there).3

  its_shape : (table : ℕ) → has_shard c group table ≡ true → shape_seen (seen_of found.g) table ≡ shape_in c table
  its_shape table has =
      let passing = shards_of_covered state nodes c hands.opened hands.ground.are group found.g found.was found.there in
      ap or_no_shape (shape_there c found.was.colocation found.was.i table (outlines found.g) found.of.shards (passing.all table (is_below c group table (slice_get c.tables table) refl has) has))

  its_journal : IsLegal c group (journal_of found.g)
  its_journal = subst (IsLegal c group) (journal_at hands.opened group found.g _ found.there) (hands.ground.legal group)

  -- what it has seen of the group stood so, for some group
  abbrev stood : HasStood state terms pass.place
  stood = (hands.passes.own group pass to_it.there).stood

  same_shard : to_it.holds.shard ≡ stood.opening
  same_shard = same_Some to_it.holds.shard stood.opening (sym to_it.holds.origin ∙ stood.origin)

  was : stood.opening.group ≡ found.g
  was = ap (λ (v : Shard X C). v.group) (sym same_shard) ∙ to_it.holds.shared.0

  rule : stood.opening.rules.value ≡ hands.rule
  rule = ap (λ (v : Shard X C). v.rules.value) (sym same_shard) ∙ to_it.holds.shared.1

  number : stood.opening.group.journal.group ≡ group
  number = ap (λ (g : GroupState X). g.journal.group) was ∙ found.of.number ∙ sym found.was.is

  -- what it knows of the group's journal is legal
  pub known_legal : IsLegal c group (seen_at h.passes group).journal
  known_legal =
      let stands = stood.stands.stands in
      let legal : Stands state (IsLegalKind c group) stood.opening.group stood.shard.group pass.place.me.0.news =
      kinds_weaker state group c ((terms stood.opening.rules.value).allows stood.opening.group.journal.group) stood.opening.group stood.shard.group pass.place.me.0.news
      (λ kind may. hands.ground.kinds group kind (subst (λ (v : C × ℕ). (terms v.0).allows v.1 kind) (λ i. (rule i, number i)) may)) stands in
      let its = stands_legal state c group found.g stood.shard.group pass.place.me.0.news its_shape its_journal (subst (λ (g : GroupState X). Stands state (IsLegalKind c group) g stood.shard.group pass.place.me.0.news) was legal) in
      let journal : journal_of stood.shard.group ≡ (seen_since (Some stood.opening.group) pass.place.me.0.news).journal =
      (λ i. record { number = stands.remains.number i; opening = stands.remains.opening i; base = λ table. empty_table; entries = stands.journal i }) in
      subst (IsLegal c group) (journal ∙ ap (λ (g : GroupState X). (seen_since (Some g) pass.place.me.0.news).journal) was ∙ sym (ap (λ (s : Seen). s.journal) seen_is)) its

  -- a move that came to this found the group on a node of the run
  module _ (old : List (Pass X C)) (kept : AreKept group old h.passes) (comes : Entry → Type 0) (who : Who) (from to : ℕ) (r : MoveReport) (moves : HasMoved comes who from to r (seen_at old group) (seen_at h.passes group)) where
    abbrev before : (p : Pass X C) × (slice_get old group ≡ Some p)
    before = let low = pass_below in let count = kept.count in got old group (omega (arith, low, count))

    since_then : seen_at old group ≡ seen_since (Some stood.opening.group) before.0.place.me.0.news
    since_then = ap seen_in before.1 ∙ ap (λ (v : Option (Shard X C)). seen_since (group_of v) before.0.place.me.0.news) (sym (kept.here before.0 pass before.1 to_it.there).same.2 ∙ stood.origin)

    since_now : seen_at h.passes group ≡ seen_since (Some stood.opening.group) pass.place.me.0.news
    since_now = ap seen_in to_it.there ∙ ap (λ (v : Option (Shard X C)). seen_since (group_of v) pass.place.me.0.news) stood.origin

    still : moving_of (journal_of stood.opening.group) ≡ None
    still = ap (λ (g : GroupState X). moving_of (journal_of g)) was ∙ found.of.still

    pub found_within : from ≤ nodes
    found_within =
        let moves_since : HasMoved comes who from to r (seen_since (Some stood.opening.group) before.0.place.me.0.news) (seen_since (Some stood.opening.group) pass.place.me.0.news) =
        subst (λ (v : Seen × Seen). HasMoved comes who from to r v.0 v.1) (λ i. (since_then i, since_now i)) moves in
        elim (found_place state terms stood.opening stood.shard before.0.place.me.0.news pass.place.me.0.news stood.stands still comes who from to r moves_since) [
          | inl home ↦
              let at : from ≡ found.g.node = home ∙ (ap (λ (g : GroupState X). node_of (journal_of g)) was ∙ found.of.placed) in
              let few = found.of.node.few in
              omega (arith, at, few)
          | inr reached ↦ (hands.ground.reaches from).0 (subst (λ (v : C). (terms v).reaches from) rule reached)
        ]
