-- What the answers of a block that has run tell of the groups that came back.
use Rattle.std.proofs.Common.{◌≡◌, ◌≢◌, ◌⊎◌, inl, inr, ℕ, List, [], ◌∷◌, ◌++◌, ◌<◌, length, refl, sym, ◌∙◌, ap, subst, Some}
use Rattle.std.specs.Prelude.{Bool, true, false, nat_eq, slice_get}
use Rattle.std.specs.List.{AllByRecursion, AllZip, flat_map}
use Rattle.std.specs.List.Sorted.{IsPermutation}
use Rattle.std.proofs.lemmas.Grind.{flat_map-append}
use Rattle.std.proofs.lemmas.List.{length-map}
use Rattle.cq_value.proofs.Lists.{all_append, got}
use Rattle.cq_tree.specs.declared.journal.Entry.{Entry}
use Rattle.cq_tree.specs.declared.journal.EntryKind.TheVariants.{Cutover}
use Rattle.cq_catalog.specs.Contents.{Contents}
use Rattle.cq_catalog.specs.Whole.{IsWhole}
use Rattle.cq_answer.specs.declared.answered.Answered.{Answered}
use Rattle.cq_store.specs.Stores.{StoreState}
use Rattle.cq_store.specs.declared.worker.Worker.{Worker}
use Rattle.cq_journal.specs.Records.{Journal}
use Rattle.cq_history.specs.Run.{Rules}
use Rattle.cq_history.specs.Phases.{phase_in}
use Rattle.cq_history.specs.Faults.{IsShardIn, NamesBelow, range_in, ranges_of}
use Rattle.cq_history.proofs.Lists.{all_at, got_below}
use Rattle.cq_reach.specs.Seen.{IsShardOf}
use Rattle.cq_group.specs.declared.group.GroupState.{GroupState}
use Rattle.cq_group.specs.Groups.{Outline, outlines, stores_of, entries_of}
use Rattle.cq_group.specs.Resting.{journals_of}
use Rattle.cq_cell.specs.Lists.{Distinct, keep, own, AllThree}
use Rattle.cq_cell.specs.Passes.{IsOver}
use Rattle.cq_cell.proofs.Zips.{zip_long}
use Rattle.cq_cluster.specs.declared.cluster.Cluster.{Cluster}
use Rattle.cq_cluster.specs.Cluster.{IsSound}
use Rattle.cq_cluster.proofs.AnswerLaws.{AreKeyed, keyed_group, shards_in_group, outlines_in_group, one_group}
use Rattle.cq_cluster.proofs.JournalLaws.{journal_at}
use Rattle.cq_cluster.specs.Accounts.{moved_by}
use Rattle.cq_shared.specs.declared.note.Note.{Note}
use Rattle.cq_shared.specs.Terms.{Terms}
use Rattle.cq_shared.specs.declared.note.Note.TheVariants as note
use Rattle.cq_shared.specs.Notes.{who_of, entries_in, IsOfTables}
use Rattle.cq_shared.specs.Seen.{Pass}
use Rattle.cq_block_laws.specs.Serving.{Opening}
use Rattle.cq_block_laws.specs.Closing.{Session, numbers_of, answers_of}
use Rattle.cq_block_laws.specs.Sessions.{Hands, HasRun, HasMade, RanOver}
use Rattle.cq_block_laws.proofs.Histories.{histories, histories_count, as_many, IsRow, rows, group_ran, history_ran}
use Rattle.cq_block_laws.proofs.Places.{zip_got, same_there}
use Rattle.cq_block_accounts.specs.Accounts.{IsToldOf, TellsOf}
use Rattle.cq_block_accounts.specs.Blames.{AreNoMovers, BlockTells, BlockNamesBelow}
use Rattle.cq_block_accounts.proofs.Parts.{IsPart, part_of_none, join_all}
use Rattle.cq_block_accounts.proofs.Failures.{NotesTell, noted_in, ranges_noted, IsOfFailed, climbs_part, notes_tell}
use Rattle.cq_block_accounts.proofs.Blames.{AllOfGroup, behind_same, session_below, session_noted}
use Rattle.cq_block_accounts.proofs.Moved.{last_mover, phase_of_mover}
use Rattle.cq_block_accounts.proofs.Staying.{CutsNone, none_cut, same_mover}

-- ---- lists

all_zip : {A : Type 0} (P : A → Type 0) (R Q : A → A → Type 0) → ((x y : A) → P x → R x y → Q x y) → (xs ys : List A) → AllByRecursion P xs → AllZip R xs ys → AllZip Q xs ys
all_zip P R Q f [] [] all zip = tt
all_zip P R Q f [] (y ∷ ys) all zip = absurd zip
all_zip P R Q f (x ∷ xs) [] all zip = absurd zip
all_zip P R Q f (x ∷ xs) (y ∷ ys) all zip = (f x y all.0 zip.0, all_zip P R Q f xs ys all.1 zip.1)

all_three : {A B D : Type 0} (R Q : A → B → D → Type 0) (P : A → Type 0) → ((x : A) (y : B) (z : D) → R x y z → Q x y z → P x) → (xs : List A) (ys : List B) (zs : List D) → AllThree R xs ys zs → AllThree Q xs ys zs → AllByRecursion P xs
all_three R Q P f [] ys zs r q = tt
all_three R Q P f (x ∷ xs) [] zs r q = absurd r
all_three R Q P f (x ∷ xs) (y ∷ ys) [] r q = absurd r
all_three R Q P f (x ∷ xs) (y ∷ ys) (z ∷ zs) r q = (f x y z r.0 q.0, all_three R Q P f xs ys zs r.1 q.1)

all_answers : (P : Answered → Type 0) (sessions : List Session) → AllByRecursion (λ (s : Session). AllByRecursion P s.answers) sessions → AllByRecursion P (answers_of sessions)
all_answers P [] all = tt
all_answers P (s ∷ sessions) all = all_append P s.answers (answers_of sessions) all.0 (all_answers P sessions all.1)

ranges_by_session : (node shard : ℕ) (sessions : List Session) → flat_map (λ (s : Session). ranges_of node shard s.answers) sessions ≡ ranges_of node shard (answers_of sessions)
ranges_by_session node shard [] = refl
ranges_by_session node shard (s ∷ sessions) =
    ap (λ v. ranges_of node shard s.answers ++ v) (ranges_by_session node shard sessions) ∙ sym (flat_map-append (λ (a : Answered). range_in node shard a.answer) s.answers (answers_of sessions))

pub all_own : {N : Type 0} (who : N → ℕ) (P : N → Type 0) (n : ℕ) (xs : List N) → AllByRecursion P xs → AllByRecursion P (own who n xs)
all_own who P n [] all = tt
all_own {N} who P n (x ∷ xs) all = either (nat_eq (who x) n) (own who n xs) (all_own who P n xs all.1)
  where
    either : (b : Bool) (ys : List N) → AllByRecursion P ys → AllByRecursion P (keep b x ys)
    either true ys more = (all.0, more)
    either false ys more = more

-- ---- the groups

-- the stores of each group keep shards of the group, no two of them on one node, and no shard is in two groups
record HaveShards {X : Type 0} (state : X → StoreState) (c : Contents) (groups : List (GroupState X)) : Type 0 where
  own : (i : ℕ) (g : GroupState X) → slice_get groups i ≡ Some g → AllByRecursion (λ (x : X). IsShardIn c i (state x).shard) (stores_of g)
  tables : (i : ℕ) (g : GroupState X) → slice_get groups i ≡ Some g → AllByRecursion (λ (o : Outline). IsShardIn c i o.2) (outlines g)
  keyed : (i : ℕ) (g : GroupState X) → slice_get groups i ≡ Some g → AreKeyed state (stores_of g)
  one : (i j shard : ℕ) → IsShardIn c i shard → IsShardIn c j shard → i ≡ j

have_shards : {X : Type 0} (state : X → StoreState) (cl : Cluster X) → IsSound state cl → HaveShards state cl.catalog cl.groups.items
have_shards state cl s = record {
  own = λ i g at. shards_in_group state cl i g s at;
  tables = λ i g at. outlines_in_group state cl i g s at;
  keyed = λ i g at. keyed_group state cl i g s at;
  one = λ i j shard a b. one_group cl.catalog i j shard s.whole a b;
}

of_tables : (P : ℕ → Type 0) (os : List Outline) (shard : ℕ) → AllByRecursion (λ (o : Outline). P o.2) os → IsShardOf os shard → P shard
of_tables P [] shard all is = absurd is
of_tables P (o ∷ os) shard all (inl same) = subst P (sym same) all.0
of_tables P (o ∷ os) shard all (inr later) = of_tables P os shard all.1 later

-- notes of failures of these tables' stores alone
all_of_tables : (P : ℕ → Type 0) (os : List Outline) (notes : List Note) → AllByRecursion (λ (o : Outline). P o.2) os → AllByRecursion (IsOfTables os) notes → AllByRecursion (IsOfFailed P) notes
all_of_tables P os [] all failed = tt
all_of_tables P os (note.Entered e ∷ notes) all failed = (tt, all_of_tables P os notes all failed.1)
all_of_tables P os (note.Failed who f ∷ notes) all failed = (of_tables P os f.shard all failed.0, all_of_tables P os notes all failed.1)

module _ {X C : Type 0} (state : X → StoreState) (terms : C → Terms) (rules : Rules) (nodes : ℕ) (o : Opening) (c : Contents) (opened : List (GroupState X)) (workers : List (Worker X)) (sessions : List Session) (closed : List (GroupState X))
    (returned : List (Worker X)) (h : HasRun state terms rules nodes o opened workers sessions closed returned) (shards : HaveShards state c opened) where
  -- a group's history has failures of its own shards alone
  in_history : (j : ℕ) (notes : List Note) → slice_get (histories state terms rules nodes o opened workers sessions closed returned h) j ≡ Some notes → AllByRecursion (IsOfFailed (IsShardIn c j)) notes
  in_history j notes at =
      let low : j < length opened = subst (λ n. j < n) (histories_count state terms rules nodes o opened workers sessions closed returned h) (got_below (histories state terms rules nodes o opened workers sessions closed returned h) j notes at) in
      let g = got opened j low in
      let x = got closed j (subst (λ n. j < n) (sym (as_many state terms rules nodes o opened workers sessions closed returned h)) low) in
      let ran = history_ran state terms rules nodes o opened workers sessions closed returned h j g.0 x.0 notes g.1 x.1 at in
      all_of_tables (IsShardIn c j) (outlines g.0) notes (shards.tables j g.0 g.1) ran.stands.failed

  of_groups : (last : List (Pass X C)) → AllZip (IsOver who_of) (histories state terms rules nodes o opened workers sessions closed returned h) last → AllOfGroup state terms c last
  of_groups last over j q at =
      let all = histories state terms rules nodes o opened workers sessions closed returned h in
      let n = got all j (subst (λ k. j < k) (zip_long (IsOver who_of) all last over) (got_below last j q at)) in
      let p = zip_got (IsOver who_of) all last j n.0 over n.1 in
      let its = subst (λ (v : Pass X C). AllByRecursion (IsOfFailed (IsShardIn c j)) v.place.me.0.mine) (same_there last j p.item q p.there at) in
      let own_notes = own who_of p.item.place.me.0.number n.0 in
      let mine : own_notes ≡ p.item.place.me.0.mine = sym p.holds.mine in
      its (subst (AllByRecursion (IsOfFailed (IsShardIn c j))) mine (all_own who_of (IsOfFailed (IsShardIn c j)) p.item.place.me.0.number n.0 (in_history j n.0 n.1)))

  answers_below : IsWhole c → AllByRecursion (λ (a : Answered). NamesBelow c.next_shard a.answer) (answers_of sessions)
  answers_below whole = all_answers (λ (a : Answered). NamesBelow c.next_shard a.answer) sessions
      (all_three (IsRow state terms rules nodes o opened workers sessions closed returned h) (IsRow state terms rules nodes o opened workers sessions closed returned h) (λ (s : Session). AllByRecursion (λ (a : Answered). NamesBelow c.next_shard a.answer) s.answers)
      (λ s first last row same. session_below state terms c rules nodes o whole first s.answers last row.served (of_groups last.passes row.over)) sessions h.firsts h.lasts
      (rows state terms rules nodes o opened workers sessions closed returned h) (rows state terms rules nodes o opened workers sessions closed returned h))

  module _ (i : ℕ) (g x : GroupState X) (notes : List Note) (ran : RanOver state (terms h.shared_by) sessions h.firsts h.lasts i g x notes) (was : slice_get opened i ≡ Some g) (apart : Distinct (numbers_of sessions)) where
    abbrev Named : ℕ → ℕ → Session → Type 0
    Named node shard s = IsPart (ranges_of node shard s.answers) (ranges_noted node shard (own who_of s.number notes))

    session_named : (node shard : ℕ) → IsShardIn c i shard → (s : Session) (first last : Hands X C) → IsRow state terms rules nodes o opened workers sessions closed returned h s first last → HasMade i g notes s first last → Named node shard s
    session_named node shard here s first last row made =
        let k = session_noted state terms c rules nodes o i node shard shards.one here first s.answers last made.first made.last row.served (of_groups last.passes row.over) made.was made.is in
        let its : k.notes ≡ own who_of s.number notes = sym (k.mine ∙ ap (λ v. v ++ k.notes) made.none) ∙ made.mine in
        subst (λ v. IsPart (ranges_of node shard s.answers) (ranges_noted node shard v)) its k.part

    store_told : (s t : StoreState) → IsShardIn c i s.shard → NotesTell notes s t → TellsOf (answers_of sessions) s t
    store_told s t here tells =
        let named = all_three (IsRow state terms rules nodes o opened workers sessions closed returned h) (HasMade i g notes) (Named s.node s.shard) (session_named s.node s.shard here) sessions h.firsts h.lasts
        (rows state terms rules nodes o opened workers sessions closed returned h) ran.made in
        let all = join_all who_of (noted_in s.node s.shard) (λ (v : Session). v.number) (λ (v : Session). ranges_of s.node s.shard v.answers) sessions notes apart named in record {
          on = tells.on;
          ranges = all.0;
          told = subst (λ v. IsPermutation v all.0) (ranges_by_session s.node s.shard sessions) all.2;
          climbs = climbs_part s.faults all.0 (ranges_noted s.node s.shard notes) t.faults all.1 tells.climbs;
          steady = λ k. part_of_none all.0 (ranges_noted s.node s.shard notes) all.1 (tells.steady k);
        }

    group_told : AreNoMovers (answers_of sessions) opened → AllByRecursion CutsNone notes → IsToldOf state (answers_of sessions) g x
    group_told movers none = record {
      moved = same_mover state ((terms h.shared_by).allows g.journal.group) g x notes ran.stands none;
      earlier = all_at (λ (v : GroupState X). AllByRecursion (λ (a : Answered). a.statement ≢ moved_by (entries_of v)) (answers_of sessions)) opened i g movers was;
      tells = all_zip (λ (v : X). IsShardIn c i (state v).shard) (λ (v w : X). NotesTell notes (state v) (state w)) (λ (v w : X). TellsOf (answers_of sessions) (state v) (state w))
          (λ v w own tells. store_told (state v) (state w) own tells) (stores_of g) (stores_of x) (shards.own i g was)
          (notes_tell state notes (stores_of g) (stores_of x) none (shards.keyed i g was) ran.stands.stores);
    }

pub block_tells : {X C : Type 0} (state : X → StoreState) (terms : C → Terms) → BlockTells state C terms
block_tells {X} state terms rules nodes o cl workers sessions closed returned phase answers h sound fresh now on = record {
  count = as_many state terms rules nodes o cl.groups.items workers sessions closed returned h;
  each = λ i g x was is. (let ran = group_ran state terms rules nodes o cl.groups.items workers sessions closed returned h i g x was is in told i g x was is ran.0 ran.1);
}
  where
    block : List Answered
    block = answers_of sessions

    told : (i : ℕ) (g x : GroupState X) → slice_get cl.groups.items i ≡ Some g → slice_get closed i ≡ Some x → (notes : List Note) → RanOver state (terms h.shared_by) sessions h.firsts h.lasts i g x notes →
        (phase_in (answers ++ block) (moved_by (entries_of x)) ≡ phase) ⊎ IsToldOf state block g x
    told i g x was is notes ran =
        let low : i < length (journals_of cl.groups.items) = subst (λ n. i < n) (sym (length-map cl.groups.items _)) (got_below cl.groups.items i g was) in
        let by = on i low in
        let old = ap (λ (j : Journal). j.entries) (journal_at cl.groups.items i g was) in
        let new = ap (λ (j : Journal). j.entries) (journal_at closed i x is) in
        let all : entries_of x ≡ entries_of g ++ by.more = sym new ∙ by.all ∙ ap (λ v. v ++ by.more) old in
        elim by.cuts [
          | inl cut ↦ inl (
              ap (λ v. phase_in (answers ++ block) (moved_by v)) all
              ∙ ap (phase_in (answers ++ block)) (last_mover block (entries_of g) by.more cut)
              ∙ phase_of_mover phase answers block cut.last.who now fresh.numbers cut.by)
          | inr none ↦
              let its : by.more ≡ entries_in notes = behind_same (entries_of g) by.more (entries_in notes) (sym all ∙ ran.stands.journal) in
              let uncut = none_cut notes (subst (AllByRecursion (λ (e : Entry). e.kind ≢ Cutover)) its none) in
              inr (group_told state terms rules nodes o cl.catalog cl.groups.items workers sessions closed returned h (have_shards state cl sound) i g x notes ran was fresh.distinct fresh.movers uncut)
        ]

pub block_names_below : {X C : Type 0} (state : X → StoreState) (terms : C → Terms) → BlockNamesBelow state C terms
block_names_below state terms rules nodes o cl workers sessions closed returned h sound =
    answers_below state terms rules nodes o cl.catalog cl.groups.items workers sessions closed returned h (have_shards state cl sound) sound.whole
