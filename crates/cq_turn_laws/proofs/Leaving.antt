-- Where groups are, and how many stores of workers are spare, behind a statement of a block that ran alone.
use Rattle.std.proofs.Common.{cond, ◌≡◌, ◌≢◌, ◌+◌, ◌<◌, ◌≤◌, inl, inr, ℕ, Bool, true, List, [], ◌∷◌, ◌++◌, length, filter, refl, sym, ◌∙◌, ap, subst, arith, Some, None, Option, append-nil, eq-eqb, ne_eqb}
use Rattle.std.specs.Prelude.{nat_eq, nat_lt, fold, option_map, ◌||◌, ◌-◌, ⊤}
use Rattle.std.specs.List.{AllByRecursion}
use Rattle.std.proofs.lemmas.Bool.{lt-ltb, le-leb}
use Rattle.std.proofs.lemmas.Bool.Decides.{eqb_tells}
use Rattle.cq_value.proofs.Truths.{two_ways}
use Rattle.cq_tree.specs.declared.journal.Who.{Who}
use Rattle.cq_tree.specs.declared.journal.Entry.{Entry}
use Rattle.cq_tree.specs.declared.journal.EntryKind.{EntryKind}
use Rattle.cq_tree.specs.declared.journal.EntryKind.TheVariants as entry
use Rattle.cq_tree.specs.declared.statement.Statement.{Statement}
use Rattle.cq_tree.specs.declared.statement.Statement.TheVariants as statement
use Rattle.cq_catalog.specs.Contents.{Contents}
use Rattle.cq_catalog.specs.Placement.{place_at, colocation_at, group_of_shard, HasShard}
use Rattle.cq_catalog.specs.Refusals.{first_of}
use Rattle.cq_catalog.specs.declared.info.Colocation.{Colocation}
use Rattle.cq_catalog.specs.declared.info.Place.{Place}
use Rattle.cq_catalog.specs.declared.info.Place.TheVariants.{Local, Distributed, Reference}
use Rattle.cq_answer.specs.declared.answer.Answer.{Answer}
use Rattle.cq_answer.specs.declared.answer.Answer.TheVariants as answer
use Rattle.cq_answer.specs.declared.fault.Fault.{Fault}
use Rattle.cq_answer.specs.declared.fault.Fault.TheVariants as fault
use Rattle.cq_journal.specs.Records.{Journal}
use Rattle.cq_journal.specs.Stations.{Station, moved, station_of, node_of}
use Rattle.cq_planning.specs.Refusals.{refusal_of}
use Rattle.cq_planning.specs.Touched.{among, numbers}
use Rattle.cq_history.specs.Run.{Run, Environment}
use Rattle.cq_history.specs.Phases.{MayBeInBlock}
use Rattle.cq_history.specs.Journals.{journal_in, cut, Step, kinds_in, with_entries, consecutive, none}
use Rattle.cq_history.specs.Legality.{IsLegal, IsLegalStep, CanFollow}
use Rattle.cq_history.specs.Looks.{has_shard, has_shard_at}
use Rattle.cq_history.specs.Faults.{IsShardIn}
use Rattle.cq_history.specs.Moves.{Report, IsMove, IsStopped, node_fault, mover_fault, place_fault, start_fault}
use Rattle.cq_history.specs.Room.{tables_in, short_of, stores_moved, stores_to, stores_from}
use Rattle.cq_history.specs.Refusals.{rules}
use Rattle.cq_history.specs.Standing.{View, Enters, EntersIn, Yields, Moves, MovesUnless, IsMovedIn, RunsUnless}
use Rattle.cq_history.specs.Deeds.{Deed, alone, in_deed, Does, Grows}
use Rattle.cq_history.specs.Laws.{IsOfNoMove}
use Rattle.cq_history.proofs.Doing.{with_both}
use Rattle.cq_history.proofs.Lists.{got_below}
use Rattle.cq_history.proofs.Explaining.{among_numbers}
use Rattle.cq_history.proofs.Moving.{station_more, others_move_none}
use Rattle.cq_history.proofs.Phasing.{all_by_get}
use Rattle.cq_history.proofs.Script.{with_none}
use Rattle.cq_history.proofs.Tables.{there_is}
use Rattle.cq_turn_laws.proofs.Spare.{spare, Shifts, StaysAt, still_spare, moved_took, moved_gave, retired_took, retired_gave}
use Rattle.cq_turn_laws.proofs.Turns.{gone}

-- ---- a group's node

-- moves go to nodes, which count from 1
abbrev IsLow : EntryKind → Type 0
IsLow (entry.MoveStart to) = 1 ≤ to
IsLow k = ⊤

is_low : (c : Contents) (j : Journal) (who : Who) (k : EntryKind) → CanFollow c j who k → IsLow k
is_low c j who entry.Read f = tt
is_low c j who (entry.Write op reply) f = tt
is_low c j who (entry.MoveStart to) f = f.1
is_low c j who entry.CatchUp f = tt
is_low c j who entry.Cutover f = tt
is_low c j who entry.MoveStop f = tt

-- so a group that was opened on a node is on one
low_node : (es : List Entry) (s : Station) → 1 ≤ s.node → 1 ≤ s.target → AllByRecursion (λ (e : Entry). IsLow e.kind) es → 1 ≤ (fold (λ (t : Station) (e : Entry). moved t e.who e.kind) s es).node
low_node [] s node target all = node
low_node (e ∷ es) s node target all = let one = by_kind e.kind all.0 in low_node es (moved s e.who e.kind) one.0 one.1 all.1
  where
    by_kind : (k : EntryKind) → IsLow k → (1 ≤ (moved s e.who k).node) × (1 ≤ (moved s e.who k).target)
    by_kind entry.Read l = (node, target)
    by_kind (entry.Write op reply) l = (node, target)
    by_kind (entry.MoveStart to) l = (node, l)
    by_kind entry.CatchUp l = (node, target)
    by_kind entry.Cutover l = (target, target)
    by_kind entry.MoveStop l = (node, target)

on_a_node : (c : Contents) (g : ℕ) (j : Journal) → IsLegal c g j → j.opening ≢ 0 → 1 ≤ node_of j
on_a_node c g j legal opened =
    low_node j.entries (record { node = j.opening; moving = None; target = j.opening }) (omega (arith, opened)) (omega (arith, opened))
    (all_by_get (λ (e : Entry). IsLow e.kind) j.entries (λ i e s. is_low c (cut i j) e.who e.kind (legal.follow i e s)))

-- behind kinds of entries
abbrev behind : Who → Station → List EntryKind → Station
behind who s kinds = fold (λ (t : Station) (k : EntryKind). moved t who k) s kinds

station_behind : (who : Who) (kinds : List EntryKind) (j : Journal) → station_of (with_entries who kinds j) ≡ behind who (station_of j) kinds
station_behind who [] j = ap station_of (with_none who j)
station_behind who (k ∷ ks) j =
    ap station_of (sym (with_both who (k ∷ []) ks j))
    ∙ station_behind who ks (with_entries who (k ∷ []) j)
    ∙ ap (λ (s : Station). behind who s ks) (station_more who k j)

-- these entries leave a group where it is
abbrev Stay : Who → List EntryKind → Type 0
Stay who kinds = (s : Station) → (behind who s kinds).node ≡ s.node

stay_none : (who : Who) (kinds : List EntryKind) → kinds ≡ [] → Stay who kinds
stay_none who kinds e s = ap (λ (v : List EntryKind). (behind who s v).node) e

stay_unmoved : (who : Who) (kinds : List EntryKind) → AllByRecursion IsOfNoMove kinds → Stay who kinds
stay_unmoved who [] all s = refl
stay_unmoved who (entry.Read ∷ ks) all s = stay_unmoved who ks all.1 s
stay_unmoved who (entry.Write op reply ∷ ks) all s = stay_unmoved who ks all.1 s
stay_unmoved who (k ∷ ks) all s = absurd all.0

-- rounds of catch-up change nothing
behind_rounds : (who : Who) (s : Station) (rounds : List Step) (end : Step) → AllByRecursion (λ (t : Step). t.kind ≡ entry.CatchUp) rounds → behind who s (kinds_in (rounds ++ end ∷ [])) ≡ moved s who end.kind
behind_rounds who s [] end all = refl
behind_rounds who s (r ∷ rounds) end all = ap (λ (k : EntryKind). behind who (moved s who k) (kinds_in (rounds ++ end ∷ []))) all.0 ∙ behind_rounds who s rounds end all.1

behind_whole : (who : Who) (s : Station) (start end : Step) (rounds : List Step) (to : ℕ) (k : EntryKind) → start.kind ≡ entry.MoveStart to → AllByRecursion (λ (t : Step). t.kind ≡ entry.CatchUp) rounds → end.kind ≡ k →
    behind who s (kinds_in (start ∷ rounds ++ end ∷ [])) ≡ moved (moved s who (entry.MoveStart to)) who k
behind_whole who s start end rounds to k starts catches ends =
    ap (λ (v : EntryKind). behind who (moved s who v) (kinds_in (rounds ++ end ∷ []))) starts
    ∙ behind_rounds who (moved s who (entry.MoveStart to)) rounds end catches
    ∙ ap (moved (moved s who (entry.MoveStart to)) who) ends

behind_move : (who : Who) (c : Contents) (group from to : ℕ) (r : Report) (steps : List Step) → IsMove c group from to r steps → (s : Station) → (behind who s (kinds_in steps)).node ≡ to
behind_move who c group from to r steps m s =
    subst (λ (v : List Step). (behind who s (kinds_in v)).node ≡ to) (sym m.all) (ap (λ (t : Station). t.node) (behind_whole who s m.start m.cutover m.rounds to entry.Cutover m.starts m.catches m.ends))

stay_stopped : (who : Who) (from to : ℕ) (steps : List Step) → IsStopped from to steps → Stay who (kinds_in steps)
stay_stopped who from to steps m s =
    subst (λ (v : List Step). (behind who s (kinds_in v)).node ≡ s.node) (sym m.all) (ap (λ (t : Station). t.node) (behind_whole who s m.start m.stop m.rounds to entry.MoveStop m.starts m.catches m.ends))

-- ---- refusals retire no store

abbrev RetiresNone : Option Fault → Type 0
RetiresNone (Some (fault.Retired failure)) = ⊥
RetiresNone o = ⊤

none_first : (o : Option Fault) (rest : List (Option Fault)) → RetiresNone o → RetiresNone (first_of rest) → RetiresNone (first_of (o ∷ rest))
none_first None rest h more = more
none_first (Some f) rest h more = h

none_start : (run : Run) (c : Contents) (free : ℕ) (mover : Option Who) (node group from to : ℕ) → RetiresNone (start_fault run c free mover node group from to)
none_start run c free mover node group from to =
    let short = short_of free (length (tables_in c group)) (to - 1) in
    let place = place_fault node from to in
    none_first (node_fault run to) (short ∷ mover_fault mover ∷ place ∷ []) by_node
    (none_first short (mover_fault mover ∷ place ∷ []) by_room
    (none_first (mover_fault mover) (place ∷ []) (by_mover mover) (none_first place [] by_place tt)))
  where
    by_node : RetiresNone (node_fault run to)
    by_node = elim (two_ways (nat_eq to 0 || nat_lt run.workers to)) [ inl y ↦ rw y tt | inr n ↦ rw n tt ]

    by_room : RetiresNone (short_of free (length (tables_in c group)) (to - 1))
    by_room = elim (two_ways (nat_lt free (length (tables_in c group)))) [ inl y ↦ rw y tt | inr n ↦ rw n tt ]

    by_mover : (m : Option Who) → RetiresNone (mover_fault m)
    by_mover None = tt
    by_mover (Some by) = tt

    by_place : RetiresNone (place_fault node from to)
    by_place = elim (two_ways (nat_eq node from)) [
      | inl y ↦ elim (two_ways (nat_eq node to)) [ inl z ↦ rw (y, z) tt | inr n ↦ rw (y, n) tt ]
      | inr n ↦ rw n tt
    ]

none_refusal : (e : Environment) (s : Statement) → RetiresNone (rules.refusal e s)
none_refusal e s = by_why (refusal_of e.settings.repartition e.catalog s)
  where
    by_why : (o : _) → RetiresNone (option_map (λ why. fault.Unsupported why) o)
    by_why None = tt
    by_why (Some why) = tt

none_gone : (shard from to : ℕ) (f : Fault) (a : Answer) → RetiresNone (Some f) → Yields (Some f) (λ b. ⊥) a → gone (Some (statement.Move shard from to)) a ≡ []
none_gone shard from to f (answer.Tag t) n y = refl
none_gone shard from to f (answer.Table names rows) n y = refl
none_gone shard from to f (answer.Failed (fault.Retired failure)) n y = absurd (subst RetiresNone (let same : Some f ≡ Some (fault.Retired failure) = cc y in same) n)
none_gone shard from to f (answer.Failed g) n y = refl

-- ---- a group with a shard has a table

kept_one : (p : ℕ → Bool) (n : ℕ) (xs : List ℕ) → among n xs ≡ true → p n ≡ true → 1 ≤ length (filter p xs)
kept_one p n [] m y = absurd (cc m)
kept_one p n (x ∷ xs) m y = elim (eqb_tells n x) [
  | inl k ↦ (let h : p x ≡ true = subst (λ v. p v ≡ true) k.1 y in rw h (omega arith))
  | inr k ↦
      let rest : 1 ≤ length (filter p xs) = kept_one p n xs (let h : among n xs ≡ true = rw k.0 at m in h) y in
      elim (two_ways (p x)) [ inl h ↦ rw h (omega arith) | inr h ↦ rw h rest ]
]

has_it : (o : Option Colocation) (p : Place) (g : ℕ) → HasShard o p g → (has_shard_at o p g ≡ true) × (p ≢ Local)
has_it o Local g h = absurd h
has_it o (Distributed column colocation first_shard) g h = (rw (le-leb _ g h.0, lt-ltb g _ h.1) refl, λ e. cc e)
has_it o (Reference group shard) g h = (eq-eqb g group h, λ e. cc e)

has_table : (c : Contents) (group shard : ℕ) → IsShardIn c group shard → 1 ≤ length (tables_in c group)
has_table c group shard i =
    let has = has_it (colocation_at c i.table) (place_at c i.table) group i.there in
    let there = there_is _ has.1 in
    kept_one (has_shard c group) i.table (numbers 0 (length c.tables)) (among_numbers 0 (length c.tables) i.table (omega arith) (let l = got_below c.tables i.table there.0 there.1 in omega (arith, l))) has.0

-- ---- one statement

head_before : (who : Who) (j : Journal) (kinds : List EntryKind) (s : Step) (more : List Step) → consecutive who j kinds ≡ s ∷ more → s.before ≡ j
head_before who j [] s more h = absurd (cc h)
head_before who j (k ∷ ks) s more h = let first : record { before = j; kind = k } ≡ s = cc h in sym (ap (λ (v : Step). v.before) first)

module _ (run : Run) (e : Environment) (who : Who) (d : Deed) (old new : List Journal) (grows : Grows who (λ g. kinds_in (d.made g)) old new) (made_is : (g : ℕ) → d.made g ≡ consecutive who (journal_in old g) (kinds_in (d.made g)))
    (legal : (g : ℕ) → IsLegal e.catalog g (journal_in old g)) (count : length old ≡ e.catalog.groups) where
  abbrev c : Contents
  c = e.catalog

  abbrev view : View
  view = in_deed (alone old) c d

  node_then : (g : ℕ) → g < c.groups → node_of (journal_in new g) ≡ (behind who (station_of (journal_in old g)) (kinds_in (d.made g))).node
  node_then g l = ap node_of (grows.kept g (omega (arith, l, count))) ∙ ap (λ (s : Station). s.node) (station_behind who (kinds_in (d.made g)) (journal_in old g))

  stays_at : (g : ℕ) → g < c.groups → Stay who (kinds_in (d.made g)) → StaysAt run c old new g
  stays_at g l stay = node_then g l ∙ stay (station_of (journal_in old g))

  abbrev AllShift : Option Statement → Answer → Type 0
  AllShift bound a = (at : ℕ) → Shifts c bound at (spare run c e.retired old at) (spare run c (e.retired ++ gone bound a) new at)

  shift_still : (bound : Option Statement) (a : Answer) → gone bound a ≡ [] → ((g : ℕ) → Stay who (kinds_in (d.made g))) → AllShift bound a
  shift_still bound a none stay at =
      let same : spare run c (e.retired ++ gone bound a) new at ≡ spare run c e.retired old at =
      ap (λ (v : List ℕ). spare run c v new at) (ap (λ (v : List ℕ). e.retired ++ v) none ∙ append-nil e.retired) ∙ still_spare run c old new e.retired at (λ g l. stays_at g l (stay g)) in
      record { took = omega (arith, same); gave = omega (arith, same) }

  shift_none : (bound : Option Statement) (a : Answer) → gone bound a ≡ [] → Enters view none → AllShift bound a
  shift_none bound a is enters = shift_still bound a is (λ g. stay_none who (kinds_in (d.made g)) (enters g))

  module _ (shard from to group : ℕ) (is : group_of_shard c shard ≡ Some group) (there : group < c.groups) (steps : (g : ℕ) → AllByRecursion (IsLegalStep c g who) (d.made g)) where
    abbrev move : Option Statement
    move = Some (statement.Move shard from to)

    takes : (at : ℕ) → stores_to c (at + 1) move ≡ cond (nat_eq to (at + 1)) (length (tables_in c group)) 0
    takes at = ap (λ (o : Option ℕ). cond (nat_eq to (at + 1)) (stores_moved c o) 0) is

    gives : (at : ℕ) → stores_from c (at + 1) move ≡ cond (nat_eq from (at + 1)) (length (tables_in c group)) 0
    gives at = ap (λ (o : Option ℕ). cond (nat_eq from (at + 1)) (stores_moved c o) 0) is

    others_stay : (P : List Step → Type 0) → EntersIn view group P → (g : ℕ) → g < c.groups → g ≢ group → StaysAt run c old new g
    others_stay P h g l far = stays_at g l (stay_none who (kinds_in (d.made g)) (ap kinds_in (h.1 g (ne_eqb g group far))))

    stopped : EntersIn view group (IsStopped from to) → (g : ℕ) → Stay who (kinds_in (d.made g))
    stopped h g = elim (eqb_tells g group) [
      | inl y ↦ subst (λ k. Stay who (kinds_in (d.made k))) (sym y.1) (stay_stopped who from to (d.made group) h.0)
      | inr z ↦ stay_none who (kinds_in (d.made g)) (ap kinds_in (h.1 g z.0))
    ]

    shift_moved : (a : Answer) (r : Report) → gone move a ≡ [] → EntersIn view group (IsMove c group from to r) → AllShift move a
    shift_moved a r none h at =
        let m = h.0 in
        let before : m.start.before ≡ journal_in old group = head_before who (journal_in old group) (kinds_in (d.made group)) m.start (m.rounds ++ m.cutover ∷ []) (sym (made_is group) ∙ m.all) in
        let was : node_of (journal_in old group) ≡ from = ap node_of (sym before) ∙ m.there in
        let now : node_of (journal_in new group) ≡ to = node_then group there ∙ behind_move who c group from to r (d.made group) m (station_of (journal_in old group)) in
        let first : IsLegalStep c group who m.start = (subst (AllByRecursion (IsLegalStep c group who)) m.all (steps group)).0 in
        let follows : CanFollow c m.start.before who (entry.MoveStart to) = subst (CanFollow c m.start.before who) m.starts first.1 in
        let opened : (journal_in old group).opening ≢ 0 = subst (λ (j : Journal). j.opening ≢ 0) before follows.3 in
        let low : 1 ≤ from = subst (λ n. 1 ≤ n) was (on_a_node c group (journal_in old group) (legal group) opened) in
        let others = others_stay (IsMove c group from to r) h in
        let same : spare run c (e.retired ++ gone move a) new at ≡ spare run c e.retired new at = ap (λ (v : List ℕ). spare run c v new at) (ap (λ (v : List ℕ). e.retired ++ v) none ∙ append-nil e.retired) in
        let t = moved_took run c old new group from to there was now low follows.1 others e.retired at in
        let g = moved_gave run c old new group from to there was now low follows.1 others e.retired at in
        let x = takes at in
        let y = gives at in
        record { took = omega (arith, same, t, x); gave = omega (arith, same, g, y) }

    shift_retired : (node : ℕ) → node ≡ to → 1 ≤ length (tables_in c group) → EntersIn view group (IsStopped from to) →
        (at : ℕ) → Shifts c move at (spare run c e.retired old at) (spare run c (e.retired ++ node ∷ []) new at)
    shift_retired node at_to some h at =
        let same = λ (g : ℕ) (l : g < c.groups). stays_at g l (stopped h g) in
        let t = retired_took run c old new e.retired at to (length (tables_in c group)) some same in
        let g = retired_gave run c old new e.retired at to (stores_from c (at + 1) move) same in
        let x = takes at in
        subst (λ n. Shifts c move at (spare run c e.retired old at) (spare run c (e.retired ++ n ∷ []) new at)) (sym at_to) (record { took = omega (arith, t, x); gave = g })

    by_move : (a : Answer) → Moves c view group from to a → AllShift move a
    by_move (answer.Table names rows) h = shift_moved (answer.Table names rows) h.0 refl h.3
    by_move (answer.Failed (fault.Worker failure)) h = shift_none move (answer.Failed (fault.Worker failure)) refl h.0
    by_move (answer.Failed (fault.Retired failure)) h = shift_retired failure.node h.2 (has_table c group failure.shard h.1) h.0
    by_move (answer.Failed fault.Memory) (inl h) = shift_none move (answer.Failed fault.Memory) refl h
    by_move (answer.Failed fault.Memory) (inr h) = shift_still move (answer.Failed fault.Memory) refl (stopped h)
    by_move a h = absurd h

    by_fault : (o : Option Fault) (a : Answer) → RetiresNone o → MovesUnless o c view group from to a → AllShift move a
    by_fault (Some f) a n h = shift_none move a (none_gone shard from to f a n h.1) h.0
    by_fault None a n h = by_move a h

  by_group : (shard from to : ℕ) (o : Option ℕ) (a : Answer) → group_of_shard c shard ≡ o → ((g : ℕ) → AllByRecursion (IsLegalStep c g who) (d.made g)) → IsMovedIn run e view shard from to o a → AllShift (Some (statement.Move shard from to)) a
  by_group shard from to None a is steps h = shift_none (Some (statement.Move shard from to)) a (none_gone shard from to (fault.NoShard shard) a tt h.1) h.0
  by_group shard from to (Some group) a is steps h =
      by_fault shard from to group is h.there steps (start_fault run c h.free h.mover h.node group from to) a (none_start run c h.free h.mover h.node group from to) h.moves

  by_refusal : (shard from to : ℕ) (o : Option Fault) (touched : List ℕ) (a : Answer) → RetiresNone o → ((g : ℕ) → AllByRecursion (IsLegalStep c g who) (d.made g)) → RunsUnless o touched run e view (statement.Move shard from to) a →
      AllShift (Some (statement.Move shard from to)) a
  by_refusal shard from to (Some f) touched a n steps h = shift_none (Some (statement.Move shard from to)) a (none_gone shard from to f a n h.1) h.0
  by_refusal shard from to None touched a n steps h = by_group shard from to (group_of_shard c shard) a refl steps h

  pub shifts : (bound : Option Statement) (a : Answer) → MayBeInBlock bound → Does rules run e (alone old) who d bound a → AllShift bound a
  shifts None a may does = shift_none None a refl does.stands.0
  shifts (Some (statement.Select q)) a may does =
      shift_still (Some (statement.Select q)) a refl (λ g. stay_unmoved who (kinds_in (d.made g)) (others_move_none rules run e (alone old) who d (statement.Select q) a tt does g))
  shifts (Some (statement.Write op)) a may does =
      shift_still (Some (statement.Write op)) a refl (λ g. stay_unmoved who (kinds_in (d.made g)) (others_move_none rules run e (alone old) who d (statement.Write op) a tt does g))
  shifts (Some (statement.Move shard from to)) a may does =
      by_refusal shard from to (rules.refusal e (statement.Move shard from to)) (rules.touched c (statement.Move shard from to)) a (none_refusal e (statement.Move shard from to)) does.legal does.stands
  shifts (Some s) a may does = absurd may
