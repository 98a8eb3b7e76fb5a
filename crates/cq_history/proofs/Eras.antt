-- Eras: the next begins where one ends, and the answers of one that is closed stand whatever comes behind it; so does a log of several eras.
use Rattle.std.proofs.Common.{zero, suc, ◌≡◌, ◌⊎◌, ◌<◌, ◌≤◌, inl, inr, ℕ, Bool, true, false, cond, List, [], ◌∷◌, ◌++◌, length, map, take, refl, sym, ◌∙◌, ap, subst, arith, Some, Option, slice_get, append-nil, append_assoc}
use Rattle.std.specs.Prelude.{nat_eq, slice_index_or}
use Rattle.std.specs.List.{AllByRecursion}
use Rattle.std.proofs.lemmas.Bool.{cases_lt, eqb-true}
use Rattle.cq_value.proofs.Lists.{all_weaker, all_both, all_append, length_map}
use Rattle.cq_value.proofs.Truths.{two_ways}
use Rattle.cq_value.specs.declared.schema.Shape.{Shape}
use Rattle.cq_value.specs.Tables.{Table, rows_of, empty_table}
use Rattle.cq_tree.specs.declared.journal.Entry.{Entry}
use Rattle.cq_tree.specs.declared.journal.EntryKind.{EntryKind}
use Rattle.cq_tree.specs.declared.journal.EntryKind.TheVariants.{Read, Write, MoveStart, CatchUp, Cutover, MoveStop}
use Rattle.cq_meaning.specs.Effects.{effect, table_of}
use Rattle.cq_catalog.specs.Contents.{Contents}
use Rattle.cq_catalog.specs.Placement.{place_at, colocation_at, HasShard}
use Rattle.cq_answer.specs.declared.answered.Answered.{Answered}
use Rattle.cq_journal.specs.Journals.{entered, replay_from}
use Rattle.cq_journal.specs.Records.{Journal}
use Rattle.cq_journal.specs.Stations.{node_of}
use Rattle.cq_planning.specs.Database.{shape_in, IsRowOf}
use Rattle.cq_history.specs.Run.{Run, Rules, Environment, first, environment_from, Continues}
use Rattle.cq_history.specs.Phases.{who_of, phase_in, environment_at, beside_in, AreComplete, IsOf}
use Rattle.cq_history.specs.Journals.{journal_in, cut, held_in}
use Rattle.cq_history.specs.Legality.{IsLegalKind, IsLegal}
use Rattle.cq_history.specs.Standing.{Stands}
use Rattle.cq_history.specs.Deeds.{Does}
use Rattle.cq_history.specs.Log.{StandsAmong, IsInOrder, Era, no_era, IsIn, IsWholeIn, joined, last_of, IsStill, IsEra, AreWholeFrom, AreWhole, IsDone, IsConsistentIn, IsClosed, AreConsistent, IsPhase}
use Rattle.cq_history.specs.Laws.{turned, EraTurns, ClosedStays, ClosedStands, ErasBegin, present_era, EraCloses, AllIsWell, ErasAreWhole, ErasGoOn}
use Rattle.cq_history.proofs.Lists.{all_at}
use Rattle.cq_history.proofs.Entries.{index_beyond}
use Rattle.cq_history.proofs.Replays.{can_hold}
use Rattle.cq_history.proofs.Deeds.{deeds_stand}
use Rattle.cq_history.proofs.Phasing.{IsAlike, IsPast, past, environment_then, beside_then, old_phase, deed_alike, get_left, fold_more, phase_goes_on}
use Rattle.cq_tree.specs.declared.statement.Statement.{Statement}

-- ---- journals that are turned

turned_at : (c : Contents) (journals : List Journal) (g : ℕ) (d : Journal) → g < length journals → slice_index_or (map (turned c) journals) g d ≡ turned c (slice_index_or journals g d)
turned_at c [] g d l = absurd (omega (arith, l))
turned_at c (j ∷ journals) zero d l = refl
turned_at c (j ∷ journals) (suc g) d l = turned_at c journals g d (omega (arith, l))

turned_in : (c : Contents) (journals : List Journal) (g : ℕ) → g < length journals → journal_in (map (turned c) journals) g ≡ turned c (journal_in journals g)
turned_in c journals g l = turned_at c journals g (record { number = g; opening = 0; base = λ table. empty_table; entries = [] }) l

same_beyond : (c : Contents) (journals : List Journal) (g : ℕ) → length journals ≤ g → journal_in (map (turned c) journals) g ≡ journal_in journals g
same_beyond c journals g m =
    index_beyond (map (turned c) journals) g (record { number = g; opening = 0; base = λ table. empty_table; entries = [] }) (let n = length_map (turned c) journals in omega (arith, m, n))
    ∙ sym (index_beyond journals g (record { number = g; opening = 0; base = λ table. empty_table; entries = [] }) m)

-- ---- what they hold is legal

abbrev HasOne : Contents → ℕ → ℕ → Type 0
HasOne c group table = HasShard (colocation_at c table) (place_at c table) group

entered_so : (c : Contents) (group table : ℕ) (t : Table) (k : EntryKind) → IsLegalKind c group k → (rows_of t ≡ []) ⊎ HasOne c group table → (rows_of (entered table (shape_in c table) t k) ≡ []) ⊎ HasOne c group table
entered_so c group table t Read l h = h
entered_so c group table t (MoveStart node) l h = h
entered_so c group table t CatchUp l h = h
entered_so c group table t Cutover l h = h
entered_so c group table t MoveStop l h = h
entered_so c group table t (Write op reply) l h = elim (two_ways (nat_eq (table_of op) table)) [
  | inl y ↦ inr (subst (HasOne c group) (eqb-true (table_of op) table y) l.0)
  | inr n ↦ subst (λ (v : Table). (rows_of v ≡ []) ⊎ HasOne c group table) (sym (ap (λ b. cond b (effect op t (shape_in c table)) t) n)) h
]

replayed_so : (c : Contents) (group table : ℕ) (t : Table) (es : List Entry) → AllByRecursion (λ (e : Entry). IsLegalKind c group e.kind) es → (rows_of t ≡ []) ⊎ HasOne c group table →
    (rows_of (replay_from table (shape_in c table) t es) ≡ []) ⊎ HasOne c group table
replayed_so c group table t [] all h = h
replayed_so c group table t (e ∷ es) all h = replayed_so c group table (entered table (shape_in c table) t e.kind) es all.1 (entered_so c group table t e.kind all.0 h)

take_whole : (es : List Entry) → take (length es) es ≡ es
take_whole [] = refl
take_whole (e ∷ es) = ap (λ (v : List Entry). e ∷ v) (take_whole es)

module _ (c : Contents) (group : ℕ) (j : Journal) (l : IsLegal c group j) where
  base_so : (table : ℕ) → (rows_of (j.base table) ≡ []) ⊎ HasOne c group table
  base_so table = by (l.base table)
    where
      by : (rows_of (j.base table) ≡ []) ⊎ (HasOne c group table × AllByRecursion (IsRowOf c group table) (rows_of (j.base table))) → (rows_of (j.base table) ≡ []) ⊎ HasOne c group table
      by (inl e) = inl e
      by (inr h) = inr h.0

  whole_of : cut (length j.entries) j ≡ j
  whole_of = ap (λ (es : List Entry). record { number = j.number; opening = j.opening; base = j.base; entries = es }) (take_whole j.entries)

  held_rows : (table : ℕ) → HasOne c group table → AllByRecursion (IsRowOf c group table) (rows_of (held_in c j table))
  held_rows table has = subst (λ (v : Journal). AllByRecursion (IsRowOf c group table) (rows_of (held_in c v table))) whole_of (can_hold c group j (length j.entries) l table has)

  pub turned_legal : IsLegal c group (turned c j)
  turned_legal = record {
    base = λ table. by table (replayed_so c group table (j.base table) j.entries l.kinds (base_so table));
    kinds = tt;
    follow = λ place e s. absurd (nothing place e s);
  }
    where
      by : (table : ℕ) → (rows_of (held_in c j table) ≡ []) ⊎ HasOne c group table → (rows_of (held_in c j table) ≡ []) ⊎ (HasOne c group table × AllByRecursion (IsRowOf c group table) (rows_of (held_in c j table)))
      by table (inl e) = inl e
      by table (inr has) = inr (has, held_rows table has)

      none_at : (es : List Entry) (place : ℕ) (e : Entry) → es ≡ [] → slice_get es place ≡ Some e → ⊥
      none_at [] place e n s = cc
      none_at (x ∷ es) place e n s = cc

      nothing : (place : ℕ) (e : Entry) → slice_get (turned c j).entries place ≡ Some e → ⊥
      nothing place e s = none_at (turned c j).entries place e refl s

module _ (rules : Rules) (run : Run) (before : Era) (all : List Answered) (e : Environment) (answers : List Answered) (journals : List Journal) (c : IsConsistentIn rules run before all e answers journals) where
  abbrev next : List Journal
  next = map (turned e.catalog) journals

  long : length next ≡ length journals
  long = length_map (turned e.catalog) journals

  -- a fact of each group's next journal
  at_each : (P : Journal → Type 0) (g : ℕ) → (g < length journals → P (turned e.catalog (journal_in journals g))) → (length journals ≤ g → P (journal_in journals g)) → P (journal_in next g)
  at_each P g within beyond = elim (cases_lt g (length journals)) [
    | inl l ↦ subst P (sym (turned_in e.catalog journals g l)) (within l)
    | inr m ↦ subst P (sym (same_beyond e.catalog journals g m)) (beyond m)
  ]

  default : (g : ℕ) → length journals ≤ g → journal_in journals g ≡ record { number = g; opening = 0; base = λ table. empty_table; entries = [] }
  default g m = index_beyond journals g (record { number = g; opening = 0; base = λ table. empty_table; entries = [] }) m

  nothing_entered : (g : ℕ) → (journal_in next g).entries ≡ []
  nothing_entered g = at_each (λ (j : Journal). j.entries ≡ []) g (λ l. refl) (λ m. ap (λ (j : Journal). j.entries) (default g m))

  turns : IsConsistentIn rules run (record { answers = answers; catalog = e.catalog; journals = journals }) all e [] next
  turns = record {
    environment = c.environment;
    log = record {
      script = c.log.script;
      numbered = c.log.numbered;
      allowed = c.log.allowed;
      settings = c.log.settings;
      own = tt;
      begins = record {
        count = let n = long in omega (arith, n);
        opening = λ g l. ap (λ (j : Journal). j.opening) (turned_in e.catalog journals g l);
        base = λ g table l. ap (λ (j : Journal). j.base table) (turned_in e.catalog journals g l);
        empty = λ g table m. ap (λ (j : Journal). j.base table) (same_beyond e.catalog journals g m ∙ default g m);
      };
      laid = record {
        groups = long ∙ c.log.laid.groups;
        opened = λ k g above l m. ap (λ (j : Journal). j.opening) (same_beyond e.catalog journals g above) ∙ c.log.laid.opened k g (let n = c.log.begins.count in omega (arith, n, above)) l m;
        everywhere = λ table g shard above is. ap (λ (j : Journal). j.opening) (same_beyond e.catalog journals g above) ∙ c.log.laid.everywhere table g shard (let n = c.log.begins.count in omega (arith, n, above)) is;
        keyed = c.log.laid.keyed;
      };
      numbers = λ g. at_each (λ (j : Journal). j.number ≡ g) g (λ l. c.log.numbers g) (λ m. c.log.numbers g);
      legal = λ g. at_each (IsLegal e.catalog g) g (λ l. turned_legal e.catalog g (journal_in journals g) (c.log.legal g)) (λ m. c.log.legal g);
      of_answers = λ g. subst (AllByRecursion (λ (f : Entry). IsOf [] f.who)) (sym (nothing_entered g)) tt;
      order = λ g. subst (IsInOrder (phase_in all)) (sym (nothing_entered g)) tt;
    };
    complete = c.complete;
    done = tt;
  }

pub era_turns : EraTurns
era_turns rules run before all e answers journals c = turns rules run before all e answers journals c

-- ---- closed eras

pub closed_stays : ClosedStays
closed_stays rules run before all e answers block journals era c next script k = record {
  own = all_weaker (IsIn all) (IsIn (all ++ block)) (λ a i. record { place = i.place; there = get_left all block i.place a i.there }) era.answers k.own;
  of_answers = k.of_answers;
  legal = k.legal;
  done = all_both (IsIn all) (IsDone rules run all era.catalog era.journals) (IsDone rules run (all ++ block) era.catalog era.journals) (λ a own d.
      let o : IsOf all (who_of a) = record { answered = a; place = own.place; there = own.there; is = refl } in
      let p = all_at (IsPast run all block e c.environment c.log.numbered c.complete c.log.script next script) all own.place a (past run all block e c.environment c.log.numbered c.complete c.log.script next script) own.there in
      let env = environment_then run all block e c.environment c.log.numbered c.complete c.log.script next script a p in
      record {
        phase = d.phase;
        deed = d.deed;
        beside = d.beside ∙ sym (beside_then run all block e c.environment c.log.numbered c.complete c.log.script next script a p);
        does = subst (λ (v : Environment). Does rules run v d.phase (who_of a) d.deed a.bound a.answer) (sym env) d.does;
        has = deed_alike (phase_in all) (phase_in (all ++ block)) d.phase era.journals (who_of a) d.deed (old_phase run all block e c.environment c.log.numbered c.complete c.log.script next script (who_of a) o)
            (λ h. all_weaker (λ (f : Entry). IsOf era.answers f.who) (IsAlike (phase_in all) (phase_in (all ++ block))) (λ f q.
            let i = all_at (IsIn all) era.answers q.place q.answered k.own q.there in
            old_phase run all block e c.environment c.log.numbered c.complete c.log.script next script f.who (record { answered = q.answered; place = i.place; there = i.there; is = q.is })) (journal_in era.journals h).entries (k.of_answers h)) d.has;
        on = subst (λ (v : Environment). Continues v.catalog era.catalog) (sym env) d.on;
      }) era.answers k.own k.done;
}

pub closed_stands : ClosedStands
closed_stands rules run all era k = all_weaker (IsDone rules run all era.catalog era.journals) (StandsAmong rules run all era.journals) (λ a d.
    subst (λ (others : List (Option Statement)). Stands rules run (phase_in all) others (environment_at run all a.phase) era.journals (who_of a) a.bound a.answer) d.beside
    (deeds_stand rules run (phase_in all) d.phase (environment_at run all a.phase) era.catalog era.journals (who_of a) d.deed a.bound a.answer d.on k.legal d.does d.has)) era.answers k.done

-- ---- several eras

-- the present one as a closed one
closing : (rules : Rules) (run : Run) (before : Era) (all : List Answered) (e : Environment) (answers : List Answered) (journals : List Journal) → IsConsistentIn rules run before all e answers journals →
    IsClosed rules run all (present_era e answers journals)
closing rules run before all e answers journals c = record { own = c.log.own; of_answers = c.log.of_answers; legal = c.log.legal; done = c.done }

joined_more : (eras : List Era) (era : Era) → joined (eras ++ era ∷ []) ≡ joined eras ++ era.answers
joined_more [] era = append-nil era.answers
joined_more (x ∷ eras) era = ap (λ (v : List Answered). x.answers ++ v) (joined_more eras era) ∙ sym (append_assoc x.answers (joined eras) era.answers)

last_more : (before : Era) (eras : List Era) (era : Era) → last_of before (eras ++ era ∷ []) ≡ era
last_more before [] era = refl
last_more before (x ∷ eras) era = last_more x eras era

whole_more : (run : Run) (before : Era) (past : List Answered) (eras : List Era) (era : Era) → AreWholeFrom run before past eras → IsEra run (last_of before eras) (past ++ joined eras) era →
    AreWholeFrom run before past (eras ++ era ∷ [])
whole_more run before past [] era w is = (subst (λ (v : List Answered). IsEra run before v era) (append-nil past) is, tt)
whole_more run before past (x ∷ eras) era w is =
    (w.0, whole_more run x (past ++ x.answers) eras era w.1 (subst (λ (v : List Answered). IsEra run (last_of x eras) v era) (sym (append_assoc past x.answers (joined eras))) is))

-- the answers of closed eras and of the last one stand
all_well : (rules : Rules) (run : Run) (eras : List Era) (era : Era) → AreWhole run eras → IsEra run (last_of no_era eras) (joined eras) era → AllByRecursion (IsClosed rules run (joined eras ++ era.answers)) (eras ++ era ∷ []) →
    AllIsWell rules run (eras ++ era ∷ [])
all_well rules run eras era whole is closed = (
  whole_more run no_era [] eras era whole is,
  subst (λ (v : List Answered). AllByRecursion (λ (x : Era). AllByRecursion (StandsAmong rules run v x.journals) x.answers) (eras ++ era ∷ [])) (sym (joined_more eras era))
      (all_weaker (IsClosed rules run (joined eras ++ era.answers)) (λ (x : Era). AllByRecursion (StandsAmong rules run (joined eras ++ era.answers) x.journals) x.answers)
      (λ x k. closed_stands rules run (joined eras ++ era.answers) x k) (eras ++ era ∷ []) closed),
)

pub eras_begin : ErasBegin
eras_begin rules run e answers journals c = record { whole = tt; still = λ g. refl; closed = tt; present = c }

module _ (rules : Rules) (run : Run) (eras : List Era) (e : Environment) (answers : List Answered) (journals : List Journal) (c : AreConsistent rules run eras e answers journals) where
  abbrev era : Era
  era = present_era e answers journals

  present_is : IsEra run (last_of no_era eras) (joined eras) era
  present_is = record { still = c.still; catalog = ap (λ (v : Environment). v.catalog) c.present.environment; whole = c.present.log }

  all_closed : AllByRecursion (IsClosed rules run (joined eras ++ answers)) (eras ++ era ∷ [])
  all_closed = all_append (IsClosed rules run (joined eras ++ answers)) eras (era ∷ []) c.closed (closing rules run (last_of no_era eras) (joined eras ++ answers) e answers journals c.present, tt)

  all_is_well : AllIsWell rules run (eras ++ era ∷ [])
  all_is_well = all_well rules run eras era c.whole present_is all_closed

  same_answers : joined eras ++ answers ≡ joined (eras ++ era ∷ []) ++ []
  same_answers = sym (append-nil (joined (eras ++ era ∷ [])) ∙ joined_more eras era)

  closes : IsStill era → AreConsistent rules run (eras ++ era ∷ []) e [] (map (turned e.catalog) journals)
  closes still = record {
    whole = all_is_well.0;
    still = subst IsStill (sym (last_more no_era eras era)) still;
    closed = subst (λ (v : List Answered). AllByRecursion (IsClosed rules run v) (eras ++ era ∷ [])) same_answers all_closed;
    present = subst (λ (v : Era). IsConsistentIn rules run v (joined (eras ++ era ∷ []) ++ []) e [] (map (turned e.catalog) journals)) (sym (last_more no_era eras era))
        (subst (λ (v : List Answered). IsConsistentIn rules run era v e [] (map (turned e.catalog) journals)) same_answers
        (era_turns rules run (last_of no_era eras) (joined eras ++ answers) e answers journals c.present));
  }

  module _ (block : List Answered) (sessions : List ℕ) (new : List Journal) (ph : IsPhase rules run (length (last_of no_era eras).journals) e (joined eras ++ answers) block sessions journals new) where
    abbrev era_then : Era
    era_then = present_era (environment_from e block) (answers ++ block) new

    made : IsWholeIn run (last_of no_era eras) ((joined eras ++ answers) ++ block) era_then.catalog era_then.answers new
        × AllByRecursion (IsDone rules run ((joined eras ++ answers) ++ block) era_then.catalog new) era_then.answers
        × (AreComplete ((joined eras ++ answers) ++ block) → IsConsistentIn rules run (last_of no_era eras) ((joined eras ++ answers) ++ block) (environment_from e block) era_then.answers new)
    made = phase_goes_on rules run (last_of no_era eras) (joined eras ++ answers) e answers block sessions journals new c.present ph

    together : (joined eras ++ answers) ++ block ≡ joined eras ++ era_then.answers
    together = append_assoc (joined eras) answers block

    next_catalog : era_then.catalog ≡ (environment_from (first run) (joined eras ++ era_then.answers)).catalog
    next_catalog =
        ap (λ (v : Environment). (environment_from v block).catalog) c.present.environment
        ∙ ap (λ (v : Environment). v.catalog) (sym (fold_more (first run) (joined eras ++ answers) block))
        ∙ ap (λ (v : List Answered). (environment_from (first run) v).catalog) together

    next_is : IsEra run (last_of no_era eras) (joined eras) era_then
    next_is = record {
      still = c.still;
      catalog = next_catalog;
      whole = subst (λ (v : List Answered). IsWholeIn run (last_of no_era eras) v era_then.catalog era_then.answers new) together made.0;
    }

    still_closed : AllByRecursion (IsClosed rules run ((joined eras ++ answers) ++ block)) eras
    still_closed = all_weaker (IsClosed rules run (joined eras ++ answers)) (IsClosed rules run ((joined eras ++ answers) ++ block))
        (λ x k. closed_stays rules run (last_of no_era eras) (joined eras ++ answers) e answers block journals x c.present ph.next ph.script k) eras c.closed

    next_closed : IsClosed rules run ((joined eras ++ answers) ++ block) era_then
    next_closed = record { own = made.0.own; of_answers = made.0.of_answers; legal = made.0.legal; done = made.1 }

    goes_on : AllIsWell rules run (eras ++ era_then ∷ []) × (AreComplete (joined eras ++ era_then.answers) → AreConsistent rules run eras (environment_from e block) era_then.answers new)
    goes_on = (
      all_well rules run eras era_then c.whole next_is (subst (λ (v : List Answered). AllByRecursion (IsClosed rules run v) (eras ++ era_then ∷ [])) together
          (all_append (IsClosed rules run ((joined eras ++ answers) ++ block)) eras (era_then ∷ []) still_closed (next_closed, tt))),
      λ complete. record {
        whole = c.whole;
        still = c.still;
        closed = subst (λ (v : List Answered). AllByRecursion (IsClosed rules run v) eras) together still_closed;
        present = subst (λ (v : List Answered). IsConsistentIn rules run (last_of no_era eras) v (environment_from e block) era_then.answers new) together (made.2 (subst AreComplete (sym together) complete));
      },
    )

pub eras_are_whole : ErasAreWhole
eras_are_whole rules run eras e answers journals c = all_is_well rules run eras e answers journals c

pub era_closes : EraCloses
era_closes rules run eras e answers journals c still = closes rules run eras e answers journals c still

pub eras_go_on : ErasGoOn
eras_go_on rules run eras e answers block sessions old new c ph = goes_on rules run eras e answers old c block sessions new ph
