-- Calls on groups that are held alone.
use Rattle.std.proofs.Common.{◌≡◌, ◌≢◌, inl, inr, ℕ, ◌^◌, ◌<◌, ◌≤◌, List, [], ◌∷◌, ◌++◌, length, map, filter, refl, sym, ap, ◌∙◌, subst, arith, Some, slice_get, get_or, Result, Ok, Err, IfOk, IfErr, OnOk, OnErr}
use Rattle.std.proofs.Math.ListN.{set}
use Rattle.std.proofs.lemmas.List.{length-set}
use Rattle.std.proofs.lemmas.Bool.Decides.{eqb_tells}
use Rattle.std.specs.Prelude.{nat_eq, if◌then◌else◌}
use Rattle.cq_value.proofs.Lists.{append_nil}
use Rattle.cq_value.specs.Tables.{empty_table, rows_of}
use Rattle.cq_value.specs.declared.value.Value.{Value}
use Rattle.cq_meaning.specs.Values.{Row, Tables}
use Rattle.cq_tree.specs.declared.journal.Entry.{Entry}
use Rattle.cq_tree.specs.declared.journal.EntryKind.{EntryKind}
use Rattle.cq_tree.specs.declared.journal.EntryKind.TheVariants.{Read}
use Rattle.cq_tree.specs.declared.journal.Who.{Who}
use Rattle.cq_demands.specs.JoinDemands.{Wants, narrow}
use Rattle.cq_journal.specs.Journals.{replay}
use Rattle.cq_journal.specs.Stations.{node_of}
use Rattle.cq_store.specs.Stores.{StoreState, has_values}
use Rattle.cq_history.specs.Faults.{node_read}
use Rattle.cq_group.specs.declared.group.GroupState.{GroupState}
use Rattle.cq_group.specs.declared.group.GroupError.{GroupError}
use Rattle.cq_group.specs.declared.group.GroupError.TheVariants as group
use Rattle.cq_group.specs.Groups.{IsKept, IsQuiet, IsSameGroup, entries_of, shapes, stores_of, journal_of}
use Rattle.cq_group.specs.Calls.{captured, GroupGoesOn, Blames, IsOn, node_read as node_of_read}
use Rattle.cq_group.specs.Resting.{IsResting, AreResting, GoOn, HasFailedAt}
use Rattle.cq_reach.specs.Seen.{Seen, seen_of, all_seen, with_kinds, HasTable, IsNear}
use Rattle.cq_reach.specs.Outlook.{Outlook, Meets, MayFind, Visit, Tells}
use Rattle.cq_reach.specs.Writes.{CanTake}
use Rattle.cq_reach.specs.Staging.{Takes}
use Rattle.cq_router.specs.declared.insertion.Part.{Part}
use Rattle.std.specs.List.{AllByRecursion}
use Rattle.cq_reach.specs.Alone.{outlook_alone}
use Rattle.cq_reach.specs.Reads.{CanRead, read_kinds, TellsError, TellsTables, TellsRows, FailsRead, IfFailed}
use Rattle.cq_reach.proofs.Growth.{got, got_at, got_below, set_there, rest_still, rest_more, go_on_set}
use Rattle.cq_reach.proofs.Seeing.{seen_at, seen_long, seen_beside}
use Rattle.cq_reach.proofs.Failing.{fails_in}

module _ {X : Type 0} where
  -- the group that a call takes
  pub within_alone : (groups : List (GroupState X)) (k : ℕ) → k < length (all_seen groups) → k < length groups
  within_alone groups k low = omega (arith, low, seen_long groups)

  pub at_alone : (groups : List (GroupState X)) (k : ℕ) (g : GroupState X) → k < length (all_seen groups) → g ≡ get_or groups k g → slice_get groups k ≡ Some g
  at_alone groups k g low is = got_at groups k g (within_alone groups k low) is

  -- a group may be found as it is
  pub meets_alone : (groups : List (GroupState X)) (k : ℕ) (g : GroupState X) → slice_get groups k ≡ Some g → Meets (outlook_alone groups) k (seen_of g)
  meets_alone groups k g at = record {
    was = seen_of g;
    there = seen_at groups k g at;
    grown = record { more = []; all = tt; is = ap (λ (es : List Entry). record (seen_of g) { journal = record (journal_of g) { entries = es } }) (sym (append_nil (entries_of g))) };
    may = seen_at groups k g at;
  }

  seen_read : (g h : GroupState X) (who : Who) → IsSameGroup g h → entries_of h ≡ entries_of g ++ record { who = who; kind = Read } ∷ [] → seen_of h ≡ with_kinds who (Read ∷ []) (seen_of g)
  seen_read g h who s e = λ i. record { journal = record { number = s.number i; opening = s.opening i; base = λ table. empty_table; entries = e i }; tables = s.tables i; nodes = s.nodes i }

  seen_still : (g h : GroupState X) (who : Who) → IsSameGroup g h → entries_of h ≡ entries_of g → seen_of h ≡ with_kinds who [] (seen_of g)
  seen_still g h who s e =
      let none : entries_of h ≡ entries_of g ++ [] = e ∙ sym (append_nil (entries_of g)) in
      λ i. record { journal = record { number = s.number i; opening = s.opening i; base = λ table. empty_table; entries = none i }; tables = s.tables i; nodes = s.nodes i }

  visit_alone : (groups : List (GroupState X)) (k : ℕ) (g h : GroupState X) (who : Who) (kinds : List EntryKind) → slice_get groups k ≡ Some g → seen_of h ≡ with_kinds who kinds (seen_of g) →
      Visit who k kinds (outlook_alone groups) (outlook_alone (set groups k h)) (seen_of g)
  visit_alone groups k g h who kinds at e = record {
    met = meets_alone groups k g at;
    count = seen_long (set groups k h) ∙ length-set groups k h ∙ sym (seen_long groups);
    is = seen_at (set groups k h) k h (set_there groups k h (got_below groups k g at)) ∙ ap Some e;
    others = λ i n. seen_beside groups k i h n;
    finds = λ i s n may. sym (seen_beside groups k i h n) ∙ may;
    comes = λ e c. c;
  }

module _ {X : Type 0} (state : X → StoreState) (groups : List (GroupState X)) (k : ℕ) (g h : GroupState X) (at : slice_get groups k ≡ Some g) (rest : IsResting state g) (who : Who) (near : ℕ)
    (on : GroupGoesOn state g h) (kept : IsKept state h) (quiet : IsQuiet state h) where
  -- what a read of it tells
  module _ {V : Type 0} (r : Result V GroupError) (entry : OnOk r (entries_of h ≡ entries_of g ++ record { who = who; kind = Read } ∷ [])) (err : OnErr r (entries_of h ≡ entries_of g)) where
    visited : Visit who k (read_kinds r) (outlook_alone groups) (outlook_alone (set groups k h)) (seen_of g)
    visited = by r entry err
      where
        by : (q : Result V GroupError) → OnOk q (entries_of h ≡ entries_of g ++ record { who = who; kind = Read } ∷ []) → OnErr q (entries_of h ≡ entries_of g) →
            Visit who k (read_kinds q) (outlook_alone groups) (outlook_alone (set groups k h)) (seen_of g)
        by (Ok v) made none = visit_alone groups k g h who (Read ∷ []) at (seen_read g h who on.same made)
        by (Err e) made none = visit_alone groups k g h who [] at (seen_still g h who on.same none)

    pub read_go_on : AreResting state groups → GoOn state groups (set groups k h)
    read_go_on resting = go_on_set state groups k g h resting at on (by r entry err)
      where
        by : (q : Result V GroupError) → OnOk q (entries_of h ≡ entries_of g ++ record { who = who; kind = Read } ∷ []) → OnErr q (entries_of h ≡ entries_of g) → IsResting state h
        by (Ok v) made none = rest_more state g h who Read (λ s. refl) rest kept quiet on.same made
        by (Err e) made none = rest_still state g h rest kept quiet on.same none

    pub tells_read : (fact : Seen → Type 0) → fact (seen_of g) → Tells who k (read_kinds r) fact (outlook_alone groups) (outlook_alone (set groups k h))
    tells_read fact so = record { found = seen_of g; visit = visited; so = so }

  error_told : (e : GroupError) → Blames state e (stores_of g) (stores_of h) → IsOn (node_of_read g near) e → TellsError near e (seen_of g)
  error_told group.Memory blame here = tt
  error_told (group.Worker f) blame here = record {
    fails = fails_in state g h f rest blame;
    on = here ∙ sym (ap (λ n. if nat_eq n 0 then near else n) rest.placed);
  }

  pub tables_told : (tables : List ℕ) (wants : Wants) (r : Result Tables GroupError) → IfOk r (λ seen. seen ≡ narrow wants (map (captured g) tables)) → IfErr r (λ e. Blames state e (stores_of g) (stores_of h)) → IfErr r (IsOn (node_of_read g near)) →
      TellsTables tables wants near r (seen_of g)
  tables_told tables wants (Ok seen) is blame here = is
  tables_told tables wants (Err e) is blame here = error_told e blame here

  pub rows_told : (table : ℕ) (wanted : List (ℕ × Value)) (r : Result (List Row) GroupError) → IfOk r (λ rows. rows ≡ filter (has_values wanted) (rows_of (replay table (shapes g table) (entries_of g)))) →
      IfErr r (λ e. Blames state e (stores_of g) (stores_of h)) → IfErr r (IsOn (node_of_read g near)) → TellsRows table wanted near r (seen_of g)
  rows_told table wanted (Ok rows) is blame here = is
  rows_told table wanted (Err e) is blame here = error_told e blame here

  pub failed_alone : {V : Type 0} (r : Result V GroupError) → IfErr r (λ e. Blames state e (stores_of g) (stores_of h)) → IfErr r (IfFailed (λ f. HasFailedAt state k f groups (set groups k h)))
  failed_alone (Ok v) blame = tt
  failed_alone (Err group.Memory) blame = tt
  failed_alone (Err (group.Worker f)) blame = record { was = g; is = h; there = at; here = set_there groups k h (got_below groups k g at); failed = blame }

-- ---- writes

module _ {X : Type 0} (groups : List (GroupState X)) where
  pub few_alone : length (all_seen groups) < 2 ^ 32 → length groups < 2 ^ 32
  few_alone few = omega (arith, few, seen_long groups)

  pub as_many_alone : (new : List (GroupState X)) → length new ≡ length groups → length (all_seen new) ≡ length (all_seen groups)
  as_many_alone new count = seen_long new ∙ count ∙ sym (seen_long groups)

  pub known_alone : MayFind (outlook_alone groups) (all_seen groups)
  known_alone = record { count = refl; each = λ g s e. inl e }

  pub takes_alone : (parts : List Part) → AllByRecursion (CanTake (outlook_alone groups)) parts → AllByRecursion (Takes groups) parts
  takes_alone [] all = tt
  takes_alone (p ∷ parts) all =
      let g = got groups p.group (within_alone groups p.group all.0.within) in
      (record { group = g.0; there = g.1; holds = all.0.takes (seen_of g.0) (meets_alone groups p.group g.0 g.1) }, takes_alone parts all.1)
