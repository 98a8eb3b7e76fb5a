-- A group with one more entry of a move.
use Rattle.std.proofs.Common.{◌≡◌, ◌∙◌, ℕ, ◌<◌, IsSome, Option, Some, None, List, [], ◌∷◌, ◌++◌, length, map, refl, sym, ap, subst, arith}
use Rattle.std.specs.List.{AllZip, AllByRecursion, flat_map}
use Rattle.cq_value.specs.declared.schema.Shape.{Shape}
use Rattle.cq_value.specs.Tables.{Table}
use Rattle.cq_tree.specs.declared.journal.Who.{Who}
use Rattle.cq_tree.specs.declared.journal.Entry.{Entry}
use Rattle.cq_tree.specs.declared.journal.EntryKind.TheVariants.{MoveStart, CatchUp, MoveStop}
use Rattle.cq_journal.specs.Journals.{entered, replay, IsReplied}
use Rattle.cq_journal.specs.Records.{Journal}
use Rattle.cq_journal.specs.Stations.{Station, moved, station_of, moving_of, node_of}
use Rattle.cq_journal.proofs.Replays.{replay_more}
use Rattle.cq_store.specs.Stores.{StoreState}
use Rattle.cq_group.specs.declared.group.GroupTable.{GroupTable}
use Rattle.cq_group.specs.declared.group.GroupState.{GroupState}
use Rattle.cq_group.specs.declared.moving.Moving.{Moving}
use Rattle.cq_group.specs.Moves.{IsMoveKept, IsInFlight, IsLogged, IsCleared}
use Rattle.cq_group.specs.Groups.{entries_of, journal_of, outline, outlines, shapes, copies_of, IsNamed, IsTableKept, IsKept, IsQuiet, IsTableQuiet}
use Rattle.cq_group.specs.Calls.{GoesOn, Lifted, IsSameTable, GroupGoesOn}
use Rattle.cq_group.specs.Resting.{IsResting}
use Rattle.cq_group.proofs.Zips.{zip_refl, all_weaker}
use Rattle.cq_group.proofs.Turns.{keeps, keeps_go_on}
use Rattle.cq_group.proofs.MoveLaws.{station_push, logged_none, same_move, move_along}
use Rattle.cq_group.proofs.GroupLaws.{shapes_in, kept_more, table_unmoved, group_goes_on}

-- room for the last entry of a move in flight
pub slot_kept : (shapes : ℕ → Shape) (j : Journal) (node room : ℕ) (o : Option Moving) → IsMoveKept shapes j node room o → IsSome o → 0 < room
slot_kept shapes j node room None h s = absurd (cc s)
slot_kept shapes j node room (Some m) h s = h.slot

pub target_kept : (shapes : ℕ → Shape) (j : Journal) (node room : ℕ) (o : Option Moving) (m : Moving) → o ≡ Some m → IsMoveKept shapes j node room o → IsInFlight shapes j node room m
target_kept shapes j node room o m e h = subst (λ x. IsMoveKept shapes j node room x) e h

-- where the journal names nobody, no move is in flight, and where it names somebody, one is
pub free_none : (shapes : ℕ → Shape) (j : Journal) (node room : ℕ) (o : Option Moving) → o ≡ None → IsMoveKept shapes j node room o → moving_of j ≡ None
free_none shapes j node room o e h = subst (λ x. IsMoveKept shapes j node room x) e h

-- the move after an entry
pub started : (shapes : ℕ → Shape) (j : Journal) (es : List Entry) (who : Who) (to node room : ℕ) (m : Moving) → m.who ≡ who → m.to ≡ to → m.log.list ≡ [] → 0 < to → 0 < node → 0 < room →
    IsMoveKept shapes (record j { entries = es ++ record { who = who; kind = MoveStart to } ∷ [] }) node room (Some m)
started shapes j es who to node room m by there none a b c = record {
  mover = ap (λ (s : Station). s.moving) (station_push j es (record { who = who; kind = MoveStart to })) ∙ ap Some (sym by);
  target = ap (λ (s : Station). s.target) (station_push j es (record { who = who; kind = MoveStart to })) ∙ sym there;
  somewhere = subst (λ n. 0 < n) (sym there) a;
  distributed = b;
  logged = subst (λ log. IsLogged shapes (es ++ record { who = who; kind = MoveStart to } ∷ []) log) (sym none) (logged_none shapes es (record { who = who; kind = MoveStart to }) refl);
  slot = c;
}

pub caught_up : (shapes : ℕ → Shape) (j : Journal) (es : List Entry) (who : Who) (node room room' : ℕ) (old new : Option Moving) → j.entries ≡ es → IsCleared old new → IsSome old → 0 < room' →
    IsMoveKept shapes j node room old → IsMoveKept shapes (record j { entries = es ++ record { who = who; kind = CatchUp } ∷ [] }) node room' new
caught_up shapes j es who node room room' None new e l s c h = absurd (cc s)
caught_up shapes j es who node room room' (Some old) None e l s c h = absurd l
caught_up shapes j es who node room room' (Some old) (Some new) e l s c h = record {
  mover = ap (λ (z : Station). z.moving) (station_push j es (record { who = who; kind = CatchUp })) ∙ subst (λ xs. moving_of (record j { entries = xs }) ≡ Some old.who) e h.mover ∙ ap Some (sym l.who);
  target = ap (λ (z : Station). z.target) (station_push j es (record { who = who; kind = CatchUp })) ∙ subst (λ xs. (station_of (record j { entries = xs })).target ≡ old.to) e h.target ∙ sym l.to;
  somewhere = subst (λ n. 0 < n) (sym l.to) h.somewhere;
  distributed = h.distributed;
  logged = subst (λ log. IsLogged shapes (es ++ record { who = who; kind = CatchUp } ∷ []) log) (sym l.log) (logged_none shapes es (record { who = who; kind = CatchUp }) refl);
  slot = c;
}

module _ {X : Type 0} (state : X → StoreState) where
  -- an entry that leaves each table
  pub kept_entry : (g h : GroupState X) (e : Entry) → IsKept state g → h.node ≡ g.node → h.nodes ≡ g.nodes → h.room ≡ g.room → h.tables ≡ g.tables → entries_of h ≡ entries_of g ++ e ∷ [] →
      h.journal.opening ≡ g.journal.opening → IsReplied (shapes g) (entries_of g) e.kind → IsNamed (outlines g) e.kind → ((table : ℕ) (shape : Shape) (t : Table) → entered table shape t e.kind ≡ t) →
      IsMoveKept (shapes g) (record (journal_of g) { entries = entries_of g ++ e ∷ [] }) g.node h.journal.entries.room h.moving → IsKept state h
  kept_entry g h e k a b r t es opening replied named leaves move =
      kept_more state g h e k a b r (ap (λ v. map outline v.items) t) (ap (λ v. length (flat_map (λ (u : GroupTable X). u.stores.items) v.items)) t) es replied named
      (subst (λ v. AllByRecursion (IsTableKept state g.node (copies_of g) (entries_of g ++ e ∷ [])) v.items) (sym t)
      (all_weaker (IsTableKept state g.node (copies_of g) (entries_of g)) (IsTableKept state g.node (copies_of g) (entries_of g ++ e ∷ []))
      (λ u. table_unmoved state g.node (copies_of g) (entries_of g) (entries_of g ++ e ∷ []) u (replay_more u.table u.shape (entries_of g) e ∙ leaves u.table u.shape (replay u.table u.shape (entries_of g)))) g.tables.items k.tables))
      (move_along (shapes g) (shapes h) (record (journal_of g) { entries = entries_of g ++ e ∷ [] }) (journal_of h) g.node h.node h.journal.entries.room h.journal.entries.room h.moving h.moving
      (ap shapes_in (ap (λ v. map outline v.items) t)) opening es a (omega arith) (same_move h.moving) move)

  -- where the group is, after an entry that leaves it there
  pub placed_entry : (g h : GroupState X) (e : Entry) → node_of (journal_of g) ≡ g.node → h.node ≡ g.node → entries_of h ≡ entries_of g ++ e ∷ [] → h.journal.opening ≡ g.journal.opening →
      ((s : Station) → (moved s e.who e.kind).node ≡ s.node) → node_of (journal_of h) ≡ h.node
  placed_entry g h e p a es opening stays =
      (λ i. node_of (record { number = h.journal.group; opening = opening i; base = (journal_of h).base; entries = es i }))
      ∙ ap (λ (s : Station). s.node) (station_push (journal_of g) (entries_of g) e) ∙ stays (station_of (journal_of g)) ∙ p ∙ sym a

  pub resting_entry : (g h : GroupState X) (e : Entry) → IsResting state g → IsKept state h → h.tables ≡ g.tables → h.node ≡ g.node → entries_of h ≡ entries_of g ++ e ∷ [] → h.journal.opening ≡ g.journal.opening →
      ((s : Station) → (moved s e.who e.kind).node ≡ s.node) → IsResting state h
  resting_entry g h e r k tables node es opening stays = record {
    kept = k;
    quiet = subst (λ v. AllByRecursion (IsTableQuiet state) v.items) (sym tables) r.quiet;
    placed = placed_entry g h e r.placed node es opening stays;
  }

  pub stopped_kept : (g h : GroupState X) (who : Who) → IsKept state g → h.node ≡ g.node → h.nodes ≡ g.nodes → h.room ≡ g.room → h.tables ≡ g.tables →
      entries_of h ≡ entries_of g ++ record { who = who; kind = MoveStop } ∷ [] → h.journal.opening ≡ g.journal.opening → h.moving ≡ None → IsKept state h
  stopped_kept g h who k a b r t es opening none =
      kept_entry g h (record { who = who; kind = MoveStop }) k a b r t es opening tt tt (λ table shape u. refl)
      (subst (λ o. IsMoveKept (shapes g) (record (journal_of g) { entries = entries_of g ++ record { who = who; kind = MoveStop } ∷ [] }) g.node h.journal.entries.room o) (sym none)
      (ap (λ (s : Station). s.moving) (station_push (journal_of g) (entries_of g) (record { who = who; kind = MoveStop }))))

  -- a group whose tables are the same goes on
  pub same_go_on : (g h : GroupState X) → h.node ≡ g.node → h.nodes ≡ g.nodes → h.tables ≡ g.tables → h.journal.group ≡ g.journal.group → h.journal.opening ≡ g.journal.opening → GroupGoesOn state g h
  same_go_on g h node nodes tables number opening =
      group_goes_on state g h node nodes
      (subst (λ v. AllZip (IsSameTable (Lifted state GoesOn)) g.tables.items v.items) (sym tables)
      (zip_refl (IsSameTable (Lifted state GoesOn)) (λ t. record { table = refl; shape = refl; shard = refl; stores = zip_refl (Lifted state GoesOn) (λ x. keeps_go_on (state x) (state x) (keeps (state x))) t.stores.items }) g.tables.items))
      number opening

  pub same_quiet : (g h : GroupState X) → h.tables ≡ g.tables → IsQuiet state g → IsQuiet state h
  same_quiet g h tables q = subst (λ v. AllByRecursion (IsTableQuiet state) v.items) (sym tables) q

  -- a group whose move caught up
  pub caught_kept : (g h : GroupState X) (who : Who) → IsKept state g → h.node ≡ g.node → h.nodes ≡ g.nodes → h.room ≡ g.room → h.tables ≡ g.tables →
      entries_of h ≡ entries_of g ++ record { who = who; kind = CatchUp } ∷ [] → h.journal.opening ≡ g.journal.opening → IsCleared g.moving h.moving → IsSome g.moving → 0 < h.journal.entries.room → IsKept state h
  caught_kept g h who k a b r t es opening cleared some slot =
      kept_entry g h (record { who = who; kind = CatchUp }) k a b r t es opening tt tt (λ table shape u. refl)
      (caught_up (shapes g) (journal_of g) (entries_of g) who g.node g.journal.entries.room h.journal.entries.room g.moving h.moving refl cleared some slot k.move)

  -- a group whose move began
  pub started_kept : (g h : GroupState X) (who : Who) (to : ℕ) (m : Moving) → IsKept state g → h.node ≡ g.node → h.nodes ≡ g.nodes → h.room ≡ g.room → h.tables ≡ g.tables →
      entries_of h ≡ entries_of g ++ record { who = who; kind = MoveStart to } ∷ [] → h.journal.opening ≡ g.journal.opening → h.moving ≡ Some m → m.who ≡ who → m.to ≡ to → m.log.list ≡ [] → 0 < to → 0 < g.node →
      0 < h.journal.entries.room → IsKept state h
  started_kept g h who to m k a b r t es opening is by there none some distributed slot =
      kept_entry g h (record { who = who; kind = MoveStart to }) k a b r t es opening tt tt (λ table shape u. refl)
      (subst (λ o. IsMoveKept (shapes g) (record (journal_of g) { entries = entries_of g ++ record { who = who; kind = MoveStart to } ∷ [] }) g.node h.journal.entries.room o) (sym is)
      (started (shapes g) (journal_of g) (entries_of g) who to g.node h.journal.entries.room m by there none some distributed slot))
