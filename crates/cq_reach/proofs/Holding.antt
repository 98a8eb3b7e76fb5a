-- A group while parts of a write are staged.
use Rattle.std.proofs.Common.{◌≡◌, List, ℕ, ◌+◌, ◌<◌, ◌≤◌, refl, sym, ◌∙◌, ap, subst, Result, Ok, Err, IfOk, IfErr, OnErr, length}
use Rattle.cq_value.specs.declared.schema.Shape.{Shape}
use Rattle.cq_tree.specs.declared.journal.Entry.{Entry}
use Rattle.cq_tree.specs.declared.write.Reply.{Reply}
use Rattle.cq_tree.specs.declared.write.Reply.TheVariants.{Count, Duplicate, OutOfRange}
use Rattle.cq_tree.specs.declared.write.ShardOp.{ShardOp}
use Rattle.cq_meaning.specs.Effects.{reply_of, table_of, inserts}
use Rattle.cq_journal.specs.Journals.{replay, most_ids}
use Rattle.cq_journal.specs.Replies.{IsMade, IsRefusal}
use Rattle.cq_store.specs.Stores.{StoreState}
use Rattle.cq_group.specs.declared.group.GroupState.{GroupState}
use Rattle.cq_group.specs.declared.group.GroupError.{GroupError}
use Rattle.cq_group.specs.declared.group.GroupError.TheVariants as group
use Rattle.cq_group.specs.declared.group.Staged.{Staged}
use Rattle.cq_group.specs.declared.group.Staged.TheVariants as staged
use Rattle.cq_group.specs.Groups.{IsSameGroup, IsKept, IsQuiet, IsReady, entries_of, stores_of, shapes, shape_at, or_no_shape}
use Rattle.cq_group.specs.Calls.{GoesOn, Lifted, Blames, GroupGoesOn, IsStaged, next_id}
use Rattle.cq_group.specs.Resting.{IsResting}
use Rattle.cq_group.proofs.Zips.{zip_refl}
use Rattle.cq_group.proofs.Turns.{rests, rests_go_on}
use Rattle.cq_group.proofs.WriteLaws.{goes_on_twice}
use Rattle.cq_router.specs.declared.insertion.Part.{Part}
use Rattle.cq_reach.specs.declared.error.WriteError.TheVariants.{Ids, Worker, Memory}
use Rattle.cq_reach.specs.declared.staging.Stop.{Stop}
use Rattle.cq_reach.specs.declared.staging.Stop.TheVariants as stop
use Rattle.cq_reach.specs.Seen.{seen_of}
use Rattle.cq_reach.specs.Writes.{reply_over, HasIds}
use Rattle.cq_reach.specs.Staging.{IsHeld, IsDropped, Stages, StopsAt, StagesOne, outcome_by}
use Rattle.cq_reach.proofs.Growth.{rest_still}

made_or : (r : Reply) → IsMade r → IsRefusal r → ⊥
made_or (Count n) m f = f
made_or Duplicate m f = m
made_or OutOfRange m f = m

module _ {X : Type 0} (state : X → StoreState) where
  pub goes_on_same : (g : GroupState X) → GroupGoesOn state g g
  goes_on_same g = record {
    same = record { number = refl; opening = refl; node = refl; nodes = refl; tables = refl };
    stores = zip_refl (Lifted state GoesOn) (λ (x : X). rests_go_on (state x) (state x) (rests (state x))) (stores_of g);
    steady = λ s. s;
  }

  pub held_same : (g : GroupState X) → IsKept state g → IsHeld state g g
  held_same g k = record { kept = k; entries = refl; on = goes_on_same g }

  pub held_more : (f g h : GroupState X) → IsHeld state f g → IsHeld state g h → IsHeld state f h
  held_more f g h a b = record { kept = b.kept; entries = b.entries ∙ a.entries; on = goes_on_twice state f g h a.on b.on }

  pub dropped_more : (f g h : GroupState X) → IsHeld state f g → IsDropped state g h → IsDropped state f h
  dropped_more f g h a d = record { held = held_more f g h a d.held; quiet = d.quiet }

  pub dropped_same : (g : GroupState X) → IsResting state g → IsDropped state g g
  dropped_same g r = record { held = held_same g r.kept; quiet = r.quiet }

  pub rests_again : (g h : GroupState X) → IsResting state g → IsDropped state g h → IsResting state h
  rests_again g h r d = rest_still state g h r d.held.kept d.quiet d.held.on.same d.held.entries

  shapes_same : (g h : GroupState X) (table : ℕ) → IsSameGroup g h → shapes h table ≡ shapes g table
  shapes_same g h table p = ap (λ os. or_no_shape (shape_at os table)) p.tables

  pub reply_held : (g h : GroupState X) (op : ShardOp) → IsHeld state g h → reply_over (seen_of h) op ≡ reply_over (seen_of g) op
  reply_held g h op a =
      ap (λ (v : Shape). reply_of op (replay (table_of op) v (entries_of h)) v) (shapes_same g h (table_of op) a.on.same)
      ∙ ap (λ (v : List Entry). reply_of op (replay (table_of op) (shapes g (table_of op)) v) (shapes g (table_of op))) a.entries

  pub next_held : (g h : GroupState X) (table : ℕ) → IsHeld state g h → next_id h table ≡ next_id g table
  next_held g h table a =
      ap (λ (v : Shape). (replay table v (entries_of h)).next) (shapes_same g h table a.on.same)
      ∙ ap (λ (v : List Entry). (replay table (shapes g table) v).next) a.entries

  -- what a staged write is replied over the group as it was, and its ids
  pub ready_over : (g h : GroupState X) (op : ShardOp) (reply : Reply) → IsHeld state g h → IsReady state h op reply → (reply_over (seen_of g) op ≡ reply) × HasIds (seen_of g) op
  ready_over g h op reply a r = (sym (reply_held g h op a) ∙ sym r.replied, subst (λ n. n + length (inserts op) ≤ most_ids) (next_held g h (table_of op) a) r.ids)

  pub made_over : (g h : GroupState X) (op : ShardOp) (reply : Reply) → Stages state op reply g h → IsMade (reply_over (seen_of g) op) × HasIds (seen_of g) op
  made_over g h op reply s = let r = ready_over g h op reply s.held s.ready in (subst IsMade (sym r.0) s.made, r.1)

  -- what staging a part came to
  pub staged_one : (p : Part) (g h : GroupState X) (r : Result Staged GroupError) → IfOk r (λ s. s ≡ staged.NoIds → most_ids < next_id g (table_of p.op) + length (inserts p.op)) → IfOk r (IsStaged state h p.op) → OnErr r (IsQuiet state h) → IfErr r (λ e. Blames state e (stores_of g) (stores_of h)) →
      entries_of h ≡ entries_of g → IsKept state h → GroupGoesOn state g h → StagesOne state p (outcome_by r) g h
  staged_one p g h (Ok (staged.Ready reply)) lacks s err blame entries kept on = record { held = record { kept = kept; entries = entries; on = on }; ready = s.1; quiet = λ r. absurd (made_or reply s.0 r) }
  staged_one p g h (Ok (staged.Refused reply)) lacks s err blame entries kept on = record { held = record { kept = kept; entries = entries; on = on }; ready = s.1; quiet = λ r. s.2 }
  staged_one p g h (Ok staged.NoIds) lacks s err blame entries kept on = (record { held = record { kept = kept; entries = entries; on = on }; quiet = s }, lacks refl)
  staged_one p g h (Err (group.Worker failure)) lacks s err blame entries kept on = (record { held = record { kept = kept; entries = entries; on = on }; quiet = err }, blame)
  staged_one p g h (Err group.Memory) lacks s err blame entries kept on = record { held = record { kept = kept; entries = entries; on = on }; quiet = err }

  -- nothing is staged where a part stopped the write
  pub stops_dropped : (p : Part) (why : Stop) (g h : GroupState X) → StopsAt state p why g h → IsDropped state g h
  stops_dropped p (stop.Refused s) g h a = a.1.dropped
  stops_dropped p (stop.Failed Ids) g h a = a.0
  stops_dropped p (stop.Failed (Worker failure)) g h a = a.0
  stops_dropped p (stop.Failed Memory) g h a = a
