-- The groups as a session knows them, and as a statement of it found them, stood for their notes.
use Rattle.std.proofs.Common.{◌≡◌, inl, inr, ℕ, List, map, sym, ◌∙◌, subst, arith, Some, slice_get, ◌++◌}
use Rattle.atomic_table.specs.Seated.{TableId}
use Rattle.cq_value.proofs.Lists.{length_map}
use Rattle.cq_tree.specs.declared.journal.Who.{Who}
use Rattle.cq_store.specs.Stores.{StoreState}
use Rattle.cq_reach.specs.Seen.{Seen, seen_of}
use Rattle.cq_reach.specs.Outlook.{MayFind}
use Rattle.cq_reach.proofs.Growth.{got, got_below, one_item}
use Rattle.cq_shared.specs.declared.content.Shard.{Shard}
use Rattle.cq_shared.specs.declared.note.Note.{Note}
use Rattle.cq_shared.specs.Terms.{Terms}
use Rattle.cq_shared.specs.Notes.{IsShard}
use Rattle.cq_shared.specs.Seen.{Pass, group_of, seen_since}
use Rattle.cq_shared.proofs.Standing.{seen_same}
use Rattle.cq_shared.proofs.Turning.{cell_at}
use Rattle.cq_desk.specs.Desks.{known_by, outlook_by, IsReady}

module _ {X C : Type 0} (state : X → StoreState) (terms : C → Terms) where
  -- a group stood so, from the opening of the pass at its place
  pub record IsStood (passes : List (Pass X C)) (g : ℕ) (s : Seen) : Type 0 where
    pub pass : Pass X C
    pub there : slice_get passes g ≡ Some pass
    pub opening : Shard X C
    pub origin : pass.place.me.0.origin ≡ Some opening
    pub shard : Shard X C
    pub notes : List Note
    pub stands : IsShard state terms opening shard notes
    pub is : s ≡ seen_of shard.group

  module _ (cells : List TableId) (sessions : List ℕ) (passes : List (Pass X C)) (who : Who) (ready : IsReady state terms cells sessions passes who.session) where
    by_pass : (g : ℕ) (p : Pass X C) → slice_get passes g ≡ Some p → IsStood passes g (known_by p)
    by_pass g p there =
        let h = (ready.own g p there).stood in record {
          pass = p;
          there = there;
          opening = h.opening;
          origin = h.origin;
          shard = h.shard;
          notes = p.place.me.0.news;
          stands = h.stands;
          is = (λ i. seen_since (group_of (h.origin i)) p.place.me.0.news) ∙ sym (seen_same state ((terms h.opening.rules.value).allows h.opening.group.journal.group) h.opening.group h.shard.group p.place.me.0.news h.stands.stands);
        }

    -- a group as the session knows it
    pub known_stood : (g : ℕ) (s : Seen) → slice_get (map (λ (p : Pass X C). known_by p) passes) g ≡ Some s → IsStood passes g s
    known_stood g s e =
        let low = got_below (map (λ (p : Pass X C). known_by p) passes) g s e in
        let long = length_map (λ (p : Pass X C). known_by p) passes in
        let p = got passes g (omega (arith, low, long)) in
        subst (IsStood passes g) (one_item (known_by p.0) s (sym (cell_at (λ (q : Pass X C). known_by q) passes g p.0 p.1) ∙ e)) (by_pass g p.0 p.1)

    -- a group as a statement of the session found it
    pub found_stood : (found : List Seen) → MayFind (outlook_by state terms sessions passes who) found → (g : ℕ) (s : Seen) → slice_get found g ≡ Some s → IsStood passes g s
    found_stood found may g s e = elim (may.each g s e) [
      | inl k ↦ known_stood g s k
      | inr m ↦
          let b = m.may in
          let f = b.finds in
          record { pass = b.pass; there = b.there; opening = f.opening; origin = f.origin; shard = b.shard; notes = b.pass.place.me.0.news ++ f.more; stands = f.stands; is = b.is }
    ]
