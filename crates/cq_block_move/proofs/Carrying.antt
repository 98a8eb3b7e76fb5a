-- The group of a move as a session knows it by its pass, as the move begins and as it ends.
use Rattle.std.proofs.Common.{◌≡◌, ◌≢◌, ◌⊎◌, inl, inr, ℕ, ◌<◌, ◌≤◌, true, false, List, [], ◌∷◌, ◌++◌, length, refl, sym, ap, ◌∙◌, subst, arith, Some, slice_get, IsTrue}
use Rattle.std.specs.Prelude.{nat_eq, All}
use Rattle.std.proofs.lemmas.Bool.Decides.{eqb_tells}
use Rattle.std.proofs.lemmas.Option.{same_Some}
use Rattle.std.proofs.lemmas.List.Elements.{All-nil, All-cons}
use Rattle.std.specs.List.{AllByRecursion, AllZip}
use Rattle.atomic_table.specs.Seated.{TableId}
use Rattle.cq_value.proofs.Truths.{two_ways}
use Rattle.cq_tree.specs.declared.journal.Who.{Who}
use Rattle.cq_tree.specs.declared.journal.Entry.{Entry}
use Rattle.cq_answer.specs.declared.fault.Fault.{Fault}
use Rattle.cq_catalog.specs.Contents.{Contents}
use Rattle.cq_journal.specs.Stations.{node_of, moving_of}
use Rattle.cq_store.specs.Stores.{StoreState}
use Rattle.cq_group.specs.declared.group.GroupState.{GroupState}
use Rattle.cq_group.specs.Calls.{Lifted}
use Rattle.cq_group.specs.Groups.{entries_of, outlines, journal_of}
use Rattle.cq_reach.specs.Seen.{Seen, seen_of}
use Rattle.cq_reach.proofs.Growth.{got, got_below}
use Rattle.cq_move.specs.declared.outcome.MoveReport.{MoveReport}
use Rattle.cq_move.specs.declared.outcome.NotMoved.{NotMoved}
use Rattle.cq_move.specs.Outcomes.{IsTried, shards_in}
use Rattle.cq_move_calls.specs.Moving.{AreSteadyOn}
use Rattle.cq_transfer.specs.Entering.{HasMoved}
use Rattle.cq_transfer.specs.Carrying.{IsGivenUp, IsRefused}
use Rattle.cq_cluster.specs.Ending.{AreDistinct}
use Rattle.cq_cluster.specs.Moving.{CanRetire, fault_told}
use Rattle.cq_cluster.specs.Steps.{IsStoreOf}
use Rattle.cq_cluster.proofs.MovingLawsGroups.{IsFoundAt, found_at}
use Rattle.cq_cluster.proofs.MovingLawsStores.{retire_refused, retire_stopped}
use Rattle.cq_shared.specs.declared.content.Shard.{Shard}
use Rattle.cq_shared.specs.declared.note.Note.{Note}
use Rattle.cq_shared.specs.Notes.{entries_in}
use Rattle.cq_shared.specs.Seen.{Pass, HasStood, group_of, seen_since, seen_by}
use Rattle.cq_shared.specs.Terms.{Terms}
use Rattle.cq_shared.proofs.Standing.{seen_same}
use Rattle.cq_desk.specs.Desks.{IsOfOthers, IsReady}
use Rattle.cq_desk.specs.Moving.{AreKept, CanMove, HasFailedBy, seen_in, seen_at}
use Rattle.cq_block_laws.specs.Sessions.{Hands}
use Rattle.cq_move_laws.proofs.Tables.{group_has_tables}
use Rattle.cq_block_move.specs.Hands.{IsPassTo, AreHands}
use Rattle.cq_block_move.specs.Benches.{GivesBack, IsThere, RetiresOn, SteadyOn}
use Rattle.cq_block_move.specs.Moves.{EndsMove, KeepsGroup, RefusesMove}
use Rattle.cq_block_move.specs.Moving.{IsFitted}
use Rattle.cq_block_move.proofs.Apart.{shards_apart}
use Rattle.cq_block_move.proofs.Placed.{found_place, found_somewhere}
use Rattle.cq_block_move.proofs.Reaching.{Across, across, is_there}

-- ---- stores that were tried

zip_length : {A B : Type 0} (R : A → B → Type 0) (xs : List A) (ys : List B) → AllZip R xs ys → length ys ≡ length xs
zip_length R [] [] h = refl
zip_length R [] (y ∷ ys) h = absurd h
zip_length R (x ∷ xs) [] h = absurd h
zip_length R (x ∷ xs) (y ∷ ys) h = let more = zip_length R xs ys h.1 in omega (arith, more)

module _ {X : Type 0} (state : X → StoreState) where
  pub tried_many : (xs ys : List X) → AllZip (Lifted state IsTried) xs ys → length ys ≡ length xs
  tried_many xs ys h = zip_length (Lifted state IsTried) xs ys h

  pub tried_steady : (node : ℕ) (xs ys : List X) → AllZip (Lifted state IsTried) xs ys → AreSteadyOn state node xs → AreSteadyOn state node ys
  tried_steady node [] [] h all = tt
  tried_steady node [] (y ∷ ys) h all = absurd h
  tried_steady node (x ∷ xs) [] h all = absurd h
  tried_steady node (x ∷ xs) (y ∷ ys) h all = (
    (λ on. subst IsTrue (sym (ap (λ (v : StoreState). v.steady) h.0.state)) (all.0 (sym (ap (λ (v : StoreState). v.node) h.0.state) ∙ on))),
    tried_steady node xs ys h.1 all.1,
  )

  pub of_node : (node : ℕ) (xs : List X) → AllByRecursion (λ (x : X). (state x).node ≡ node) xs → All (λ (x : X). IsStoreOf node (state x)) xs
  of_node node [] h = All-nil (λ (x : X). IsStoreOf node (state x))
  of_node node (x ∷ xs) h = All-cons (λ (y : X). IsStoreOf node (state y)) x xs h.0 (of_node node xs h.1)

above : (n : ℕ) → 0 < n → nat_eq n 0 ≡ false
above n low = elim (eqb_tells n 0) [ inl y ↦ absurd (let e = y.1 in omega (arith, low, e)) | inr z ↦ z.0 ]

not_zero : (n : ℕ) → nat_eq n 0 ≡ false → 0 < n
not_zero n is = elim (eqb_tells n 0) [ inl y ↦ absurd (let bad : true ≡ false = sym y.0 ∙ is in cc) | inr z ↦ (let other = z.1 in omega (arith, other)) ]

-- ---- the group

module _ {X C : Type 0} (state : X → StoreState) (terms : C → Terms) (c : Contents) (nodes : ℕ) (cells stalls : List TableId) (sessions : List ℕ) (who : Who) (group from to n : ℕ) (h : Hands X C)
    (fit : IsFitted state terms c nodes cells stalls sessions who group from to n h) where
  abbrev hands : AreHands state terms c nodes cells stalls sessions who.session h
  hands = fit.hands

  -- as it was opened
  found : IsFoundAt state nodes c group hands.opened
  found = found_at state nodes c fit.shard group hands.opened hands.ground.whole hands.ground.are fit.is

  -- and the pass to it
  to_it : Across (IsPassTo hands.rule) h.passes group found.g
  to_it = across (IsPassTo hands.rule) hands.opened h.passes hands.to group found.g found.there

  abbrev notes : List Note
  notes = to_it.item.place.me.0.news

  pub can_move : CanMove state terms cells sessions h.passes who.session group
  can_move = record { ready = hands.passes; within = got_below h.passes group to_it.item to_it.there }

  -- a pass with its origin knows it so
  seen_now : (q : Pass X C) → q.place.me.0.origin ≡ to_it.item.place.me.0.origin → seen_by q.place ≡ seen_since (Some found.g) q.place.me.0.news
  seen_now q same = (λ i. seen_since (group_of ((same ∙ to_it.holds.origin) i)) q.place.me.0.news) ∙ ap (λ (g : GroupState X). seen_since (Some g) q.place.me.0.news) to_it.holds.shared.0

  seen_first : seen_at h.passes group ≡ seen_since (Some found.g) notes
  seen_first = ap seen_in to_it.there ∙ seen_now to_it.item refl

  -- it is one of distributed tables
  pub distributed : 0 < node_of (seen_at h.passes group).journal
  distributed =
      let s = (hands.passes.own group to_it.item to_it.there).stood in
      let x = s.shard.group in
      let known : seen_at h.passes group ≡ seen_of x =
      ap seen_in to_it.there ∙ ((λ i. seen_since (group_of (s.origin i)) notes) ∙ sym (seen_same state ((terms s.opening.rules.value).allows s.opening.group.journal.group) s.opening.group x notes s.stands.stands)) in
      let same : to_it.holds.shard ≡ s.opening = same_Some to_it.holds.shard s.opening (sym to_it.holds.origin ∙ s.origin) in
      let first : found.g.node ≡ s.opening.group.node = ap (λ (g : GroupState X). g.node) (sym to_it.holds.shared.0) ∙ ap (λ (v : Shard X C). v.group.node) same in
      let low : nat_eq x.node 0 ≡ false = s.stands.stands.remains.spread ∙ above s.opening.group.node (subst (λ k. 0 < k) first found.of.node.some) in
      subst (λ k. 0 < k) (sym s.stands.stands.resting.placed ∙ sym (ap (λ (v : Seen). node_of v.journal) known)) (not_zero x.node low)

  -- one store for each of its tables
  pub one_each : n ≡ length (seen_at h.passes group).tables
  one_each =
      let law = group_has_tables state nodes c hands.opened fit.shard group found.g (entries_of found.g ++ entries_in notes) hands.ground.whole hands.ground.are fit.is found.there in
      fit.one ∙ (sym law.1 ∙ sym (ap (λ (v : Seen). length v.tables) seen_first))

  pub apart : AreDistinct (shards_in (seen_at h.passes group).tables)
  apart = subst (λ (v : Seen). AreDistinct (shards_in v.tables)) (sym seen_first)
      (shards_apart c hands.ground.whole found.was.colocation found.was.i found.was.co found.was.there found.was.within (outlines found.g) found.of.kept.distinct found.of.shards)

  pub there_to : IsThere to h.benches
  there_to = is_there state terms c nodes cells stalls sessions who.session h hands to (λ none. (let low = fit.low in absurd (omega (arith, none, low)))) fit.high

  -- ---- a move that wasn't made

  module _ (comes : Entry → Type 0) (given : List X) (e : NotMoved X) (t : Seen) (stopped : e.begun ≡ true → IsGivenUp state comes who from to given e (seen_at h.passes group) t) where
    pub can_retire : CanRetire state to e.stores.items (fault_told e.begun e.why)
    can_retire = elim (two_ways e.begun) [
      | inl y ↦
          let up = stopped y in
          subst (λ b. CanRetire state to e.stores.items (fault_told b e.why)) (sym y) (retire_stopped state (seen_at h.passes group).tables to given e.stores.items e.why up.shards apart up.why)
      | inr z ↦ subst (λ b. CanRetire state to e.stores.items (fault_told b e.why)) (sym z) (retire_refused state to e.stores.items e.why)
    ]

  module _ (given : List X) (e : NotMoved X) (new : Hands X C) (refused : e.begun ≡ false → IsRefused (IsOfOthers sessions who) (λ why. HasFailedBy who group why h.passes new.passes) who from to given e (seen_at h.passes group) (seen_at new.passes group))
      (stopped : e.begun ≡ true → IsGivenUp state (IsOfOthers sessions who) who from to given e (seen_at h.passes group) (seen_at new.passes group)) (f : Fault) (told : f ≡ fault_told e.begun e.why) where
    why_kept : RefusesMove state sessions who group from to f h new ⊎ EndsMove state sessions who group from to f h new
    why_kept = elim (two_ways e.begun) [
      | inl y ↦ inr (record { given = given; ended = e; stopped = stopped y; fault = told ∙ ap (λ b. fault_told b e.why) y })
      | inr z ↦ let r = refused z in inl (record { why = e.why; told = r.told; failed = r.failed; fault = told ∙ ap (λ b. fault_told b e.why) z })
    ]

    pub keeps_group : (m : ℕ) → m ≡ n → GivesBack state who to m f h.benches new.benches h.retired new.retired → ((k : ℕ) → SteadyOn terms to h.benches k → RetiresOn k f → ⊥) → KeepsGroup state terms sessions who group from to n f h new
    keeps_group m many back spared = record { why = why_kept; given = back.given; lost = back.lost; all = back.all ∙ many; sends = back.sends; loses = back.loses; spared = spared }

  -- ---- a move that was made

  module _ (passes : List (Pass X C)) (kept : AreKept group h.passes passes) (ready : IsReady state terms cells sessions passes who.session)
      (comes : Entry → Type 0) (r : MoveReport) (moves : HasMoved comes who from to r (seen_at h.passes group) (seen_at passes group)) where
    after : (q : Pass X C) × (slice_get passes group ≡ Some q)
    after = let low = got_below h.passes group to_it.item to_it.there in let count = kept.count in got passes group (omega (arith, low, count))

    same_origin : after.0.place.me.0.origin ≡ to_it.item.place.me.0.origin
    same_origin = (kept.here to_it.item after.0 to_it.there after.1).same.2

    seen_last : seen_at passes group ≡ seen_since (Some found.g) after.0.place.me.0.news
    seen_last = ap seen_in after.1 ∙ seen_now after.0 same_origin

    stood : HasStood state terms after.0.place
    stood = (ready.own group after.0 after.1).stood

    is_opening : stood.opening ≡ to_it.holds.shard
    is_opening = same_Some stood.opening to_it.holds.shard (sym stood.origin ∙ (same_origin ∙ to_it.holds.origin))

    opened_as : stood.opening.group ≡ found.g
    opened_as = ap (λ (v : Shard X C). v.group) is_opening ∙ to_it.holds.shared.0

    ruled_as : stood.opening.rules.value ≡ hands.rule
    ruled_as = ap (λ (v : Shard X C). v.rules.value) is_opening ∙ to_it.holds.shared.1

    moves_there : HasMoved comes who from to r (seen_since (Some stood.opening.group) notes) (seen_since (Some stood.opening.group) after.0.place.me.0.news)
    moves_there = subst (λ (g : GroupState X). HasMoved comes who from to r (seen_since (Some g) notes) (seen_since (Some g) after.0.place.me.0.news)) (sym opened_as)
        (subst (λ (v : Seen × Seen). HasMoved comes who from to r v.0 v.1) (λ i. (seen_first i, seen_last i)) moves)

    -- the group was on a node of the run
    from_some : from ≢ 0
    from_some = found_somewhere state terms stood.opening stood.shard notes after.0.place.me.0.news stood.stands (ap (λ (g : GroupState X). moving_of (journal_of g)) opened_as ∙ found.of.still) comes who from to r moves_there

    pub from_low : 0 < from
    from_low = let some = from_some in omega (arith, some)

    pub from_few : from ≤ nodes
    from_few = elim (found_place state terms stood.opening stood.shard notes after.0.place.me.0.news stood.stands (ap (λ (g : GroupState X). moving_of (journal_of g)) opened_as ∙ found.of.still) comes who from to r moves_there) [
      | inl home ↦
          let at : from ≡ found.g.node = home ∙ (ap (λ (g : GroupState X). node_of (journal_of g)) opened_as ∙ found.of.placed) in
          let few = found.of.node.few in
          omega (arith, at, few)
      | inr reached ↦ (hands.ground.reaches from).0 (subst (λ (v : C). (terms v).reaches from) ruled_as reached)
    ]

    pub there_from : IsThere from h.benches
    there_from = is_there state terms c nodes cells stalls sessions who.session h hands from from_some from_few
