-- Stores taken of a node for a move, and room made at another.
use Rattle.std.proofs.Common.{◌≡◌, ◌≢◌, ◌⊎◌, inl, inr, ℕ, ◌+◌, ◌-◌, ◌<◌, ◌≤◌, List, [], ◌∷◌, ◌++◌, length, refl, sym, ap, ◌∙◌, subst, arith, append_assoc, Option, Some, slice_get, Result, Ok, Err}
use Rattle.std.specs.Prelude.{All}
use Rattle.std.specs.declared.vec.Vec.{Vec}
use Rattle.std.proofs.lemmas.Bool.Decides.{eqb_tells}
use Rattle.std.proofs.lemmas.List.Elements.{All-nil, All-cons}
use Rattle.std.proofs.lemmas.List.Sums.{sum_by-append}
use Rattle.atomic_table.specs.Seated.{TableId}
use Rattle.cq_tree.specs.declared.journal.Who.{Who}
use Rattle.cq_store.specs.Stores.{StoreState}
use Rattle.cq_store.specs.declared.worker.TakeError.{TakeError}
use Rattle.cq_store.specs.declared.worker.TakeError.TheVariants.{NoRoom, Memory}
use Rattle.cq_answer.specs.declared.fault.Fault.TheVariants as fault
use Rattle.cq_cluster.specs.Steps.{IsStoreOf}
use Rattle.cq_move_calls.specs.Moving.{AreSteadyOn}
use Rattle.cq_reach.proofs.Growth.{got, got_below}
use Rattle.cq_shared.specs.declared.errand.Errand.{Errand}
use Rattle.cq_shared.specs.declared.errand.Errand.TheVariants as errand
use Rattle.cq_shared.specs.declared.worker.Stock.{Stock}
use Rattle.cq_shared.specs.Terms.{Terms}
use Rattle.cq_shared.specs.Errands.{WorkerPass, AreOfNode, HasKept, Sends, TellsTake, node_in, free_in, tooks, gaves, owed, took_in, gave_in, owed_in, take_notes, room_notes}
use Rattle.cq_shared.specs.Stocks.{give_notes}
use Rattle.cq_shared.specs.Writes.{TurnsOne}
use Rattle.cq_shared.proofs.Stocks.{take_sent}
use Rattle.cq_block_laws.specs.Sessions.{stores_first}
use Rattle.cq_move_laws.specs.Notes.{at_node}
use Rattle.cq_block_move.specs.Benches.{BenchesSend, IsThere, Owes, SteadyOn}
use Rattle.cq_block_move.specs.Hands.{AreReady}
use Rattle.cq_block_move.specs.Moves.{FindsFree, MakesRoom, TakesNone, TakesStores, exchanging, taking}
use Rattle.cq_block_move.proofs.Calling.{at_here, at_other, up}
use Rattle.cq_block_move.proofs.Sending.{send_alike, send_none, send_one, send_then}

-- ---- notes of a node

-- no notes at a node
pub no_notes : (node at : ℕ) → at_node node [] at ≡ []
no_notes node at = elim (eqb_tells (at + 1) node) [ inl y ↦ at_here node [] at y.1 | inr n ↦ at_other node [] at n.1 ]

-- there is no worker of node 0
pub no_node_notes : (notes : List Errand) (at : ℕ) → at_node 0 notes at ≡ []
no_node_notes notes at = at_other 0 notes at (λ (e : at + 1 ≡ 0). omega (arith, e))

take_gaves : {V E : Type 0} (who : Who) (n : ℕ) (r : Result V E) → gaves (take_notes who n r) ≡ 0
take_gaves who n (Ok v) = omega arith
take_gaves who n (Err e) = omega arith

room_gaves : {V E : Type 0} (who : Who) (n room at : ℕ) (r : Result V E) → gaves (at_node room (room_notes who n r) at) ≡ 0
room_gaves who n room at (Ok v) = elim (eqb_tells (at + 1) room) [ inl y ↦ rw (at_here room (errand.Room who n ∷ []) at y.1) (omega arith) | inr k ↦ rw (at_other room (errand.Room who n ∷ []) at k.1) (omega arith) ]
room_gaves who n room at (Err e) = rw (no_notes room at) (omega arith)

took_gaves : (who : Who) (n to at : ℕ) → gaves (at_node to (errand.Took who n ∷ []) at) ≡ 0
took_gaves who n to at = elim (eqb_tells (at + 1) to) [ inl y ↦ rw (at_here to (errand.Took who n ∷ []) at y.1) (omega arith) | inr k ↦ rw (at_other to (errand.Took who n ∷ []) at k.1) (omega arith) ]

-- ---- the passes after calls

module _ {X C : Type 0} where
  module _ (ours : ℕ → List Errand) (old new : List (WorkerPass X C)) (sends : BenchesSend ours old new) where
    -- the pass at a place, as it is after the calls
    pub after : (at : ℕ) (p : WorkerPass X C) → slice_get old at ≡ Some p → (q : WorkerPass X C) × (slice_get new at ≡ Some q)
    after at p e = let low = got_below old at p e in let long = sends.count in got new at (omega (arith, low, long))

    -- and as it was before them
    pub before : (at : ℕ) (q : WorkerPass X C) → slice_get new at ≡ Some q → (p : WorkerPass X C) × (slice_get old at ≡ Some p)
    before at q e = let low = got_below new at q e in let long = sends.count in got old at (omega (arith, low, long))

    -- the worker of a node is there still
    pub there_still : (node : ℕ) → IsThere node old → IsThere node new
    there_still node is =
        let q = after (node - 1) is.pass is.there in
        record { some = is.some; pass = q.0; there = q.1; on = ap node_in (sends.each (node - 1) is.pass q.0 is.there q.1).same.2 ∙ is.on }

    -- rules that say now that a node's stores are steady said so before
    pub steady_before : (terms : C → Terms) (node k : ℕ) → SteadyOn terms node new k → SteadyOn terms node old k
    steady_before terms node k h p e c ruled =
        let q = after (node - 1) p e in
        h q.0 q.1 c (ruled.0, (sends.each (node - 1) p q.0 e q.1).same.2 ∙ ruled.1, ruled.2)

    -- what may be given to the worker of a node, where calls noted that so many were taken, or room was made for them
    pub owes_after : (state : X → StoreState) (terms : C → Terms) (stalls : List TableId) (sessions : List ℕ) (session : ℕ) → AreReady state terms stalls sessions session old → (node n : ℕ) → gaves (ours (node - 1)) + n ≤ owed (ours (node - 1)) → Owes node n new
    owes_after state terms stalls sessions session ready node n low q e =
        let p = before (node - 1) q e in
        let right = (ready.own (node - 1) p.0 p.1).right in
        let mine = (sends.each (node - 1) p.0 q p.1 e).mine in
        let a = sum_by-append gave_in p.0.place.me.0.mine (ours (node - 1)) in
        let b = sum_by-append owed_in p.0.place.me.0.mine (ours (node - 1)) in
        subst (λ (l : List Errand). gaves l + n ≤ owed l) (sym mine) (omega (arith, a, b, low, right))

-- what may be given after n stores were taken of a node, and room was made for as many at another
took_low : {V E : Type 0} (who : Who) (n to room : ℕ) (r : Result V E) → to ≢ 0 → gaves (at_node to (errand.Took who n ∷ []) (to - 1) ++ at_node room (room_notes who n r) (to - 1)) + n ≤ owed (at_node to (errand.Took who n ∷ []) (to - 1) ++ at_node room (room_notes who n r) (to - 1))
took_low who n to room r some =
    let t = at_node to (errand.Took who n ∷ []) (to - 1) in
    let m = at_node room (room_notes who n r) (to - 1) in
    let a = sum_by-append gave_in t m in
    let b = sum_by-append owed_in t m in
    let x : gaves t ≡ 0 = took_gaves who n to (to - 1) in
    let y : gaves m ≡ 0 = room_gaves who n room (to - 1) r in
    let z : owed t ≡ n = rw (at_here to (errand.Took who n ∷ []) (to - 1) (up to some)) (omega arith) in
    omega (arith, a, b, x, y, z)

room_low : (who : Who) (n to room : ℕ) → room ≢ 0 → gaves (taking who n to room (room - 1)) + n ≤ owed (taking who n to room (room - 1))
room_low who n to room some =
    let t = at_node to (errand.Took who n ∷ []) (room - 1) in
    let m = at_node room (errand.Room who n ∷ []) (room - 1) in
    let a = sum_by-append gave_in t m in
    let b = sum_by-append owed_in t m in
    let x : gaves t ≡ 0 = took_gaves who n to (room - 1) in
    let e = at_here room (errand.Room who n ∷ []) (room - 1) (up room some) in
    let y : gaves m ≡ 0 = rw e (omega arith) in
    let z : owed m ≡ n = rw e (omega arith) in
    omega (arith, a, b, x, y, z)

-- ---- room where none is needed

-- the first node of a move is none of the run's
pub makes_none : {X C V E : Type 0} (who : Who) (nodes n from : ℕ) (v : V) (benches : List (WorkerPass X C)) → (from ≡ 0) ⊎ (nodes < from) → MakesRoom {E = E} who nodes n from (Ok v) benches benches
makes_none who nodes n from v benches none = record {
  room = 0;
  made = λ low high. elim none [ inl z ↦ absurd (omega (arith, z, low)) | inr l ↦ absurd (omega (arith, l, high)) ];
  sends = send_alike (λ at. []) (at_node 0 (errand.Room who n ∷ [])) benches benches (λ at. sym (no_node_notes (errand.Room who n ∷ []) at)) (send_none benches);
}

-- ---- how many a worker had

-- a worker's stores by its notes, where so many are left after more of them
count_free : {X C : Type 0} (opening : Stock X C) (o : Option (Stock X C)) (l notes all : List Errand) (left : ℕ) → o ≡ Some opening → all ≡ l ++ notes → gaves notes ≡ 0 → left + tooks all ≡ length opening.worker.stores.items + gaves all →
    free_in o l + tooks l ≡ stores_first o + gaves l
count_free opening o l notes all left is e none count =
    let a = sum_by-append took_in l notes in
    let b = sum_by-append gave_in l notes in
    let c = subst (λ (z : List Errand). left + tooks z ≡ length opening.worker.stores.items + gaves z) e count in
    subst (λ (v : Option (Stock _ _)). free_in v l + tooks l ≡ stores_first v + gaves l) (sym is) (omega (arith, a, b, c, none))

-- ---- stores of a node

pub all_on : {X : Type 0} (state : X → StoreState) (node : ℕ) (xs : List X) → AreOfNode state node xs → All (λ (x : X). IsStoreOf node (state x)) xs
all_on {X} state node [] h = All-nil (λ (x : X). IsStoreOf node (state x))
all_on {X} state node (x ∷ xs) h = All-cons (λ (y : X). IsStoreOf node (state y)) x xs h.0.1 (all_on state node xs h.1)

-- ---- taking

-- the worker of a node was asked for n stores
abbrev pub Takes : {X C Z : Type 0} → (X → StoreState) → Who → ℕ → ℕ → List (WorkerPass X C) → List (WorkerPass X C) → Result (Vec X Z) TakeError → Type 0
Takes {X} {C} state who node n old mid r = TurnsOne (node - 1) (λ (p q : WorkerPass X C). Sends p.place (take_notes who n r) q.place (TellsTake state node n r)) old mid

module _ {X C : Type 0} (state : X → StoreState) (terms : C → Terms) (stalls : List TableId) (sessions : List ℕ) (who : Who) (to n : ℕ) (old mid : List (WorkerPass X C)) (ready : AreReady state terms stalls sessions who.session old) (there : IsThere to old) where
  pub take_sends : {Z : Type 0} (r : Result (Vec X Z) TakeError) → Takes state who to n old mid r → BenchesSend (at_node to (take_notes who n r)) old mid
  take_sends r t = send_one to (take_notes who n r) (TellsTake state to n r) old mid there.some (λ p e. take_sent who n p.place.me.0.number r (ready.own (to - 1) p e).numbered) t

  module _ (stood : (q : WorkerPass X C) → slice_get mid (to - 1) ≡ Some q → HasKept state terms q.place) (ours : ℕ → List Errand) (new : List (WorkerPass X C)) (more : BenchesSend ours mid new) where
    -- it had so many, as the taking tells
    finds_free : {Z : Type 0} (r : Result (Vec X Z) TakeError) (t : Takes state who to n old mid r) → FindsFree to (free_in t.one.before.place.me.0.origin (t.one.before.place.me.0.news ++ t.one.holds.more)) old new
    finds_free r t =
        let p = t.one.before in
        let q = t.one.after in
        let s = t.one.holds in
        let notes = take_notes who n r in
        let last = after ours mid new more (to - 1) q t.one.is in
        let then = more.each (to - 1) q last.0 t.one.is last.1 in
        let kept = stood q t.one.is in
        record {
          was = p;
          is = last.0;
          before = t.one.was;
          after = last.1;
          more = s.more;
          others = s.others;
          begins = (notes ++ then.more, sym (append_assoc (p.place.me.0.news ++ s.more) notes then.more) ∙ (ap (λ z. z ++ then.more) (sym s.news) ∙ sym then.news));
          count = count_free kept.opening p.place.me.0.origin (p.place.me.0.news ++ s.more) notes q.place.me.0.news (length kept.stock.worker.stores.items) (sym s.same.2 ∙ kept.origin) s.news (take_gaves who n r) kept.stands.count;
        }

  -- nothing was taken
  pub took_few : (Z : Type 0) (free needed : ℕ) → ((q : WorkerPass X C) → slice_get mid (to - 1) ≡ Some q → HasKept state terms q.place) → Takes {Z = Z} state who to n old mid (Err (NoRoom free needed)) → TakesNone who n to (fault.NoRoom to free needed) old mid
  took_few Z free needed stood t =
      let r : Result (Vec X Z) TakeError = Err (NoRoom free needed) in
      let tells = t.one.holds.holds in
      let none = send_alike (at_node to []) (λ at. []) old mid (no_notes to) (take_sends r t) in
      (refl, tells.1, subst (λ k. k < n) (sym tells.0) tells.2, subst (λ k. FindsFree to k old mid) (sym tells.0) (finds_free stood (λ at. []) mid (send_none mid) r t), none)

  pub took_nothing : (Z : Type 0) → Takes {Z = Z} state who to n old mid (Err Memory) → TakesNone who n to fault.Memory old mid
  took_nothing Z t = inl (send_alike (at_node to []) (λ at. []) old mid (no_notes to) (let r : Result (Vec X Z) TakeError = Err Memory in take_sends r t))

  module _ {Z : Type 0} (stores : Vec X Z) (t : Takes state who to n old mid (Ok stores)) where
    pub took : BenchesSend (at_node to (errand.Took who n ∷ [])) old mid
    took = take_sends (Ok stores) t

    -- room was made, where it is needed
    pub took_stores : {V E : Type 0} (nodes from : ℕ) (v : V) (new : List (WorkerPass X C)) → ((q : WorkerPass X C) → slice_get mid (to - 1) ≡ Some q → HasKept state terms q.place) → MakesRoom {E = E} who nodes n from (Ok v) mid new →
        ((k : ℕ) → SteadyOn terms to old k → AreSteadyOn state k stores.items) → TakesStores state terms who nodes n from to stores.items old new
    took_stores {V} {E} nodes from v new stood makes steady =
        let tells = t.one.holds.holds in
        let room = makes.room in record {
          many = tells.1;
          of = tells.2;
          free = _;
          finds = finds_free stood (at_node room (errand.Room who n ∷ [])) new makes.sends (Ok stores) t;
          enough = tells.0;
          room = room;
          made = makes.made;
          sends = send_then (at_node to (errand.Took who n ∷ [])) (at_node room (errand.Room who n ∷ [])) old mid new took makes.sends;
          steady = steady;
        }

    -- no room was made
    module _ {V E : Type 0} (nodes from : ℕ) (error : E) (new : List (WorkerPass X C)) (makes : MakesRoom {V = V} who nodes n from (Err error) mid new) where
      pub only_took : BenchesSend (λ at. at_node to (errand.Took who n ∷ []) at ++ at_node makes.room [] at) old new
      only_took = send_then (at_node to (errand.Took who n ∷ [])) (at_node makes.room []) old mid new took makes.sends

      -- the stores may be given back
      pub may_give_back : Owes to (length stores.items) new
      may_give_back =
          let r : Result V E = Err error in
          subst (λ k. Owes to k new) (sym t.one.holds.holds.1) (owes_after (λ at. at_node to (errand.Took who n ∷ []) at ++ at_node makes.room (room_notes who n r) at) old new only_took state terms stalls sessions who.session ready to n (took_low who n to makes.room r there.some))

      -- and they were
      pub gave_back : (last : List (WorkerPass X C)) → BenchesSend (at_node to (give_notes who (length stores.items))) new last → TakesNone who n to fault.Memory old last
      gave_back last gives =
          let all = send_then (λ at. at_node to (errand.Took who n ∷ []) at ++ at_node makes.room [] at) (at_node to (give_notes who (length stores.items))) old new last only_took gives in
          inr (
            0,
            send_alike _ (exchanging who n to 0 n to) old last (λ at. λ i.
                (at_node to (errand.Took who n ∷ []) at ++ (no_notes makes.room at ∙ sym (no_node_notes (errand.Room who n ∷ []) at)) i) ++ at_node to (give_notes who (t.one.holds.holds.1 i)) at) all,
          )

-- what may be given where n stores were taken
pub owes_taken : {X C : Type 0} (state : X → StoreState) (terms : C → Terms) (stalls : List TableId) (sessions : List ℕ) (who : Who) (to room n : ℕ) (old new : List (WorkerPass X C)) → AreReady state terms stalls sessions who.session old → BenchesSend (taking who n to room) old new →
    to ≢ 0 → Owes to n new
owes_taken state terms stalls sessions who to room n old new ready sends some = owes_after (taking who n to room) old new sends state terms stalls sessions who.session ready to n (let r : Result (Unit {0}) (Unit {0}) = Ok tt in took_low who n to room r some)

-- and where room was made for them
pub owes_room : {X C : Type 0} (state : X → StoreState) (terms : C → Terms) (stalls : List TableId) (sessions : List ℕ) (who : Who) (to room n : ℕ) (old new : List (WorkerPass X C)) → AreReady state terms stalls sessions who.session old → BenchesSend (taking who n to room) old new →
    room ≢ 0 → Owes room n new
owes_room state terms stalls sessions who to room n old new ready sends some = owes_after (taking who n to room) old new sends state terms stalls sessions who.session ready room n (room_low who n to room some)
