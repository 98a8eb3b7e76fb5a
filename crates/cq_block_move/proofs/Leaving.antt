-- What the move of a shard leaves: its notes at the workers are its statement's, and at most one store more is retired.
use Rattle.std.proofs.Common.{◌≡◌, ◌≢◌, inl, inr, ℕ, ◌+◌, ◌≤◌, List, [], ◌∷◌, length, refl, sym, ap, ◌∙◌, subst, arith, Some}
use Rattle.std.specs.Prelude.{Result, Ok, Err}
use Rattle.atomic_table.specs.Seated.{TableId}
use Rattle.cq_tree.specs.declared.journal.Who.{Who}
use Rattle.cq_catalog.specs.Contents.{Contents}
use Rattle.cq_answer.specs.declared.fault.Fault.{Fault}
use Rattle.cq_answer.specs.declared.fault.Fault.TheVariants as fault
use Rattle.cq_history.specs.Room.{stores_moved}
use Rattle.cq_store.specs.Stores.{StoreState}
use Rattle.cq_move.specs.declared.outcome.MoveReport.{MoveReport}
use Rattle.cq_cluster.specs.declared.retired.Retired.{Retired}
use Rattle.cq_shared.specs.declared.errand.Errand.{Errand}
use Rattle.cq_shared.specs.declared.errand.Errand.TheVariants as errand
use Rattle.cq_shared.specs.Stocks.{give_notes}
use Rattle.cq_shared.specs.Terms.{Terms}
use Rattle.cq_block_laws.specs.Sessions.{Hands}
use Rattle.cq_move_laws.specs.Notes.{at_node}
use Rattle.cq_block_move.specs.Benches.{AreUnsent, BenchesSend}
use Rattle.cq_block_move.specs.Hands.{AreReady}
use Rattle.cq_block_move.specs.Moves.{MovesIn, MovesShard, Reaches, StaysAway, TakesNone, exchanging, taking}
use Rattle.cq_block_move.proofs.Sending.{AreNotesOf, both_of, give_of, node_of, not_of, send_none, send_then, still_unsent}
use Rattle.cq_block_move.proofs.Settling.{few_retired}

exchange_of : (who : Who) (n to room given node at : ℕ) → AreNotesOf who (exchanging who n to room given node at)
exchange_of who n to room given node at =
    both_of who (taking who n to room at) (at_node node (give_notes who given) at)
    (both_of who (at_node to (errand.Took who n ∷ []) at) (at_node room (errand.Room who n ∷ []) at) (node_of who to (errand.Took who n ∷ []) ((refl, refl), tt) at) (node_of who room (errand.Room who n ∷ []) ((refl, refl), tt) at))
    (node_of who node (give_notes who given) (give_of who given) at)

as_few : {X : Type 0} (old new : List (Retired X)) → new ≡ old → length new ≤ length old + 1
as_few {X} old new same = let long = ap (λ (l : List (Retired X)). length l) same in omega (arith, long)

module _ {X C : Type 0} where
  -- what a statement noted, and how many stores are retired then
  pub record Leaves (who : Who) (old new : Hands X C) : Type 0 where
    pub ours : ℕ → List Errand
    pub sends : BenchesSend ours old.benches new.benches
    pub its : (at : ℕ) → AreNotesOf who (ours at)
    pub few : length new.retired ≤ length old.retired + 1

  leaves_none : (who : Who) (old new : Hands X C) → BenchesSend (λ at. []) old.benches new.benches → new.retired ≡ old.retired → Leaves who old new
  leaves_none who old new sends same = record { ours = λ at. []; sends = sends; its = λ at. tt; few = as_few old.retired new.retired same }

  leaves_all : (who : Who) (old new : Hands X C) (n to room given node : ℕ) → BenchesSend (exchanging who n to room given node) old.benches new.benches → length new.retired ≤ length old.retired + 1 → Leaves who old new
  leaves_all who old new n to room given node sends few = record { ours = exchanging who n to room given node; sends = sends; its = exchange_of who n to room given node; few = few }

  leaves_nothing : (who : Who) (old new : Hands X C) → new ≡ old → Leaves who old new
  leaves_nothing who old new same = subst (Leaves who old) (sym same) (leaves_none who old old (send_none old.benches) refl)

  took_leaves : (who : Who) (n to : ℕ) (f : Fault) (old new : Hands X C) → new.retired ≡ old.retired → TakesNone who n to f old.benches new.benches → Leaves who old new
  took_leaves who n to (fault.NoRoom node free needed) old new same t = leaves_none who old new t.4 same
  took_leaves who n to fault.Memory old new same t = elim t [
    | inl s ↦ leaves_none who old new s same
    | inr s ↦ leaves_all who old new n to s.0 n to s.1 (as_few old.retired new.retired same)
  ]
  took_leaves who n to f old new same t = absurd t

  module _ (state : X → StoreState) (terms : C → Terms) (c : Contents) (nodes : ℕ) (sessions : List ℕ) (who : Who) (shard from to : ℕ) (old new : Hands X C) where
    away_leaves : (group : ℕ) (f : Fault) → StaysAway state c nodes who group to f old new → Leaves who old new
    away_leaves group f s = elim s.why [ inl h ↦ leaves_nothing who old new h.2 | inr h ↦ took_leaves who (stores_moved c (Some group)) to f old new s.same.1 h.2 ]

    comes_leaves : (group : ℕ) (result : Result MoveReport Fault) → Reaches state terms c nodes sessions who group from to result old new → Leaves who old new
    comes_leaves group (Ok r) h =
        let n = stores_moved c (Some group) in
        leaves_all who old new n to h.takes.room n from (send_then (taking who n to h.takes.room) (at_node from (give_notes who n)) old.benches h.mid.benches new.benches h.takes.sends h.comes.sends)
        (as_few old.retired new.retired (h.comes.retired ∙ h.same.1))
    comes_leaves group (Err f) h =
        let n = stores_moved c (Some group) in
        let more = few_retired state who h.comes.lost h.mid.retired new.retired f h.comes.loses in
        let same = ap (λ (l : List (Retired X)). length l) h.same.1 in
        leaves_all who old new n to h.takes.room h.comes.given to (send_then (taking who n to h.takes.room) (at_node to (give_notes who h.comes.given)) old.benches h.mid.benches new.benches h.takes.sends h.comes.sends)
        (omega (arith, more, same))

    moves_leave : (result : Result MoveReport Fault) → MovesIn state terms c nodes sessions who shard from to result old new → Leaves who old new
    moves_leave (Ok r) m = elim m.does [ inl h ↦ absurd h | inr h ↦ comes_leaves m.group (Ok r) h ]
    moves_leave (Err f) m = elim m.does [ inl h ↦ away_leaves m.group f h | inr h ↦ comes_leaves m.group (Err f) h ]

    pub shard_leaves : (result : Result MoveReport Fault) → MovesShard state terms c nodes sessions who shard from to result old new → Leaves who old new
    shard_leaves result m = elim m [ inl h ↦ leaves_nothing who old new h.2 | inr h ↦ moves_leave result h ]

  -- another statement of the session noted nothing meanwhile
  pub unsent_left : (state : X → StoreState) (terms : C → Terms) (stalls : List TableId) (sessions : List ℕ) (who other : Who) (old new : Hands X C) → Leaves who old new → AreReady state terms stalls sessions who.session old.benches →
      other.session ≡ who.session → other.statement ≢ who.statement → AreUnsent other old.benches → AreUnsent other new.benches
  unsent_left state terms stalls sessions who other old new h ready same apart =
      still_unsent state terms stalls sessions other h.ours old.benches new.benches (subst (λ s. AreReady state terms stalls sessions s old.benches) (sym same) ready) h.sends (λ at. not_of who other (h.ours at) apart (h.its at))
