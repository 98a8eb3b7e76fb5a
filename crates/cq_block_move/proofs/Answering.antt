-- How the move of a shard is answered in a session of a block, by what it came to.
use Rattle.std.proofs.Common.{◌≡◌, ◌≢◌, ◌⊎◌, inl, inr, ℕ, ◌+◌, ◌<◌, ◌≤◌, true, false, List, [], length, refl, sym, ap, ◌∙◌, subst, arith, Some, None}
use Rattle.std.specs.Prelude.{nat_eq, Ok}
use Rattle.std.proofs.lemmas.Bool.Decides.{eqb_tells}
use Rattle.std.proofs.lemmas.List.{length-map}
use Rattle.atomic_table.specs.Seated.{TableId}
use Rattle.cq_tree.specs.declared.journal.Who.{Who}
use Rattle.cq_tree.specs.declared.statement.Statement.TheVariants.{Move}
use Rattle.cq_catalog.specs.Contents.{Contents}
use Rattle.cq_catalog.specs.Placement.{group_of_shard}
use Rattle.cq_answer.specs.declared.answer.Answer.TheVariants.{Failed}
use Rattle.cq_answer.specs.declared.answered.Answered.{Answered}
use Rattle.cq_answer.specs.declared.fault.Fault.{Fault}
use Rattle.cq_answer.specs.declared.fault.Fault.TheVariants as fault
use Rattle.cq_history.specs.Phases.{who_of}
use Rattle.cq_history.specs.Refusals.{rules}
use Rattle.cq_history.specs.Room.{stores_moved}
use Rattle.cq_history.specs.Run.{Run}
use Rattle.cq_store.specs.Stores.{StoreState}
use Rattle.cq_group.specs.declared.start.MoveWhy.{MoveWhy}
use Rattle.cq_group.specs.declared.start.MoveWhy.TheVariants as why
use Rattle.cq_reach.specs.Seen.{Seen}
use Rattle.cq_move.specs.declared.outcome.MoveReport.{MoveReport}
use Rattle.cq_move_calls.specs.Moving.{RefusesStart, Told}
use Rattle.cq_transfer.specs.Carrying.{IsGivenUp}
use Rattle.cq_transfer.specs.Entering.{HasMoved}
use Rattle.cq_cluster.specs.declared.retired.Retired.{Retired}
use Rattle.cq_cluster.specs.Moving.{Loses, fault_told, move_answer}
use Rattle.cq_shared.specs.declared.errand.Errand.{Errand}
use Rattle.cq_shared.specs.Seen.{Pass, seen_by}
use Rattle.cq_shared.specs.Stocks.{give_notes}
use Rattle.cq_shared.specs.Terms.{Terms}
use Rattle.cq_desk.specs.Desks.{IsOfOthers}
use Rattle.cq_desk.specs.Moving.{AreKept, seen_at}
use Rattle.cq_block_laws.specs.Serving.{Opening, IsAnsweredBeside}
use Rattle.cq_block_laws.specs.Sessions.{AreFree, Hands, errands_by, journals_by, known_by}
use Rattle.cq_move_laws.specs.Notes.{TakesAndGives, at_node}
use Rattle.cq_move_laws.specs.Moving.{GoesOnIn, IsAsked, IsOfGroup, ReachesGroup}
use Rattle.cq_move_laws.proofs.Answering.{memory_is_answered, node_is_answered, room_is_answered, unknown_is_answered}
use Rattle.cq_move_laws.proofs.Reaching.{given_up_is_answered, moved_is_answered, refused_is_answered}
use Rattle.cq_block_move.specs.Benches.{AreUnsent, BenchesSend}
use Rattle.cq_block_move.specs.Hands.{AreHands, IsBenchTo}
use Rattle.cq_block_move.specs.Moves.{EndsMove, FindsFree, MovesGroup, RefusesMove, TakesStores, exchanging, taking}
use Rattle.cq_block_move.proofs.Knowing.{as_long, found_within, group_below, its_known, journal_same, known_legal, known_opened, known_tables, pass_below}
use Rattle.cq_block_move.proofs.Noting.{AreBenchesOf, nothing_known, takes_known, were_free}
use Rattle.cq_block_move.proofs.Sending.{send_none, send_then}

apart_from : (n k : ℕ) → nat_eq n k ≡ false → n ≢ k
apart_from n k f = elim (eqb_tells n k) [ inl y ↦ absurd (let bad : true ≡ false = sym y.0 ∙ f in cc bad) | inr z ↦ z.1 ]

-- where a move didn't begin, no store is lost
pub refused_none : {X : Type 0} (state : X → StoreState) (who : Who) (gone : ℕ) (old new : List (Retired X)) (w : MoveWhy) → Loses state who gone old new (fault_told false w) → gone ≡ 0
refused_none state who gone old new (why.Moving by) loses = loses.0
refused_none state who gone old new (why.NotThere node) loses = loses.0
refused_none state who gone old new (why.SameNode node) loses = loses.0
refused_none state who gone old new (why.Worker failure) loses = loses.0
refused_none state who gone old new why.Memory loses = loses.0

module _ {X C : Type 0} (state : X → StoreState) (terms : C → Terms) (nodes : ℕ) (cells stalls : List TableId) (o : Opening) (a : Answered) (shard from to : ℕ) (bound : a.bound ≡ Some (Move shard from to))
    (opened : o.environment.catalog.groups ≤ length o.journals) (old : Hands X C) (hands : AreHands state terms o.environment.catalog nodes cells stalls o.sessions a.session old) where
  abbrev c : Contents
  c = o.environment.catalog

  abbrev who : Who
  who = who_of a

  -- the statement is answered so, whatever the run was given else
  abbrev pub IsAnsweredBy : Hands X C → Type 0
  IsAnsweredBy new = (run : Run) → run.workers ≡ nodes → AreFree run o old.benches → IsAnsweredBeside rules run o a (known_by old) (known_by new)

  asked : IsAsked rules o a shard from to
  asked = record { bound = bound; runs = refl }

  pub its_benches : AreBenchesOf a.session old.benches
  its_benches at p e = (hands.benches.own at p e).numbered

  pub benches_long : nodes ≤ length old.benches
  benches_long = let long = as_long (IsBenchTo hands.rule) hands.workers old.benches hands.to_workers in let enough = hands.ground.enough in omega (arith, long, enough)

  -- no distributed table has the shard
  pub unknown_answered : group_of_shard c shard ≡ None → (a.answer ≡ Failed (fault.NoShard shard)) ⊎ (a.answer ≡ Failed fault.Memory) → IsAnsweredBy old
  unknown_answered none is run used are = unknown_is_answered rules run o a shard from to (known_by old) asked none is

  module _ (group : ℕ) (is : group_of_shard c shard ≡ Some group) where
    abbrev n : ℕ
    n = stores_moved c (Some group)

    of_group : IsOfGroup o shard group (journals_by old.passes)
    of_group = record {
      is = is;
      there = group_below state terms c nodes cells stalls o.sessions a.session old hands shard group is;
      opened = opened;
      known = (let long = length-map old.passes (λ (p : Pass X C). (seen_by p.place).journal) in let low = pass_below state terms c nodes cells stalls o.sessions a.session old hands shard group is in omega (arith, long, low));
    }

    -- the run doesn't use the node
    pub node_answered : (to ≡ 0) ⊎ (nodes < to) → a.answer ≡ Failed (fault.NoNode to) → IsAnsweredBy old
    node_answered far ans run used are = node_is_answered rules run o a shard from to group (known_by old) asked of_group (elim far [ inl z ↦ inl z | inr l ↦ inr (omega (arith, l, used)) ]) ans

    module _ (new : Hands X C) (same : new.passes ≡ old.passes) (low : 0 < to) (high : to ≤ nodes) where
      -- too few stores of the node are spare
      pub room_answered : (free : ℕ) → free < n → AreUnsent who old.benches → FindsFree to free old.benches new.benches → BenchesSend (λ at. []) old.benches new.benches → a.answer ≡ Failed (fault.NoRoom to free n) → IsAnsweredBy new
      room_answered free few unsent finds sends ans run used are =
          let far : to ≤ run.workers = omega (arith, high, used) in
          room_is_answered rules run o a shard from to group free (known_by old) (known_by new) asked of_group low far
          (were_free run o who to free (λ at. []) old.benches new.benches new.benches finds (send_none new.benches) unsent are its_benches low far)
          few (ap journals_by same) (nothing_known a.session old.benches new.benches sends its_benches) ans

      -- memory ran out
      pub memory_answered : BenchesSend (λ at. []) old.benches new.benches ⊎ ((room : ℕ) × BenchesSend (exchanging who n to room n to) old.benches new.benches) → a.answer ≡ Failed fault.Memory → IsAnsweredBy new
      memory_answered sends ans run used are =
          let inside : to ≤ length old.benches = (let long = benches_long in omega (arith, high, long)) in
          memory_is_answered rules run o a shard from to group (known_by old) (known_by new) asked of_group (ap journals_by same)
          (elim sends [ inl s ↦ inl (nothing_known a.session old.benches new.benches s its_benches) | inr s ↦ inr (takes_known who n to n to old.benches new.benches its_benches inside inside s.0 s.1) ]) ans

    -- memory ran out before anything was done
    pub nothing_answered : a.answer ≡ Failed fault.Memory → IsAnsweredBy old
    nothing_answered ans run used are =
        memory_is_answered rules run o a shard from to group (known_by old) (known_by old) asked of_group refl (inl (nothing_known a.session old.benches old.benches (send_none old.benches) its_benches)) ans

    -- ---- moves that came to their group

    module _ (mid new : Hands X C) (then : AreHands state terms c nodes cells stalls o.sessions a.session new) (unsent : AreUnsent who old.benches) (low : 0 < to) (high : to ≤ nodes) (same : mid.passes ≡ old.passes) (stores : List X)
        (takes : TakesStores state terms who nodes n from to stores old.benches mid.benches) (keeps : AreKept group old.passes new.passes) where
      abbrev s : Seen
      s = seen_at old.passes group

      abbrev t : Seen
      t = seen_at new.passes group

      goes_on : GoesOnIn group s t (journals_by old.passes) (journals_by new.passes)
      goes_on = record {
        count = length-map new.passes (λ (p : Pass X C). (seen_by p.place).journal) ∙ (keeps.count ∙ sym (length-map old.passes (λ (p : Pass X C). (seen_by p.place).journal)));
        was = its_known state terms c nodes cells stalls o.sessions a.session old hands shard group is;
        is = its_known state terms c nodes cells stalls o.sessions a.session new then shard group is;
        others = λ g apart. journal_same old.passes new.passes g (keeps.others g (apart_from g group apart));
      }

      reaches : (ours : ℕ → List Errand) → BenchesSend ours mid.benches new.benches → (run : Run) → run.workers ≡ nodes → AreFree run o old.benches → ReachesGroup rules run o a shard from to group s t (known_by old) (known_by new)
      reaches ours sends run used are =
          let far : to ≤ run.workers = omega (arith, high, used) in
          record {
            asked = asked;
            of = of_group;
            found = record { low = low; high = far; free = takes.free; were = were_free run o who to takes.free ours old.benches mid.benches new.benches takes.finds sends unsent are its_benches low far; enough = takes.enough };
            goes_on = goes_on;
            tables = known_tables state terms c nodes cells stalls o.sessions a.session old hands shard group is;
            legal = known_legal state terms c nodes cells stalls o.sessions a.session new then shard group is;
            opened = known_opened state terms c nodes cells stalls o.sessions a.session old hands shard group is;
          }

      inside : to ≤ length old.benches
      inside = let long = benches_long in omega (arith, high, long)

      -- what was taken, and then given
      pub exchanged : (given node : ℕ) → BenchesSend (at_node node (give_notes who given)) mid.benches new.benches → BenchesSend (exchanging who n to takes.room given node) old.benches new.benches
      exchanged given node sends = send_then (taking who n to takes.room) (at_node node (give_notes who given)) old.benches mid.benches new.benches takes.sends sends

      -- it didn't begin
      pub refused_answered : (f : Fault) (given gone : ℕ) → RefusesMove state o.sessions who group from to f mid new → given + gone ≡ n → BenchesSend (at_node to (give_notes who given)) mid.benches new.benches → Loses state who gone mid.retired new.retired f → a.answer ≡ Failed f →
          IsAnsweredBy new
      refused_answered f given gone r all sends loses ans run used are =
          let none = refused_none state who gone mid.retired new.retired r.why (subst (Loses state who gone mid.retired new.retired) r.fault loses) in
          let every : given ≡ n = omega (arith, all, none) in
          refused_is_answered rules run o a shard from to group s t (known_by old) (known_by new) r.why (reaches (at_node to (give_notes who given)) sends run used are)
          (subst (λ (ps : List (Pass X C)). Told (IsOfOthers o.sessions who) who [] (λ v. RefusesStart r.why v to from) (seen_at ps group) t) same r.told)
          (subst (λ m. TakesAndGives who n to m to (errands_by old.benches) (errands_by new.benches)) every (takes_known who n to given to old.benches new.benches its_benches inside inside takes.room (exchanged given to sends)))
          (ans ∙ ap Failed r.fault)

      -- it began and was given up
      pub ended_answered : (f : Fault) (given gone : ℕ) → EndsMove state o.sessions who group from to f mid new → given + gone ≡ n → BenchesSend (at_node to (give_notes who given)) mid.benches new.benches → a.answer ≡ Failed f → IsAnsweredBy new
      ended_answered f given gone e all sends ans run used are =
          given_up_is_answered state rules run o a shard from to group given s t (known_by old) (known_by new) e.given e.ended (reaches (at_node to (give_notes who given)) sends run used are)
          (subst (λ (ps : List (Pass X C)). IsGivenUp state (IsOfOthers o.sessions who) who from to e.given e.ended (seen_at ps group) t) same e.stopped)
          (omega (arith, all)) (takes_known who n to given to old.benches new.benches its_benches inside inside takes.room (exchanged given to sends))
          (ans ∙ ap Failed e.fault)

      -- it came to its end
      pub moved_answered : (r : MoveReport) → MovesGroup o.sessions who group from to n r mid new → a.answer ≡ move_answer (Ok r) → IsAnsweredBy new
      moved_answered r m ans run used are =
          let made : HasMoved (IsOfOthers o.sessions who) who from to r s t = subst (λ (ps : List (Pass X C)). HasMoved (IsOfOthers o.sessions who) who from to r (seen_at ps group) t) same m.moved in
          let home = found_within state terms c nodes cells stalls o.sessions a.session new then shard group is old.passes keeps (IsOfOthers o.sessions who) who from to r made in
          let long = benches_long in
          let few : from ≤ length old.benches = omega (arith, home, long) in
          moved_is_answered rules run o a shard from to group s t (known_by old) (known_by new) r (reaches (at_node from (give_notes who n)) m.sends run used are) made
          (takes_known who n to n from old.benches new.benches its_benches inside few takes.room (exchanged n from m.sends)) ans
