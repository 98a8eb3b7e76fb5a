-- The answer of a statement that ran alone, judged beside the other statements of its block.
use Rattle.std.proofs.Common.{◌≡◌, ◌≤◌, ℕ, List, length, refl, ◌∙◌, arith, Some, None, Option}
use Rattle.std.specs.Prelude.{◌-◌}
use Rattle.cq_tree.specs.declared.failure.StoreFailure.{StoreFailure}
use Rattle.cq_tree.specs.declared.write.ShardOp.{ShardOp}
use Rattle.cq_tree.specs.declared.write.Reply.{Reply}
use Rattle.cq_tree.specs.declared.write.Reply.TheVariants.{Duplicate, OutOfRange}
use Rattle.cq_tree.specs.declared.query.Query.{Query}
use Rattle.cq_tree.specs.declared.statement.Statement.{Statement}
use Rattle.cq_tree.specs.declared.statement.Statement.TheVariants as statement
use Rattle.cq_catalog.specs.Contents.{Contents}
use Rattle.cq_catalog.specs.Placement.{group_of_shard}
use Rattle.cq_answer.specs.declared.answer.Answer.{Answer}
use Rattle.cq_answer.specs.declared.answer.Answer.TheVariants as answer
use Rattle.cq_answer.specs.declared.fault.Fault.{Fault}
use Rattle.cq_answer.specs.declared.fault.Fault.TheVariants as fault
use Rattle.cq_answer.specs.declared.fault.What.TheVariants as what
use Rattle.cq_journal.specs.Records.{Journal}
use Rattle.cq_journal.specs.Stations.{node_of}
use Rattle.cq_history.specs.Run.{Run, Environment}
use Rattle.cq_history.specs.Phases.{MayBeInBlock}
use Rattle.cq_history.specs.Journals.{journal_in}
use Rattle.cq_history.specs.Moves.{start_fault}
use Rattle.cq_history.specs.Room.{IsRoom}
use Rattle.cq_history.specs.Refusals.{rules}
use Rattle.cq_history.specs.Standing.{View, IsMadeIn, IsRefusedIn, LacksIdsIn, IsFaultIn, IsReadFault, IsWriteFault, Moves, MovesUnless, IsMovedIn, Runs, RunsUnless, StandsIn}
use Rattle.cq_history.specs.Deeds.{Deed, Phase, alone, in_deed}
use Rattle.cq_history.proofs.Catalogs.{room_alone}
use Rattle.cq_turn_laws.proofs.Spare.{spare, same_free}
use Rattle.cq_turn_laws.proofs.Turns.{retire}

module _ (run : Run) (e : Environment) (retired : List ℕ) (now : List Journal) (p : Phase) (d : Deed) where
  abbrev c : Contents
  c = e.catalog

  abbrev v : View
  v = in_deed (alone now) c d

  abbrev w : View
  w = in_deed p c d

  -- ---- reads and writes don't look at the phase

  made_in : (touched : List ℕ) (op : ShardOp) (n : ℕ) → IsMadeIn c touched v op n → IsMadeIn c touched w op n
  made_in touched op n h = record { shared = h.shared; counts = h.counts; sum = h.sum; entries = h.entries; replied = h.replied; ids = h.ids }

  refused_in : (touched : List ℕ) (op : ShardOp) (r : Reply) → IsRefusedIn c touched v op r → IsRefusedIn c touched w op r
  refused_in touched op r h = record { group = h.group; there = h.there; entries = h.entries; replied = h.replied; ids = h.ids; ready = h.ready }

  lacks_in : (touched : List ℕ) (op : ShardOp) → LacksIdsIn c touched v op → LacksIdsIn c touched w op
  lacks_in touched op h = record { group = h.group; there = h.there; entries = h.entries; ids = h.ids; ready = h.ready }

  fault_in : (touched : List ℕ) (IsOn : Journal → ℕ → Type 0) (group : ℕ) (failure : StoreFailure) → IsFaultIn c touched v IsOn group failure → IsFaultIn c touched w IsOn group failure
  fault_in touched IsOn group failure h = record { there = h.there; kept = h.kept; on = h.on; rose = h.rose }

  read_fault_in : (touched : List ℕ) (failure : StoreFailure) → IsReadFault run c touched v failure → IsReadFault run c touched w failure
  read_fault_in touched failure h = record { group = h.group; entries = h.entries; fault = fault_in touched _ h.group failure h.fault }

  write_fault_in : (touched : List ℕ) (failure : StoreFailure) → IsWriteFault run c touched v failure → IsWriteFault run c touched w failure
  write_fault_in touched failure h = record { group = h.group; entries = h.entries; fault = fault_in touched _ h.group failure h.fault }

  query_in : (touched : List ℕ) (q : Query) (a : Answer) → Runs touched run (retire e retired) v (statement.Select q) a → Runs touched run e w (statement.Select q) a
  query_in touched q (answer.Table names rows) h = h
  query_in touched q (answer.Failed (fault.Limit what.Rows n)) h = h
  query_in touched q (answer.Failed (fault.Worker failure)) h = read_fault_in touched failure h
  query_in touched q (answer.Failed fault.Memory) h = h
  query_in touched q a h = absurd h

  write_in : (touched : List ℕ) (op : ShardOp) (a : Answer) → Runs touched run (retire e retired) v (statement.Write op) a → Runs touched run e w (statement.Write op) a
  write_in touched op (answer.Tag t) h = (h.0, h.1, made_in touched op h.0 h.2)
  write_in touched op (answer.Failed fault.Duplicate) h = refused_in touched op Duplicate h
  write_in touched op (answer.Failed fault.ValueOutOfRange) h = refused_in touched op OutOfRange h
  write_in touched op (answer.Failed (fault.Limit what.Ids n)) h = (h.0, lacks_in touched op h.1)
  write_in touched op (answer.Failed (fault.Worker failure)) h = write_fault_in touched failure h
  write_in touched op (answer.Failed fault.Memory) h = h
  write_in touched op a h = absurd h

  -- ---- a move found the spare stores of its moment

  moves_in : (group from to : ℕ) (a : Answer) → Moves c v group from to a → Moves c w group from to a
  moves_in group from to (answer.Table names rows) h = h
  moves_in group from to (answer.Failed (fault.Worker failure)) h = h
  moves_in group from to (answer.Failed (fault.Retired failure)) h = h
  moves_in group from to (answer.Failed fault.Memory) h = h
  moves_in group from to a h = absurd h

  unless_in : (o : Option Fault) (group from to : ℕ) (a : Answer) → MovesUnless o c v group from to a → MovesUnless o c w group from to a
  unless_in (Some f) group from to a h = h
  unless_in None group from to a h = moves_in group from to a h

  module _ (groups : c.groups ≤ length p.journals) (room : (at free : ℕ) → free ≡ spare run c retired now at → IsRoom run c e.retired (λ g. node_of (journal_in p.journals g)) p.beside at free) where
    moved_in : (shard from to : ℕ) (o : Option ℕ) (a : Answer) → IsMovedIn run (retire e retired) v shard from to o a → IsMovedIn run e w shard from to o a
    moved_in shard from to None a h = h
    moved_in shard from to (Some group) a h = record {
      nodes = λ g. node_of (journal_in p.journals g);
      free = h.free;
      node = h.node;
      mover = h.mover;
      there = h.there;
      began = λ g l. (omega (arith, l, groups), refl);
      room = room (to - 1) h.free
          (room_alone run c retired h.nodes (to - 1) h.free h.room
          ∙ same_free run c retired (λ g. node_of (journal_in now g)) h.nodes (to - 1) (λ g l. (h.began g l).1));
      saw = h.saw;
      moves = unless_in (start_fault run c h.free h.mover h.node group from to) group from to a h.moves;
    }

    refusal_in : (o : Option Fault) (touched : List ℕ) (s : Statement) (a : Answer) → MayBeInBlock (Some s) → RunsUnless o touched run (retire e retired) v s a → RunsUnless o touched run e w s a
    refusal_in (Some f) touched s a may h = h
    refusal_in None touched (statement.Select q) a may h = query_in touched q a h
    refusal_in None touched (statement.Write op) a may h = write_in touched op a h
    refusal_in None touched (statement.Move shard from to) a may h = moved_in shard from to (group_of_shard c shard) a h
    refusal_in None touched s a may h = absurd may

    pub judged : (bound : Option Statement) (a : Answer) → MayBeInBlock bound → StandsIn rules run (retire e retired) v bound a → StandsIn rules run e w bound a
    judged None a may h = h
    judged (Some s) a may h = refusal_in (rules.refusal e s) (rules.touched c s) s a may h
