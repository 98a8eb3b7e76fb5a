-- The drafts of a session may cross to another thread. Each type is taken by its fields: `search` can take it whole only where it holds no query.
use denote.Param.Send.{IsSend, sendable}
use denote.Param.SendFields.{as_row_send, declared_send, variants_send}
use denote.Ref.{NamedLft}
use Rattle.std.proofs.Crossing.{crosses}
use Rattle.std.proofs.option.Option.TheSendSync as option
use Rattle.std.proofs.result.Result.TheSendSync as result
use Rattle.cq_value.proofs.boxed.Boxed.TheSendSync as boxed
use Rattle.cq_value.proofs.items.Items.TheSendSync as items
use Rattle.cq_value.proofs.row.Row.TheSendSync as row
use Rattle.cq_value.proofs.schema.Column.TheSendSync as column
use Rattle.cq_value.proofs.schema.With.TheSendSync as with_table
use Rattle.cq_value.proofs.text.Text.TheSendSync as text
use Rattle.cq_tree.proofs.expression.Cond.TheLaws.TheKnot.{crosses as conds_cross, crosses_both as conds_both}
use Rattle.cq_tree.proofs.query.FromTree.TheLaws.TheKnot.{crosses as queries_cross, crosses_both as queries_both, send-Query}
use Rattle.cq_answer.proofs.fault.Fault.TheSendSync as fault
use Rattle.cq_script.proofs.reader.Placed.TheSendSync as placed
use Rattle.cq_tree.specs.contracts.statement.Statement as Statement
use Rattle.cq_tree.specs.contracts.query.Agg as Agg
use Rattle.cq_tree.specs.contracts.query.Query as Query
use Rattle.cq_value.specs.contracts.boxed.Boxed as Boxed
use Rattle.cq_tree.specs.contracts.write.Set as Set
use Rattle.cq_tree.specs.contracts.write.ShardOp as ShardOp
use Rattle.cq_session.specs.contracts.copying.Reading as Reading
use Rattle.cq_block.specs.contracts.drafts.Draft as Draft
use Rattle.cq_block.specs.contracts.drafts.SessionDrafts as SessionDrafts
use Rattle.cq_answer.proofs.answer.Answer.TheSendSync as answer
use Rattle.cq_cell.proofs.passes.Pass.TheSendSync as pass
use Rattle.cq_group.proofs.group.GroupTable.TheSendSync as group_table
use Rattle.cq_group.proofs.moving.Moving.TheSendSync as moving
use Rattle.cq_value.proofs.reserved.Reserved.TheSendSync as reserved
use Rattle.cq_tree.proofs.journal.Who.TheSendSync as who
use Rattle.cq_tree.proofs.write.Reply.TheSendSync as reply
use Rattle.cq_block.specs.contracts.legality.Ground as Ground
use Rattle.cq_block.specs.contracts.session.Hands as Hands
use Rattle.cq_cluster.specs.contracts.retired.Retired as Retired
use Rattle.cq_shared.specs.contracts.errand.Errand as Errand
use Rattle.cq_shared.specs.contracts.worker.Stock as Stock
use Rattle.cq_store.proofs.worker.Worker.TheSendSync as worker
use Rattle.cq_cell.specs.contracts.passes.Pass as Pass
use Rattle.cq_shared.specs.contracts.note.Note as Note
use Rattle.cq_tree.specs.contracts.journal.EntryKind as EntryKind
use Rattle.cq_tree.specs.contracts.journal.Entry as Entry
use Rattle.cq_journal.specs.contracts.journal.Journal as Journal
use Rattle.cq_group.specs.contracts.group.GroupState as GroupState
use Rattle.cq_shared.specs.contracts.content.Shard as Shard
use Rattle.cq_answer.specs.contracts.answered.Answered as Answered
use denote.RattleType.{RattleType}
use Rattle.cq_block.specs.contracts.session.Session as Session

ruleset parts = (sendable, crosses, conds_cross, queries_cross, conds_both, queries_both, option.the_send, boxed.the_send, items.the_send, row.the_send, column.the_send, with_table.the_send, text.the_send)

set_send : IsSend Set.the_row
set_send = declared_send Set.the_type (search parts depth 12, (search parts depth 12, tt))

agg_send : IsSend Agg.the_row
agg_send = variants_send Agg.enum (tt, ((search parts depth 12, tt), ((search parts depth 12, tt), ((search parts depth 12, tt), ((search parts depth 12, tt), tt)))))

query_send : IsSend Query.the_row
query_send = as_row_send Query.the_field (
    send-Query (search parts depth 12) (search parts depth 12) (search parts depth 12) (search parts depth 12) (search parts depth 12) (search parts depth 12)
    (search (parts, agg_send) depth 12) (search parts depth 12) (search parts depth 12) (search parts depth 12) (search parts depth 12)
    )

boxed_query : IsSend (Boxed.the_row Query.the_row)
boxed_query = boxed.the_send Query.the_row query_send

op_send : IsSend ShardOp.the_row
op_send = variants_send ShardOp.enum ((search parts depth 12, (search parts depth 12, tt)), ((search parts depth 12, (search parts depth 12, (search (parts, set_send), tt))), ((search parts depth 12, (search parts depth 12, tt)), tt)))

pub statement_send : IsSend Statement.the_row
statement_send = variants_send Statement.enum (
  (search parts depth 12, (search parts depth 12, (search parts depth 12, tt))),
  (
    (search parts depth 12, (search parts depth 12, (search parts depth 12, (search parts depth 12, tt)))),
    (
      (search parts depth 12, tt),
      (
        (search parts depth 12, (search parts depth 12, tt)),
        (
          (search (sendable, boxed_query), tt),
          (
            (op_send, tt),
            (
              (search parts depth 12, (search parts depth 12, (search parts depth 12, (search parts depth 12, tt)))),
              (
                (search (sendable, boxed_query), tt),
                (
                  (search parts depth 12, (search parts depth 12, (search parts depth 12, tt))),
                  (
                    (search parts depth 12, tt),
                    ((search parts depth 12, tt), tt),
                  ),
                ),
              ),
            ),
          ),
        ),
      ),
    ),
  ),
)

pub reading_send : IsSend Reading.the_row
reading_send = declared_send Reading.the_type (statement_send, (search sendable, tt))

pub draft_send : (κ : NamedLft) → IsSend (Draft.the_row κ)
draft_send κ = declared_send (Draft.the_type κ) (search (sendable, placed.the_sync), (search (sendable, result.the_send, reading_send, fault.the_send), tt))

pub drafts_send : (κ : NamedLft) → IsSend (SessionDrafts.the_row κ)
drafts_send κ = declared_send (SessionDrafts.the_type κ) (search sendable, (search (sendable, crosses, draft_send κ), tt))

pub answered_send : IsSend Answered.the_row
answered_send = declared_send Answered.the_type (search sendable, (search sendable, (search sendable, (search sendable depth 12, (search (sendable, option.the_send, statement_send), (search (sendable, answer.the_send) depth 12, tt))))))

kind_send : IsSend EntryKind.the_row
kind_send = variants_send EntryKind.enum (tt, ((op_send, (search (sendable, reply.the_send), tt)), ((search sendable, tt), (tt, (tt, (tt, tt))))))

entry_send : IsSend Entry.the_row
entry_send = declared_send Entry.the_type (search (sendable, who.the_send), (kind_send, tt))

journal_send : IsSend Journal.the_row
journal_send = declared_send Journal.the_type (search sendable, (search sendable, (search (sendable, reserved.the_send, entry_send), tt)))

group_send : (S : RattleType) → IsSend S → IsSend (GroupState.the_row S)
group_send S s = declared_send (GroupState.the_type S) (journal_send, (search sendable, (search sendable, (search (sendable, crosses, group_table.the_send S s) depth 20, (search (sendable, crosses, s) depth 20, (search (sendable, option.the_send, moving.the_send) depth 20, tt))))))

pub shard_send : (S C : RattleType) → IsSend S → IsSend (Shard.the_row S C)
shard_send S C s = declared_send (Shard.the_type S C) (group_send S s, (search sendable, tt))

pass_send : (S : RattleType) → IsSend S → IsSend (Pass.the_row (Shard.the_row S (Ground.the_row S)) Note.the_row)
pass_send S s = pass.the_send (Shard.the_row S (Ground.the_row S)) Note.the_row (shard_send S (Ground.the_row S) s)

pub stock_send : (S C : RattleType) → IsSend S → IsSend (Stock.the_row S C)
stock_send S C s = declared_send (Stock.the_type S C) (search (sendable, worker.the_send, s), (search sendable, tt))

bench_send : (S : RattleType) → IsSend S → IsSend (Pass.the_row (Stock.the_row S (Ground.the_row S)) Errand.the_row)
bench_send S s = pass.the_send (Stock.the_row S (Ground.the_row S)) Errand.the_row (stock_send S (Ground.the_row S) s)

retired_send : (S : RattleType) → IsSend S → IsSend (Retired.the_row S)
retired_send S s = declared_send (Retired.the_type S) (search (sendable, who.the_send), (search sendable, (search sendable, (search sendable, (search (sendable, s), tt)))))

hands_send : (S : RattleType) → IsSend S → IsSend (Hands.the_row S)
hands_send S s = declared_send (Hands.the_type S) (search (sendable, crosses, pass_send S s) depth 20, (search (sendable, crosses, bench_send S s) depth 20, (search (sendable, crosses, retired_send S s) depth 20, tt)))

pub session_send : (κ : NamedLft) (S : RattleType) → IsSend S → IsSend (Session.the_row κ S)
session_send κ S s = declared_send (Session.the_type κ S) (search sendable, (search (sendable, crosses, draft_send κ), (search (sendable, crosses, answered_send), (hands_send S s, tt))))
