-- What the engine says of a write.
use Rattle.std.specs.Prelude.{◌≡◌, ◌+◌, ℕ, Bool, List, [], length, if◌then◌else◌}
use Rattle.cq_value.specs.declared.schema.Shape.{Shape}
use Rattle.cq_value.specs.Tables.{Table}
use Rattle.cq_value.specs.Changes.{applied, Fit}
use Rattle.cq_tree.specs.declared.write.ShardOp.{ShardOp}
use Rattle.cq_tree.specs.declared.write.Reply.TheVariants.{Count, Duplicate}
use Rattle.cq_meaning.specs.Values.{Row}
use Rattle.cq_meaning.specs.Effects.{reply_of, effect, row_changes, adds}
use Rattle.cq_engine.specs.declared.write.Effect.{Effect}

-- the write's reply, its row changes, and the next id after them
abbrev pub made_by : ShardOp → Table → Shape → Effect
made_by op table shape = record { reply = reply_of op table shape; changes = row_changes op table shape; next = (effect op table shape).next }

-- the same of an INSERT, from what it depends on: whether its rows repeat a primary key, and the table's next id
abbrev pub inserted_by : List Row → Bool → ℕ → Effect
inserted_by rows repeats next =
    if repeats then record { reply = Duplicate; changes = []; next = next } else record { reply = Count (length rows); changes = adds next rows; next = next + length rows }

-- the reply and the changes of made_by, and that the changes fit the table and make of it what the write does
pub record IsEffect (op : ShardOp) (table : Table) (shape : Shape) (made : Effect) : Type 0 where
  pub replied : made.reply ≡ reply_of op table shape
  pub listed : made.changes ≡ row_changes op table shape
  pub fitting : Fit table made.changes
  pub changed : applied table made.changes ≡ effect op table shape
  pub counted : made.next ≡ (effect op table shape).next
