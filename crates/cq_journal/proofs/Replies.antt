-- What writes are replied.
use Rattle.std.proofs.Common.{◌≡◌, Bool, true, false, if◌then◌else◌, [], map, length, refl}
use Rattle.std.specs.Prelude.{filter}
use Rattle.cq_value.specs.declared.schema.Shape.{Shape}
use Rattle.cq_value.specs.Tables.{Table, rows_of}
use Rattle.cq_tree.specs.declared.write.ShardOp.{ShardOp}
use Rattle.cq_tree.specs.declared.write.ShardOp.TheVariants.{Insert, Update, Remove}
use Rattle.cq_tree.specs.declared.write.Reply.TheVariants.{Count, Duplicate, OutOfRange}
use Rattle.cq_meaning.specs.Effects.{effect, reply_of, row_changes, repeats, with_rows, adds, puts, fit_kinds, updates, renewed, is_kept}
use Rattle.cq_journal.specs.Replies.{IsRefusal, IsReplyTo}

pub known : (op : ShardOp) (t : Table) (shape : Shape) → IsReplyTo op (reply_of op t shape)
known (Insert table rows) t shape = by_cases (repeats shape.key (rows_of t) rows)
  where
    by_cases : (b : Bool) → IsReplyTo (Insert table rows) (if b then Duplicate else Count (length rows))
    by_cases true = tt
    by_cases false = refl
known (Update table filter_ sets) t shape = by_cases (fit_kinds shape.kinds (updates filter_ sets t.pairs))
  where
    by_cases : (b : Bool) → IsReplyTo (Update table filter_ sets) (if b then Count (length (filter (is_kept filter_) t.pairs)) else OutOfRange)
    by_cases true = tt
    by_cases false = tt
known (Remove table filter_) t shape = tt

pub refused : (op : ShardOp) (t : Table) (shape : Shape) → IsRefusal (reply_of op t shape) → (effect op t shape ≡ t) × (row_changes op t shape ≡ [])
refused (Insert table rows) t shape h = by_cases (repeats shape.key (rows_of t) rows) h
  where
    by_cases : (b : Bool) → IsRefusal (if b then Duplicate else Count (length rows)) → ((if b then t else with_rows t rows) ≡ t) × ((if b then [] else adds t.next rows) ≡ [])
    by_cases true h = (refl, refl)
    by_cases false h = absurd h
refused (Update table filter_ sets) t shape h = by_cases (fit_kinds shape.kinds (updates filter_ sets t.pairs)) h
  where
    by_cases : (b : Bool) → IsRefusal (if b then Count (length (filter (is_kept filter_) t.pairs)) else OutOfRange) →
        ((if b then record { next = t.next; pairs = map (renewed filter_ sets) t.pairs } else t) ≡ t) × ((if b then puts filter_ sets t.pairs else []) ≡ [])
    by_cases true h = absurd h
    by_cases false h = (refl, refl)
refused (Remove table filter_) t shape h = absurd h
