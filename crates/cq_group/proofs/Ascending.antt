-- The ids of the rows that entries leave of a table ascend.
use Rattle.std.proofs.Common.{◌+◌, ◌<◌, ◌≤◌, ℕ, true, false, cond, nat_eq, List, [], ◌∷◌, ◌++◌, map, length, arith}
use Rattle.std.specs.Prelude.{not}
use Rattle.std.specs.List.{AllByRecursion}
use Rattle.cq_value.specs.declared.schema.Shape.{Shape}
use Rattle.cq_value.specs.Tables.{Table, Pair, IsAscending, empty_table, rows_of}
use Rattle.cq_value.proofs.TableLaws.{ascending_filter}
use Rattle.cq_tree.specs.declared.expression.Cond.{Cond}
use Rattle.cq_tree.specs.declared.write.Set.{Set}
use Rattle.cq_tree.specs.declared.write.ShardOp.{ShardOp}
use Rattle.cq_tree.specs.declared.write.ShardOp.TheVariants.{Insert, Update, Remove}
use Rattle.cq_tree.specs.declared.journal.Entry.{Entry}
use Rattle.cq_tree.specs.declared.journal.EntryKind.{EntryKind}
use Rattle.cq_tree.specs.declared.journal.EntryKind.TheVariants.{Read, Write, MoveStart, CatchUp, Cutover, MoveStop}
use Rattle.cq_meaning.specs.Values.{Row}
use Rattle.cq_meaning.specs.Effects.{table_of, repeats, numbered, with_rows, is_kept, updated, updates, fit_kinds, renewed, effect}
use Rattle.cq_journal.specs.Journals.{entered, replay_from, replay}
use Rattle.cq_group.proofs.Zips.{all_append}

-- rows under the next ids, behind some whose ids are below a number
numbered_above : (low n : ℕ) (rows : List Row) → low < n → AllByRecursion (λ q. low < q.0) (numbered n rows)
numbered_above low n [] h = tt
numbered_above low n (row ∷ rows) h = (h, numbered_above low (n + 1) rows (omega arith))

numbered_ascends : (n : ℕ) (rows : List Row) (end : ℕ) → n + length rows ≤ end → IsAscending (numbered n rows) end
numbered_ascends n [] end h = tt
numbered_ascends n (row ∷ rows) end h = (omega arith, numbered_above n (n + 1) rows (omega arith), numbered_ascends (n + 1) rows end (omega arith))

appended_ascends : (ps : List Pair) (n : ℕ) (rows : List Row) → IsAscending ps n → IsAscending (ps ++ numbered n rows) (n + length rows)
appended_ascends [] n rows h = numbered_ascends n rows (n + length rows) (omega arith)
appended_ascends (p ∷ ps) n rows h =
    (omega (arith, h.0), all_append (λ q. p.0 < q.0) ps (numbered n rows) h.1 (numbered_above p.0 n rows h.0), appended_ascends ps n rows h.2)

module _ (c : Cond) (sets : List Set) where
  same_id : (P : ℕ → Type 0) (p : Pair) → P p.0 → P (renewed c sets p).0
  same_id P p h = elim (is_kept c p) as (λ b. P (cond b (p.0, updated sets p.1) p).0) [ true ↦ h | false ↦ h ]

  renewed_above : (low : ℕ) (ps : List Pair) → AllByRecursion (λ q. low < q.0) ps → AllByRecursion (λ q. low < q.0) (map (renewed c sets) ps)
  renewed_above low [] h = tt
  renewed_above low (p ∷ ps) h = (same_id (λ n. low < n) p h.0, renewed_above low ps h.1)

  renewed_ascends : (ps : List Pair) (n : ℕ) → IsAscending ps n → IsAscending (map (renewed c sets) ps) n
  renewed_ascends [] n h = tt
  renewed_ascends (p ∷ ps) n h =
      (same_id (λ i. i < n) p h.0, same_id (λ i. AllByRecursion (λ q. i < q.0) (map (renewed c sets) ps)) p (renewed_above p.0 ps h.1), renewed_ascends ps n h.2)

abbrev Ascends : Table → Type 0
Ascends t = IsAscending t.pairs t.next

effect_ascends : (op : ShardOp) (t : Table) (shape : Shape) → Ascends t → Ascends (effect op t shape)
effect_ascends (Insert number rows) t shape h =
    elim (repeats shape.key (rows_of t) rows) as (λ b. Ascends (cond b t (with_rows t rows))) [ true ↦ h | false ↦ appended_ascends t.pairs t.next rows h ]
effect_ascends (Update number c sets) t shape h =
    let new : Table = record { next = t.next; pairs = map (renewed c sets) t.pairs } in
    elim (fit_kinds shape.kinds (updates c sets t.pairs)) as (λ b. Ascends (cond b new t)) [ true ↦ renewed_ascends c sets t.pairs t.next h | false ↦ h ]
effect_ascends (Remove number c) t shape h = ascending_filter (λ p. not (is_kept c p)) t.pairs t.next h

entered_ascends : (table : ℕ) (shape : Shape) (t : Table) (kind : EntryKind) → Ascends t → Ascends (entered table shape t kind)
entered_ascends table shape t Read h = h
entered_ascends table shape t (Write op reply) h = elim (nat_eq (table_of op) table) as (λ b. Ascends (cond b (effect op t shape) t)) [ true ↦ effect_ascends op t shape h | false ↦ h ]
entered_ascends table shape t (MoveStart node) h = h
entered_ascends table shape t CatchUp h = h
entered_ascends table shape t Cutover h = h
entered_ascends table shape t MoveStop h = h

from_ascends : (table : ℕ) (shape : Shape) (t : Table) (es : List Entry) → Ascends t → Ascends (replay_from table shape t es)
from_ascends table shape t [] h = h
from_ascends table shape t (e ∷ es) h = from_ascends table shape (entered table shape t e.kind) es (entered_ascends table shape t e.kind h)

pub replay_ascends : (table : ℕ) (shape : Shape) (es : List Entry) → IsAscending (replay table shape es).pairs (replay table shape es).next
replay_ascends table shape es = from_ascends table shape empty_table es tt
