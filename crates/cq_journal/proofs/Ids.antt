-- The next id of a table, and how many rows it has.
use Rattle.std.proofs.Common.{◌≡◌, ◌∙◌, ℕ, suc, ◌+◌, ◌≤◌, Bool, true, false, cond, nat_eq, List, [], ◌∷◌, ◌++◌, map, length, refl, sym, ap, subst, length-append, arith}
use Rattle.std.specs.Prelude.{filter, not}
use Rattle.std.proofs.lemmas.List.{length-map}
use Rattle.cq_value.specs.declared.schema.Shape.{Shape}
use Rattle.cq_value.specs.Tables.{Table, Pair, empty_table, rows_of}
use Rattle.cq_tree.specs.declared.journal.Entry.{Entry}
use Rattle.cq_tree.specs.declared.journal.EntryKind.{EntryKind}
use Rattle.cq_tree.specs.declared.journal.EntryKind.TheVariants.{Read, Write, MoveStart, CatchUp, Cutover, MoveStop}
use Rattle.cq_tree.specs.declared.write.ShardOp.{ShardOp}
use Rattle.cq_tree.specs.declared.write.ShardOp.TheVariants.{Insert, Update, Remove}
use Rattle.cq_meaning.specs.Values.{Row}
use Rattle.cq_meaning.specs.Effects.{effect, table_of, repeats, numbered, with_rows, fit_kinds, updates, renewed, is_kept}
use Rattle.cq_journal.specs.Journals.{entered, replay_from, replay}
use Rattle.cq_journal.proofs.Replays.{from_more}

-- the next id didn't fall, and the table has no more rows than ids, if it had none more before
record Grew (old new : Table) : Type 0 where
  rising : old.next ≤ new.next
  rows : length old.pairs ≤ old.next → length new.pairs ≤ new.next

grew_none : (t : Table) → Grew t t
grew_none t = record { rising = omega arith; rows = λ h. h }

grew_more : (t u v : Table) → Grew t u → Grew u v → Grew t v
grew_more t u v a b = record { rising = omega (arith, a.rising, b.rising); rows = λ h. b.rows (a.rows h) }

numbered_long : (n : ℕ) (rows : List Row) → length (numbered n rows) ≡ length rows
numbered_long n [] = refl
numbered_long n (row ∷ rows) = ap suc (numbered_long (n + 1) rows)

grew_rows : (t : Table) (rows : List Row) → Grew t (with_rows t rows)
grew_rows t rows =
    let long : length (t.pairs ++ numbered t.next rows) ≡ length t.pairs + length rows =
    length-append t.pairs (numbered t.next rows) ∙ ap (λ n. length t.pairs + n) (numbered_long t.next rows) in
    record { rising = omega arith; rows = λ h. omega (arith, h, long) }

filter_short : {X : Type 0} (p : X → Bool) (xs : List X) → length (filter p xs) ≤ length xs
filter_short p [] = omega arith
filter_short p (x ∷ xs) =
    let rest = filter_short p xs in
    elim (p x) as (λ b. length (cond b (x ∷ filter p xs) (filter p xs)) ≤ suc (length xs)) [ true ↦ omega (arith, rest) | false ↦ omega (arith, rest) ]

grew_effect : (op : ShardOp) (t : Table) (shape : Shape) → Grew t (effect op t shape)
grew_effect (Insert table rows) t shape = elim (repeats shape.key (rows_of t) rows) as (λ b. Grew t (cond b t (with_rows t rows))) [ true ↦ grew_none t | false ↦ grew_rows t rows ]
grew_effect (Update table filter_ sets) t shape =
    let new : Table = record { next = t.next; pairs = map (renewed filter_ sets) t.pairs } in
    let long : length new.pairs ≡ length t.pairs = length-map t.pairs _ in
    elim (fit_kinds shape.kinds (updates filter_ sets t.pairs)) as (λ b. Grew t (cond b new t)) [ true ↦ record { rising = omega arith; rows = λ h. omega (arith, h, long) } | false ↦ grew_none t ]
grew_effect (Remove table filter_) t shape =
    let short = filter_short (λ (p : Pair). not (is_kept filter_ p)) t.pairs in
    record { rising = omega arith; rows = λ h. omega (arith, h, short) }

grew_entered : (table : ℕ) (shape : Shape) (t : Table) (kind : EntryKind) → Grew t (entered table shape t kind)
grew_entered table shape t Read = grew_none t
grew_entered table shape t (Write op reply) = elim (nat_eq (table_of op) table) as (λ b. Grew t (cond b (effect op t shape) t)) [ true ↦ grew_effect op t shape | false ↦ grew_none t ]
grew_entered table shape t (MoveStart node) = grew_none t
grew_entered table shape t CatchUp = grew_none t
grew_entered table shape t Cutover = grew_none t
grew_entered table shape t MoveStop = grew_none t

grew_from : (table : ℕ) (shape : Shape) (t : Table) (es : List Entry) → Grew t (replay_from table shape t es)
grew_from table shape t [] = grew_none t
grew_from table shape t (e ∷ es) =
    let u = entered table shape t e.kind in
    grew_more t u (replay_from table shape u es) (grew_entered table shape t e.kind) (grew_from table shape u es)

pub rows_have_ids : (table : ℕ) (shape : Shape) (es : List Entry) → length (rows_of (replay table shape es)) ≤ (replay table shape es).next
rows_have_ids table shape es =
    let long : length (rows_of (replay table shape es)) ≡ length (replay table shape es).pairs = length-map (replay table shape es).pairs _ in
    let low = (grew_from table shape empty_table es).rows (omega arith) in
    omega (arith, long, low)

pub next_rises : (table : ℕ) (shape : Shape) (es more : List Entry) → (replay table shape es).next ≤ (replay table shape (es ++ more)).next
next_rises table shape es more =
    subst (λ (t : Table). (replay table shape es).next ≤ t.next) (sym (from_more table shape empty_table es more)) (grew_from table shape (replay table shape es) more).rising
