-- A group that stands for its notes has a legal journal, where its entries are of legal kinds.
use Rattle.std.proofs.Common.{◌≡◌, ◌≢◌, inl, inr, ℕ, zero, suc, ◌+◌, ◌≤◌, true, List, [], ◌∷◌, ◌++◌, take, refl, sym, ap, ◌∙◌, subst, arith, fold, Option, Some, None, slice_get}
use Rattle.std.proofs.lemmas.Option.{same_Some}
use Rattle.std.proofs.lemmas.Bool.Decides.{eqb_tells}
use Rattle.std.specs.Prelude.{⊤, nat_le, nat_lt}
use Rattle.cq_value.specs.Tables.{empty_table}
use Rattle.cq_value.specs.declared.schema.Shape.{Shape}
use Rattle.cq_tree.specs.declared.journal.Who.{Who}
use Rattle.cq_tree.specs.declared.journal.Entry.{Entry}
use Rattle.cq_tree.specs.declared.journal.EntryKind.{EntryKind}
use Rattle.cq_tree.specs.declared.journal.EntryKind.TheVariants.{Read, Write, MoveStart, CatchUp, Cutover, MoveStop}
use Rattle.cq_meaning.specs.Effects.{reply_of, table_of}
use Rattle.cq_catalog.specs.Contents.{Contents, first_group_in, count_in}
use Rattle.cq_catalog.specs.Placement.{place_at, colocation_at, HasShard}
use Rattle.cq_catalog.specs.declared.info.Colocation.{Colocation}
use Rattle.cq_catalog.specs.declared.info.Place.{Place}
use Rattle.cq_catalog.specs.declared.info.Place.TheVariants.{Local, Distributed, Reference}
use Rattle.cq_journal.specs.Journals.{IsReplied, replay}
use Rattle.cq_journal.specs.Records.{Journal}
use Rattle.cq_journal.specs.Stations.{Station, moved, station_of}
use Rattle.cq_store.specs.Stores.{StoreState}
use Rattle.cq_planning.specs.Database.{shape_in}
use Rattle.cq_history.specs.Journals.{cut}
use Rattle.cq_history.specs.Legality.{IsLegalKind, CanFollow, IsLegal}
use Rattle.cq_history.specs.Looks.{has_shard_at, has_shard}
use Rattle.cq_history.proofs.Lists.{all_at}
use Rattle.cq_group.specs.declared.group.GroupState.{GroupState}
use Rattle.cq_group.specs.Groups.{Outline, shape_at, or_no_shape, shapes, entries_of, journal_of}
use Rattle.cq_reach.specs.Seen.{seen_of, shape_seen}
use Rattle.cq_shared.specs.declared.note.Note.{Note}
use Rattle.cq_shared.specs.Notes.{entries_in, MayMove, AllMove, Stands}
use Rattle.cq_shared.proofs.Standing.{step}

-- ---- moves

-- a step of a move can follow, at a station of a group that was opened on this node
abbrev CanStep : ℕ → Station → Who → EntryKind → Type 0
CanStep opening s who Read = ⊤
CanStep opening s who (Write op reply) = ⊤
CanStep opening s who (MoveStart to) = (s.moving ≡ None) × (1 ≤ to) × (to ≢ s.node) × (opening ≢ 0)
CanStep opening s who CatchUp = s.moving ≡ Some who
CanStep opening s who Cutover = s.moving ≡ Some who
CanStep opening s who MoveStop = s.moving ≡ Some who

abbrev AllStep : ℕ → Station → List Entry → Type 0
AllStep opening s [] = ⊤
AllStep opening s (e ∷ es) = CanStep opening s e.who e.kind × AllStep opening (step s e) es

all_step : (opening : ℕ) (s : Station) (es : List Entry) → ((i : ℕ) (e : Entry) → slice_get es i ≡ Some e → CanStep opening (fold step s (take i es)) e.who e.kind) → AllStep opening s es
all_step opening s [] f = tt
all_step opening s (e ∷ es) f = (f 0 e refl, all_step opening (step s e) es (λ i d there. f (suc i) d there))

step_at : (opening : ℕ) (s : Station) (es : List Entry) → AllStep opening s es → (i : ℕ) (e : Entry) → slice_get es i ≡ Some e → CanStep opening (fold step s (take i es)) e.who e.kind
step_at opening s [] h i e there = cc
step_at opening s (d ∷ es) h zero e there = subst (λ (v : Entry). CanStep opening s v.who v.kind) (same_Some d e there) h.0
step_at opening s (d ∷ es) h (suc i) e there = step_at opening (step s d) es h.1 i e there

step_both : (opening : ℕ) (s : Station) (es fs : List Entry) → AllStep opening s es → AllStep opening (fold step s es) fs → AllStep opening s (es ++ fs)
step_both opening s [] fs h k = k
step_both opening s (e ∷ es) fs h k = (h.0, step_both opening (step s e) es fs h.1 k)

-- a group that was opened on all nodes stays there
record IsStill (opening : ℕ) (s : Station) : Type 0 where
  node : opening ≡ 0 → s.node ≡ 0
  moving : opening ≡ 0 → s.moving ≡ None

in_move : (s : Station) (who : Who) → s.moving ≡ None → s.moving ≡ Some who → ⊥
in_move s who h k = let bad : None ≡ Some who = sym h ∙ k in cc

still_one : (opening : ℕ) (s : Station) (who : Who) (kind : EntryKind) → IsStill opening s → CanStep opening s who kind → IsStill opening (moved s who kind)
still_one opening s who Read h k = h
still_one opening s who (Write op reply) h k = h
still_one opening s who (MoveStart to) h k = record { node = λ z. absurd (k.3 z); moving = λ z. absurd (k.3 z) }
still_one opening s who CatchUp h k = h
still_one opening s who Cutover h k = record { node = λ z. absurd (in_move s who (h.moving z) k); moving = λ z. absurd (in_move s who (h.moving z) k) }
still_one opening s who MoveStop h k = record { node = λ z. absurd (in_move s who (h.moving z) k); moving = λ z. absurd (in_move s who (h.moving z) k) }

still_all : (opening : ℕ) (s : Station) (es : List Entry) → IsStill opening s → AllStep opening s es → IsStill opening (fold step s es)
still_all opening s [] h k = h
still_all opening s (e ∷ es) h k = still_all opening (step s e) es (still_one opening s e.who e.kind h k.0) k.1

step_one : (opening : ℕ) (s : Station) (who : Who) (kind : EntryKind) → IsStill opening s → MayMove s who kind → CanStep opening s who kind
step_one opening s who Read h k = tt
step_one opening s who (Write op reply) h k = tt
step_one opening s who (MoveStart to) h k = (k.0, k.1, k.2, λ z. k.3 (h.node z))
step_one opening s who CatchUp h k = k
step_one opening s who Cutover h k = k
step_one opening s who MoveStop h k = k

moves_step : (opening : ℕ) (s : Station) (es : List Entry) → IsStill opening s → AllMove s es → AllStep opening s es
moves_step opening s [] h k = tt
moves_step opening s (e ∷ es) h k =
    let one = step_one opening s e.who e.kind h k.0 in
    (one, moves_step opening (step s e) es (still_one opening s e.who e.kind h one) k.1)

-- a step of a legal journal
legal_step : (c : Contents) (j : Journal) (who : Who) (kind : EntryKind) → CanFollow c j who kind → CanStep j.opening (station_of j) who kind
legal_step c j who Read h = tt
legal_step c j who (Write op reply) h = tt
legal_step c j who (MoveStart to) h = h
legal_step c j who CatchUp h = h
legal_step c j who Cutover h = h
legal_step c j who MoveStop h = h

-- ---- writes

shard_there : (co : Option Colocation) (p : Place) (n : ℕ) → HasShard co p n → has_shard_at co p n ≡ true
shard_there co Local n h = absurd h
shard_there co (Distributed column colocation first_shard) n h =
    let low : nat_le (first_group_in co) n ≡ true = let l = h.0 in grind (arith, l) in
    let few : nat_lt n (first_group_in co + count_in co) ≡ true = let l = h.1 in grind (arith, l) in
    rw (low, few) refl
shard_there co (Reference own shard) n h = elim (eqb_tells n own) [ inl y ↦ y.0 | inr z ↦ absurd (z.1 h) ]

-- ---- the journal

module _ {X : Type 0} (state : X → StoreState) (c : Contents) (n : ℕ) (o x : GroupState X) (notes : List Note) (shaped : (table : ℕ) → has_shard c n table ≡ true → shape_seen (seen_of o) table ≡ shape_in c table)
    (legal : IsLegal c n (journal_of o)) (h : Stands state (IsLegalKind c n) o x notes) where
  abbrev begun : ℕ → Station
  begun opening = record { node = opening; moving = None; target = opening }

  first_steps : AllStep o.journal.opening (begun o.journal.opening) (entries_of o)
  first_steps = all_step o.journal.opening (begun o.journal.opening) (entries_of o) (λ i e there. legal_step c (cut i (journal_of o)) e.who e.kind (legal.follow i e there))

  still_then : IsStill o.journal.opening (station_of (journal_of o))
  still_then = still_all o.journal.opening (begun o.journal.opening) (entries_of o) (record { node = λ z. z; moving = λ z. refl }) first_steps

  all_steps : AllStep x.journal.opening (begun x.journal.opening) (entries_of x)
  all_steps =
      subst (λ (z : ℕ × List Entry). AllStep z.0 (begun z.0) z.1) (λ i. (sym h.remains.opening i, sym h.journal i))
      (step_both o.journal.opening (begun o.journal.opening) (entries_of o) (entries_in notes) first_steps (moves_step o.journal.opening (station_of (journal_of o)) (entries_in notes) still_then h.moves))

  its_shape : (table : ℕ) → HasShard (colocation_at c table) (place_at c table) n → shapes x table ≡ shape_in c table
  its_shape table has = ap (λ (os : List Outline). or_no_shape (shape_at os table)) h.remains.tables ∙ shaped table (shard_there (colocation_at c table) (place_at c table) n has)

  follows : (before : List Entry) (who : Who) (kind : EntryKind) → IsLegalKind c n kind → IsReplied (shapes x) before kind → CanStep x.journal.opening (fold step (begun x.journal.opening) before) who kind →
      CanFollow c (record { number = x.journal.group; opening = x.journal.opening; base = λ table. empty_table; entries = before }) who kind
  follows before who Read k r s = tt
  follows before who (Write op reply) k r s = subst (λ (shape : Shape). reply ≡ reply_of op (replay (table_of op) shape before) shape) (its_shape (table_of op) k.0) r
  follows before who (MoveStart to) k r s = s
  follows before who CatchUp k r s = s
  follows before who Cutover k r s = s
  follows before who MoveStop k r s = s

  -- a group that was opened with a legal journal has one as long as it stands for its notes
  pub stands_legal : IsLegal c n (journal_of x)
  stands_legal = record {
    base = legal.base;
    kinds = h.kinds;
    follow = λ place e there.
        follows (take place (entries_of x)) e.who e.kind (all_at (λ (d : Entry). IsLegalKind c n d.kind) (entries_of x) place e h.kinds there) (h.resting.kept.replied place e there) (step_at x.journal.opening (begun x.journal.opening) (entries_of x) all_steps place e there);
  }
