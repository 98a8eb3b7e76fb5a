-- A move in flight, entry after entry.
use Rattle.std.proofs.Common.{◌≡◌, ◌∙◌, ◌+◌, ℕ, ◌<◌, ◌≤◌, Bool, true, false, if◌then◌else◌, inl, inr, Option, Some, None, IfSome, List, [], ◌∷◌, ◌++◌, length, refl, sym, ap, subst, append-nil, length-append, filter, arith}
use Rattle.std.specs.List.{AllByRecursion, sum_by, fold}
use Rattle.std.proofs.lemmas.List.{append_assoc, length-map}
use Rattle.std.proofs.lemmas.List.Sums.{fold_push, sum_by_push}
use Rattle.std.proofs.lemmas.Bool.Decides.{eqb_tells}
use Rattle.cq_value.specs.declared.schema.Shape.{Shape}
use Rattle.cq_value.specs.declared.change.Change.{Change}
use Rattle.cq_value.specs.Tables.{Table, rows_of}
use Rattle.cq_value.specs.Changes.{applied, Fit}
use Rattle.cq_tree.specs.declared.journal.Who.{Who}
use Rattle.cq_tree.specs.declared.journal.Entry.{Entry}
use Rattle.cq_tree.specs.declared.journal.EntryKind.TheVariants.{Read, Write}
use Rattle.cq_tree.specs.declared.write.Reply.{Reply}
use Rattle.cq_tree.specs.declared.write.ShardOp.{ShardOp}
use Rattle.cq_tree.specs.declared.write.Reply.TheVariants.{Count, Duplicate, OutOfRange}
use Rattle.cq_tree.specs.declared.write.ShardOp.TheVariants.{Insert, Update, Remove}
use Rattle.cq_meaning.specs.Values.{Row}
use Rattle.cq_meaning.specs.Effects.{effect, row_changes, reply_of, table_of, repeats, adds, puts, numbered, updates, fit_kinds, is_kept}
use Rattle.cq_journal.specs.Journals.{replay}
use Rattle.cq_journal.specs.Records.{Journal}
use Rattle.cq_journal.specs.Stations.{Station, moved, station_of, moving_of}
use Rattle.cq_journal.proofs.Replays.{replay_more}
use Rattle.cq_change.specs.declared.log.TableChange.{TableChange}
use Rattle.cq_change.specs.Logs.{logged, Leads}
use Rattle.cq_change.proofs.LogLaws.{empty_leads, log_goes_on, others_stay}
use Rattle.cq_group.specs.declared.moving.Moving.{Moving}
use Rattle.cq_group.specs.Moves.{is_of_move, Parted, with_entry, parted, upto_move, since_move, rows_counted, rows_changed, changed_since, IsLogged, IsMoveKept, IsSameMove, WillLog, CanLog, Logs}

pub parted_push : (es : List Entry) (e : Entry) → parted (es ++ e ∷ []) ≡ with_entry (parted es) e
parted_push es e = fold_push with_entry (record { upto = []; since = [] }) es e

-- the two parts are the entries
abbrev pub joined : Parted → List Entry
joined q = q.upto ++ q.since

parts_by : (p : Parted) (e : Entry) (b : Bool) → joined (if b then record { upto = p.upto ++ (p.since ++ e ∷ []); since = [] } else record { upto = p.upto; since = p.since ++ e ∷ [] }) ≡ joined p ++ e ∷ []
parts_by p e true = append-nil (p.upto ++ (p.since ++ e ∷ [])) ∙ sym (append_assoc p.upto p.since (e ∷ []))
parts_by p e false = sym (append_assoc p.upto p.since (e ∷ []))

parts_of : (p : Parted) (e : Entry) → joined (with_entry p e) ≡ joined p ++ e ∷ []
parts_of p e = parts_by p e (is_of_move e.kind)

parts_all : (p : Parted) (es : List Entry) → joined (fold with_entry p es) ≡ joined p ++ es
parts_all p [] = sym (append-nil (joined p))
parts_all p (e ∷ es) = parts_all (with_entry p e) es ∙ ap (λ xs. xs ++ es) (parts_of p e) ∙ append_assoc (joined p) (e ∷ []) es

pub parts_are : (es : List Entry) → upto_move es ++ since_move es ≡ es
parts_are es = parts_all (record { upto = []; since = [] }) es

-- what holds of each entry holds of those up to a move's
pub all_upto : (P : Entry → Type 0) (es : List Entry) → AllByRecursion P es → AllByRecursion P (upto_move es)
all_upto P es h = front (upto_move es) (since_move es) (subst (λ xs. AllByRecursion P xs) (sym (parts_are es)) h)
  where
    front : (xs ys : List Entry) → AllByRecursion P (xs ++ ys) → AllByRecursion P xs
    front [] ys h = tt
    front (x ∷ xs) ys h = (h.0, front xs ys h.1)

-- an entry that isn't a move's
pub other_push : (es : List Entry) (e : Entry) → is_of_move e.kind ≡ false → parted (es ++ e ∷ []) ≡ record { upto = upto_move es; since = since_move es ++ e ∷ [] }
other_push es e o = parted_push es e ∙ ap (λ b. if b then record { upto = upto_move es ++ (since_move es ++ e ∷ []); since = [] } else record { upto = upto_move es; since = since_move es ++ e ∷ [] }) o

-- an entry of a move
pub move_push : (es : List Entry) (e : Entry) → is_of_move e.kind ≡ true → parted (es ++ e ∷ []) ≡ record { upto = es ++ e ∷ []; since = [] }
move_push es e o =
    parted_push es e ∙ ap (λ b. if b then record { upto = upto_move es ++ (since_move es ++ e ∷ []); since = [] } else record { upto = upto_move es; since = since_move es ++ e ∷ [] }) o
    ∙ ap (λ xs. record { upto = xs; since = [] }) (sym (append_assoc (upto_move es) (since_move es) (e ∷ [])) ∙ ap (λ xs. xs ++ e ∷ []) (parts_are es))

counted_push : (es : List Entry) (e : Entry) → is_of_move e.kind ≡ false → changed_since (es ++ e ∷ []) ≡ changed_since es + rows_changed e.kind
counted_push es e o =
    ap (λ (p : Parted). sum_by (λ (x : Entry). rows_changed x.kind) p.since) (other_push es e o)
    ∙ sum_by_push (λ (x : Entry). rows_changed x.kind) (since_move es) e

-- where a journal is, with one more entry
pub station_push : (j : Journal) (es : List Entry) (e : Entry) → station_of (record j { entries = es ++ e ∷ [] }) ≡ moved (station_of (record j { entries = es })) e.who e.kind
station_push j es e = fold_push (λ (s : Station) (x : Entry). moved s x.who x.kind) (record { node = j.opening; moving = None; target = j.opening }) es e

-- the log after a Read
pub logged_read : (shapes : ℕ → Shape) (es : List Entry) (who : Who) (log : List TableChange) → IsLogged shapes es log → IsLogged shapes (es ++ record { who = who; kind = Read } ∷ []) log
logged_read shapes es who log h =
    let e : Entry = record { who = who; kind = Read } in
    let upto : upto_move (es ++ e ∷ []) ≡ upto_move es = ap (λ (p : Parted). p.upto) (other_push es e refl) in
    let count = counted_push es e refl in
    let before = h.counted in
    record {
      leads = λ table.
          subst (λ xs. Leads table log (replay table (shapes table) xs) (replay table (shapes table) (es ++ e ∷ []))) (sym upto)
          (subst (λ t. Leads table log (replay table (shapes table) (upto_move es)) t) (sym (replay_more table (shapes table) es e)) (h.leads table));
      counted = omega (arith, before, count);
    }

-- and after a write, with its row changes
pub logged_write : (shapes : ℕ → Shape) (es : List Entry) (who : Who) (op : ShardOp) (reply : Reply) (log : List TableChange) (changes : List Change) → IsLogged shapes es log →
    Fit (replay (table_of op) (shapes (table_of op)) es) changes → applied (replay (table_of op) (shapes (table_of op)) es) changes ≡ effect op (replay (table_of op) (shapes (table_of op)) es) (shapes (table_of op)) →
    length changes ≡ rows_counted reply →
    IsLogged shapes (es ++ record { who = who; kind = Write op reply } ∷ []) (log ++ logged (table_of op) changes)
logged_write shapes es who op reply log changes h fit gives long =
    let e : Entry = record { who = who; kind = Write op reply } in
    let upto : upto_move (es ++ e ∷ []) ≡ upto_move es = ap (λ (p : Parted). p.upto) (other_push es e refl) in
    let count = counted_push es e refl in
    let before = h.counted in
    let sum = length-append log (logged (table_of op) changes) in
    let same = logged_length (table_of op) changes in
    record {
      leads = λ table. subst (λ xs. Leads table (log ++ logged (table_of op) changes) (replay table (shapes table) xs) (replay table (shapes table) (es ++ e ∷ []))) (sym upto) (leads_to table);
      counted = omega (arith, before, count, long, sum, same);
    }
  where
    logged_length : (table : ℕ) (cs : List Change) → length (logged table cs) ≡ length cs
    logged_length table [] = refl
    logged_length table (c ∷ cs) = let rest = logged_length table cs in omega (arith, rest)

    leads_to : (table : ℕ) → Leads table (log ++ logged (table_of op) changes) (replay table (shapes table) (upto_move es)) (replay table (shapes table) (es ++ record { who = who; kind = Write op reply } ∷ []))
    leads_to table =
        let e : Entry = record { who = who; kind = Write op reply } in
        elim (eqb_tells (table_of op) table) [
          | inl p ↦ (
              let after : replay table (shapes table) (es ++ e ∷ []) ≡ applied (replay table (shapes table) es) changes =
              replay_more table (shapes table) es e ∙ ap (λ b. if b then effect op (replay table (shapes table) es) (shapes table) else replay table (shapes table) es) p.0
              ∙ subst (λ n. effect op (replay n (shapes n) es) (shapes n) ≡ applied (replay n (shapes n) es) changes) p.1 (sym gives) in
              subst (λ t. Leads table (log ++ logged (table_of op) changes) (replay table (shapes table) (upto_move es)) t) (sym after)
              (subst (λ n. Leads table (log ++ logged n changes) (replay table (shapes table) (upto_move es)) (applied (replay table (shapes table) es) changes)) (sym p.1)
              (log_goes_on table log (replay table (shapes table) (upto_move es)) (replay table (shapes table) es) changes (h.leads table)
              (subst (λ n. Fit (replay n (shapes n) es) changes) p.1 fit))))
          | inr p ↦ (
              let after : replay table (shapes table) (es ++ e ∷ []) ≡ replay table (shapes table) es =
              replay_more table (shapes table) es e ∙ ap (λ b. if b then effect op (replay table (shapes table) es) (shapes table) else replay table (shapes table) es) p.0 in
              subst (λ t. Leads table (log ++ logged (table_of op) changes) (replay table (shapes table) (upto_move es)) t) (sym after)
              (others_stay table (table_of op) log (replay table (shapes table) (upto_move es)) (replay table (shapes table) es) changes p.0 (h.leads table)))
        ]

-- a made write has as many row changes as it counts, and a refused one none
numbered_length : (n : ℕ) (rows : List Row) → length (numbered n rows) ≡ length rows
numbered_length n [] = refl
numbered_length n (r ∷ rows) = let rest = numbered_length (n + 1) rows in omega (arith, rest)

pub changes_counted : (op : ShardOp) (t : Table) (shape : Shape) → length (row_changes op t shape) ≡ rows_counted (reply_of op t shape)
changes_counted (Insert table rows) t shape = by (repeats shape.key (rows_of t) rows)
  where
    by : (b : Bool) → length (if b then [] else adds t.next rows) ≡ rows_counted (if b then Duplicate else Count (length rows))
    by true = refl
    by false = length-map (numbered t.next rows) _ ∙ numbered_length t.next rows
changes_counted (Update table filter_ sets) t shape = by (fit_kinds shape.kinds (updates filter_ sets t.pairs))
  where
    by : (b : Bool) → length (if b then puts filter_ sets t.pairs else []) ≡ rows_counted (if b then Count (length (filter (is_kept filter_) t.pairs)) else OutOfRange)
    by true = length-map (filter (is_kept filter_) t.pairs) _
    by false = refl
changes_counted (Remove table filter_) t shape = length-map (filter (is_kept filter_) t.pairs) _

-- the log after an entry of a move is empty
pub logged_none : (shapes : ℕ → Shape) (es : List Entry) (e : Entry) → is_of_move e.kind ≡ true → IsLogged shapes (es ++ e ∷ []) []
logged_none shapes es e o =
    let push = move_push es e o in
    record {
      leads = λ table. subst (λ (p : Parted). Leads table [] (replay table (shapes table) p.upto) (replay table (shapes table) (es ++ e ∷ []))) (sym push) (empty_leads table (replay table (shapes table) (es ++ e ∷ [])));
      counted = ap (λ (p : Parted). sum_by (λ (x : Entry). rows_changed x.kind) p.since) (sym push);
    }

-- changes that are kept for a log can be put into it
pub can_log : (changes : List Change) (o : Option Moving) → WillLog changes o → CanLog o
can_log changes None h = tt
can_log changes (Some m) h = subst (λ (s : Option (List Change)). IfSome s (λ cs. length cs ≤ m.log.room)) (sym h.0) h.1

-- the move of a group that is the same but for its stores
pub same_move : (o : Option Moving) → IsSameMove o o
same_move None = tt
same_move (Some m) = record { who = refl; to = refl; log = refl }

pub same_more : (a b c : Option Moving) → IsSameMove a b → IsSameMove b c → IsSameMove a c
same_more None None None h k = tt
same_more None None (Some c) h k = absurd k
same_more None (Some b) c h k = absurd h
same_more (Some a) None c h k = absurd h
same_more (Some a) (Some b) None h k = absurd k
same_more (Some a) (Some b) (Some c) h k = record { who = k.who ∙ h.who; to = k.to ∙ h.to; log = k.log ∙ h.log }

pub move_along : (shapes others : ℕ → Shape) (j k : Journal) (node node' room room' : ℕ) (old new : Option Moving) → others ≡ shapes → k.opening ≡ j.opening → k.entries ≡ j.entries → node' ≡ node → room ≤ room' →
    IsSameMove old new → IsMoveKept shapes j node room old → IsMoveKept others k node' room' new
move_along shapes others j k node node' room room' None None s o e n low same h = (λ i. moving_of (record { number = k.number; opening = o i; base = k.base; entries = e i })) ∙ h
move_along shapes others j k node node' room room' None (Some new) s o e n low same h = absurd same
move_along shapes others j k node node' room room' (Some old) None s o e n low same h = absurd same
move_along shapes others j k node node' room room' (Some old) (Some new) s o e n low same h = record {
  mover = (λ i. moving_of (record { number = k.number; opening = o i; base = k.base; entries = e i })) ∙ h.mover ∙ ap Some (sym same.who);
  target = (λ i. (station_of (record { number = k.number; opening = o i; base = k.base; entries = e i })).target) ∙ h.target ∙ sym same.to;
  somewhere = subst (λ x. 0 < x) (sym same.to) h.somewhere;
  distributed = subst (λ x. 0 < x) (sym n) h.distributed;
  logged = subst (λ f. IsLogged f k.entries new.log.list) (sym s) (subst (λ es. IsLogged shapes es new.log.list) (sym e) (subst (λ l. IsLogged shapes j.entries l) (sym same.log) h.logged));
  slot = let slot = h.slot in omega (arith, slot, low);
}

-- after a Read
pub move_read : (shapes : ℕ → Shape) (j : Journal) (node room room' : ℕ) (o : Option Moving) (es : List Entry) (who : Who) → j.entries ≡ es → 0 < room' →
    IsMoveKept shapes j node room o → IsMoveKept shapes (record j { entries = es ++ record { who = who; kind = Read } ∷ [] }) node room' o
move_read shapes j node room room' None es who e low h =
    ap (λ (s : Station). s.moving) (station_push j es (record { who = who; kind = Read })) ∙ subst (λ xs. moving_of (record j { entries = xs }) ≡ None) e h
move_read shapes j node room room' (Some m) es who e low h = record {
  mover = ap (λ (s : Station). s.moving) (station_push j es (record { who = who; kind = Read })) ∙ subst (λ xs. moving_of (record j { entries = xs }) ≡ Some m.who) e h.mover;
  target = ap (λ (s : Station). s.target) (station_push j es (record { who = who; kind = Read })) ∙ subst (λ xs. (station_of (record j { entries = xs })).target ≡ m.to) e h.target;
  somewhere = h.somewhere;
  distributed = h.distributed;
  logged = logged_read shapes es who m.log.list (subst (λ xs. IsLogged shapes xs m.log.list) e h.logged);
  slot = low;
}

-- after a write, whose row changes are logged
pub move_write : (shapes : ℕ → Shape) (j : Journal) (node room room' : ℕ) (old new : Option Moving) (es : List Entry) (who : Who) (op : ShardOp) (reply : Reply) (changes : List Change) → j.entries ≡ es → 0 < room' →
    Fit (replay (table_of op) (shapes (table_of op)) es) changes → applied (replay (table_of op) (shapes (table_of op)) es) changes ≡ effect op (replay (table_of op) (shapes (table_of op)) es) (shapes (table_of op)) →
    length changes ≡ rows_counted reply → Logs (table_of op) changes old new →
    IsMoveKept shapes j node room old → IsMoveKept shapes (record j { entries = es ++ record { who = who; kind = Write op reply } ∷ [] }) node room' new
move_write shapes j node room room' None None es who op reply changes e low fit gives long l h =
    ap (λ (s : Station). s.moving) (station_push j es (record { who = who; kind = Write op reply })) ∙ subst (λ xs. moving_of (record j { entries = xs }) ≡ None) e h
move_write shapes j node room room' None (Some new) es who op reply changes e low fit gives long l h = absurd l
move_write shapes j node room room' (Some old) None es who op reply changes e low fit gives long l h = absurd l
move_write shapes j node room room' (Some old) (Some new) es who op reply changes e low fit gives long l h = record {
  mover = ap (λ (s : Station). s.moving) (station_push j es (record { who = who; kind = Write op reply })) ∙ subst (λ xs. moving_of (record j { entries = xs }) ≡ Some old.who) e h.mover ∙ ap Some (sym l.who);
  target = ap (λ (s : Station). s.target) (station_push j es (record { who = who; kind = Write op reply })) ∙ subst (λ xs. (station_of (record j { entries = xs })).target ≡ old.to) e h.target ∙ sym l.to;
  somewhere = subst (λ x. 0 < x) (sym l.to) h.somewhere;
  distributed = h.distributed;
  logged = subst (λ x. IsLogged shapes (es ++ record { who = who; kind = Write op reply } ∷ []) x) (sym l.log)
      (logged_write shapes es who op reply old.log.list changes (subst (λ xs. IsLogged shapes xs old.log.list) e h.logged) fit gives long);
  slot = low;
}

-- where a table's shape is another, but its rows are the same
pub move_shapes : (shapes others : ℕ → Shape) (j : Journal) (node room : ℕ) (o : Option Moving) →
    ((table : ℕ) → replay table (others table) j.entries ≡ replay table (shapes table) j.entries) →
    ((table : ℕ) → replay table (others table) (upto_move j.entries) ≡ replay table (shapes table) (upto_move j.entries)) →
    IsMoveKept shapes j node room o → IsMoveKept others j node room o
move_shapes shapes others j node room None now before h = h
move_shapes shapes others j node room (Some m) now before h = record {
  mover = h.mover;
  target = h.target;
  somewhere = h.somewhere;
  distributed = h.distributed;
  logged = record {
    leads = λ table. subst (λ t. Leads table m.log.list t (replay table (others table) j.entries)) (sym (before table)) (subst (λ t. Leads table m.log.list (replay table (shapes table) (upto_move j.entries)) t) (sym (now table)) (h.logged.leads table));
    counted = h.logged.counted;
  };
  slot = h.slot;
}
