-- The rounds of catch-up of a move, one after the other.
use Rattle.std.proofs.Common.{◌≡◌, ◌≢◌, ◌∙◌, ◌+◌, ◌<◌, ◌≤◌, ◌⊎◌, inl, inr, zero, suc, ℕ, Bool, false, if◌then◌else◌, List, [], ◌∷◌, ◌++◌, drop, length, refl, sym, ap, subst, arith, append-nil, append_assoc, length-append}
use Rattle.std.specs.List.{AllByRecursion, sum_by, fold}
use Rattle.std.proofs.lemmas.List.Sums.{fold-append, sum_by-append, sum_by-cons, sum_by_push}
use Rattle.cq_value.proofs.Lists.{all_append, all_weaker}
use Rattle.cq_tree.specs.declared.journal.Who.{Who}
use Rattle.cq_tree.specs.declared.journal.Entry.{Entry}
use Rattle.cq_tree.specs.declared.journal.EntryKind.{EntryKind}
use Rattle.cq_tree.specs.declared.journal.EntryKind.TheVariants.{Read, Write, MoveStart, CatchUp, Cutover, MoveStop}
use Rattle.cq_tree.specs.declared.write.Reply.TheVariants.{Count, Duplicate, OutOfRange}
use Rattle.cq_history.specs.Journals.{Step, with_entries}
use Rattle.cq_history.specs.Moves.{AreRounds, last_of, most_rounds, rows_written, written_between}
use Rattle.cq_history.proofs.Entries.{entries_by, drop_all, drop_within}
use Rattle.cq_group.specs.Moves.{is_of_move, Parted, with_entry, parted, changed_since, rows_changed}
use Rattle.cq_reach.specs.Seen.{Seen}
use Rattle.cq_move_calls.specs.Moving.{Told, ComesAside}
use Rattle.cq_transfer.specs.Entering.{AreBegun, AreBusy, HasCaught, IsBehind}
use Rattle.cq_transfer.specs.Carrying.{CatchesOnce}
use Rattle.cq_transfer.proofs.EnterLaws.{enters_none, enters_one, enters_then, told_behind, told_so, told_weaker, step_at}

-- ---- numbers of changes

rows_same : (kind : EntryKind) → rows_changed kind ≡ rows_written kind
rows_same Read = refl
rows_same (Write op (Count n)) = refl
rows_same (Write op Duplicate) = refl
rows_same (Write op OutOfRange) = refl
rows_same (MoveStart to) = refl
rows_same CatchUp = refl
rows_same Cutover = refl
rows_same MoveStop = refl

abbrev rows : List Entry → ℕ
rows es = sum_by (λ (e : Entry). rows_written e.kind) es

sum_same : (es : List Entry) → sum_by (λ (e : Entry). rows_changed e.kind) es ≡ rows es
sum_same [] = refl
sum_same (e ∷ es) =
    sum_by-cons (λ (x : Entry). rows_changed x.kind) e es ∙ (λ i. rows_same e.kind i + sum_same es i) ∙ sym (sum_by-cons (λ (x : Entry). rows_written x.kind) e es)

abbrev chosen : Parted → Entry → Bool → Parted
chosen p e b = if b then record { upto = p.upto ++ (p.since ++ e ∷ []); since = [] } else record { upto = p.upto; since = p.since ++ e ∷ [] }

since_aside : (p : Parted) (es : List Entry) → AllByRecursion (λ (e : Entry). is_of_move e.kind ≡ false) es → (fold with_entry p es).since ≡ p.since ++ es
since_aside p [] h = sym (append-nil p.since)
since_aside p (e ∷ es) h =
    since_aside (with_entry p e) es h.1 ∙ ap (λ (b : Bool). (chosen p e b).since ++ es) h.0 ∙ append_assoc p.since (e ∷ []) es

-- the rows changed since a move's last entry are those of the entries that came behind it
pub changed_behind : (es more : List Entry) → parted es ≡ record { upto = es; since = [] } → AllByRecursion (λ (e : Entry). is_of_move e.kind ≡ false) more → changed_since (es ++ more) ≡ rows more
changed_behind es more all aside =
    ap (λ (v : List Entry). sum_by (λ (e : Entry). rows_changed e.kind) v) (
    ap (λ (p : Parted). p.since) (fold-append with_entry (record { upto = []; since = [] }) es more)
    ∙ since_aside (parted es) more aside
    ∙ ap (λ (p : Parted). p.since ++ more) all
    )
    ∙ sum_same more

length_behind : (who : Who) (first : Step) (s : Seen) → IsBehind who first s → length s.journal.entries ≡ length first.before.entries + 1
length_behind who first s b = ap (λ j. length j.entries) b ∙ length-append first.before.entries (entries_by who (first.kind ∷ []))

-- what was written between a step and the next
pub written_next : (who : Who) (first : Step) (s : Seen) (more : List Entry) (kind : EntryKind) → IsBehind who first s → written_between first (step_at more kind s) ≡ rows more
written_next who first s more kind b =
    ap (λ (n : ℕ). rows (drop n (s.journal.entries ++ more))) (sym (length_behind who first s b)) ∙ ap rows (drop_all s.journal.entries more)

abbrev no_entries : List Entry
no_entries = []

drop_none : (n : ℕ) → drop n no_entries ≡ no_entries
drop_none zero = refl
drop_none (suc n) = refl

-- one entry more at the end, that is no write
rows_push : (n : ℕ) (es : List Entry) (e : Entry) → rows_written e.kind ≡ 0 → rows (drop n (es ++ e ∷ [])) ≡ rows (drop n es)
rows_push zero es e none = sum_by_push (λ (x : Entry). rows_written x.kind) es e ∙ (let k = none in omega (arith, k))
rows_push (suc n) [] e none = ap rows (drop_none n)
rows_push (suc n) (x ∷ es) e none = rows_push n es e none

drop_beyond : (n : ℕ) (es : List Entry) → length es ≤ n → drop n es ≡ []
drop_beyond n [] l = drop_none n
drop_beyond zero (x ∷ es) l = absurd (omega (arith, l))
drop_beyond (suc n) (x ∷ es) l = drop_beyond n es (omega (arith, l))

-- nothing was written between a step and itself
pub written_none : (s : Step) → written_between s s ≡ 0
written_none s = ap rows (drop_beyond (length s.before.entries + 1) s.before.entries (omega arith))

-- nor between a step and the next entry
pub written_behind : (who : Who) (s : Step) (kind : EntryKind) → written_between s (record { before = with_entries who (s.kind ∷ []) s.before; kind = kind }) ≡ 0
written_behind who s kind =
    ap rows (drop_beyond (length s.before.entries + 1) (s.before.entries ++ entries_by who (s.kind ∷ [])) (let long = length-append s.before.entries (entries_by who (s.kind ∷ [])) in omega (arith, long)))

-- ---- lists of rounds

pub last_push : (s : Step) (rounds : List Step) (t : Step) → last_of s (rounds ++ t ∷ []) ≡ t
last_push s [] t = refl
last_push s (r ∷ rounds) t = last_push r rounds t

last_caught : (s : Step) (rounds : List Step) → AllByRecursion (λ (r : Step). r.kind ≡ CatchUp) rounds → (last_of s rounds ≡ s) ⊎ (rows_written (last_of s rounds).kind ≡ 0)
last_caught s [] all = inl refl
last_caught s (r ∷ []) all = inr (ap rows_written all.0)
last_caught s (r ∷ q ∷ rounds) all = elim (last_caught r (q ∷ rounds) all.1) [ inl e ↦ inr (ap (λ (v : Step). rows_written v.kind) e ∙ ap rows_written all.0) | inr z ↦ inr z ]

pub busy_more : (s : Step) (rounds : List Step) (t : Step) → AreBusy s rounds → 0 < written_between (last_of s rounds) t → AreBusy s (rounds ++ t ∷ [])
busy_more s [] t busy some = (some, tt)
busy_more s (r ∷ rounds) t busy some = (busy.0, busy_more r rounds t busy.1 some)

pub busy_begun : (n : ℕ) (s : Step) (rounds : List Step) → AreBusy s rounds → n + length rounds ≤ 9 → AreBegun n s rounds
busy_begun n s [] busy few = tt
busy_begun n s (r ∷ []) busy few = omega (arith, few)
busy_begun n s (r ∷ q ∷ rounds) busy few = (busy.0, busy_begun (n + 1) r (q ∷ rounds) busy.1 (omega (arith, few)))

begun_few : (n : ℕ) (s t : Step) (rounds : List Step) → AreBegun n s (t ∷ rounds) → n + length rounds ≤ 8
begun_few n s t [] few = omega (arith, few)
begun_few n s t (u ∷ rounds) begun = let rest = begun_few (n + 1) t u rounds begun.1 in omega (arith, rest)

pub few_rounds : (s : Step) (rounds : List Step) → AreBegun 1 s rounds → length rounds ≤ most_rounds
few_rounds s [] begun = omega arith
few_rounds s (t ∷ rounds) begun = let few = begun_few 1 s t rounds begun in omega (arith, few)

pub rounds_begun : (n : ℕ) (s : Step) (rounds : List Step) → AreRounds n s rounds → AreBegun n s rounds
rounds_begun n s [] all = absurd all
rounds_begun n s (t ∷ []) all = all.0
rounds_begun n s (t ∷ u ∷ more) all = (all.0, rounds_begun (n + 1) t (u ∷ more) all.1)

pub busy_then : (n : ℕ) (s : Step) (rounds : List Step) (t : Step) → AreBusy s rounds → n + length rounds ≤ 8 → AreBegun n s (rounds ++ t ∷ [])
busy_then n s [] t busy few = omega (arith, few)
busy_then n s (r ∷ []) t busy few = (busy.0, omega (arith, few))
busy_then n s (r ∷ q ∷ rounds) t busy few = (busy.0, busy_then (n + 1) r (q ∷ rounds) t busy.1 (omega (arith, few)))

pub rounds_end : (n : ℕ) (s : Step) (rounds : List Step) (t : Step) → AreBusy s rounds → n + length rounds ≤ 8 → written_between (last_of s rounds) t ≡ 0 → AreRounds n s (rounds ++ t ∷ [])
rounds_end n s [] t busy few none = (omega (arith, few), inl none)
rounds_end n s (r ∷ []) t busy few none = (busy.0, (omega (arith, few), inl none))
rounds_end n s (r ∷ q ∷ rounds) t busy few none = (busy.0, rounds_end (n + 1) r (q ∷ rounds) t busy.1 (omega (arith, few)) none)

pub rounds_full : (n : ℕ) (s : Step) (r : Step) (rounds : List Step) → AreBusy s (r ∷ rounds) → n + length rounds ≡ 8 → AreRounds n s (r ∷ rounds)
rounds_full n s r [] busy full = (omega (arith, full), inr (omega (arith, full)))
rounds_full n s r (q ∷ rounds) busy full = (busy.0, rounds_full (n + 1) r q rounds busy.1 (omega (arith, full)))

-- ---- one round more

-- the rounds of a loop so far: each had changes
pub record IsLoop (comes : Entry → Type 0) (who : Who) (first : Step) (n round : ℕ) (old new : Seen) : Type 0 where
  pub rounds : List Step
  pub caught : HasCaught comes who first n rounds old new
  pub busy : AreBusy first rounds
  pub many : length rounds ≡ round

pub loop_begins : (comes : Entry → Type 0) (who : Who) (first : Step) (s : Seen) → IsBehind who first s → IsLoop comes who first 0 0 s s
loop_begins comes who first s b = record {
  rounds = [];
  caught = record { enters = enters_none comes who s; catches = tt; behind = b; caught = sym (written_none first); far = omega arith };
  busy = tt;
  many = refl;
}

module _ (comes : Entry → Type 0) (who : Who) (others : (e : Entry) → comes e → e.who.session ≢ who.session) where
  module _ (first : Step) (n k : ℕ) (rounds : List Step) (s t u : Seen) (h : HasCaught comes who first n rounds s t) (last : parted t.journal.entries ≡ record { upto = t.journal.entries; since = [] }) (m : CatchesOnce comes who k t u) where
    abbrev plain : Told comes who (CatchUp ∷ []) (λ (f : Seen). k ≡ changed_since f.journal.entries) t u
    plain = told_weaker (ComesAside comes) comes who (CatchUp ∷ []) (λ (f : Seen). k ≡ changed_since f.journal.entries) t u (λ e c. c.0) m

    abbrev pub next : Step
    next = step_at m.grown.more CatchUp t

    -- what was written up to the last round
    so_far : rows (drop (length first.before.entries + 1) t.journal.entries) ≡ n
    so_far = elim (last_caught first rounds h.catches) [
      | inl e ↦
          ap rows (drop_beyond (length first.before.entries + 1) t.journal.entries (let long = length_behind who (last_of first rounds) t h.behind ∙ ap (λ (r : Step). length r.before.entries + 1) e in omega (arith, long)))
          ∙ sym (h.caught ∙ ap (written_between first) e ∙ written_none first)
      | inr none ↦
          ap (λ j. rows (drop (length first.before.entries + 1) j.entries)) h.behind
          ∙ rows_push (length first.before.entries + 1) (last_of first rounds).before.entries (record { who = who; kind = (last_of first rounds).kind }) none
          ∙ sym h.caught
    ]

    aside : AllByRecursion (λ (e : Entry). is_of_move e.kind ≡ false) m.grown.more
    aside = all_weaker (ComesAside comes) (λ (e : Entry). is_of_move e.kind ≡ false) (λ e c. c.1) m.grown.more m.grown.all

    changes : k ≡ rows m.grown.more
    changes = told_so m ∙ changed_behind t.journal.entries m.grown.more last aside

    pub next_written : written_between (last_of first rounds) next ≡ k
    next_written = written_next who (last_of first rounds) t m.grown.more CatchUp h.behind ∙ sym changes

    in_all : written_between first next ≡ n + k
    in_all =
        ap rows (drop_within (length first.before.entries + 1) t.journal.entries m.grown.more (let far = h.far in let long = length_behind who (last_of first rounds) t h.behind in omega (arith, far, long)))
        ∙ sum_by-append (λ (e : Entry). rows_written e.kind) (drop (length first.before.entries + 1) t.journal.entries) m.grown.more
        ∙ (λ i. so_far i + sym changes i)

    pub caught_more : HasCaught comes who first (n + k) (rounds ++ next ∷ []) s u
    caught_more = record {
      enters = enters_then comes who rounds (next ∷ []) s t u h.enters (enters_one comes who others CatchUp (λ (f : Seen). k ≡ changed_since f.journal.entries) t u plain);
      catches = all_append (λ (r : Step). r.kind ≡ CatchUp) rounds (next ∷ []) h.catches (refl, tt);
      behind = subst (λ (r : Step). IsBehind who r u) (sym (last_push first rounds next)) (told_behind comes who CatchUp (λ (f : Seen). k ≡ changed_since f.journal.entries) t u plain);
      caught = sym in_all ∙ ap (written_between first) (sym (last_push first rounds next));
      far = subst (λ (r : Step). length first.before.entries ≤ length r.before.entries) (sym (last_push first rounds next))
          (let far = h.far in let long = length_behind who (last_of first rounds) t h.behind in let all = length-append t.journal.entries m.grown.more in omega (arith, far, long, all));
    }
