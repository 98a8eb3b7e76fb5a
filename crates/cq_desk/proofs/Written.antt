-- What a session's write came to, in the groups as its turns found them.
use Rattle.std.proofs.Common.{◌≡◌, ◌≢◌, ◌⊎◌, inl, inr, ℕ, zero, suc, ◌+◌, ◌^◌, ◌<◌, ◌≤◌, Bool, cond, List, [], ◌∷◌, ◌++◌, length, map, refl, sym, ap, ◌∙◌, subst, arith, eq-eqb, ne_eqb, Option, Some, None, slice_get, Result, Ok, Err, IfErr}
use Rattle.std.proofs.Math.ListN.{set, take, drop}
use Rattle.std.proofs.lemmas.Bool.Decides.{eqb_tells}
use Rattle.std.proofs.lemmas.List.Sums.{sum_by-cons}
use Rattle.std.specs.Prelude.{nat_eq}
use Rattle.std.specs.List.{AllByRecursion, sum_by}
use Rattle.atomic_table.specs.Seated.{TableId}
use Rattle.cq_value.proofs.Lists.{length_map}
use Rattle.cq_tree.specs.declared.journal.EntryKind.{EntryKind}
use Rattle.cq_tree.specs.declared.journal.EntryKind.TheVariants.{Write}
use Rattle.cq_tree.specs.declared.journal.Who.{Who}
use Rattle.cq_tree.specs.declared.write.Reply.{Reply}
use Rattle.cq_tree.specs.declared.write.Reply.TheVariants.{Count, Duplicate, OutOfRange}
use Rattle.cq_tree.specs.declared.write.ShardOp.{ShardOp}
use Rattle.cq_store.specs.Stores.{StoreState}
use Rattle.cq_history.specs.Journals.{Kinds, none, in_each}
use Rattle.cq_cell.specs.Turn.{Rests}
use Rattle.cq_router.specs.declared.insertion.Part.{Part}
use Rattle.cq_reach.specs.declared.error.WriteError.{WriteError}
use Rattle.cq_reach.specs.declared.error.WriteError.TheVariants.{Ids, Worker, Memory}
use Rattle.cq_reach.specs.Seen.{Seen, seen_of, with_kinds}
use Rattle.cq_reach.specs.Outlook.{Outlook, Meets, MayFind}
use Rattle.cq_reach.specs.Writes.{InGroup, CanTake, AscendFrom, Enters as Makes, entered, IsStopped, IsRefused, IsUnmade, IsWritten, IfLost}
use Rattle.cq_reach.proofs.Growth.{got, got_below, one_item, set_there, set_beside}
use Rattle.cq_shared.specs.declared.groups.Stop.{Stop}
use Rattle.cq_shared.specs.declared.groups.Stop.TheVariants.{Refused, Failed}
use Rattle.cq_shared.specs.declared.note.Note.{Note}
use Rattle.cq_shared.specs.Terms.{Terms}
use Rattle.cq_shared.specs.Notes.{entries_in}
use Rattle.cq_shared.specs.Quiet.{IsQuiet, GoesOn, GoOn}
use Rattle.cq_shared.specs.Seen.{Pass, HasStood, Looks}
use Rattle.cq_shared.specs.Writes.{Replies, CouldBeMade, TellsError, AreOpen, InBoth, Enters, Lets, Fails, Stops, AreLeft, Ended, Wrote, IsAnswered, entry_note, failed_notes, outcome}
use Rattle.cq_shared.proofs.Frames.{at_on}
use Rattle.cq_shared.proofs.Turning.{apart, cell_at}
use Rattle.cq_desk.specs.Desks.{known_by, outlook_by, IsOwn, IsReady, HasNoted}
use Rattle.cq_desk.proofs.Meeting.{goes_nowhere, meets, known_after, with_more}
use Rattle.cq_desk.proofs.Coming.{AreApart, Came, stay, untried, one_more, may_find, all_enter}

-- ---- lists

abbrev through : {A B : Type 0} → (A → B) → Option A → Option B
through f None = None
through f (Some x) = Some (f x)

got_map : {A B : Type 0} (f : A → B) (xs : List A) (i : ℕ) → slice_get (map f xs) i ≡ through f (slice_get xs i)
got_map f [] i = refl
got_map f (x ∷ xs) zero = refl
got_map f (x ∷ xs) (suc i) = got_map f xs i

all_taken : {A : Type 0} (xs ys : List A) → take (length xs) (xs ++ ys) ≡ xs
all_taken [] ys = refl
all_taken (x ∷ xs) ys = ap (λ zs. x ∷ zs) (all_taken xs ys)

got_both : {A B : Type 0} (f : A → B) (xs ys : List A) (i : ℕ) → slice_get xs i ≡ slice_get ys i → slice_get (map f xs) i ≡ slice_get (map f ys) i
got_both f xs ys i e = got_map f xs i ∙ (ap (through f) e ∙ sym (got_map f ys i))

-- ---- parts

middle : (P : Part → Type 0) (front : List Part) (part : Part) (back : List Part) → AllByRecursion P (front ++ part ∷ back) → P part
middle P [] part back h = h.0
middle P (p ∷ front) part back h = middle P front part back h.1

-- ascending parts within a length aren't more
few_parts : (n low : ℕ) (parts : List Part) → AscendFrom low parts → AllByRecursion (λ (p : Part). p.group < n) parts → low ≤ n → length parts + low ≤ n
few_parts n low [] up within l = omega (arith, l)
few_parts n low (p ∷ parts) up within l =
    let rest = few_parts n (p.group + 1) parts up.1 within.1 (let w = within.0 in omega (arith, w)) in
    let first = up.0 in
    omega (arith, rest, first)

-- ---- counts

-- the counts of parts, with that of one part
abbrev with_count : Part → ℕ → (Part → ℕ) → Part → ℕ
with_count p k f q = cond (nat_eq q.group p.group) k (f q)

count_here : (p : Part) (k : ℕ) (f : Part → ℕ) → with_count p k f p ≡ k
count_here p k f = ap (λ (b : Bool). cond b k (f p)) (eq-eqb p.group p.group refl)

count_there : (p q : Part) (k : ℕ) (f : Part → ℕ) → p.group ≢ q.group → with_count p k f q ≡ f q
count_there p q k f n = ap (λ (b : Bool). cond b k (f q)) (ne_eqb q.group p.group (λ e. n (sym e)))

sums : (p : Part) (k : ℕ) (f : Part → ℕ) (ps : List Part) → AreApart p.group ps → sum_by (with_count p k f) ps ≡ sum_by f ps
sums p k f [] away = refl
sums p k f (q ∷ ps) away =
    let first = count_there p q k f away.0 in
    let rest = sums p k f ps away.1 in
    let a = sum_by-cons (with_count p k f) q ps in
    let b = sum_by-cons f q ps in
    omega (arith, first, rest, a, b)

entered_here : (counts : Part → ℕ) (p : Part) (ps : List Part) → entered counts ps p.group ≡ [] → entered counts (p ∷ ps) p.group ≡ Write p.op (Count (counts p)) ∷ []
entered_here counts p ps nothing = rw (eq-eqb p.group p.group refl, nothing) refl

entered_there : (counts : Part → ℕ) (p : Part) (ps : List Part) (i : ℕ) → i ≢ p.group → entered counts (p ∷ ps) i ≡ entered counts ps i
entered_there counts p ps i n = rw (ne_eqb i p.group n) refl

entered_apart : (counts : Part → ℕ) (i : ℕ) (ps : List Part) → AreApart i ps → entered counts ps i ≡ []
entered_apart counts i [] h = refl
entered_apart counts i (p ∷ ps) h = entered_there counts p ps i h.0 ∙ entered_apart counts i ps h.1

one_here : (i : ℕ) (kind : EntryKind) → in_each (i ∷ []) (λ h. kind) i ≡ kind ∷ []
one_here i kind = rw (eq-eqb i i refl) refl

one_there : (k i : ℕ) (kind : EntryKind) → i ≢ k → in_each (k ∷ []) (λ h. kind) i ≡ []
one_there k i kind n = rw (ne_eqb i k n) refl

module _ {X C : Type 0} (state : X → StoreState) (terms : C → Terms) (cells : List TableId) (sessions : List ℕ) (who : Who) (olds : List (Pass X C)) (ready : IsReady state terms cells sessions olds who.session) where
  abbrev o : Outlook
  o = outlook_by state terms sessions olds who

  -- ---- before

  -- each part can be made by the pass to its group
  pub all_open : (parts : List Part) → AllByRecursion (CanTake o) parts → AreOpen state terms who.session olds parts
  all_open [] takes = tt
  all_open (p ∷ parts) takes =
      let long = length_map (λ (r : Pass X C). known_by r) olds in
      let within = takes.0.within in
      let a = got olds p.group (omega (arith, within, long)) in
      let own = ready.own p.group a.0 a.1 in (
        record {
          item = a.0;
          there = a.1;
          holds = record {
            rests = own.rests;
            own = own.numbered;
            takes = record {
              may = λ reply. takes.0.allowed reply a.0 a.1;
              takes = λ x f. takes.0.takes (seen_of x.group) (meets state terms cells sessions olds who p.group a.0 ready a.1 x f);
            };
          };
        },
        all_open parts takes.1,
      )

  pub few_open : (parts : List Part) → AscendFrom 0 parts → AllByRecursion (CanTake o) parts → length o.known < 2 ^ 32 → length parts < 2 ^ 32
  few_open parts up takes few = let all = few_parts (length o.known) 0 parts up (within parts takes) (omega arith) in omega (arith, all, few)
    where
      within : (ps : List Part) → AllByRecursion (CanTake o) ps → AllByRecursion (λ (p : Part). p.group < length o.known) ps
      within [] h = tt
      within (p ∷ ps) h = (h.0.within, within ps h.1)

  module _ (news : List (Pass X C)) where
    abbrev now : List Seen
    now = map (λ (r : Pass X C). known_by r) news

    -- ---- one part's group

    -- a visit found the group of a part, and made these entries
    record Visited (p : Part) (kinds : List EntryKind) (fact : Seen → Type 0) : Type 0 where
      seen : Seen
      met : Meets o p.group seen
      now : slice_get (map (λ (r : Pass X C). known_by r) news) p.group ≡ Some (with_kinds who kinds seen)
      so : fact seen

    visited : (p : Part) (a b : Pass X C) (notes : List Note) (kinds : List EntryKind) (fact : Seen → Type 0) → entries_in notes ≡ map (λ (k : EntryKind). record { who = who; kind = k }) kinds →
        slice_get olds p.group ≡ Some a → slice_get news p.group ≡ Some b → Looks state terms a.place notes b.place fact → Visited p kinds fact
    visited p a b notes kinds fact same was is l = record {
      seen = seen_of l.shard.group;
      met = meets state terms cells sessions olds who p.group a ready was l.shard l.finds;
      now = cell_at (λ (r : Pass X C). known_by r) news p.group b is ∙ ap Some (known_after state terms a.place b.place notes fact l ∙ ap (λ es. with_more es (seen_of l.shard.group)) same);
      so = l.so;
    }

    was_entered : (p : Part) (reply : Reply) → InBoth olds news p.group (Enters state terms who p.op reply) → Visited p (Write p.op reply ∷ []) (Replies p.op reply)
    was_entered p reply b = visited p b.before b.after (entry_note who p.op reply ∷ []) (Write p.op reply ∷ []) (Replies p.op reply) refl b.was b.is b.holds.looks

    was_let : (p : Part) → InBoth olds news p.group (Lets state terms who p.op) → Visited p [] (CouldBeMade p.op)
    was_let p b = visited p b.before b.after [] [] (CouldBeMade p.op) refl b.was b.is b.holds.looks

    no_entries : (e : WriteError) → entries_in (failed_notes who e) ≡ []
    no_entries Ids = refl
    no_entries (Worker f) = refl
    no_entries Memory = refl

    has_failed : (p : Part) (e : WriteError) → InBoth olds news p.group (Fails state terms who p.op e) → Visited p [] (TellsError p.op e)
    has_failed p e b = visited p b.before b.after (failed_notes who e) [] (TellsError p.op e) (no_entries e) b.was b.is b.holds.looks

    -- ---- all were made

    abbrev AllMade : (Part → ℕ) → List Part → Type 0
    AllMade counts parts = AllByRecursion (λ (p : Part). Visited p (Write p.op (Count (counts p)) ∷ []) (Replies p.op (Count (counts p)))) parts

    recounted : (p : Part) (k : ℕ) (f : Part → ℕ) (ps : List Part) → AreApart p.group ps → AllMade f ps → AllMade (with_count p k f) ps
    recounted p k f [] away h = tt
    recounted p k f (q ∷ ps) away h = (
      subst (λ n. Visited q (Write q.op (Count n) ∷ []) (Replies q.op (Count n))) (sym (count_there p q k f away.0)) h.0,
      recounted p k f ps away.1 h.1,
    )

    counted : (low : ℕ) (parts : List Part) (n : ℕ) → AscendFrom low parts → Ended state terms who olds news parts (Ok n) → (counts : Part → ℕ) × (n ≡ sum_by counts parts) × AllMade counts parts
    counted low [] n up h = ((λ p. 0), h, tt)
    counted low (p ∷ parts) n up h =
        let k = h.0 in
        let rest = counted (p.group + 1) parts h.1 up.1 h.4 in
        let away = apart p.group parts up.1 in
        let here = count_here p k rest.0 in
        let total = sum_by-cons (with_count p k rest.0) p parts in
        let more = sums p k rest.0 parts away in
        let sum = h.2 in
        let others = rest.1 in (
          with_count p k rest.0,
          omega (arith, sum, others, total, more, here),
          (
            subst (λ m. Visited p (Write p.op (Count m) ∷ []) (Replies p.op (Count m))) (sym here) (was_entered p (Count k) h.3),
            recounted p k rest.0 parts away rest.2,
          ),
        )

    made_came : (counts : Part → ℕ) (low : ℕ) (parts : List Part) → AscendFrom low parts → AllMade counts parts →
        (found : List Seen) × Came who o now parts (entered counts parts) found × AllByRecursion (λ (p : Part). InGroup found p (Replies p.op (Count (counts p)))) parts
    made_came counts low [] up h = (o.known, untried who o now [] (entered counts []) (λ i. refl) tt, tt)
    made_came counts low (p ∷ parts) up h =
        let rest = made_came counts (p.group + 1) parts up.1 h.1 in
        let away = apart p.group parts up.1 in
        let v = h.0 in
        let below = got_below o.known p.group v.met.was v.met.there in
        let long : length rest.0 ≡ length o.known = rest.1.count in (
          set rest.0 p.group v.seen,
          one_more who o now p parts (entered counts parts) (entered counts (p ∷ parts)) rest.0 v.seen rest.1 v.met
              (subst (λ (ks : List EntryKind). slice_get now p.group ≡ Some (with_kinds who ks v.seen)) (sym (entered_here counts p parts (entered_apart counts p.group parts away))) v.now)
              (λ i n. entered_there counts p parts i n),
          (
            record { group = v.seen; there = set_there rest.0 p.group v.seen (omega (arith, below, long)); holds = v.so },
            stay p.group v.seen rest.0 (λ (q : Part). Replies q.op (Count (counts q))) parts away rest.2,
          ),
        )

    -- ---- one part stopped the write

    record Stopped (parts : List Part) (e : Stop) : Type 0 where
      front : List Part
      part : Part
      back : List Part
      all : parts ≡ front ++ part ∷ back
      lets : AllByRecursion (λ (p : Part). Visited p [] (CouldBeMade p.op)) front
      stops : InBoth olds news part.group (Stops state terms who part.op e)
      left : AreLeft state terms who olds news back

    stopped : (parts : List Part) (e : Stop) → Ended state terms who olds news parts (Err e) → Stopped parts e
    stopped [] e h = absurd h
    stopped (p ∷ parts) e h = elim h [
      | inl a ↦
          let s = stopped parts e a.1 in
          record { front = p ∷ s.front; part = s.part; back = s.back; all = ap (λ ps. p ∷ ps) s.all; lets = (was_let p a.0, s.lets); stops = s.stops; left = s.left }
      | inr b ↦ record { front = []; part = p; back = parts; all = refl; lets = tt; stops = b.0; left = b.1 }
    ]

    known_left : (parts : List Part) → AreLeft state terms who olds news parts → AllByRecursion (λ (p : Part). slice_get now p.group ≡ slice_get o.known p.group) parts
    known_left [] h = tt
    known_left (p ∷ parts) h = (got_both (λ (r : Pass X C). known_by r) news olds p.group h.0, known_left parts h.1)

    module _ (kinds : Kinds) (part : Part) (others : (i : ℕ) → i ≢ part.group → kinds i ≡ []) where
      -- the parts before it, which could be made
      front_came : (low : ℕ) (front back : List Part) (seen : Seen) (found : List Seen) → AscendFrom low (front ++ part ∷ back) → Came who o now (part ∷ back) kinds found → slice_get found part.group ≡ Some seen →
          AllByRecursion (λ (p : Part). Visited p [] (CouldBeMade p.op)) front →
          (all : List Seen) × Came who o now (front ++ part ∷ back) kinds all × (slice_get all part.group ≡ Some seen) × AllByRecursion (λ (p : Part). InGroup all p (CouldBeMade p.op)) front
      front_came low [] back seen found up c there lets = (found, c, there, tt)
      front_came low (p ∷ front) back seen found up c there lets =
          let rest = front_came (p.group + 1) front back seen found up.1 c there lets.1 in
          let away = apart p.group (front ++ part ∷ back) up.1 in
          let not_it : p.group ≢ part.group = middle (λ (q : Part). p.group ≢ q.group) front part back away in
          let v = lets.0 in
          let below = got_below o.known p.group v.met.was v.met.there in
          let long : length rest.0 ≡ length o.known = rest.1.count in (
            set rest.0 p.group v.seen,
            one_more who o now p (front ++ part ∷ back) kinds kinds rest.0 v.seen rest.1 v.met (subst (λ (ks : List EntryKind). slice_get now p.group ≡ Some (with_kinds who ks v.seen)) (sym (others p.group not_it)) v.now) (λ i n. refl),
            set_beside rest.0 p.group part.group v.seen (λ e. not_it (sym e)) ∙ rest.2,
            (
              record { group = v.seen; there = set_there rest.0 p.group v.seen (omega (arith, below, long)); holds = v.so },
              stay p.group v.seen rest.0 (λ (q : Part). CouldBeMade q.op) front (before p.group front back away) rest.3,
            ),
          )
        where
          before : (k : ℕ) (ps qs : List Part) → AreApart k (ps ++ part ∷ qs) → AreApart k ps
          before k [] qs h = tt
          before k (q ∷ ps) qs h = (h.0, before k ps qs h.1)

      -- what the write found, where this part stopped it
      record Halted (parts : List Part) (fact : Seen → Type 0) : Type 0 where
        found : List Seen
        came : Came who o now parts kinds found
        stopped : IsStopped parts found part
        so : InGroup found part fact

      halted : (parts front back : List Part) → parts ≡ front ++ part ∷ back → AscendFrom 0 parts → AllByRecursion (λ (p : Part). Visited p [] (CouldBeMade p.op)) front → AreLeft state terms who olds news back →
          (fact : Seen → Type 0) → Visited part (kinds part.group) fact → Halted parts fact
      halted parts front back all up lets left fact v =
          let below = got_below o.known part.group v.met.was v.met.there in
          let first = set_there o.known part.group v.seen below in
          let c = one_more who o now part back none kinds o.known v.seen (untried who o now back none (λ i. refl) (known_left back left)) v.met v.now (λ i n. others i n) in
          let r = front_came 0 front back v.seen (set o.known part.group v.seen) (subst (λ (ps : List Part). AscendFrom 0 ps) all up) c first lets in
          record {
            found = r.0;
            came = subst (λ (ps : List Part). Came who o now ps kinds r.0) (sym all) r.1;
            stopped = record { front = front; back = back; all = all; ready = r.3 };
            so = record { group = v.seen; there = r.2; holds = v.so };
          }

    -- ---- the answer

    abbrev Found : List Part → Result Reply WriteError → Type 0
    Found parts r = (found : List Seen) × MayFind o found × IsWritten who parts found now r

    module _ (parts : List Part) (up : AscendFrom 0 parts) where
      module _ (r : Result ℕ Stop) (w : Wrote state terms who olds news parts r) where
        as_many : length now ≡ length o.known
        as_many = length_map (λ (r : Pass X C). known_by r) news ∙ (w.count ∙ sym (length_map (λ (r : Pass X C). known_by r) olds))

        beside : (i : ℕ) → AreApart i parts → slice_get now i ≡ slice_get o.known i
        beside i away = got_both (λ (r : Pass X C). known_by r) news olds i (w.others i away)

        entering : (kinds : Kinds) (found : List Seen) → Came who o now parts kinds found → Makes who kinds found now
        entering kinds found c = all_enter who o now parts kinds found c as_many beside

      was_made : (n : ℕ) → Wrote state terms who olds news parts (Ok n) → Found parts (Ok (Count n))
      was_made n w =
          let c = counted 0 parts n up w.ended in
          let m = made_came c.0 0 parts up c.2 in (
            m.0,
            may_find who o now parts (entered c.0 parts) m.0 m.1,
            record { counts = c.0; sum = c.1; replied = m.2; enters = entering (Ok n) w (entered c.0 parts) m.0 m.1 },
          )

      was_refused : (reply : Reply) → Wrote state terms who olds news parts (Err (Refused reply)) → (found : List Seen) × MayFind o found × IsRefused who parts found now reply
      was_refused reply w =
          let s = stopped parts (Refused reply) w.ended in
          let p = s.part in
          let b = s.stops in
          let kinds : Kinds = in_each (p.group ∷ []) (λ h. Write p.op reply) in
          let v = visited p b.before b.after (entry_note who p.op reply ∷ []) (Write p.op reply ∷ []) (Replies p.op reply) refl b.was b.is b.holds.enters.looks in
          let h = halted kinds p (λ i n. one_there p.group i (Write p.op reply) n) parts s.front s.back s.all up s.lets s.left (Replies p.op reply) (subst (λ (ks : List EntryKind). Visited p ks (Replies p.op reply)) (sym (one_here p.group (Write p.op reply))) v) in (
            h.found,
            may_find who o now parts kinds h.found h.came,
            record { part = p; stopped = h.stopped; replied = h.so; enters = entering (Err (Refused reply)) w kinds h.found h.came },
          )

      was_unmade : (e : WriteError) → Wrote state terms who olds news parts (Err (Failed e)) → (found : List Seen) × MayFind o found × IsUnmade who parts found now (λ p. TellsError p.op e)
      was_unmade e w =
          let s = stopped parts (Failed e) w.ended in
          let p = s.part in
          let h = halted none p (λ i n. refl) parts s.front s.back s.all up s.lets s.left (TellsError p.op e) (has_failed p e s.stops) in (
            h.found,
            may_find who o now parts none h.found h.came,
            record { part = p; stopped = h.stopped; so = h.so; enters = entering (Err (Failed e)) w none h.found h.came },
          )

      -- what the write is answered
      answered : (r : Result Reply WriteError) → IsAnswered state terms who olds news parts r → Found parts r
      answered (Ok (Count n)) w = was_made n w
      answered (Ok Duplicate) w = was_refused Duplicate w
      answered (Ok OutOfRange) w = was_refused OutOfRange w
      answered (Err Ids) w = was_unmade Ids w
      answered (Err (Worker f)) w = was_unmade (Worker f) w
      answered (Err Memory) w = let u = was_unmade Memory w in (u.0, u.1, u.2.enters)

    -- ---- the passes

    module _ (parts : List Part) where
      -- the store that an error names failed
      lost : (r : Result Reply WriteError) → IsAnswered state terms who olds news parts r → IfErr r (IfLost (λ f. (group : ℕ) × HasNoted who group olds news f))
      lost (Ok reply) w = tt
      lost (Err Ids) w = tt
      lost (Err (Worker f)) w =
          let s = stopped parts (Failed (Worker f)) w.ended in
          let b = s.stops in
          (s.part.group, record { before = b.before; after = b.after; was = b.was; is = b.is; holds = b.holds.looks.mine })
      lost (Err Memory) w = tt

      -- a pass had a turn, noted reads, writes and failures alone, and rests
      record Served (p q : Pass X C) : Type 0 where
        rests : Rests q.place
        goes_on : GoesOn p.place q.place
        stood : HasStood state terms q.place

      looked : (a b : Pass X C) (notes : List Note) (fact : Seen → Type 0) → AllByRecursion IsQuiet notes → Rests b.place → Looks state terms a.place notes b.place fact → Served a b
      looked a b notes fact quiet rests l = record { rests = rests; goes_on = record { same = l.same; notes = notes; mine = l.mine; quiet = quiet }; stood = l.stood }

      quiet_error : (e : WriteError) → AllByRecursion IsQuiet (failed_notes who e)
      quiet_error Ids = tt
      quiet_error (Worker f) = (tt, tt)
      quiet_error Memory = tt

      enter_served : (op : ShardOp) (reply : Reply) (a b : Pass X C) → Enters state terms who op reply a b → Served a b
      enter_served op reply a b h = looked a b (entry_note who op reply ∷ []) (Replies op reply) (tt, tt) h.rests h.looks

      let_served : (op : ShardOp) (a b : Pass X C) → Lets state terms who op a b → Served a b
      let_served op a b h = looked a b [] (CouldBeMade op) tt h.rests h.looks

      stop_served : (op : ShardOp) (e : Stop) (a b : Pass X C) → Stops state terms who op e a b → Served a b
      stop_served op (Refused reply) a b h = enter_served op reply a b h.enters
      stop_served op (Failed error) a b h = looked a b (failed_notes who error) (TellsError op error) (quiet_error error) h.rests h.looks

      -- a pass is of no part, or as it was, or had a turn
      abbrev IsDone : List Part → ℕ → Pass X C → Pass X C → Type 0
      IsDone ps g p q = AreApart g ps ⊎ ((slice_get news g ≡ slice_get olds g) ⊎ Served p q)

      one_done : (P : Pass X C → Pass X C → Type 0) (p : Part) (ps : List Part) → InBoth olds news p.group P → ((a b : Pass X C) → P a b → Served a b) → (g : ℕ) (a q : Pass X C) → slice_get olds g ≡ Some a → slice_get news g ≡ Some q → IsDone ps g a q → IsDone (p ∷ ps) g a q
      one_done P p ps b f g a q was is rest = elim (eqb_tells g p.group) [
        | inl y ↦
            let first : b.before ≡ a = one_item b.before a (sym b.was ∙ subst (λ n. slice_get olds n ≡ Some a) y.1 was) in
            let last : b.after ≡ q = one_item b.after q (sym b.is ∙ subst (λ n. slice_get news n ≡ Some q) y.1 is) in
            inr (inr (subst (λ (r : Pass X C). Served a r) last (subst (λ (r : Pass X C). Served r b.after) first (f b.before b.after b.holds))))
        | inr z ↦ elim rest [ inl x ↦ inl (z.1, x) | inr x ↦ inr x ]
      ]

      left_done : (ps : List Part) (g : ℕ) (a q : Pass X C) → AreLeft state terms who olds news ps → IsDone ps g a q
      left_done [] g a q h = inl tt
      left_done (p ∷ ps) g a q h = elim (eqb_tells g p.group) [
        | inl y ↦ inr (inl (subst (λ n. slice_get news n ≡ slice_get olds n) (sym y.1) h.0))
        | inr z ↦ elim (left_done ps g a q h.1) [ inl x ↦ inl (z.1, x) | inr x ↦ inr x ]
      ]

      done : (ps : List Part) (r : Result ℕ Stop) → Ended state terms who olds news ps r → (g : ℕ) (a q : Pass X C) → slice_get olds g ≡ Some a → slice_get news g ≡ Some q → IsDone ps g a q
      done [] (Ok n) h g a q was is = inl tt
      done [] (Err e) h g a q was is = absurd h
      done (p ∷ ps) (Ok n) h g a q was is = one_done (Enters state terms who p.op (Count h.0)) p ps h.3 (enter_served p.op (Count h.0)) g a q was is (done ps (Ok h.1) h.4 g a q was is)
      done (p ∷ ps) (Err e) h g a q was is = elim h [
        | inl x ↦ one_done (Lets state terms who p.op) p ps x.0 (let_served p.op) g a q was is (done ps (Err e) x.1 g a q was is)
        | inr y ↦ one_done (Stops state terms who p.op e) p ps y.0 (stop_served p.op e) g a q was is (left_done ps g a q y.1)
      ]

      module _ (r : Result ℕ Stop) (w : Wrote state terms who olds news parts r) where
        -- each pass was served or is as it was
        each_served : (g : ℕ) (p q : Pass X C) → slice_get olds g ≡ Some p → slice_get news g ≡ Some q → Served p q
        each_served g p q was is = elim (done parts r w.ended g p q was is) [ inl x ↦ still (w.others g x) | inr y ↦ elim y [ inl u ↦ still u | inr v ↦ v ] ]
          where
            own : IsOwn state terms sessions who.session p.place
            own = ready.own g p was

            still : slice_get news g ≡ slice_get olds g → Served p q
            still e = subst (λ (t : Pass X C). Served p t) (one_item p q (sym was ∙ (sym e ∙ is))) (record { rests = own.rests; goes_on = goes_nowhere p.place; stood = own.stood })

        go_on : GoOn olds news
        go_on = record { count = w.count; each = λ g p q was is. (each_served g p q was is).goes_on }

        ready_again : IsReady state terms cells sessions news who.session
        ready_again = record {
          at = at_on cells olds news w.count w.same ready.at;
          own = λ g q is.
              let low = got_below news g q is in
              let count = w.count in
              let a = got olds g (omega (arith, low, count)) in
              let own = ready.own g a.0 a.1 in
              let same = w.same g a.0 q a.1 is in
              let s = each_served g a.0 q a.1 is in
              record { rests = s.rests; numbered = own.numbered ∙ sym same.3; block = same.4 ∙ own.block; stood = s.stood };
        }

    -- ---- the passes in their list again

    module _ (n : ℕ) (long : length olds ≡ n) (parts : List Part) (r : Result Reply WriteError) (w : IsAnswered state terms who olds news parts r) where
      abbrev again : List (Pass X C)
      again = take n (news ++ drop (length news) olds)

      same_again : again ≡ news
      same_again = ap (λ k. take k (news ++ drop (length news) olds)) (sym (w.count ∙ long)) ∙ all_taken news (drop (length news) olds)

      pub ready_back : IsReady state terms cells sessions again who.session
      ready_back = subst (λ (l : List (Pass X C)). IsReady state terms cells sessions l who.session) (sym same_again) (ready_again parts (outcome r) w)

      pub goes_back : GoOn olds again
      goes_back = subst (λ (l : List (Pass X C)). GoOn olds l) (sym same_again) (go_on parts (outcome r) w)

      pub lost_back : IfErr r (IfLost (λ f. (group : ℕ) × HasNoted who group olds again f))
      lost_back = subst (λ (l : List (Pass X C)). IfErr r (IfLost (λ f. (group : ℕ) × HasNoted who group olds l f))) (sym same_again) (lost parts r w)

      pub written_back : AscendFrom 0 parts → (found : List Seen) × MayFind o found × IsWritten who parts found (map (λ (p : Pass X C). known_by p) again) r
      written_back up = subst (λ (l : List (Pass X C)). (found : List Seen) × MayFind o found × IsWritten who parts found (map (λ (p : Pass X C). known_by p) l) r) (sym same_again) (answered parts up r w)
