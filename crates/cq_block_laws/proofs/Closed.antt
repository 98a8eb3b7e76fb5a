-- A block over groups and workers is closed behind what its sessions did.
use Rattle.std.proofs.Common.{◌≡◌, ◌<◌, inl, inr, ℕ, List, [], ◌∷◌, ◌++◌, length, map, refl, sym, ◌∙◌, ap, subst, arith, Some}
use Rattle.std.specs.Prelude.{slice_get, slice_index_or}
use Rattle.std.specs.List.{AllByRecursion}
use Rattle.cq_value.specs.Tables.{empty_table}
use Rattle.cq_value.proofs.Lists.{got, length_map}
use Rattle.cq_value.proofs.Truths.{below_or_not}
use Rattle.cq_tree.specs.declared.journal.EntryKind.{EntryKind}
use Rattle.cq_journal.specs.Records.{Journal}
use Rattle.cq_store.specs.Stores.{StoreState}
use Rattle.cq_store.specs.declared.worker.Worker.{Worker}
use Rattle.cq_group.specs.declared.group.GroupState.{GroupState}
use Rattle.cq_group.specs.Groups.{entries_of, journal_of}
use Rattle.cq_group.specs.Resting.{journals_of}
use Rattle.cq_history.specs.Run.{Run, Rules}
use Rattle.cq_history.specs.Journals.{journal_in}
use Rattle.cq_history.proofs.Entries.{index_beyond, with_list}
use Rattle.cq_cell.specs.Lists.{NotIn, own, AllThree}
use Rattle.cq_cell.specs.Passes.{IsOver}
use Rattle.cq_cell.proofs.Zips.{zip_long}
use Rattle.cq_shared.specs.declared.errand.Errand.{Errand}
use Rattle.cq_shared.specs.declared.note.Note.{Note}
use Rattle.cq_shared.specs.Terms.{Terms}
use Rattle.cq_shared.specs.Errands.{sent_by}
use Rattle.cq_shared.specs.Notes.{who_of, entries_in, Stands}
use Rattle.cq_shared.specs.Seen.{Pass, seen_since, seen_by}
use Rattle.cq_block_laws.specs.Serving.{Opening, AreAnswered}
use Rattle.cq_block_laws.specs.Closing.{Session, History, AreNoted, HasSeen, IsServed, IsClosed}
use Rattle.cq_block_laws.specs.Sessions.{Hands, journals_by, news_of, errands_by, known_by, HasRun, HasMade, RanOver}
use Rattle.cq_block_laws.specs.Laws.{HaveFree, BlockCloses}
use Rattle.cq_block_laws.proofs.Places.{got_beyond, index_got, index_map}
use Rattle.cq_block_laws.proofs.Starting.{known_first, free_at_first}
use Rattle.cq_block_laws.proofs.Histories.{are_answered, as_many, histories, histories_count, errand_histories, errand_count, IsRow, rows, history_ran, IsStall, stall_at, passed_stall}

module _ {X C : Type 0} where
  -- the notes that passes have seen
  abbrev news_by : List (Pass X C) → List (List Note)
  news_by passes = map (λ (p : Pass X C). p.place.me.0.news) passes

-- nothing was seen of nothing
seen_none : {N : Type 0} (who : N → ℕ) (n : ℕ) (all seen : List N) → all ≡ [] → seen ≡ [] → HasSeen who n all seen
seen_none who n all seen a s = subst (λ v. HasSeen who n v seen) (sym a) (subst (HasSeen who n []) (sym s) (record { begins = ([], refl); own = refl }))

-- the journal of a group that stands for these notes
stands_journal : {X : Type 0} (state : X → StoreState) (allowed : EntryKind → Type 0) (g x : GroupState X) (notes : List Note) → Stands state allowed g x notes → journal_of x ≡ with_list (journal_of g) (entries_of g ++ entries_in notes)
stands_journal state allowed g x notes s = λ i. record { number = s.remains.number i; opening = s.remains.opening i; base = λ table. empty_table; entries = s.journal i }

module _ {X C : Type 0} (state : X → StoreState) (terms : C → Terms) (rules : Rules) (run : Run) (nodes : ℕ) (o : Opening) (opened : List (GroupState X)) (workers : List (Worker X)) (sessions : List Session) (closed : List (GroupState X)) (returned : List (Worker X))
    (h : HasRun state terms rules nodes o opened workers sessions closed returned) (of : run.workers ≡ nodes) (journals : o.journals ≡ journals_of opened) (free : HaveFree run o workers) where
  abbrev ended : List (List Note)
  ended = histories state terms rules nodes o opened workers sessions closed returned h

  abbrev sent : List (List Errand)
  sent = errand_histories state terms rules nodes o opened workers sessions closed returned h

  sent_count : length sent ≡ length workers
  sent_count = errand_count state terms rules nodes o opened workers sessions closed returned h

  ended_count : length ended ≡ length opened
  ended_count = histories_count state terms rules nodes o opened workers sessions closed returned h

  abbrev history : History
  history = record { notes = λ g. slice_index_or ended g []; errands = λ at. slice_index_or sent at [] }

  count : length o.journals ≡ length opened
  count = ap length journals ∙ length_map journal_of opened

  -- a group at its place, as it was and as it is
  record IsThere (g : ℕ) : Type 0 where
    was : GroupState X
    is : GroupState X
    old : slice_get opened g ≡ Some was
    new : slice_get closed g ≡ Some is
    ran : RanOver state (terms h.shared_by) sessions h.firsts h.lasts g was is (slice_index_or ended g [])

  there : (g : ℕ) → g < length opened → IsThere g
  there g l =
      let many = as_many state terms rules nodes o opened workers sessions closed returned h in
      let e = got opened g l in
      let f = got closed g (omega (arith, l, many)) in
      let n = got ended g (omega (arith, l, ended_count)) in record {
        was = e.0;
        is = f.0;
        old = e.1;
        new = f.1;
        ran = subst (λ v. RanOver state (terms h.shared_by) sessions h.firsts h.lasts g e.0 f.0 v) (sym (index_got ended g n.0 [] n.1))
            (history_ran state terms rules nodes o opened workers sessions closed returned h g e.0 f.0 n.0 e.1 f.1 n.1);
      }

  -- its journal as the block was opened
  old_journal : (g : ℕ) (t : IsThere g) → journal_in o.journals g ≡ journal_of t.was
  old_journal g t = ap (λ js. journal_in js g) journals ∙ index_map journal_of opened g t.was _ t.old

  noted : AreNoted o.journals history.notes (journals_of closed)
  noted = record { count = length_map journal_of closed ∙ as_many state terms rules nodes o opened workers sessions closed returned h ∙ sym count; each = each }
    where
      each : (g : ℕ) → g < length o.journals → journal_in (journals_of closed) g ≡ with_list (journal_in o.journals g) ((journal_in o.journals g).entries ++ entries_in (slice_index_or ended g []))
      each g l =
          let t = there g (omega (arith, l, count)) in
          index_map journal_of closed g t.is _ t.new
          ∙ stands_journal state ((terms h.shared_by).allows t.was.journal.group) t.was t.is (slice_index_or ended g []) t.ran.stands
          ∙ ap (λ (j : Journal). with_list j (j.entries ++ entries_in (slice_index_or ended g []))) (sym (old_journal g t))

  -- others than the sessions noted nothing
  none_else : (g n : ℕ) → NotIn n o.sessions → own who_of n (slice_index_or ended g []) ≡ []
  none_else g n out = elim (below_or_not g (length opened)) [
    | inl l ↦ (there g l.1).ran.others n (subst (NotIn n) h.numbers out)
    | inr m ↦ (let far = m.1 in ap (own who_of n) (index_beyond ended g [] (omega (arith, far, ended_count))))
  ]

  -- the worker at a place
  abbrev IsStallAt : ℕ → Type 0
  IsStallAt at = (w : Worker X) × (slice_get workers at ≡ Some w) × IsStall state terms rules nodes o opened workers sessions closed returned h at w

  stall : (at : ℕ) → at < length workers → IsStallAt at
  stall at l = (let w = got workers at l in (w.0, w.1, stall_at state terms rules nodes o opened workers sessions closed returned h at w.0 w.1))

  its_notes : (at : ℕ) (c : IsStallAt at) → slice_index_or sent at [] ≡ c.2.notes
  its_notes at c = index_got sent at c.2.notes [] c.2.history

  none_sent : (at n : ℕ) → NotIn n o.sessions → own sent_by n (slice_index_or sent at []) ≡ []
  none_sent at n out = elim (below_or_not at (length workers)) [
    | inl l ↦ (let c = stall at l.1 in ap (own sent_by n) (its_notes at c) ∙ c.2.others n out)
    | inr m ↦ (let far = m.1 in ap (own sent_by n) (index_beyond sent at [] (omega (arith, far, sent_count))))
  ]

  -- ---- a session

  module _ (s : Session) (first last : Hands X C) (r : IsRow state terms rules nodes o opened workers sessions closed returned h s first last)
      (made : (g : ℕ) (t : IsThere g) → HasMade g t.was (slice_index_or ended g []) s first last) where
    last_count : length last.passes ≡ length opened
    last_count = zip_long (IsOver who_of) ended last.passes r.over ∙ ended_count

    last_benches : length last.benches ≡ length workers
    last_benches = zip_long (IsOver sent_by) sent last.benches r.over_benches ∙ sent_count

    abbrev seen : ℕ → List Note
    seen g = slice_index_or (news_by last.passes) g []

    knows : AreNoted o.journals seen (journals_by last.passes)
    knows = record { count = length_map (λ (p : Pass X C). (seen_by p.place).journal) last.passes ∙ last_count ∙ sym count; each = each }
      where
        each : (g : ℕ) → g < length o.journals → journal_in (journals_by last.passes) g ≡ with_list (journal_in o.journals g) ((journal_in o.journals g).entries ++ entries_in (seen g))
        each g l =
            let t = there g (omega (arith, l, count)) in
            let m = made g t in
            let its : seen g ≡ m.last.place.me.0.news = index_map (λ (p : Pass X C). p.place.me.0.news) last.passes g m.last [] m.is in
            index_map (λ (p : Pass X C). (seen_by p.place).journal) last.passes g m.last _ m.is
            ∙ (λ i. (seen_since (m.origin i) (sym its i)).journal)
            ∙ ap (λ (j : Journal). with_list j (j.entries ++ entries_in (seen g))) (sym (old_journal g t))

    has_seen : (g : ℕ) → HasSeen who_of s.number (slice_index_or ended g []) (seen g)
    has_seen g = elim (below_or_not g (length opened)) [
      | inl l ↦
          let m = made g (there g l.1) in
          let its : seen g ≡ m.last.place.me.0.news = index_map (λ (p : Pass X C). p.place.me.0.news) last.passes g m.last [] m.is in
          subst (HasSeen who_of s.number (slice_index_or ended g [])) (sym its) m.seen
      | inr m ↦
          let far = m.1 in
          let none_seen : seen g ≡ [] =
          index_beyond (news_by last.passes) g [] (let long : length (news_by last.passes) ≡ length last.passes = length_map (λ (p : Pass X C). p.place.me.0.news) last.passes in omega (arith, far, long, last_count)) in
          seen_none who_of s.number (slice_index_or ended g []) (seen g) (index_beyond ended g [] (omega (arith, far, ended_count))) none_seen
    ]

    -- and of the workers' notes
    has_seen_sent : (at : ℕ) → HasSeen sent_by s.number (slice_index_or sent at []) (errands_by last.benches at)
    has_seen_sent at = elim (below_or_not at (length workers)) [
      | inl l ↦
          let c = stall at l.1 in
          let p = passed_stall state terms rules nodes o opened workers sessions closed returned h at c.0 c.2 s first last r in
          subst (λ v. HasSeen sent_by s.number v (errands_by last.benches at)) (sym (its_notes at c)) (subst (HasSeen sent_by s.number c.2.notes) (sym (ap news_of p.is)) p.seen)
      | inr m ↦
          let far = m.1 in
          seen_none sent_by s.number (slice_index_or sent at []) (errands_by last.benches at) (index_beyond sent at [] (omega (arith, far, sent_count)))
          (ap news_of (got_beyond last.benches at (omega (arith, far, last_benches))))
    ]

    is_served : IsServed rules run o history s
    is_served = record {
      known = known_by last;
      answered = subst (λ v. AreAnswered rules run o v s.answers (known_by last)) (known_first state terms rules nodes o opened workers sessions closed returned h s first last r journals)
          (are_answered state terms rules nodes o run of first s.answers last (free_at_first state terms rules nodes o opened workers sessions closed returned h s first last r run free) r.served);
      seen = seen;
      journals = knows;
      groups = has_seen;
      workers = has_seen_sent;
    }

  each_served : (ss : List Session) (fs ls : List (Hands X C)) → AllThree (IsRow state terms rules nodes o opened workers sessions closed returned h) ss fs ls → ((g : ℕ) (t : IsThere g) → AllThree (HasMade g t.was (slice_index_or ended g [])) ss fs ls) →
      AllByRecursion (IsServed rules run o history) ss
  each_served [] fs ls r m = tt
  each_served (s ∷ ss) [] ls r m = absurd r
  each_served (s ∷ ss) (f ∷ fs) [] r m = absurd r
  each_served (s ∷ ss) (f ∷ fs) (l ∷ ls) r m = (is_served s f l r.0 (λ g t. (m g t).0), each_served ss fs ls r.1 (λ g t. (m g t).1))

  is_closed : IsClosed rules run o history sessions (journals_of closed)
  is_closed = record {
    numbers = h.numbers;
    served = each_served sessions h.firsts h.lasts (rows state terms rules nodes o opened workers sessions closed returned h) (λ g t. t.ran.made);
    journals = noted;
    groups = none_else;
    workers = none_sent;
  }

pub block_closes : {X C : Type 0} (state : X → StoreState) (terms : C → Terms) → BlockCloses state C terms
block_closes state terms rules run nodes o opened workers sessions closed returned h of journals free =
    (history state terms rules run nodes o opened workers sessions closed returned h of journals free, is_closed state terms rules run nodes o opened workers sessions closed returned h of journals free)
