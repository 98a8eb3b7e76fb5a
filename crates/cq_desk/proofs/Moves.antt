-- What the calls of a move come to, by turns of the group's pass.
use Rattle.std.proofs.Common.{◌≡◌, inl, inr, ℕ, ◌<◌, false, List, [], ◌∷◌, ◌++◌, map, refl, sym, ap, ◌∙◌, subst, arith, Some, slice_get, get_or, Result, Ok, Err, IfOk, IfErr}
use Rattle.std.proofs.Math.ListN.{set}
use Rattle.std.proofs.lemmas.List.{length-set}
use Rattle.std.proofs.lemmas.Bool.Decides.{eqb_tells}
use Rattle.std.specs.Prelude.{nat_eq}
use Rattle.std.specs.List.{AllByRecursion}
use Rattle.atomic_table.specs.Seated.{TableId}
use Rattle.cq_tree.specs.declared.journal.Entry.{Entry}
use Rattle.cq_tree.specs.declared.journal.EntryKind.{EntryKind}
use Rattle.cq_tree.specs.declared.journal.EntryKind.TheVariants.{MoveStart}
use Rattle.cq_tree.specs.declared.journal.Who.{Who}
use Rattle.cq_journal.specs.Stations.{node_of}
use Rattle.cq_store.specs.Stores.{StoreState}
use Rattle.cq_group.specs.declared.start.MoveRefused.{MoveRefused}
use Rattle.cq_group.specs.declared.start.MoveWhy.{MoveWhy}
use Rattle.cq_group.specs.declared.start.MoveWhy.TheVariants as why
use Rattle.cq_group.specs.Moves.{is_of_move}
use Rattle.cq_cell.specs.Turn.{Rests}
use Rattle.cq_move_calls.specs.Moving.{Told, ComesAside, IsMover, kinds_on}
use Rattle.cq_shared.specs.declared.content.Shard.{Shard}
use Rattle.cq_shared.specs.declared.note.Note.{Note}
use Rattle.cq_shared.specs.Terms.{Terms}
use Rattle.cq_shared.specs.Notes.{entries_in}
use Rattle.cq_shared.specs.Moving.{notes_of, why_notes, start_notes}
use Rattle.cq_shared.specs.Seen.{Place, Pass, Finds, Looks, SteadyBy, group_of, seen_since, seen_by, is_spread, is_everywhere}
use Rattle.cq_shared.proofs.Standing.{seen_same}
use Rattle.cq_shared.proofs.Moving.{comes_aside}
use Rattle.cq_reach.specs.Seen.{Seen, seen_of}
use Rattle.cq_reach.specs.Outlook.{IsGrown}
use Rattle.cq_reach.proofs.Growth.{got_at, one_item, set_there, set_beside}
use Rattle.cq_desk.specs.Desks.{IsOfOthers, IsOwn}
use Rattle.cq_desk.specs.Moving.{seen_in, seen_at, CanMove, Continues, AreKept, HasFailedBy, AllSteady, IsSpared}
use Rattle.cq_desk.specs.Keeping.{kept_steady}
use Rattle.cq_desk.proofs.Meeting.{turned, with_more, found_grown, known_after, others_come, again}

above : (n : ℕ) → 0 < n → nat_eq n 0 ≡ false
above n low = elim (eqb_tells n 0) [ inl y ↦ absurd (let e = y.1 in omega (arith, low, e)) | inr z ↦ z.0 ]

both_all : {A : Type 0} (P Q : A → Type 0) (xs : List A) → AllByRecursion P xs → AllByRecursion Q xs → AllByRecursion (λ (x : A). P x × Q x) xs
both_all P Q [] h k = tt
both_all P Q (x ∷ xs) h k = ((h.0, k.0), both_all P Q xs h.1 k.1)

-- ---- the entries of what a call noted

abbrev pub entries_by : Who → List EntryKind → List Entry
entries_by who kinds = map (λ (k : EntryKind). record { who = who; kind = k }) kinds

pub step_entries : {V E : Type 0} (who : Who) (kind : EntryKind) (r : Result V E) → entries_in (notes_of who kind r) ≡ entries_by who (kinds_on kind r)
step_entries who kind (Ok v) = refl
step_entries who kind (Err e) = refl

why_entries : (who : Who) (w : MoveWhy) → entries_in (why_notes who w) ≡ []
why_entries who (why.Moving by) = refl
why_entries who (why.NotThere node) = refl
why_entries who (why.SameNode node) = refl
why_entries who (why.Worker failure) = refl
why_entries who why.Memory = refl

pub start_entries : {V X : Type 0} (who : Who) (to : ℕ) (r : Result V (MoveRefused X)) → entries_in (start_notes who to r) ≡ entries_by who (kinds_on (MoveStart to) r)
start_entries who to (Ok v) = refl
start_entries who to (Err e) = why_entries who e.why

-- ---- the group's pass

module _ {X C : Type 0} (state : X → StoreState) (terms : C → Terms) (cells : List TableId) (sessions : List ℕ) (passes : List (Pass X C)) (who : Who) (g : ℕ) (can : CanMove state terms cells sessions passes who.session g) (p : Pass X C) (at : p ≡ get_or passes g p) where
  pub there : slice_get passes g ≡ Some p
  there = got_at passes g p can.within at

  pub own : IsOwn state terms sessions who.session p.place
  own = can.ready.own g p there

  -- the session knows the group by it
  pub knows : (P : Seen → Type 0) → P (seen_at passes g) → P (seen_by p.place)
  knows P h = subst P (ap seen_in there) h

  -- a group that is on a node was so at the opening
  pub distributed : 0 < node_of (seen_at passes g).journal → is_everywhere p.place ≡ false
  distributed h =
      let s = own.stood in
      let known : seen_by p.place ≡ seen_of s.shard.group = (λ i. seen_since (group_of (s.origin i)) p.place.me.0.news) ∙ sym (seen_same state ((terms s.opening.rules.value).allows s.opening.group.journal.group) s.opening.group s.shard.group p.place.me.0.news s.stands.stands) in
      let low : 0 < s.shard.group.node = subst (λ n. 0 < n) (ap (λ (t : Seen). node_of t.journal) (ap seen_in there ∙ known) ∙ s.stands.stands.resting.placed) h in
      (λ i. is_spread (group_of (s.origin i))) ∙ (sym s.stands.stands.remains.spread ∙ above s.shard.group.node low)

  -- what its turn finds, with entries of others
  finds_grown : (x : Shard X C) → Finds state terms p.place x → IsGrown (IsOfOthers sessions who) (seen_by p.place) (seen_of x.group)
  finds_grown x f = record { more = entries_in f.more; all = others_come state terms cells sessions passes who g p can.ready there x f; is = found_grown state terms p.place x f }

  -- while its statement moves the group these are no steps of moves
  finds_aside : IsMover who (seen_by p.place) → (x : Shard X C) → Finds state terms p.place x → IsGrown (ComesAside (IsOfOthers sessions who)) (seen_by p.place) (seen_of x.group)
  finds_aside m x f = record {
    more = entries_in f.more;
    all = both_all (IsOfOthers sessions who) (λ (e : Entry). is_of_move e.kind ≡ false) (entries_in f.more) (others_come state terms cells sessions passes who g p can.ready there x f) (comes_aside state terms p.place x f who own.numbered m);
    is = found_grown state terms p.place x f;
  }

  -- on a node where all stores are steady by its rules only steady ones may come
  pub spares : (P : ℕ → Type 0) → ((node : ℕ) → IsSpared terms passes node → P node) → (node : ℕ) → SteadyBy terms p.place node → P node
  spares P h node steady = h node (record { group = g; pass = p; there = there; steady = steady })

  module _ (q : Place X C) where
    here : slice_get (set passes g (turned p q)) g ≡ Some (turned p q)
    here = set_there passes g (turned p q) can.within

    pub knows_after : (P : Seen → Type 0) → P (seen_by q) → P (seen_at (set passes g (turned p q)) g)
    knows_after P h = subst P (sym (ap seen_in here)) h

    module _ (notes : List Note) (fact : Seen → Type 0) (l : Looks state terms p.place notes q fact) where
      pub can_again : Rests q → CanMove state terms cells sessions (set passes g (turned p q)) who.session g
      can_again rests = record {
        ready = again state terms cells sessions passes who g p can.ready there (turned p q) l.same rests l.stood;
        within = subst (λ n. g < n) (sym (length-set passes g (turned p q))) can.within;
      }

      -- the passes to other groups are kept
      pub kept : AreKept g passes (set passes g (turned p q))
      kept = record {
        count = length-set passes g (turned p q);
        others = λ i apart. set_beside passes g i (turned p q) apart;
        here = λ a b was is.
            let first : p ≡ a = one_item p a (sym there ∙ was) in
            let last : turned p q ≡ b = one_item (turned p q) b (sym here ∙ is) in
            subst (λ (b : Pass X C). Continues a.place b.place) last (subst (λ (a : Pass X C). Continues a.place q) first (record { same = l.same; notes = notes; mine = l.mine }));
      }

      -- what its turn told, by how the group may have grown
      told_by : (comes : Entry → Type 0) (kinds : List EntryKind) → entries_in notes ≡ entries_by who kinds → IsGrown comes (seen_by p.place) (seen_of l.shard.group) →
          Told comes who kinds fact (seen_at passes g) (seen_at (set passes g (turned p q)) g)
      told_by comes kinds same grown = record {
        found = seen_of l.shard.group;
        grown = subst (λ (s : Seen). IsGrown comes s (seen_of l.shard.group)) (sym (ap seen_in there)) grown;
        so = l.so;
        is = ap seen_in here ∙ (known_after state terms p.place q notes fact l ∙ ap (λ es. with_more es (seen_of l.shard.group)) same);
      }

      pub told : (kinds : List EntryKind) → entries_in notes ≡ entries_by who kinds → Told (IsOfOthers sessions who) who kinds fact (seen_at passes g) (seen_at (set passes g (turned p q)) g)
      told kinds same = told_by (IsOfOthers sessions who) kinds same (finds_grown l.shard l.finds)

      pub told_aside : (kinds : List EntryKind) → entries_in notes ≡ entries_by who kinds → IsMover who (seen_by p.place) →
          Told (ComesAside (IsOfOthers sessions who)) who kinds fact (seen_at passes g) (seen_at (set passes g (turned p q)) g)
      told_aside kinds same m = told_by (ComesAside (IsOfOthers sessions who)) kinds same (finds_aside m l.shard l.finds)

      -- steady stores stay so, where those that were exchanged were
      pub steady : {V E : Type 0} (r : Result V E) (Came : ℕ → Type 0) (Left : V → ℕ → Type 0) → IfOk r (λ (v : V). (node : ℕ) → SteadyBy terms p.place node → Left v node) →
          IfOk r (λ (v : V). (node : ℕ) → AllSteady terms passes node → Came node → AllSteady terms (set passes g (turned p q)) node × Left v node)
      steady (Ok v) Came Left h = λ node all came. (kept_steady terms g passes (set passes g (turned p q)) kept node all, h node (all g p there))
      steady (Err e) Came Left h = tt

    -- why a move didn't begin, where a store failed, is noted
    failed_by : (w : MoveWhy) → q.me.0.mine ≡ p.place.me.0.mine ++ why_notes who w → HasFailedBy who g w passes (set passes g (turned p q))
    failed_by (why.Moving by) mine = tt
    failed_by (why.NotThere node) mine = tt
    failed_by (why.SameNode node) mine = tt
    failed_by (why.Worker failure) mine = record { before = p; after = turned p q; was = there; is = here; holds = mine }
    failed_by why.Memory mine = tt

    pub failed : {V Y : Type 0} (to : ℕ) (r : Result V (MoveRefused Y)) (fact : Seen → Type 0) → Looks state terms p.place (start_notes who to r) q fact → IfErr r (λ (e : MoveRefused Y). HasFailedBy who g e.why passes (set passes g (turned p q)))
    failed to (Ok v) fact l = tt
    failed to (Err e) fact l = failed_by e.why l.mine
