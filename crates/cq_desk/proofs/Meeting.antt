-- A session's passes, as one of them has had a turn.
use Rattle.std.proofs.Common.{◌≡◌, ◌≢◌, ◌⊎◌, inl, inr, ℕ, zero, suc, ◌<◌, List, [], ◌∷◌, ◌++◌, length, map, refl, sym, ap, ◌∙◌, subst, append_assoc, Option, Some, slice_get, get_or, Result, Ok, Err, IfErr}
use Rattle.std.proofs.Math.ListN.{set}
use Rattle.std.proofs.lemmas.List.{length-set, append-nil}
use Rattle.std.proofs.lemmas.Bool.Decides.{eqb_tells}
use Rattle.std.specs.List.{AllByRecursion}
use Rattle.atomic_table.specs.Seated.{TableId}
use Rattle.cq_value.proofs.Lists.{length_map}
use Rattle.cq_value.specs.Tables.{empty_table}
use Rattle.cq_tree.specs.declared.journal.Entry.{Entry}
use Rattle.cq_tree.specs.declared.journal.EntryKind.{EntryKind}
use Rattle.cq_tree.specs.declared.journal.Who.{Who}
use Rattle.cq_store.specs.Stores.{StoreState}
use Rattle.cq_group.specs.declared.group.GroupError.{GroupError}
use Rattle.cq_group.specs.declared.group.GroupError.TheVariants.{Worker, Memory}
use Rattle.cq_group.specs.Groups.{entries_of, outlines}
use Rattle.cq_cell.specs.Lists.{NotIn, keep, own}
use Rattle.cq_cell.specs.Turn.{IsAt, Rests, IsSame}
use Rattle.cq_shared.specs.declared.content.Shard.{Shard}
use Rattle.cq_shared.specs.declared.note.Note.{Note}
use Rattle.cq_shared.specs.declared.note.Note.TheVariants as note
use Rattle.cq_shared.specs.Terms.{Terms}
use Rattle.cq_shared.specs.Notes.{who_of, entries_in}
use Rattle.cq_shared.specs.Quiet.{IsQuiet, GoesOn, GoOn}
use Rattle.cq_shared.specs.Seen.{Place, Pass, Finds, HasStood, Looks, group_of, seen_since, seen_by}
use Rattle.cq_shared.specs.Reads.{read_notes}
use Rattle.cq_shared.specs.Writes.{AreAt}
use Rattle.cq_shared.proofs.Standing.{entries_more, seen_same}
use Rattle.cq_shared.proofs.Frames.{at_place}
use Rattle.cq_shared.proofs.Turning.{cell_at}
use Rattle.cq_reach.specs.Seen.{Seen, seen_of}
use Rattle.cq_reach.specs.Outlook.{Meets, Tells}
use Rattle.cq_reach.specs.Reads.{read_kinds, IfFailed}
use Rattle.cq_reach.proofs.Growth.{got_at, got_below, one_item, set_there, set_beside}
use Rattle.cq_desk.specs.Desks.{IsOfOthers, known_by, outlook_by, IsOwn, IsReady, HasNoted}

-- ---- entries of others

full : {N : Type 0} (x : N) (xs : List N) → x ∷ xs ≡ [] → ⊥
full x xs e = cc

-- the first of notes of which none are of a number isn't either
not_first : (n : ℕ) (x : Note) (xs : List Note) → own who_of n (x ∷ xs) ≡ [] → (who_of x ≢ n) × (own who_of n xs ≡ [])
not_first n x xs e = elim (eqb_tells (who_of x) n) [
  | inl y ↦ absurd (full x (own who_of n xs) (subst (λ b. keep b x (own who_of n xs) ≡ []) y.0 e))
  | inr z ↦ (z.1, subst (λ b. keep b x (own who_of n xs) ≡ []) z.0 e)
]

come : (sessions : List ℕ) (who : Who) (more : List Note) → own who_of who.session more ≡ [] → ((n : ℕ) → NotIn n sessions → own who_of n more ≡ []) → AllByRecursion (IsOfOthers sessions who) (entries_in more)
come sessions who [] mine out = tt
come sessions who (note.Entered e ∷ more) mine out =
    let first = not_first who.session (note.Entered e) more mine in (
      (first.0, λ none. (not_first e.who.session (note.Entered e) more (out e.who.session none)).0 refl),
      come sessions who more first.1 (λ n none. (not_first n (note.Entered e) more (out n none)).1),
    )
come sessions who (note.Failed w failure ∷ more) mine out = come sessions who more (not_first who.session (note.Failed w failure) more mine).1 (λ n none. (not_first n (note.Failed w failure) more (out n none)).1)

-- the entries of what a read noted
pub read_entries : {V : Type 0} (who : Who) (r : Result V GroupError) → entries_in (read_notes who r) ≡ map (λ (k : EntryKind). record { who = who; kind = k }) (read_kinds r)
read_entries who (Ok v) = refl
read_entries who (Err (Worker f)) = refl
read_entries who (Err Memory) = refl

pub read_quiet : {V : Type 0} (who : Who) (r : Result V GroupError) → AllByRecursion IsQuiet (read_notes who r)
read_quiet who (Ok v) = (tt, tt)
read_quiet who (Err (Worker f)) = (tt, tt)
read_quiet who (Err Memory) = tt

-- ---- what is known of a group, with more notes

abbrev pub with_more : List Entry → Seen → Seen
with_more es s = record s { journal = record s.journal { entries = s.journal.entries ++ es } }

map_beside : {A B : Type 0} (f : A → B) (xs : List A) (k i : ℕ) (y : A) → i ≢ k → slice_get (map f (set xs k y)) i ≡ slice_get (map f xs) i
map_beside f [] k i y n = refl
map_beside f (x ∷ xs) zero zero y n = absurd (n refl)
map_beside f (x ∷ xs) zero (suc i) y n = refl
map_beside f (x ∷ xs) (suc k) zero y n = refl
map_beside f (x ∷ xs) (suc k) (suc i) y n = map_beside f xs k i y (λ e. n (ap suc e))

module _ {X C : Type 0} where
  -- a pass that wasn't used
  pub goes_nowhere : (p : Place X C) → GoesOn p p
  goes_nowhere p = record { same = (refl, refl, refl, refl, refl); notes = []; mine = sym (append-nil p.me.0.mine); quiet = tt }

  -- the pass at a place is at the cell that is read there
  pub at_cell : {A : Type 0} (f : A → TableId) (cells : List A) (passes : List (Pass X C)) (k : ℕ) (c : A) (q : Pass X C) → AreAt (map f cells) passes → slice_get passes k ≡ Some q → c ≡ get_or cells k c → IsAt (f (get_or cells k c)) q.place
  at_cell {A} f cells passes k c q at there is = subst (λ (a : A). IsAt (f a) q.place) is (at_place f cells passes k c q at there is)

  -- a pass with another place
  abbrev pub turned : Pass X C → Place X C → Pass X C
  turned p q = record { place = q; number = p.number }

  -- the pass that a call takes
  pub taken : (passes : List (Pass X C)) (g : ℕ) (p : Pass X C) → g < length (map (λ (r : Pass X C). known_by r) passes) → p ≡ get_or passes g p → slice_get passes g ≡ Some p
  taken passes g p low is = got_at passes g p (subst (λ n. g < n) (length_map (λ (r : Pass X C). known_by r) passes) low) is

  known_more : (o : Option (Shard X C)) (v : Shard X C) (l m : List Note) → o ≡ Some v → seen_since (group_of o) (l ++ m) ≡ with_more (entries_in m) (seen_since (group_of o) l)
  known_more o v l m is =
      let more : entries_of v.group ++ entries_in (l ++ m) ≡ (entries_of v.group ++ entries_in l) ++ entries_in m = ap (λ z. entries_of v.group ++ z) (entries_more l m) ∙ sym (append_assoc (entries_of v.group) (entries_in l) (entries_in m)) in
      subst (λ (w : Option (Shard X C)). seen_since (group_of w) (l ++ m) ≡ with_more (entries_in m) (seen_since (group_of w) l)) (sym is)
      (λ i. record { journal = record { number = v.group.journal.group; opening = v.group.journal.opening; base = λ table. empty_table; entries = more i }; tables = outlines v.group; nodes = v.group.nodes })

module _ {X C : Type 0} (state : X → StoreState) (terms : C → Terms) where
  -- a group as it was found is what the pass had seen, with notes of others
  found_since : (p : Place X C) (x : Shard X C) (f : Finds state terms p x) → seen_of x.group ≡ seen_since (group_of p.me.0.origin) (p.me.0.news ++ f.more)
  found_since p x f = seen_same state ((terms f.opening.rules.value).allows f.opening.group.journal.group) f.opening.group x.group (p.me.0.news ++ f.more) f.stands.stands ∙ (λ i. seen_since (group_of (sym f.origin i)) (p.me.0.news ++ f.more))

  pub found_grown : (p : Place X C) (x : Shard X C) (f : Finds state terms p x) → seen_of x.group ≡ with_more (entries_in f.more) (seen_by p)
  found_grown p x f = found_since p x f ∙ known_more p.me.0.origin f.opening p.me.0.news f.more f.origin

  pub known_after : (p q : Place X C) (notes : List Note) (fact : Seen → Type 0) (l : Looks state terms p notes q fact) → seen_by q ≡ with_more (entries_in notes) (seen_of l.shard.group)
  known_after p q notes fact l =
      let f = l.finds in
      (λ i. seen_since (group_of (l.same.2 i)) (l.news i))
      ∙ (known_more p.me.0.origin f.opening (p.me.0.news ++ f.more) notes f.origin ∙ ap (with_more (entries_in notes)) (sym (found_since p l.shard f)))

  module _ (cells : List TableId) (sessions : List ℕ) (passes : List (Pass X C)) (who : Who) (g : ℕ) (p : Pass X C) (ready : IsReady state terms cells sessions passes who.session) (there : slice_get passes g ≡ Some p) where
    -- others are of other sessions of the block
    pub others_come : (x : Shard X C) (f : Finds state terms p.place x) → AllByRecursion (IsOfOthers sessions who) (entries_in f.more)
    others_come x f =
        let o = ready.own g p there in
        come sessions who f.more (subst (λ n. own who_of n f.more ≡ []) (sym o.numbered) f.others.not_own) (λ n none. f.others.of_sessions n (subst (NotIn n) (sym o.block) none))

    -- what the turn of a pass finds, the session may meet
    pub meets : (x : Shard X C) → Finds state terms p.place x → Meets (outlook_by state terms sessions passes who) g (seen_of x.group)
    meets x f = record {
      was = known_by p;
      there = cell_at (λ (r : Pass X C). known_by r) passes g p there;
      grown = record { more = entries_in f.more; all = others_come x f; is = found_grown p.place x f };
      may = record { pass = p; there = there; shard = x; finds = f; is = refl };
    }

    module _ (q : Pass X C) where
      pub here : slice_get (set passes g q) g ≡ Some q
      here = set_there passes g q (got_below passes g p there)

      -- a pass is the one that had the turn, or as it was
      which : (i : ℕ) (r : Pass X C) → slice_get (set passes g q) i ≡ Some r → ((i ≡ g) × (q ≡ r)) ⊎ ((i ≢ g) × (slice_get passes i ≡ Some r))
      which i r e = elim (eqb_tells i g) [
        | inl y ↦ inl (y.1, one_item q r (sym here ∙ subst (λ j. slice_get (set passes g q) j ≡ Some r) y.1 e))
        | inr z ↦ inr (z.1, sym (set_beside passes g i q z.1) ∙ e)
      ]

      -- what its turn told
      pub tells : (notes : List Note) (kinds : List EntryKind) (fact : Seen → Type 0) → entries_in notes ≡ map (λ (k : EntryKind). record { who = who; kind = k }) kinds → Looks state terms p.place notes q.place fact →
          Tells who g kinds fact (outlook_by state terms sessions passes who) (outlook_by state terms sessions (set passes g q) who)
      tells notes kinds fact same l = record {
        found = seen_of l.shard.group;
        visit = record {
          met = meets l.shard l.finds;
          count = length_map (λ (r : Pass X C). known_by r) (set passes g q) ∙ (length-set passes g q ∙ sym (length_map (λ (r : Pass X C). known_by r) passes));
          is = cell_at (λ (r : Pass X C). known_by r) (set passes g q) g q here ∙ ap Some (known_after p.place q.place notes fact l ∙ ap (λ es. with_more es (seen_of l.shard.group)) same);
          others = λ i n. map_beside (λ (r : Pass X C). known_by r) passes g i q n;
          finds = λ i s n m. record { pass = m.pass; there = sym (set_beside passes g i q n) ∙ m.there; shard = m.shard; finds = m.finds; is = m.is };
          comes = λ e c. c;
        };
        so = l.so;
      }

      -- a store that failed is noted
      pub noted : {V : Type 0} (r : Result V GroupError) (fact : Seen → Type 0) → Looks state terms p.place (read_notes who r) q.place fact → IfErr r (IfFailed (HasNoted who g passes (set passes g q)))
      noted (Ok v) fact l = tt
      noted (Err (Worker f)) fact l = record { before = p; after = q; was = there; is = here; holds = l.mine }
      noted (Err Memory) fact l = tt

      pub goes_on : GoesOn p.place q.place → GoOn passes (set passes g q)
      goes_on one = record {
        count = length-set passes g q;
        each = λ i a b e f. elim (which i b f) [
          | inl y ↦ subst (λ (r : Pass X C). GoesOn r.place b.place) (one_item p a (sym there ∙ subst (λ j. slice_get passes j ≡ Some a) y.0 e)) (subst (λ (r : Pass X C). GoesOn p.place r.place) y.1 one)
          | inr z ↦ subst (λ (r : Pass X C). GoesOn a.place r.place) (one_item a b (sym e ∙ z.1)) (goes_nowhere a.place)
        ];
      }

      -- and the passes are ready again
      pub again : IsSame p.place q.place → Rests q.place → HasStood state terms q.place → IsReady state terms cells sessions (set passes g q) who.session
      again same rests stood =
          let o = ready.own g p there in
          record {
            at = record {
              count = length-set passes g q ∙ ready.at.count;
              each = λ i z r cell e. elim (which i r e) [
                | inl y ↦ subst (λ (t : Pass X C). IsAt z t.place) y.1 (let a = ready.at.each g z p (subst (λ j. slice_get cells j ≡ Some z) y.0 cell) there in (same.0 ∙ a.0, a.1))
                | inr y ↦ ready.at.each i z r cell y.1
              ];
            };
            own = λ i r e. elim (which i r e) [
              | inl y ↦ subst (λ (t : Pass X C). IsOwn state terms sessions who.session t.place) y.1 (record { rests = rests; numbered = o.numbered ∙ sym same.3; block = same.4 ∙ o.block; stood = stood })
              | inr y ↦ ready.own i r y.1
            ];
          }
