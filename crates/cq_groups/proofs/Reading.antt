-- Reads of several groups, one after another.
use Rattle.std.proofs.Common.{◌≡◌, inl, inr, ℕ, ◌+◌, ◌<◌, true, false, List, [], ◌∷◌, ◌++◌, length, map, take, refl, sym, ap, ◌∙◌, subst, arith, Some, slice_get, get_or, Result, Ok, Err}
use Rattle.std.specs.List.{AllByRecursion}
use Rattle.std.proofs.Math.ListN.{set}
use Rattle.std.proofs.lemmas.Bool.Decides.{eqb_tells}
use Rattle.std.proofs.lemmas.List.{take_more, map-append}
use Rattle.std.proofs.lemmas.Grind.{flat_map-append}
use Rattle.cq_value.proofs.Lists.{append_nil}
use Rattle.cq_meaning.specs.Values.{Tables}
use Rattle.cq_tree.specs.declared.failure.StoreFailure.{StoreFailure}
use Rattle.cq_tree.specs.declared.journal.EntryKind.TheVariants.{Read}
use Rattle.cq_tree.specs.declared.journal.Who.{Who}
use Rattle.cq_demands.specs.JoinDemands.{Wants, narrow}
use Rattle.cq_demands.proofs.Narrowed.{narrow_append}
use Rattle.cq_planning.specs.Reaching.{IsAscendingFrom}
use Rattle.cq_planning.specs.Touched.{among}
use Rattle.cq_group.specs.declared.group.GroupError.{GroupError}
use Rattle.cq_group.specs.declared.group.GroupError.TheVariants as group
use Rattle.cq_group.proofs.PlaceLaws.{all_get}
use Rattle.cq_history.specs.Faults.{below}
use Rattle.cq_reach.specs.Seen.{Seen, captured}
use Rattle.cq_reach.specs.Outlook.{Outlook, Meets, MayFind, Tells, Chain, more, still, FailsLast}
use Rattle.cq_reach.specs.Reads.{CanRead, read_kinds, TellsTables, IfFailed}
use Rattle.cq_groups.specs.Reads.{Look, groups_in}
use Rattle.cq_groups.specs.Found.{MayLook, captured_of, captured_by, AreRead, AreReadInPart, FailsAmong, HaveRead}
use Rattle.cq_groups.specs.Served.{IsKept}
use Rattle.cq_groups.proofs.FoundLaws.{SoFar, nothing_found, meets_first, next_found, next_read, next_failed, found_at, captured_still, reads_grow}
use Rattle.cq_groups.proofs.ReadLaws.{apart_from, among_front, among_at, front_below}

-- what reads gave
abbrev made : Tables → Result Tables GroupError
made seen = Ok seen

abbrev stopped_by : GroupError → Result Tables GroupError
stopped_by e = Err e

-- the group of a read is there
all_within : (near : ℕ) (o : Outlook) (looks : List Look) → AllByRecursion (MayLook near o) looks → (g : ℕ) → among g (groups_in looks) ≡ true → g < length o.known
all_within near o [] all g m = cc
all_within near o (l ∷ looks) all g m = elim (eqb_tells g l.0) [
  | inl y ↦ subst (λ n. n < length o.known) (sym y.1) all.0.within
  | inr z ↦ (let rest : among g (groups_in looks) ≡ true = rw z.0 at m in all_within near o looks all.1 g rest)
]

module _ {V : Type 0} (ready : V → ℕ → Type 0) (outlook : V → Who → Outlook) (goes_on : V → V → Type 0) (failed : V → V → Who → ℕ → StoreFailure → Type 0) (wants : Wants) (who : Who) (old : V) where
  -- these looks were made
  pub record ReadSoFar (looks : List Look) (seen : Tables) (now : V) : Type 0 where
    pub found : List Seen
    pub so : SoFar who (outlook old who) (outlook now who) (groups_in looks) (groups_in looks) found
    pub tables : seen ≡ narrow wants (captured_by found looks)
    pub steps : Chain goes_on old now
    pub usable : ready now who.session

  pub none_read : ready old who.session → (looks : List Look) (seen : Tables) → seen ≡ [] → ReadSoFar (take 0 looks) seen old
  none_read r looks seen e = record { found = (outlook old who).known; so = nothing_found who (outlook old who); tables = e; steps = still; usable = r }

  module _ (near : ℕ) (looks : List Look) (all : AllByRecursion (MayLook near (outlook old who)) looks) (asc : IsAscendingFrom 0 (groups_in looks)) where
    within_front : (n g : ℕ) → among g (groups_in (take n looks)) ≡ true → g < length (outlook old who).known
    within_front n g m = all_within near (outlook old who) looks all g (among_front looks n g m)

    kept : (looks_so : List Look) (seen : Tables) (now : V) → ReadSoFar looks_so seen now → (names : StoreFailure → Type 0) → ((f : StoreFailure) → names f → ⊥) → IsKept ready outlook goes_on failed who names old now
    kept looks_so seen now r names none = record { still = r.usable; count = r.so.count; steps = r.steps; blamed = λ f n. absurd (none f n) }

    module _ (n : ℕ) (d : Look) (within : n < length looks) (seen : Tables) (mid : V) (r : ReadSoFar (take n looks) seen mid) where
      abbrev next : Look
      next = get_or looks n d

      apart : among next.0 (groups_in (take n looks)) ≡ false
      apart = apart_from 0 looks n d asc within

      front : take (n + 1) looks ≡ take n looks ++ next ∷ []
      front = take_more looks n d within

      groups_front : groups_in (take (n + 1) looks) ≡ groups_in (take n looks) ++ next.0 ∷ []
      groups_front = ap groups_in front ∙ map-append (λ (l : Look). l.0) (take n looks) (next ∷ [])

      its_look : MayLook near (outlook old who) next
      its_look = all_get (MayLook near (outlook old who)) looks n d all within

      -- the next look can be made
      pub next_within : next.0 < length (outlook mid who).known
      next_within = let c = r.so.count in let l = its_look.within in omega (arith, c, l)

      pub next_there : (s : Seen) → Meets (outlook mid who) next.0 s → CanRead near next.1 s
      next_there s m = its_look.can s (meets_first who (outlook old who) (outlook mid who) (outlook mid who) (groups_in (take n looks)) r.found r.so next.0 s apart m)

      module _ (new : V) (step : goes_on mid new) (rests : ready new who.session) where
        -- it was made
        pub read_more : (tables put : Tables) → Tells who next.0 (Read ∷ []) (TellsTables next.1 wants near (Ok tables)) (outlook mid who) (outlook new who) → put ≡ seen ++ tables → ReadSoFar (take (n + 1) looks) put new
        read_more tables put t e =
            let s = t.found in
            let so = next_read who (outlook old who) (outlook mid who) (outlook new who) (groups_in (take n looks)) r.found r.so next.0 s apart t.visit in
            let here = found_at who (outlook old who) (outlook mid who) (outlook new who) (groups_in (take n looks)) r.found r.so next.0 s apart t.visit.met in
            let still_so = captured_still who (outlook old who) (outlook mid who) (outlook new who) (groups_in (take n looks)) r.found r.so next.0 s apart (take n looks) apart in
            let found = set r.found next.0 s in
            let all_so : captured_by found (take (n + 1) looks) ≡ captured_by r.found (take n looks) ++ map (captured s) next.1 =
            ap (captured_by found) front ∙ flat_map-append (λ (l : Look). captured_of (slice_get found l.0) l.1) (take n looks) (next ∷ [])
            ∙ (λ i. still_so i ++ (captured_of (here i) next.1 ++ [])) ∙ ap (λ v. captured_by r.found (take n looks) ++ v) (append_nil (map (captured s) next.1)) in
            record {
              found = found;
              so = subst (λ gs. SoFar who (outlook old who) (outlook new who) gs gs found) (sym groups_front) so;
              tables = e ∙ (λ i. r.tables i ++ t.so i) ∙ sym (narrow_append wants (captured_by r.found (take n looks)) (map (captured s) next.1)) ∙ sym (ap (narrow wants) all_so);
              steps = more r.steps step;
              usable = rests;
            }

        -- it failed
        pub read_stops : (e : GroupError) → Tells who next.0 [] (TellsTables next.1 wants near (Err e)) (outlook mid who) (outlook new who) →
            (found : List Seen) × MayFind (outlook old who) found × HaveRead who near wants looks found (outlook new who).known (Err e)
        read_stops e t =
            let s = t.found in
            let found = set r.found next.0 s in
            let so = next_failed who (outlook old who) (outlook mid who) (outlook new who) (groups_in (take n looks)) r.found r.so next.0 s apart t.visit in
            let here : slice_get found next.0 ≡ Some s = found_at who (outlook old who) (outlook mid who) (outlook new who) (groups_in (take n looks)) r.found r.so next.0 s apart t.visit.met in
            let grow = reads_grow who (outlook old who) (outlook new who) _ (groups_in (take n looks)) found so (within_front n) in
            (found, so.may, by e found here grow t.so)
          where
            by : (e : GroupError) (found : List Seen) → slice_get found next.0 ≡ Some t.found → AreRead who (groups_in (take n looks)) found (outlook new who).known → TellsTables next.1 wants near (Err e) t.found →
                HaveRead who near wants looks found (outlook new who).known (Err e)
            by group.Memory found here grow told = record { some = groups_in (take n looks); among = among_front looks n; grows = grow }
            by (group.Worker f) found here grow told = record {
              group = next.0;
              there = among_at looks n d within;
              its = t.found;
              at = here;
              fails = told;
              grows = subst (λ gs. AreRead who gs found (outlook new who).known) (sym (front_below 0 looks n d asc within)) grow;
            }

        pub stops_kept : (e : GroupError) → length (outlook new who).known ≡ length (outlook mid who).known → IfFailed (failed mid new who next.0) e → IsKept ready outlook goes_on failed who (λ f. stopped_by e ≡ stopped_by (group.Worker f)) old new
        stops_kept e count blame = record { still = rests; count = count ∙ r.so.count; steps = more r.steps step; blamed = λ f is. by e blame f (let same : e ≡ group.Worker f = cc in same) }
          where
            by : (e : GroupError) → IfFailed (failed mid new who next.0) e → (f : StoreFailure) → e ≡ group.Worker f → FailsLast goes_on (λ x y. failed x y who) f old new
            by group.Memory b f is = cc
            by (group.Worker h) b f is = let same : h ≡ f = cc in record { before = mid; steps = r.steps; group = next.0; fails = subst (failed mid new who next.0) same b }

    -- memory ran out once some were made
    pub short_read : (n : ℕ) (seen : Tables) (now : V) → ReadSoFar (take n looks) seen now → (found : List Seen) × MayFind (outlook old who) found × HaveRead who near wants looks found (outlook now who).known (Err group.Memory)
    short_read n seen now r = (
      r.found,
      r.so.may,
      record { some = groups_in (take n looks); among = among_front looks n; grows = reads_grow who (outlook old who) (outlook now who) _ (groups_in (take n looks)) r.found r.so (within_front n) },
    )

    pub short_kept : (n : ℕ) (seen : Tables) (now : V) → ReadSoFar (take n looks) seen now → IsKept ready outlook goes_on failed who (λ f. stopped_by group.Memory ≡ stopped_by (group.Worker f)) old now
    short_kept n seen now r = kept (take n looks) seen now r _ (λ f e. cc)

    -- all were made
    pub all_read : (n : ℕ) (seen : Tables) (now : V) → take n looks ≡ looks → ReadSoFar (take n looks) seen now → (found : List Seen) × MayFind (outlook old who) found × HaveRead who near wants looks found (outlook now who).known (Ok seen)
    all_read n seen now e r = (
      r.found,
      r.so.may,
      (
        subst (λ ls. AreRead who (groups_in ls) r.found (outlook now who).known) e (reads_grow who (outlook old who) (outlook now who) _ (groups_in (take n looks)) r.found r.so (within_front n)),
        r.tables ∙ ap (λ ls. narrow wants (captured_by r.found ls)) e,
      ),
    )

    pub all_kept : (n : ℕ) (seen : Tables) (now : V) → ReadSoFar (take n looks) seen now → IsKept ready outlook goes_on failed who (λ f. made seen ≡ stopped_by (group.Worker f)) old now
    all_kept n seen now r = kept (take n looks) seen now r _ (λ f e. cc)
