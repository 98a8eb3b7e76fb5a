-- Visits of statements to the journals.
use Rattle.std.proofs.Common.{zero, suc, ◌≡◌, ◌+◌, ◌<◌, ◌≤◌, inl, inr, ℕ, true, false, List, [], ◌∷◌, ◌++◌, length, take, drop, map, refl, sym, ◌∙◌, ap, subst, arith, Some, None, Option, append_assoc, length-append, eq-eqb}
use Rattle.std.specs.Prelude.{nat_eq, ◌&&◌}
use Rattle.std.specs.List.{AllByRecursion}
use Rattle.std.proofs.lemmas.Bool.{cases_lt, eqb-true}
use Rattle.cq_value.proofs.Lists.{all_append}
use Rattle.cq_value.proofs.Truths.{and_both}
use Rattle.cq_tree.specs.declared.journal.Who.{Who}
use Rattle.cq_tree.specs.declared.journal.Entry.{Entry}
use Rattle.cq_tree.specs.declared.journal.EntryKind.{EntryKind}
use Rattle.cq_catalog.specs.Contents.{Contents}
use Rattle.cq_history.specs.Run.{Run, Continues}
use Rattle.cq_history.specs.Phases.{precedes}
use Rattle.cq_journal.specs.Records.{Journal}
use Rattle.cq_history.specs.Journals.{journal_in, cut, Kinds, made_by, kinds_of, has_some, Step, steps_after, steps_of, kinds_in, IsLook, begun, with_entries, consecutive}
use Rattle.cq_history.specs.Deeds.{Deed, Phase, alone, HasDeed, IsFresh, Grows, GoesOn, MayCome, Visits, deed_over}
use Rattle.cq_history.specs.Log.{IsLaidOut}
use Rattle.cq_history.specs.Laws.{GrowsVisits, VisitsAlone, first_look, then_does, VisitsOn, VisitsLater, VisitIsDeed, VisitIsAnswered, idle}
use Rattle.cq_history.proofs.Lists.{all_take}
use Rattle.cq_history.proofs.Entries.{entries_by, index_beyond, take_within, take_all, with_list, steps_append, steps_kinds, steps_own, steps_others, steps_none, no_kinds, kinds_consecutive, all_own}
use Rattle.cq_history.proofs.Deeds.{deeds_stay}
use Rattle.cq_history.proofs.Later.{continues_same}

pub made_own : (who : Who) (k : EntryKind) → made_by who (record { who = who; kind = k }) ≡ true
made_own who k = rw (eq-eqb who.session who.session refl, eq-eqb who.statement who.statement refl) refl

pub made_who : (who : Who) (e : Entry) → made_by who e ≡ true → e.who ≡ who
made_who who e m =
    let both = and_both (nat_eq e.who.session who.session) (nat_eq e.who.statement who.statement) m in
    ap (λ v. record { session = v; statement = e.who.statement }) (eqb-true e.who.session who.session both.0)
    ∙ ap (λ v. record { session = who.session; statement = v }) (eqb-true e.who.statement who.statement both.1)

-- a journal as it is, among what comes to it
abbrev Look : Journal → Journal → Journal → Type 0
Look was j new = (place : ℕ) × (length was.entries ≤ place) × (place ≤ length new.entries) × (j ≡ cut place new)

look_behind : (was new : Journal) (more : List Entry) → new ≡ with_list was (was.entries ++ more) → Look was was new
look_behind was new more e = subst (Look was was) (sym e) (
  length was.entries,
  omega arith,
  omega (arith, length-append was.entries more),
  ap (with_list was) (sym (take_all was.entries more)),
)

pub grows_visits : GrowsVisits
grows_visits p who looked added old new there grows = record {
  count = grows.count;
  grown = λ g l. (entries_by who (added g), grows.kept g l, sym (steps_own who (journal_in old g) (added g)), all_own (MayCome p who) who (added g) (λ k. inl (made_own who k)));
  looked = λ g j l.
      let o = there g j l in
      (o.0, subst (λ (v : Journal). Look (journal_in old g) v (journal_in new g)) (sym o.1) (look_behind (journal_in old g) (journal_in new g) (entries_by who (added g)) (grows.kept g o.0)));
  fresh = λ g m. ((grows.fresh g m).0, ap (consecutive who (journal_in old g)) (grows.fresh g m).1);
}

-- ---- with nothing beside

own_all : (who : Who) (journals : List Journal) (more : List Entry) → AllByRecursion (MayCome (alone journals) who) more → more ≡ entries_by who (map (λ (e : Entry). e.kind) more)
own_all who journals [] all = refl
own_all who journals (e ∷ more) all = ap (λ (x : Entry). x ∷ more) (by_who all.0) ∙ ap (λ (v : List Entry). record { who = who; kind = e.kind } ∷ v) (own_all who journals more all.1)
  where
    by_who : MayCome (alone journals) who e → e ≡ record { who = who; kind = e.kind }
    by_who (inl m) = ap (λ (w : Who). record { who = w; kind = e.kind }) (made_who who e m)
    by_who (inr m) = absurd (cc m)

pub visits_alone : VisitsAlone
visits_alone who d journals old new v = (
  record {
    count = v.count;
    kept = λ g l.
        let a = v.grown g l in
        let kinds = map (λ (e : Entry). e.kind) a.0 in
        a.1 ∙ ap (λ (es : List Entry). with_list (journal_in old g) ((journal_in old g).entries ++ es)) (own_all who journals a.0 a.3) ∙ ap (λ (ks : List EntryKind). with_entries who ks (journal_in old g)) (sym (kinds_are g l));
    fresh = λ g m. ((v.fresh g m).0, ap kinds_in (v.fresh g m).1);
  },
  λ g. elim (cases_lt g (length old)) [
    | inl l ↦ steps_are g l ∙ ap (consecutive who (journal_in old g)) (sym (kinds_are g l))
    | inr m ↦ (v.fresh g m).1 ∙ ap (λ (s : List Step). consecutive who (journal_in old g) (kinds_in s)) (sym (v.fresh g m).1)
  ],
)
  where
    steps_are : (g : ℕ) (l : g < length old) → d.made g ≡ consecutive who (journal_in old g) (map (λ (e : Entry). e.kind) (v.grown g l).0)
    steps_are g l =
        let a = v.grown g l in
        a.2 ∙ ap (steps_after who (journal_in old g)) (own_all who journals a.0 a.3) ∙ steps_own who (journal_in old g) (map (λ (e : Entry). e.kind) a.0)

    kinds_are : (g : ℕ) (l : g < length old) → kinds_in (d.made g) ≡ map (λ (e : Entry). e.kind) (v.grown g l).0
    kinds_are g l = ap kinds_in (steps_are g l) ∙ kinds_consecutive who (journal_in old g) (map (λ (e : Entry). e.kind) (v.grown g l).0)

-- ---- one after the other

pub appended : (j mid new : Journal) (es fs : List Entry) → mid ≡ with_list j (j.entries ++ es) → new ≡ with_list mid (mid.entries ++ fs) → new ≡ with_list j (j.entries ++ (es ++ fs))
appended j mid new es fs a b = b ∙ ap (λ (v : Journal). with_list v (v.entries ++ fs)) a ∙ ap (with_list j) (append_assoc j.entries es fs)

pub visits_on : VisitsOn
visits_on p who d more old mid new same v w = record {
  count = omega (arith, v.count, w.count);
  grown = λ g l.
      let a = v.grown g l in
      let b = w.grown g (omega (arith, l, same)) in
      let j = journal_in old g in (
        a.0 ++ b.0,
        appended j (journal_in mid g) (journal_in new g) a.0 b.0 a.1 b.1,
        ap (λ (s : List Step). s ++ more.made g) a.2
            ∙ ap (λ (s : List Step). steps_after who j a.0 ++ s) (b.2 ∙ ap (λ (x : Journal). steps_after who x b.0) a.1)
            ∙ sym (steps_append who j a.0 b.0),
        all_append (MayCome p who) a.0 b.0 a.3 b.3,
      );
  looked = λ g j l. looks g j (d.looked g) refl l;
  fresh = λ g m. ((w.fresh g (omega (arith, m, same))).0, ap (λ (s : List Step). s ++ more.made g) (v.fresh g m).1 ∙ (w.fresh g (omega (arith, m, same))).1);
}
  where
    within : (place : ℕ) (j was is : Journal) (fs : List Entry) → is ≡ with_list was (was.entries ++ fs) → place ≤ length was.entries → j ≡ cut place was → (place ≤ length is.entries) × (j ≡ cut place is)
    within place j was is fs e l c = subst (λ (x : Journal). (place ≤ length x.entries) × (j ≡ cut place x)) (sym e) (
      omega (arith, l, length-append was.entries fs),
      c ∙ ap (with_list was) (sym (take_within place was.entries fs l)),
    )

    looks : (g : ℕ) (j : Journal) (o : Option Journal) → d.looked g ≡ o → first_look o (more.looked g) ≡ Some j → (g < length old) × Look (journal_in old g) j (journal_in new g)
    looks g j None e l =
        let o = w.looked g j l in
        let there : g < length old = (let t = o.0 in omega (arith, t, same)) in
        let long : length (journal_in mid g).entries ≡ length (journal_in old g).entries + length (v.grown g there).0 =
        ap (λ (x : Journal). length x.entries) (v.grown g there).1 ∙ length-append (journal_in old g).entries (v.grown g there).0 in
        (there, (o.1.0, let low = o.1.1 in omega (arith, low, long), o.1.2, o.1.3))
    looks g j (Some k) e l =
        let is : Some k ≡ Some j = l in
        let o = v.looked g j (e ∙ is) in
        let more_is = w.grown g (let t = o.0 in omega (arith, t, same)) in
        let far = within o.1.0 j (journal_in mid g) (journal_in new g) more_is.0 more_is.1 o.1.2 o.1.3 in
        (o.0, (o.1.0, o.1.1, far.0, far.1))

pub visits_later : VisitsLater
visits_later p who d old mid new same v w = visits_on p who idle d old mid new same v w

-- ---- its deed is in the journals

pub all_drop : {X : Type 0} (P : X → Type 0) (m n : ℕ) (xs : List X) → m ≤ n → AllByRecursion P (drop m xs) → AllByRecursion P (drop n xs)
all_drop P zero zero xs l all = all
all_drop P zero (suc n) [] l all = tt
all_drop P zero (suc n) (x ∷ xs) l all = all_drop P zero n xs (omega arith) all.1
all_drop P (suc m) zero xs l all = absurd (omega (arith, l))
all_drop P (suc m) (suc n) [] l all = tt
all_drop P (suc m) (suc n) (x ∷ xs) l all = all_drop P m n xs (omega (arith, l)) all

module _ (order : ℕ → ℕ) (p : Phase) (who : Who) (d : Deed) (old mid : List Journal) (v : Visits p who d old mid) (fresh : (g : ℕ) → AllByRecursion (λ (e : Entry). made_by who e ≡ false) (journal_in old g).entries)
    (not_after : (g : ℕ) → AllByRecursion (λ (e : Entry). precedes order who e.who ≡ false) (journal_in mid g).entries)
    (not_before : (g : ℕ) → AllByRecursion (λ (e : Entry). precedes order e.who who ≡ false) (drop (length (journal_in old g).entries) (journal_in mid g).entries))
    (count : length p.journals ≤ length mid) (began : (g : ℕ) → g < length p.journals → journal_in p.journals g ≡ begun order who (journal_in mid g)) where
  made : (g : ℕ) → steps_of who (journal_in mid g) ≡ d.made g
  made g = elim (cases_lt g (length old)) [
    | inl l ↦
        let a = v.grown g l in
        let j = journal_in old g in
        ap (steps_of who) a.1
        ∙ steps_append who (with_list j []) j.entries a.0
        ∙ ap (λ (s : List Step). s ++ steps_after who j a.0) (steps_others who (with_list j []) j.entries (fresh g))
        ∙ sym a.2
    | inr m ↦ steps_none who (journal_in mid g) (ap (kinds_of who) (v.fresh g m).0.entries) ∙ sym (v.fresh g m).1
  ]

  no_own : (g : ℕ) → d.made g ≡ [] → kinds_of who (journal_in mid g).entries ≡ []
  no_own g none = sym (steps_kinds who (with_list (journal_in mid g) []) (journal_in mid g).entries) ∙ ap kinds_in (made g ∙ none)

  apart : {A : Type 0} (g : ℕ) → d.made g ≡ [] → has_some (kinds_of who (journal_in mid g).entries) ≡ true → A
  apart g none some = absurd (let bad : false ≡ true = ap has_some (sym (no_own g none)) ∙ some in cc bad)

  is_there : HasDeed order p mid who d
  is_there = record {
    made = made;
    there = λ g j l. let t = (v.looked g j l).0 in omega (arith, t, v.count);
    looked = λ g j l none.
        let o = (v.looked g j l).1 in (
          o.0,
          o.2,
          record {
            own = λ some. apart g none some;
            after = λ n. all_take (λ (e : Entry). precedes order who e.who ≡ false) o.0 (journal_in mid g).entries (not_after g);
            upto = λ n. all_drop (λ (e : Entry). precedes order e.who who ≡ false) (length (journal_in old g).entries) o.0 (journal_in mid g).entries o.1 (not_before g);
          },
          o.3,
        );
    count = count;
    began = began;
  }

pub visit_is_deed : VisitIsDeed
visit_is_deed order p who d old mid new v fresh not_after not_before count began on = deeds_stay order p who d mid new on (is_there order p who d old mid v fresh not_after not_before count began)

-- ---- laid out

pub laid_same : (run : Run) (kept : ℕ) (c : Contents) (old new : List Journal) → length new ≡ length old → ((g : ℕ) → g < length old → (journal_in new g).opening ≡ (journal_in old g).opening) → IsLaidOut run kept c old → IsLaidOut run kept c new
laid_same run kept c old new same openings laid = record {
  groups = same ∙ laid.groups;
  opened = λ k g above l m. opening g ∙ laid.opened k g above l m;
  everywhere = λ table g shard above e. opening g ∙ laid.everywhere table g shard above e;
  keyed = laid.keyed;
}
  where
    opening : (g : ℕ) → (journal_in new g).opening ≡ (journal_in old g).opening
    opening g = elim (cases_lt g (length old)) [
      | inl l ↦ openings g l
      | inr m ↦
          let n : length new ≤ g = omega (arith, same, m) in
          ap (λ (j : Journal). j.opening) (index_beyond new g _ n) ∙ sym (ap (λ (j : Journal). j.opening) (index_beyond old g _ m))
    ]

pub visit_is_answered : VisitIsAnswered
visit_is_answered rules run e next p who d old new bound a does v same leads catalog = record {
  deed = d;
  does = does;
  visits = v;
  leads = leads;
  on = subst (Continues e.catalog) (sym catalog) (continues_same e.catalog);
  laid = λ kept laid. subst (λ (c : Contents). IsLaidOut run kept c new) (sym catalog) (laid_same run kept e.catalog old new same (λ g l. ap (λ (j : Journal). j.opening) (v.grown g l).1) laid);
}
