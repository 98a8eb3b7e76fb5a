-- Groups as one visit after another found them.
use Rattle.std.proofs.Common.{◌≡◌, ◌≢◌, ◌⊎◌, inl, inr, ℕ, zero, suc, ◌<◌, ◌≤◌, Bool, true, false, List, [], ◌∷◌, ◌++◌, length, map, refl, sym, ap, ◌∙◌, subst, arith, Some, None, Option, slice_get}
use Rattle.std.specs.List.{AllByRecursion}
use Rattle.std.specs.Prelude.{if◌then◌else◌, slice_index_or}
use Rattle.std.proofs.Math.ListN.{set}
use Rattle.std.proofs.lemmas.List.{length-set}
use Rattle.std.proofs.lemmas.Bool.Decides.{eqb_tells}
use Rattle.cq_value.proofs.Lists.{all_weaker, append_nil}
use Rattle.cq_meaning.specs.Values.{Tables}
use Rattle.cq_tree.specs.declared.journal.Entry.{Entry}
use Rattle.cq_tree.specs.declared.journal.EntryKind.{EntryKind}
use Rattle.cq_tree.specs.declared.journal.EntryKind.TheVariants.{Read}
use Rattle.cq_tree.specs.declared.journal.Who.{Who}
use Rattle.cq_journal.specs.Records.{Journal}
use Rattle.cq_planning.specs.Touched.{among}
use Rattle.cq_history.specs.Journals.{Kinds, none, journal_in, in_each, with_entries}
use Rattle.cq_history.specs.Deeds.{Grows}
use Rattle.cq_history.proofs.Entries.{index_beyond}
use Rattle.cq_history.proofs.Script.{with_none}
use Rattle.cq_reach.specs.Seen.{Seen, journals_in, with_kinds}
use Rattle.cq_reach.specs.Outlook.{Outlook, IsGrown, Meets, MayFind, Visit}
use Rattle.cq_reach.specs.Writes.{Enters}
use Rattle.cq_reach.proofs.Growth.{got, got_below, one_item, set_there, set_beside}
use Rattle.cq_reach.proofs.Seeing.{journal_seen, journals_long}
use Rattle.cq_groups.specs.Reads.{Look, groups_in}
use Rattle.cq_groups.specs.Found.{captured_of, captured_by}

-- ---- what may be found

-- the groups as they are known
pub known_may : (o : Outlook) → MayFind o o.known
known_may o = record { count = refl; each = λ g s e. inl e }

-- one that was visited among them
pub found_with : (o : Outlook) (found : List Seen) (k : ℕ) (s : Seen) → MayFind o found → Meets o k s → MayFind o (set found k s)
found_with o found k s may met = record {
  count = length-set found k s ∙ may.count;
  each = λ g t at. elim (eqb_tells g k) [
    | inl y ↦
        let low : k < length found = let c = may.count in let l = got_below o.known k met.was met.there in omega (arith, c, l) in
        let same : s ≡ t = one_item s t (sym (set_there found k s low) ∙ sym (ap (slice_get (set found k s)) y.1) ∙ at) in
        inr (subst (λ n. Meets o n t) (sym y.1) (subst (λ (v : Seen). Meets o k v) same met))
    | inr z ↦ may.each g t (sym (set_beside found k g s z.1) ∙ at)
  ];
}

-- ---- what was found so far

-- these groups were visited, and of them these were read
pub record SoFar (who : Who) (old now : Outlook) (visited read : List ℕ) (found : List Seen) : Type 0 where
  pub may : MayFind old found
  pub count : length now.known ≡ length old.known
  pub enters : (g : ℕ) (s : Seen) → slice_get found g ≡ Some s → slice_get now.known g ≡ Some (with_kinds who (in_each read (λ h. Read) g) s)
  pub known : (g : ℕ) → among g visited ≡ false → slice_get now.known g ≡ slice_get old.known g
  pub beside : (g : ℕ) → among g visited ≡ false → slice_get found g ≡ slice_get old.known g
  pub finds : (g : ℕ) (s : Seen) → among g visited ≡ false → now.finds g s → old.finds g s
  pub comes : (e : Entry) → now.comes e → old.comes e

with_nothing : (who : Who) (s : Seen) → with_kinds who [] s ≡ s
with_nothing who s = ap (λ (es : List Entry). record s { journal = record s.journal { entries = es } }) (append_nil s.journal.entries)

pub nothing_found : (who : Who) (o : Outlook) → SoFar who o o [] [] o.known
nothing_found who o = record {
  may = known_may o;
  count = refl;
  enters = λ g s at. at ∙ ap Some (sym (with_nothing who s));
  known = λ g n. refl;
  beside = λ g n. refl;
  finds = λ g s n f. f;
  comes = λ e c. c;
}

among_last : (g k : ℕ) (gs : List ℕ) → among g (gs ++ k ∷ []) ≡ false → (among g gs ≡ false) × (g ≢ k)
among_last g k [] n = elim (eqb_tells g k) [ inl y ↦ absurd (let bad : true ≡ false = rw y.0 at n in cc) | inr z ↦ (refl, z.1) ]
among_last g k (h ∷ gs) n = elim (eqb_tells g h) [
  | inl y ↦ absurd (let bad : true ≡ false = rw y.0 at n in cc)
  | inr z ↦ (let rest : among g (gs ++ k ∷ []) ≡ false = rw z.0 at n in let m = among_last g k gs rest in (rw z.0 m.0, m.1))
]

among_still : (g k : ℕ) (gs : List ℕ) → g ≢ k → among g (gs ++ k ∷ []) ≡ among g gs
among_still g k [] n = elim (eqb_tells g k) [ inl y ↦ absurd (n y.1) | inr z ↦ rw z.0 refl ]
among_still g k (h ∷ gs) n = elim (eqb_tells g h) [ inl y ↦ rw y.0 refl | inr z ↦ rw z.0 (among_still g k gs n) ]

among_there : (k : ℕ) (gs : List ℕ) → among k (gs ++ k ∷ []) ≡ true
among_there k [] = elim (eqb_tells k k) [ inl y ↦ rw y.0 refl | inr z ↦ absurd (z.1 refl) ]
among_there k (h ∷ gs) = elim (eqb_tells k h) [ inl y ↦ rw y.0 refl | inr z ↦ rw z.0 (among_there k gs) ]

module _ (who : Who) (old mid new : Outlook) (gs : List ℕ) (found : List Seen) (so : SoFar who old mid gs gs found) (k : ℕ) (s : Seen) (apart : among k gs ≡ false) where
  -- the next visit is one from the start
  pub meets_first : Meets mid k s → Meets old k s
  meets_first m = record {
    was = m.was;
    there = sym (so.known k apart) ∙ m.there;
    grown = record { more = m.grown.more; all = all_weaker mid.comes old.comes so.comes m.grown.more m.grown.all; is = m.grown.is };
    may = so.finds k s apart m.may;
  }

  low : Meets mid k s → k < length found
  low m = let c = so.may.count in let d = so.count in let l = got_below mid.known k m.was m.there in omega (arith, c, d, l)

  pub found_at : Meets mid k s → slice_get (set found k s) k ≡ Some s
  found_at m = set_there found k s (low m)

  module _ (kinds : List EntryKind) (v : Visit who k kinds mid new s) (read : List ℕ) (here : in_each read (λ h. Read) k ≡ kinds) (others : (g : ℕ) → g ≢ k → in_each read (λ h. Read) g ≡ in_each gs (λ h. Read) g) where
    pub next_found : SoFar who old new (gs ++ k ∷ []) read (set found k s)
    next_found = record {
      may = found_with old found k s so.may (meets_first v.met);
      count = v.count ∙ so.count;
      enters = λ g t at. elim (eqb_tells g k) [
        | inl y ↦
            let same : s ≡ t = one_item s t (sym (set_there found k s (low v.met)) ∙ sym (ap (slice_get (set found k s)) y.1) ∙ at) in
            ap (slice_get new.known) y.1 ∙ v.is ∙ (λ i. Some (with_kinds who (sym here i) (same i))) ∙ ap (λ n. Some (with_kinds who (in_each read (λ h. Read) n) t)) (sym y.1)
        | inr z ↦
            v.others g z.1 ∙ so.enters g t (sym (set_beside found k g s z.1) ∙ at) ∙ ap (λ (ks : List EntryKind). Some (with_kinds who ks t)) (sym (others g z.1))
      ];
      known = λ g n. let b = among_last g k gs n in v.others g b.1 ∙ so.known g b.0;
      beside = λ g n. let b = among_last g k gs n in set_beside found k g s b.1 ∙ so.beside g b.0;
      finds = λ g t n f. let b = among_last g k gs n in so.finds g t b.0 (v.finds g t b.1 f);
      comes = λ e c. so.comes e (v.comes e c);
    }

  -- it was read
  pub next_read : Visit who k (Read ∷ []) mid new s → SoFar who old new (gs ++ k ∷ []) (gs ++ k ∷ []) (set found k s)
  next_read v = next_found (Read ∷ []) v (gs ++ k ∷ []) (rw (among_there k gs) refl) (λ g n. ap (λ b. if b then Read ∷ [] else []) (among_still g k gs n))

  -- or it wasn't
  pub next_failed : Visit who k [] mid new s → SoFar who old new (gs ++ k ∷ []) gs (set found k s)
  next_failed v = next_found [] v gs (rw apart refl) (λ g n. refl)

  -- what was read before stays
  pub captured_still : (looks : List Look) → among k (groups_in looks) ≡ false → captured_by (set found k s) looks ≡ captured_by found looks
  captured_still [] n = refl
  captured_still (l ∷ looks) n = elim (eqb_tells k l.0) [
    | inl y ↦ absurd (let bad : true ≡ false = rw y.0 at n in cc)
    | inr z ↦
        let rest : among k (groups_in looks) ≡ false = rw z.0 at n in
        (λ i. captured_of (set_beside found k l.0 s (λ e. z.1 (sym e)) i) l.1 ++ captured_still looks rest i)
  ]

-- ---- what was entered

-- entries that each group has more are those of the journals
pub entries_grow : (who : Who) (kinds : Kinds) (found new : List Seen) → length new ≡ length found → ((g : ℕ) (s : Seen) → slice_get found g ≡ Some s → slice_get new g ≡ Some (with_kinds who (kinds g) s)) →
    ((g : ℕ) → length found ≤ g → kinds g ≡ []) → Enters who kinds found new
entries_grow who kinds found new count each beyond =
    let a = journals_long found in
    let b = journals_long new in
    record {
      count = omega (arith, a, b, count);
      kept = λ g l.
          let s = got found g (omega (arith, a, l)) in
          journal_seen new g (with_kinds who (kinds g) s.0) _ (each g s.0 s.1) ∙ ap (with_entries who (kinds g)) (sym (journal_seen found g s.0 _ s.1));
      fresh = λ g m.
          let far : length (journals_in new) ≤ g = omega (arith, a, b, count, m) in
          let none = index_beyond (journals_in new) g _ far in (
            record { number = ap (λ (j : Journal). j.number) none; base = λ table. ap (λ (j : Journal). j.base table) none; entries = ap (λ (j : Journal). j.entries) none },
            beyond g (omega (arith, a, m)),
          );
    }

-- so of reads of groups that are there
pub reads_grow : (who : Who) (old now : Outlook) (visited read : List ℕ) (found : List Seen) → SoFar who old now visited read found → ((g : ℕ) → among g read ≡ true → g < length old.known) → Enters who (in_each read (λ g. Read)) found now.known
reads_grow who old now visited read found so within = entries_grow who (in_each read (λ g. Read)) found now.known (so.count ∙ sym so.may.count) so.enters (λ g m. none g m (among g read) refl)
  where
    none : (g : ℕ) → length found ≤ g → (b : Bool) → among g read ≡ b → in_each read (λ h. Read) g ≡ []
    none g m true e = absurd (let l = within g e in let c = so.may.count in omega (arith, l, c, m))
    none g m false e = rw e refl

pub lists_same : {A : Type 0} (xs ys : List A) → length ys ≡ length xs → ((g : ℕ) → g < length xs → slice_get ys g ≡ slice_get xs g) → ys ≡ xs
lists_same [] [] n e = refl
lists_same [] (y ∷ ys) n e = absurd (omega (arith, n))
lists_same (x ∷ xs) [] n e = absurd (omega (arith, n))
lists_same (x ∷ xs) (y ∷ ys) n e =
    let first : y ≡ x = one_item y x (e 0 (omega arith)) in
    let rest = lists_same xs ys (omega (arith, n)) (λ g l. e (suc g) (omega (arith, l))) in
    λ i. first i ∷ rest i

at_index : {A : Type 0} (xs : List A) (g : ℕ) (d : A) → g < length xs → slice_get xs g ≡ Some (slice_index_or xs g d)
at_index [] g d l = absurd (omega (arith, l))
at_index (x ∷ xs) zero d l = refl
at_index (x ∷ xs) (suc g) d l = at_index xs g d (omega (arith, l))

-- where nothing was entered the journals are as they were
pub none_entered : (who : Who) (found new : List Seen) → length new ≡ length found → Enters who none found new → journals_in new ≡ journals_in found
none_entered who found new count e =
    let a = journals_long found in
    let b = journals_long new in
    lists_same (journals_in found) (journals_in new) (b ∙ count ∙ sym a)
    (λ g l. at_index (journals_in new) g _ (omega (arith, a, b, count, l)) ∙ ap Some (e.kept g l ∙ with_none who (journal_in (journals_in found) g)) ∙ sym (at_index (journals_in found) g _ l))
