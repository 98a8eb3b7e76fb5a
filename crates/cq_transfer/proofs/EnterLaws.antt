-- What a statement enters in a group, call after call.
use Rattle.std.proofs.Common.{◌≡◌, ◌≢◌, ◌∙◌, ◌⊎◌, inl, inr, true, false, List, [], ◌∷◌, ◌++◌, refl, sym, ap, subst, append-nil, append_assoc}
use Rattle.std.specs.List.{AllByRecursion}
use Rattle.std.proofs.lemmas.Bool.Decides.{eqb_tells}
use Rattle.cq_value.proofs.Lists.{all_append, all_weaker}
use Rattle.cq_tree.specs.declared.journal.Who.{Who}
use Rattle.cq_tree.specs.declared.journal.Entry.{Entry}
use Rattle.cq_tree.specs.declared.journal.EntryKind.{EntryKind}
use Rattle.cq_history.specs.Journals.{Step, made_by, steps_after}
use Rattle.cq_history.proofs.Entries.{AreOthers, entries_by, steps_append, steps_own, steps_others}
use Rattle.cq_history.proofs.Visiting.{made_own}
use Rattle.cq_reach.specs.Seen.{Seen, with_kinds}
use Rattle.cq_move_calls.specs.Moving.{Told}
use Rattle.cq_transfer.specs.Entering.{Enters, IsBehind}

-- an entry of another session isn't the statement's
not_made : (who : Who) (e : Entry) → e.who.session ≢ who.session → made_by who e ≡ false
not_made who e other = elim (eqb_tells e.who.session who.session) [ inl p ↦ absurd (other p.1) | inr p ↦ rw p.0 refl ]

-- a group with these entries more in its journal
abbrev pub with_more : List Entry → Seen → Seen
with_more es s = record s { journal = record s.journal { entries = s.journal.entries ++ es } }

pub told_is : {comes : Entry → Type 0} {who : Who} {kinds : List EntryKind} {fact : Seen → Type 0} {s t : Seen} (m : Told comes who kinds fact s t) → t ≡ with_kinds who kinds (with_more m.grown.more s)
told_is {who = who} {kinds = kinds} m = m.is ∙ ap (with_kinds who kinds) m.grown.is

pub told_so : {comes : Entry → Type 0} {who : Who} {kinds : List EntryKind} {fact : Seen → Type 0} {s t : Seen} (m : Told comes who kinds fact s t) → fact (with_more m.grown.more s)
told_so {fact = fact} m = subst fact m.grown.is m.so

pub more_twice : (xs ys : List Entry) (s : Seen) → with_more ys (with_more xs s) ≡ with_more (xs ++ ys) s
more_twice xs ys s = ap (λ (es : List Entry). record s { journal = record s.journal { entries = es } }) (append_assoc s.journal.entries xs ys)

pub more_none : (s : Seen) → s ≡ with_more [] s
more_none s = ap (λ (es : List Entry). record s { journal = record s.journal { entries = es } }) (sym (append-nil s.journal.entries))

-- a step of a statement over what it found
abbrev pub step_at : (more : List Entry) → EntryKind → Seen → Step
step_at more kind s = record { before = (with_more more s).journal; kind = kind }

module _ (comes : Entry → Type 0) (who : Who) where
  pub enters_none : (s : Seen) → Enters comes who [] s s
  enters_none s = record { grown = record { more = []; all = tt; is = more_none s }; own = refl }

  pub enters_then : (a b : List Step) (s t u : Seen) → Enters comes who a s t → Enters comes who b t u → Enters comes who (a ++ b) s u
  enters_then a b s t u x y = record {
    grown = record {
      more = x.grown.more ++ y.grown.more;
      all = all_append (λ (e : Entry). (made_by who e ≡ true) ⊎ comes e) x.grown.more y.grown.more x.grown.all y.grown.all;
      is = y.grown.is ∙ ap (with_more y.grown.more) x.grown.is ∙ more_twice x.grown.more y.grown.more s;
    };
    own = ap (λ (v : List Step). v ++ b) x.own
        ∙ ap (λ (v : List Step). steps_after who s.journal x.grown.more ++ v) (y.own ∙ ap (λ (v : Seen). steps_after who v.journal y.grown.more) x.grown.is)
        ∙ sym (steps_append who s.journal x.grown.more y.grown.more);
  }

  pub told_behind : (kind : EntryKind) (fact : Seen → Type 0) (s t : Seen) (m : Told comes who (kind ∷ []) fact s t) → IsBehind who (step_at m.grown.more kind s) t
  told_behind kind fact s t m = ap (λ (v : Seen). v.journal) (told_is m)

  module _ (others : (e : Entry) → comes e → e.who.session ≢ who.session) where
    not_own : (es : List Entry) → AllByRecursion comes es → AreOthers who es
    not_own es all = all_weaker comes (λ (e : Entry). made_by who e ≡ false) (λ e c. not_made who e (others e c)) es all

    may_come : (es : List Entry) → AllByRecursion comes es → AllByRecursion (λ (e : Entry). (made_by who e ≡ true) ⊎ comes e) es
    may_come es all = all_weaker comes (λ (e : Entry). (made_by who e ≡ true) ⊎ comes e) (λ e c. inr c) es all

    pub enters_not : (fact : Seen → Type 0) (s t : Seen) → Told comes who [] fact s t → Enters comes who [] s t
    enters_not fact s t m = record {
      grown = record { more = m.grown.more; all = may_come m.grown.more m.grown.all; is = told_is m ∙ sym (more_none (with_more m.grown.more s)) };
      own = sym (steps_others who s.journal m.grown.more (not_own m.grown.more m.grown.all));
    }

    pub enters_one : (kind : EntryKind) (fact : Seen → Type 0) (s t : Seen) (m : Told comes who (kind ∷ []) fact s t) → Enters comes who (step_at m.grown.more kind s ∷ []) s t
    enters_one kind fact s t m = record {
      grown = record {
        more = m.grown.more ++ entries_by who (kind ∷ []);
        all = all_append (λ (e : Entry). (made_by who e ≡ true) ⊎ comes e) m.grown.more (entries_by who (kind ∷ [])) (may_come m.grown.more m.grown.all) (inl (made_own who kind), tt);
        is = told_is m ∙ more_twice m.grown.more (entries_by who (kind ∷ [])) s;
      };
      own = sym (
          steps_append who s.journal m.grown.more (entries_by who (kind ∷ []))
          ∙ ap (λ (v : List Step). v ++ steps_after who (with_more m.grown.more s).journal (entries_by who (kind ∷ []))) (steps_others who s.journal m.grown.more (not_own m.grown.more m.grown.all))
          ∙ steps_own who (with_more m.grown.more s).journal (kind ∷ [])
          );
    }

-- what may come since may come before
pub enters_weaker : (comes before : Entry → Type 0) (who : Who) (steps : List Step) (s t : Seen) → ((e : Entry) → comes e → before e) → Enters comes who steps s t → Enters before who steps s t
enters_weaker comes before who steps s t f x = record {
  grown = record {
    more = x.grown.more;
    all = all_weaker (λ (e : Entry). (made_by who e ≡ true) ⊎ comes e) (λ (e : Entry). (made_by who e ≡ true) ⊎ before e) (λ e c. elim c [ inl o ↦ inl o | inr m ↦ inr (f e m) ]) x.grown.more x.grown.all;
    is = x.grown.is;
  };
  own = x.own;
}

abbrev pub told_weaker : (comes before : Entry → Type 0) (who : Who) (kinds : List EntryKind) (fact : Seen → Type 0) (s t : Seen) → ((e : Entry) → comes e → before e) → Told comes who kinds fact s t → Told before who kinds fact s t
told_weaker comes before who kinds fact s t f m = record { found = m.found; grown = record { more = m.grown.more; all = all_weaker comes before f m.grown.more m.grown.all; is = m.grown.is }; so = m.so; is = m.is }
