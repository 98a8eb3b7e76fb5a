-- What a log with more changes makes of rows.
use Rattle.std.proofs.Common.{◌≡◌, ◌∙◌, ℕ, Bool, true, false, if◌then◌else◌, nat_eq, List, [], ◌∷◌, ◌++◌, map, filter, refl, sym, ap, subst, append-nil, eq-eqb}
use Rattle.std.proofs.lemmas.List.{map-append}
use Rattle.std.proofs.lemmas.List.Elements.{filter-append}
use Rattle.cq_value.specs.declared.change.Change.{Change}
use Rattle.cq_value.specs.Changes.{FitsOne, changed, applied, Fit}
use Rattle.cq_value.specs.Tables.{Table}
use Rattle.cq_change.specs.declared.log.TableChange.{TableChange}
use Rattle.cq_change.specs.Logs.{changes_in, logged, Leads, EmptyLeads, LogGoesOn, OthersStay}

pub applied_append : (t : Table) (xs ys : List Change) → applied t (xs ++ ys) ≡ applied (applied t xs) ys
applied_append t [] ys = refl
applied_append t (x ∷ xs) ys = applied_append (changed t x) xs ys

pub fit_append : (t : Table) (xs ys : List Change) → Fit t xs → Fit (applied t xs) ys → Fit t (xs ++ ys)
fit_append t [] ys h k = k
fit_append t (x ∷ xs) ys h k = (h.0, fit_append (changed t x) xs ys h.1 k)

pub changes_append : (table : ℕ) (xs ys : List TableChange) → changes_in table (xs ++ ys) ≡ changes_in table xs ++ changes_in table ys
changes_append table xs ys =
    ap (λ zs. map (λ (c : TableChange). c.change) zs) (filter-append (λ (c : TableChange). nat_eq c.table table) xs ys)
    ∙ map-append (λ (c : TableChange). c.change) (filter (λ (c : TableChange). nat_eq c.table table) xs) (filter (λ (c : TableChange). nat_eq c.table table) ys)

pub changes_logged : (table : ℕ) (cs : List Change) → changes_in table (logged table cs) ≡ cs
changes_logged table [] = refl
changes_logged table (c ∷ cs) =
    ap (λ b. map (λ (d : TableChange). d.change) (if b then record { table = table; change = c } ∷ filter (λ (d : TableChange). nat_eq d.table table) (logged table cs) else filter (λ (d : TableChange). nat_eq d.table table) (logged table cs))) (eq-eqb table table refl)
    ∙ ap (λ ds. c ∷ ds) (changes_logged table cs)

pub changes_others : (table other : ℕ) (cs : List Change) → nat_eq other table ≡ false → changes_in table (logged other cs) ≡ []
changes_others table other [] e = refl
changes_others table other (c ∷ cs) e =
    ap (λ b. map (λ (d : TableChange). d.change) (if b then record { table = other; change = c } ∷ filter (λ (d : TableChange). nat_eq d.table table) (logged other cs) else filter (λ (d : TableChange). nat_eq d.table table) (logged other cs))) e
    ∙ changes_others table other cs e

pub empty_leads : EmptyLeads
empty_leads table rows = record { fit = tt; gives = refl }

pub log_goes_on : LogGoesOn
log_goes_on table log before after more h fit =
    let all : changes_in table (log ++ logged table more) ≡ changes_in table log ++ more = changes_append table log (logged table more) ∙ ap (λ cs. changes_in table log ++ cs) (changes_logged table more) in
    record {
      fit = subst (λ cs. Fit before cs) (sym all) (fit_append before (changes_in table log) more h.fit (subst (λ t. Fit t more) (sym h.gives) fit));
      gives = ap (applied before) all ∙ applied_append before (changes_in table log) more ∙ ap (λ t. applied t more) h.gives;
    }

pub others_stay : OthersStay
others_stay table other log before after more e h =
    let all : changes_in table (log ++ logged other more) ≡ changes_in table log = changes_append table log (logged other more) ∙ ap (λ cs. changes_in table log ++ cs) (changes_others table other more e) ∙ append-nil (changes_in table log) in
    record { fit = subst (λ cs. Fit before cs) (sym all) h.fit; gives = ap (applied before) all ∙ h.gives }
