-- The stores that the sessions of a block retired.
use Rattle.std.proofs.Common.{◌≡◌, ℕ, List, [], ◌∷◌, ◌++◌, refl, sym, ◌∙◌, subst, append_assoc, Some}
use Rattle.std.specs.Prelude.{slice_get, filter}
use Rattle.std.specs.List.{AllZip, AllByRecursion}
use Rattle.std.proofs.lemmas.List.Elements.{filter-append}
use Rattle.cq_value.proofs.Lists.{all_append, append_nil}
use Rattle.cq_answer.specs.declared.answered.Answered.{Answered}
use Rattle.cq_store.specs.Stores.{StoreState}
use Rattle.cq_store.specs.declared.worker.Worker.{Worker}
use Rattle.cq_group.specs.declared.group.GroupState.{GroupState}
use Rattle.cq_history.specs.Run.{Rules}
use Rattle.cq_history.specs.Phases.{who_of}
use Rattle.cq_cell.specs.Lists.{AllThree}
use Rattle.cq_shared.specs.Terms.{Terms}
use Rattle.cq_shared.specs.Errands.{WorkerPass, IsRuledAt}
use Rattle.cq_shared.specs.Seen.{Pass, IsRuled}
use Rattle.cq_cluster.specs.Accounts.{AreRetired, StandsFor, is_retiring}
use Rattle.cq_cluster.proofs.ListLaws.{zip_both}
use Rattle.cq_cluster.proofs.RetiringLaws.{retires_on}
use Rattle.cq_block_laws.specs.Serving.{Opening}
use Rattle.cq_block_laws.specs.Closing.{Session, answers_of}
use Rattle.cq_block_laws.specs.Sessions.{Hands, AreUnder, IsSpared, ServesOne, AreServedBy, retired_by, HasRun}
use Rattle.cq_block_laws.specs.Laws.{BlockRetiresAll}
use Rattle.cq_block_laws.proofs.Places.{got_as}
use Rattle.cq_block_laws.proofs.Histories.{IsRow, rows}
use Rattle.cq_block_laws.proofs.Starting.{under_first}

module _ {X C : Type 0} (state : X → StoreState) (terms : C → Terms) (rules : Rules) (nodes : ℕ) (o : Opening) where
  abbrev Served : Hands X C → List Answered → Hands X C → Type 0
  Served first answers last = AreServedBy state terms rules nodes o first answers last

  -- behind the stores of answers before stand those of the session's
  served_retires : (before : List Answered) (first : Hands X C) (answers : List Answered) (last : Hands X C) → Served first answers last → AreRetired before first.retired → AreRetired (before ++ answers) last.retired
  served_retires before first [] last h are = subst (λ (v : List Answered). AreRetired v last.retired) (sym (append_nil before)) (subst (λ (v : Hands X C). AreRetired before v.retired) (sym h) are)
  served_retires before first (a ∷ more) last h are =
      subst (λ (v : List Answered). AreRetired v last.retired) (append_assoc before (a ∷ []) more)
      (served_retires (before ++ a ∷ []) h.0 more last h.2 (retires_on before (who_of a) a first.retired h.0.retired refl h.1.retires are))

  module _ (c : C) where
    -- passes stay at their cells
    still_under : (old new : Hands X C) (a : Answered) → ServesOne state terms rules nodes o a old new → AreUnder c old → AreUnder c new
    still_under old new a one under = record { passes = passes; benches = benches }
      where
        passes : (g : ℕ) (q : Pass X C) → slice_get new.passes g ≡ Some q → IsRuled q.place c
        passes g q e =
            let p = got_as new.passes old.passes g q one.goes_on.count e in
            let r = under.passes g p.0 p.1 in
            (r.0, (one.goes_on.each g p.0 q p.1 e).same.2 ∙ r.1, r.2)

        benches : (at : ℕ) (q : WorkerPass X C) → slice_get new.benches at ≡ Some q → IsRuledAt q.place c
        benches at q e =
            let p = got_as new.benches old.benches at q one.benches.count e in
            let r = under.benches at p.0 p.1 in
            (r.0, (one.benches.each at p.0 q p.1 e).same.2 ∙ r.1, r.2)

    served_spared : (first : Hands X C) (answers : List Answered) (last : Hands X C) → Served first answers last → AreUnder c first → AllByRecursion (IsSpared state terms c) first.retired → AllByRecursion (IsSpared state terms c) last.retired
    served_spared first [] last h under all = subst (λ (v : Hands X C). AllByRecursion (IsSpared state terms c) v.retired) (sym h) all
    served_spared first (a ∷ more) last h under all = served_spared h.0 more last h.2 (still_under first h.0 a h.1 under) (h.1.fresh c under all)

module _ {X C : Type 0} (state : X → StoreState) (terms : C → Terms) (rules : Rules) (nodes : ℕ) (o : Opening) (opened : List (GroupState X)) (workers : List (Worker X)) (sessions : List Session) (closed : List (GroupState X))
    (returned : List (Worker X)) (h : HasRun state terms rules nodes o opened workers sessions closed returned) where
  abbrev Row : Session → Hands X C → Hands X C → Type 0
  Row s first last = IsRow state terms rules nodes o opened workers sessions closed returned h s first last

  session_retires : (s : Session) (first last : Hands X C) → Row s first last → AreRetired s.answers last.retired
  session_retires s first last r = served_retires state terms rules nodes o [] first s.answers last r.served (subst (AreRetired []) (sym r.none) tt)

  session_spared : (s : Session) (first last : Hands X C) → Row s first last → AllByRecursion (IsSpared state terms h.shared_by) last.retired
  session_spared s first last r =
      served_spared state terms rules nodes o h.shared_by first s.answers last r.served (under_first state terms rules nodes o opened workers sessions closed returned h s first last r)
      (subst (AllByRecursion (IsSpared state terms h.shared_by)) (sym r.none) tt)

  all_retired : (ss : List Session) (fs ls : List (Hands X C)) → AllThree Row ss fs ls → AreRetired (answers_of ss) (retired_by ls) × AllByRecursion (IsSpared state terms h.shared_by) (retired_by ls)
  all_retired [] [] [] r = (tt, tt)
  all_retired [] [] (l ∷ ls) r = absurd r
  all_retired [] (f ∷ fs) ls r = absurd r
  all_retired (s ∷ ss) [] ls r = absurd r
  all_retired (s ∷ ss) (f ∷ fs) [] r = absurd r
  all_retired (s ∷ ss) (f ∷ fs) (l ∷ ls) r =
      let more = all_retired ss fs ls r.1 in (
        subst (λ (v : List Answered). AllZip StandsFor v (retired_by (l ∷ ls))) (sym (filter-append is_retiring s.answers (answers_of ss)))
            (zip_both StandsFor (filter is_retiring s.answers) (filter is_retiring (answers_of ss)) l.retired (retired_by ls) (session_retires s f l r.0) more.0),
        all_append (IsSpared state terms h.shared_by) l.retired (retired_by ls) (session_spared s f l r.0) more.1,
      )

pub block_retires_all : {X C : Type 0} (state : X → StoreState) (terms : C → Terms) → BlockRetiresAll state C terms
block_retires_all state terms rules nodes o opened workers sessions closed returned h =
    all_retired state terms rules nodes o opened workers sessions closed returned h sessions h.firsts h.lasts (rows state terms rules nodes o opened workers sessions closed returned h)
