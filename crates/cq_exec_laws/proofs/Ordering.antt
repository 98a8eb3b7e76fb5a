-- Computing a plan, each of whose blocks names results that are set alone, leaves results of which each is what its plan gives over them.
use Rattle.std.proofs.Common.{◌≡◌, ◌<◌, ℕ, List, [], ◌∷◌, ◌++◌, length, refl, sym, ap, subst, ◌∙◌, inl, inr, ◌⊎◌}
use Rattle.std.proofs.lemmas.List.{length-set}
use Rattle.cq_meaning.specs.Lists.{Has}
use Rattle.cq_meaning.specs.Values.{Row, Results, result_at}
use Rattle.cq_meaning.proofs.RowLaws.{has_either, has_left, has_right}
use Rattle.cq_catalog.specs.Contents.{Contents}
use Rattle.cq_planning.specs.Database.{Held}
use Rattle.cq_one_plan.specs.declared.plan.Plan.{Plan, Plan', Row_of-Plan, end_of-Plan, more_of-Plan}
use Rattle.cq_one_plan.specs.Yields.{GivesBy, IsDone, AreDone}
use Rattle.cq_plan_laws.proofs.Scoping.{set_here, set_there}
use Rattle.cq_exec_laws.specs.Computing.{Computes, ComputesAll}
use Rattle.cq_exec_laws.specs.Ordering.{set_by, set_by_all, IsOrdered, AreOrdered, ComputingYields}
use Rattle.cq_exec_laws.proofs.Naming.{gives_named}

-- ---- results that are set stay

-- a plan sets only results that weren't set
mutual
  fresh : (count : ℕ) (P : ℕ → Type 0) (p : Plan) → IsOrdered count P p → (i : ℕ) → Has (set_by p) i → P i → ⊥
  fresh count P (Plan' number n subplans planner parting combine tasks q touches grounds) o i h s = elim (has_either (set_by_all subplans) (number ∷ []) i h) [
    | inl below ↦ all_fresh count P subplans o.0 i below s
    | inr own ↦ elim own [ inl e ↦ o.3 (inl (subst P (sym e) s)) | inr none ↦ none ]
  ]

  pub all_fresh : {n : _} (count : ℕ) (P : ℕ → Type 0) (ps : Row_of-Plan n) → AreOrdered count P ps → (i : ℕ) → Has (set_by_all ps) i → P i → ⊥
  all_fresh count P end_of-Plan o i h s = h
  all_fresh count P (more_of-Plan p more) o i h s = elim (has_either (set_by p) (set_by_all more) i h) [
    | inl first ↦ fresh count P p o.0 i first s
    | inr later ↦ all_fresh count (λ i. P i ⊎ Has (set_by p) i) more o.1 i later (inl s)
  ]

module _ (c : Contents) (held : Held) where
  mutual
    -- of others nothing is changed, and there are as many
    kept : (p : Plan) (rs after : Results) → Computes c held rs p after → (i : ℕ) → (Has (set_by p) i → ⊥) → result_at after i ≡ result_at rs i
    kept (Plan' number n subplans planner parting combine tasks q touches grounds) rs after h i none =
        ap (λ (us : Results). result_at us i) h.4
        ∙ (set_there h.0 number i h.2 (λ e. none (has_right (set_by_all subplans) (number ∷ []) i (inl (sym e))))
        ∙ all_kept subplans rs h.0 h.1 i (λ k. none (has_left (set_by_all subplans) (number ∷ []) i k)))

    all_kept : {n : _} (ps : Row_of-Plan n) (rs after : Results) → ComputesAll c held rs ps after → (i : ℕ) → (Has (set_by_all ps) i → ⊥) → result_at after i ≡ result_at rs i
    all_kept end_of-Plan rs after h i none = ap (λ (us : Results). result_at us i) h
    all_kept (more_of-Plan p more) rs after h i none =
        all_kept more h.0 after h.2 i (λ k. none (has_right (set_by p) (set_by_all more) i k)) ∙ kept p rs h.0 h.1 i (λ k. none (has_left (set_by p) (set_by_all more) i k))

  mutual
    pub long : (p : Plan) (rs after : Results) → Computes c held rs p after → length after ≡ length rs
    long (Plan' number n subplans planner parting combine tasks q touches grounds) rs after h =
        ap (λ (us : Results). length us) h.4 ∙ (length-set h.0 number h.2 ∙ all_long subplans rs h.0 h.1)

    all_long : {n : _} (ps : Row_of-Plan n) (rs after : Results) → ComputesAll c held rs ps after → length after ≡ length rs
    all_long end_of-Plan rs after h = ap (λ (us : Results). length us) h
    all_long (more_of-Plan p more) rs after h = all_long more h.0 after h.2 ∙ long p rs h.0 h.1

  -- ---- what is set is what its plan gives

  mutual
    done : (P : ℕ → Type 0) (p : Plan) (rs after fin : Results) → IsOrdered (length rs) P p → Computes c held rs p after → ((i : ℕ) → P i ⊎ Has (set_by p) i → result_at fin i ≡ result_at after i) → IsDone c held fin p
    done P (Plan' number n subplans planner parting combine tasks q touches grounds) rs after fin o h agree =
        let now : Results = h.0 in
        let rows : List Row = h.2 in
        let below : List ℕ = set_by_all subplans in
        let within : number < length now = subst (λ m. number < m) (sym (all_long subplans rs now h.1)) o.2 in
        let own : result_at fin number ≡ rows =
        agree number (inr (has_right below (number ∷ []) number (inl refl))) ∙ (ap (λ (us : Results). result_at us number) h.4 ∙ set_here now number rows within) in
        let agrees : (i : ℕ) → P i ⊎ Has below i → result_at fin i ≡ result_at now i =
        λ i k. agree i (turn i k) ∙ (ap (λ (us : Results). result_at us i) h.4 ∙ set_there now number i rows (λ e. o.3 (subst (λ j. P j ⊎ Has below j) e k))) in (
          all_done P subplans rs now fin o.0 h.1 agrees,
          subst (λ us. the_block us) (sym own) (gives_named now fin (λ i. P i ⊎ Has below i) (λ i k. sym (agrees i k)) c held planner parting combine tasks q touches rows o.1 h.3),
        )
      where
        the_block : List Row → Type 0
        the_block us = GivesBy c held fin planner parting combine tasks q touches us

        turn : (i : ℕ) → P i ⊎ Has (set_by_all subplans) i → P i ⊎ Has (set_by_all subplans ++ number ∷ []) i
        turn i (inl p) = inl p
        turn i (inr k) = inr (has_left (set_by_all subplans) (number ∷ []) i k)

    all_done : {n : _} (P : ℕ → Type 0) (ps : Row_of-Plan n) (rs after fin : Results) → AreOrdered (length rs) P ps → ComputesAll c held rs ps after → ((i : ℕ) → P i ⊎ Has (set_by_all ps) i → result_at fin i ≡ result_at after i) → AreDone c held fin ps
    all_done P end_of-Plan rs after fin o h agree = tt
    all_done P (more_of-Plan p more) rs after fin o h agree =
        let now : Results = h.0 in
        let next : AreOrdered (length now) (λ i. P i ⊎ Has (set_by p) i) more = subst (λ m. AreOrdered m (λ i. P i ⊎ Has (set_by p) i) more) (sym (long p rs now h.1)) o.1 in (
          done P p rs now fin o.0 h.1 (λ i k. agree i (first i k) ∙ all_kept more now after h.2 i (λ later. all_fresh (length now) (λ i. P i ⊎ Has (set_by p) i) more next i later k)),
          all_done (λ i. P i ⊎ Has (set_by p) i) more now after fin next h.2 (λ i k. agree i (second i k)),
        )
      where
        first : (i : ℕ) → P i ⊎ Has (set_by p) i → P i ⊎ Has (set_by p ++ set_by_all more) i
        first i (inl s) = inl s
        first i (inr k) = inr (has_left (set_by p) (set_by_all more) i k)

        second : (i : ℕ) → (P i ⊎ Has (set_by p) i) ⊎ Has (set_by_all more) i → P i ⊎ Has (set_by p ++ set_by_all more) i
        second i (inl k) = first i k
        second i (inr k) = inr (has_right (set_by p) (set_by_all more) i k)

pub computing_yields : ComputingYields
computing_yields c held p rs after o h =
    let d = done c held (λ i. ⊥) p rs after after o h (λ i k. refl) in
    (d, (after, d, refl))
