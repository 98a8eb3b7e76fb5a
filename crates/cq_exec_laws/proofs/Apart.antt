-- Plans that set different results, each over the same results before it: in any order, each block names only results that are set.
use Rattle.std.proofs.Common.{◌≡◌, ◌<◌, ℕ, List, [], ◌∷◌, ◌++◌, map, filter_map, Option, None, Some, Bool, refl, sym, ap, subst, ◌∙◌, ◌⊎◌, inl, inr}
use Rattle.std.specs.Prelude.{⊤}
use Rattle.std.specs.List.{flat_map}
use Rattle.std.proofs.lemmas.Grind.{flat_map-append}
use Rattle.std.proofs.lemmas.List.Elements.{filter_map-append}
use Rattle.cq_tree.specs.declared.plan.Planner.{Planner}
use Rattle.cq_tree.specs.declared.query.Query.{Query}
use Rattle.cq_meaning.specs.Lists.{Has}
use Rattle.cq_meaning.proofs.RowLaws.{has_either, has_left, has_right}
use Rattle.cq_meaning.proofs.Reorder.{Reordered, none, kept, turned, then, same, swapped}
use Rattle.cq_meaning_laws.proofs.SortLaws.{back}
use Rattle.cq_catalog.specs.Contents.{Contents}
use Rattle.cq_outline.specs.declared.joining.Joined.{Joined}
use Rattle.cq_one_plan.specs.declared.plan.Grounds.{Grounds}
use Rattle.cq_one_plan.specs.declared.plan.Plan.{Plan, Plan', roll-Plan, Row_of-Plan, end_of-Plan, more_of-Plan, items-the_row-Plan, items_hidden-the_row-Plan-0}
use Rattle.cq_one_plan.specs.declared.plan.Plan.TheBlock.{hidden-the_row-Plan-0}
use Rattle.cq_one_plan.specs.declared.plan.Plan.TheOpen.{Plan-F}
use Rattle.cq_one_plan.specs.declared.plan.Part.{Part}
use Rattle.cq_one_plan.specs.declared.plan.Part.TheVariants.{Stays, Leaves, Asks}
use Rattle.cq_one_plan.specs.Plans as parted
use Rattle.cq_one_plan.specs.Plans.{planned_in, plan_with}
use Rattle.cq_plan_laws.specs.Scoping.{QueryNames}
use Rattle.cq_exec_laws.specs.Ordering.{set_by, set_by_all, IsOrdered, AreOrdered}
use Rattle.cq_exec_laws.proofs.Growing.{wider, query_grows}
use Rattle.cq_exec_laws.proofs.Ordering.{all_fresh}

-- ---- plans as lists

abbrev pub set_in : List Plan → List ℕ
set_in ps = flat_map set_by ps

pub set_left : (ps qs : List Plan) (i : ℕ) → Has (set_in ps) i → Has (set_in (ps ++ qs)) i
set_left ps qs i h = subst (λ (us : List ℕ). Has us i) (sym (flat_map-append set_by ps qs)) (has_left (set_in ps) (set_in qs) i h)

pub set_right : (ps qs : List Plan) (i : ℕ) → Has (set_in qs) i → Has (set_in (ps ++ qs)) i
set_right ps qs i h = subst (λ (us : List ℕ). Has us i) (sym (flat_map-append set_by ps qs)) (has_right (set_in ps) (set_in qs) i h)

pub set_either : (ps qs : List Plan) (i : ℕ) → Has (set_in (ps ++ qs)) i → Has (set_in ps) i ⊎ Has (set_in qs) i
set_either ps qs i h = has_either (set_in ps) (set_in qs) i (subst (λ (us : List ℕ). Has us i) (flat_map-append set_by ps qs) h)

-- results that are set, and then those of two lists
pub split : (P : ℕ → Type 0) (us vs : List ℕ) (i : ℕ) → P i ⊎ Has (us ++ vs) i → (P i ⊎ Has us i) ⊎ Has vs i
split P us vs i (inl p) = inl (inl p)
split P us vs i (inr h) = elim (has_either us vs i h) [ inl first ↦ inl (inr first) | inr later ↦ inr later ]

pub joined : (P : ℕ → Type 0) (us vs : List ℕ) (i : ℕ) → (P i ⊎ Has us i) ⊎ Has vs i → P i ⊎ Has (us ++ vs) i
joined P us vs i (inl (inl p)) = inl p
joined P us vs i (inl (inr first)) = inr (has_left us vs i first)
joined P us vs i (inr later) = inr (has_right us vs i later)

-- each over those before it
abbrev pub InOrder : ℕ → (ℕ → Type 0) → List Plan → Type 0
InOrder count P [] = ⊤
InOrder count P (p ∷ ps) = IsOrdered count P p × InOrder count (λ i. P i ⊎ Has (set_by p) i) ps

row_sets : {n : _} (ps : Row_of-Plan n) → set_by_all ps ≡ set_in (items-the_row-Plan _ ps)
row_sets end_of-Plan = refl
row_sets (more_of-Plan p more) = ap (λ (us : List ℕ). set_by p ++ us) (row_sets more)

hidden_sets : (ps : List Plan) → set_by_all (hidden-the_row-Plan-0 ps) ≡ set_in ps
hidden_sets ps = row_sets (hidden-the_row-Plan-0 ps) ∙ ap set_in (items_hidden-the_row-Plan-0 ps)

row_order : (count : ℕ) (P : ℕ → Type 0) {n : _} (ps : Row_of-Plan n) → InOrder count P (items-the_row-Plan _ ps) → AreOrdered count P ps
row_order count P end_of-Plan h = tt
row_order count P (more_of-Plan p more) h = (h.0, row_order count (λ i. P i ⊎ Has (set_by p) i) more h.1)

hidden_order : (count : ℕ) (P : ℕ → Type 0) (ps : List Plan) → InOrder count P ps → AreOrdered count P (hidden-the_row-Plan-0 ps)
hidden_order count P ps h = row_order count P (hidden-the_row-Plan-0 ps) (subst (InOrder count P) (sym (items_hidden-the_row-Plan-0 ps)) h)

rolled_sets : (x : Plan-F Plan) → set_by (roll-Plan x) ≡ set_in x.subplans ++ x.number ∷ []
unfolding roll-Plan denote.Hole.Carrier.roll
rolled_sets x = ap (λ (us : List ℕ). us ++ x.number ∷ []) (hidden_sets x.subplans)

-- a plan sets the result that it becomes
pub rolled_number : (x : Plan-F Plan) → Has (set_by (roll-Plan x)) x.number
rolled_number x = subst (λ (us : List ℕ). Has us x.number) (sym (rolled_sets x)) (has_right (set_in x.subplans) (x.number ∷ []) x.number (inl refl))

rolled_order : (count : ℕ) (P : ℕ → Type 0) (x : Plan-F Plan) → InOrder count P x.subplans → QueryNames (λ i. P i ⊎ Has (set_in x.subplans) i) x.query → x.number < count →
    (P x.number ⊎ Has (set_in x.subplans) x.number → ⊥) → IsOrdered count P (roll-Plan x)
unfolding roll-Plan denote.Hole.Carrier.roll
rolled_order count P x ordered names below fresh =
    let e : set_in x.subplans ≡ set_by_all (hidden-the_row-Plan-0 x.subplans) = sym (hidden_sets x.subplans) in (
      hidden_order count P x.subplans ordered,
      subst (λ (us : List ℕ). QueryNames (λ i. P i ⊎ Has us i) x.query) e names,
      below,
      subst (λ (us : List ℕ). P x.number ⊎ Has us x.number → ⊥) e fresh,
    )

-- ---- more results are set

mutual
  -- as long as the plan sets none of them
  pub order_grows : (count : ℕ) (P R : ℕ → Type 0) → ((i : ℕ) → P i → R i) → (p : Plan) → IsOrdered count P p → ((i : ℕ) → R i → Has (set_by p) i → ⊥) → IsOrdered count R p
  order_grows count P R more (Plan' number n subplans planner parting combine tasks q touches grounds) o apart =
      let below : List ℕ = set_by_all subplans in (
        all_grow count P R more subplans o.0 (λ i r h. apart i r (has_left below (number ∷ []) i h)),
        query_grows (λ i. P i ⊎ Has below i) (λ i. R i ⊎ Has below i) (wider P R more below) q o.1,
        o.2,
        fresh,
      )
    where
      fresh : R number ⊎ Has (set_by_all subplans) number → ⊥
      fresh (inl r) = apart number r (has_right (set_by_all subplans) (number ∷ []) number (inl refl))
      fresh (inr h) = o.3 (inr h)

  all_grow : (count : ℕ) (P R : ℕ → Type 0) → ((i : ℕ) → P i → R i) → {n : _} (ps : Row_of-Plan n) → AreOrdered count P ps → ((i : ℕ) → R i → Has (set_by_all ps) i → ⊥) → AreOrdered count R ps
  all_grow count P R more end_of-Plan o apart = tt
  all_grow count P R more (more_of-Plan p rest) o apart = (
    order_grows count P R more p o.0 (λ i r h. apart i r (has_left (set_by p) (set_by_all rest) i h)),
    all_grow count (λ i. P i ⊎ Has (set_by p) i) (λ i. R i ⊎ Has (set_by p) i) (wider P R more (set_by p)) rest o.1 later,
  )
    where
      later : (i : ℕ) → R i ⊎ Has (set_by p) i → Has (set_by_all rest) i → ⊥
      later i (inl r) h = apart i r (has_right (set_by p) (set_by_all rest) i h)
      later i (inr own) h = all_fresh count (λ i. P i ⊎ Has (set_by p) i) rest o.1 i h (inr own)

-- ---- plans in any order

pub set_again : {ps qs : List Plan} → Reordered ps qs → (i : ℕ) → Has (set_in ps) i → Has (set_in qs) i
set_again none i h = h
set_again (kept {x} {xs} {ys} r) i h = elim (has_either (set_by x) (set_in xs) i h) [ inl own ↦ has_left (set_by x) (set_in ys) i own | inr k ↦ has_right (set_by x) (set_in ys) i (set_again r i k) ]
set_again (turned {x} {y} {xs}) i h = elim (has_either (set_by x) (set_by y ++ set_in xs) i h) [
  | inl own ↦ has_right (set_by y) (set_by x ++ set_in xs) i (has_left (set_by x) (set_in xs) i own)
  | inr k ↦ elim (has_either (set_by y) (set_in xs) i k) [
    | inl own ↦ has_left (set_by y) (set_by x ++ set_in xs) i own
    | inr later ↦ has_right (set_by y) (set_by x ++ set_in xs) i (has_right (set_by x) (set_in xs) i later)
  ]
]
set_again (then r s) i h = set_again s i (set_again r i h)

module _ (count : ℕ) (P : ℕ → Type 0) where
  -- each over these results alone, and no result is set by two of them
  abbrev pub AreApart : List Plan → Type 0
  AreApart [] = ⊤
  AreApart (p ∷ ps) = IsOrdered count P p × ((i : ℕ) → Has (set_by p) i → Has (set_in ps) i → ⊥) × AreApart ps

  pub apart_append : (ps qs : List Plan) → AreApart ps → AreApart qs → ((i : ℕ) → Has (set_in ps) i → Has (set_in qs) i → ⊥) → AreApart (ps ++ qs)
  apart_append [] qs a b apart = b
  apart_append (p ∷ ps) qs a b apart = (a.0, others, apart_append ps qs a.2 b (λ i h k. apart i (has_right (set_by p) (set_in ps) i h) k))
    where
      others : (i : ℕ) → Has (set_by p) i → Has (set_in (ps ++ qs)) i → ⊥
      others i h k = elim (set_either ps qs i k) [ inl first ↦ a.1 i h first | inr later ↦ apart i (has_left (set_by p) (set_in ps) i h) later ]

  pub apart_order : (R : ℕ → Type 0) → ((i : ℕ) → P i → R i) → (ps : List Plan) → AreApart ps → ((i : ℕ) → R i → Has (set_in ps) i → ⊥) → InOrder count R ps
  apart_order R more [] a apart = tt
  apart_order R more (p ∷ ps) a apart = (
    order_grows count P R more p a.0 (λ i r h. apart i r (has_left (set_by p) (set_in ps) i h)),
    apart_order (λ i. R i ⊎ Has (set_by p) i) (λ i q. inl (more i q)) ps a.2 later,
  )
    where
      later : (i : ℕ) → R i ⊎ Has (set_by p) i → Has (set_in ps) i → ⊥
      later i (inl r) h = apart i r (has_right (set_by p) (set_in ps) i h)
      later i (inr own) h = a.1 i own h

  pub apart_again : {ps qs : List Plan} → Reordered ps qs → AreApart ps → AreApart qs
  apart_again none a = a
  apart_again (kept r) a = (a.0, (λ i h k. a.1 i h (set_again (back r) i k)), apart_again r a.2)
  apart_again (turned {x} {y} {xs}) a = (a.2.0, second, (a.0, (λ i h k. a.1 i h (has_right (set_by y) (set_in xs) i k)), a.2.2))
    where
      second : (i : ℕ) → Has (set_by y) i → Has (set_by x ++ set_in xs) i → ⊥
      second i h k = elim (has_either (set_by x) (set_in xs) i k) [ inl first ↦ a.1 i first (has_left (set_by y) (set_in xs) i h) | inr later ↦ a.2.1 i h later ]
  apart_again (then r s) a = apart_again s (apart_again r a)

  -- and so they are behind plans in their order, with which the results that they name are set
  order_append : (R : ℕ → Type 0) (ps qs : List Plan) → InOrder count R ps → ((i : ℕ) → P i → R i ⊎ Has (set_in ps) i) → AreApart qs → ((i : ℕ) → R i ⊎ Has (set_in ps) i → Has (set_in qs) i → ⊥) → InOrder count R (ps ++ qs)
  order_append R [] qs ordered known a clear = apart_order R (λ i p. elim (known i p) [ inl r ↦ r | inr h ↦ absurd h ]) qs a (λ i r h. clear i (inl r) h)
  order_append R (p ∷ ps) qs ordered known a clear = (ordered.0, order_append (λ i. R i ⊎ Has (set_by p) i) ps qs ordered.1 (λ i s. split R (set_by p) (set_in ps) i (known i s)) a (λ i k h. clear i (joined R (set_by p) (set_in ps) i k) h))

-- ---- parts

abbrev planned : Part → Option Plan
planned (Stays table groups) = None
planned (Leaves p) = Some p
planned (Asks p) = Some p

-- the plans of parts, in the order of the text
abbrev pub plans_in : List Part → List Plan
plans_in parts = filter_map planned parts

pub plans_append : (xs ys : List Part) → plans_in (xs ++ ys) ≡ plans_in xs ++ plans_in ys
plans_append xs ys = filter_map-append planned xs ys

pub asked_plans : (ps : List Plan) → plans_in (map Asks ps) ≡ ps
asked_plans [] = refl
asked_plans (p ∷ ps) = ap (λ (qs : List Plan). p ∷ qs) (asked_plans ps)

in_text : (parts : List Part) → Reordered (planned_in parts) (plans_in parts)
in_text [] = same []
in_text (Stays table groups ∷ parts) = in_text parts
in_text (Leaves p ∷ parts) = kept (in_text parts)
in_text (Asks p ∷ parts) =
    let leave : List Plan = filter_map parted.leaving parts in
    let ask : List Plan = filter_map parted.asking parts in
    then (swapped leave (p ∷ ask)) (kept (then (swapped ask leave) (in_text parts)))

-- ---- a block

module _ (c : Contents) (number : ℕ) (planner : Planner) (parting : Joined) (shares : Bool) (grounds : Grounds) (ctes : List Plan) (parts : List Part) (q : Query) where
  abbrev block : Plan
  block = plan_with c number planner parting shares grounds ctes parts q

  at_last : set_by block ≡ set_in (ctes ++ planned_in parts) ++ number ∷ []
  at_last = rolled_sets _

  of_parts : (i : ℕ) → Has (set_in (ctes ++ planned_in parts)) i → Has (set_in ctes) i ⊎ Has (set_in (plans_in parts)) i
  of_parts i h = elim (set_either ctes (planned_in parts) i h) [ inl k ↦ inl k | inr k ↦ inr (set_again (in_text parts) i k) ]

  pub block_sets : (i : ℕ) → Has (set_by block) i → (Has (set_in ctes) i ⊎ Has (set_in (plans_in parts)) i) ⊎ (number ≡ i)
  block_sets i h = elim (has_either (set_in (ctes ++ planned_in parts)) (number ∷ []) i (subst (λ (us : List ℕ). Has us i) at_last h)) [
    | inl k ↦ inl (of_parts i k)
    | inr own ↦ elim own [ inl e ↦ inr e | inr k ↦ absurd k ]
  ]

  -- over CTEs in their order, and then plans that are apart over results that are set by then
  pub block_order : (count : ℕ) (P R : ℕ → Type 0) → InOrder count R ctes → ((i : ℕ) → P i → R i ⊎ Has (set_in ctes) i) → AreApart count P (plans_in parts) → ((i : ℕ) → R i ⊎ Has (set_in ctes) i → Has (set_in (plans_in parts)) i → ⊥) →
      ((S : ℕ → Type 0) → ((i : ℕ) → P i → S i) → ((i : ℕ) → Has (set_in (plans_in parts)) i → S i) → QueryNames S q) → number < count → (R number ⊎ (Has (set_in ctes) number ⊎ Has (set_in (plans_in parts)) number) → ⊥) → IsOrdered count R block
  block_order count P R first known apart clear names below unset =
      let ps : List Plan = planned_in parts in
      rolled_order count R _ (order_append count P R ctes ps first known (apart_again count P (back (in_text parts)) apart) (λ i r h. clear i r (set_again (in_text parts) i h)))
      (names (λ i. R i ⊎ Has (set_in (ctes ++ ps)) i) (λ i p. before i (known i p)) (λ i h. inr (set_right ctes ps i (set_again (back (in_text parts)) i h)))) below
      (λ k. unset (elim k [ inl r ↦ inl r | inr h ↦ inr (of_parts number h) ]))
    where
      before : (i : ℕ) → R i ⊎ Has (set_in ctes) i → R i ⊎ Has (set_in (ctes ++ planned_in parts)) i
      before i (inl r) = inl r
      before i (inr h) = inr (set_left ctes (planned_in parts) i h)
