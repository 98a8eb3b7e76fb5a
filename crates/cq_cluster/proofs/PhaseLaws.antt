-- A store's count accounts for answers phase after phase, as answers come.
use Rattle.std.proofs.Common.{◌≡◌, ◌≢◌, inl, inr, ℕ, ◌<◌, ◌≤◌, false, cond, List, [], ◌∷◌, ◌++◌, length, get_or, map, refl, sym, ap, subst, ◌∙◌, arith, eq-eqb, ne_eqb}
use Rattle.std.proofs.Math.ListN.{set}
use Rattle.std.specs.Prelude.{IsTrue, nat_eq, nat_le, nat_lt, filter}
use Rattle.std.specs.List.{AllByRecursion, swap}
use Rattle.std.specs.List.Sorted.{IsPermutation}
use Rattle.std.proofs.lemmas.Bool.{le-ltb}
use Rattle.std.proofs.lemmas.List.{get_or-map, length-map, map-set}
use Rattle.std.proofs.lemmas.List.Edits.{swap_is}
use Rattle.std.proofs.lemmas.Bool.Decides.{nat_tests}
use Rattle.std.proofs.lemmas.List.Elements.{filter-append, All-from_recursion, recursion_from_All}
use Rattle.std.proofs.lemmas.List.Sorted.{All-permutation, IsPermutation-append_left, IsPermutation-cons, IsPermutation-keeps, IsPermutation-map, IsPermutation-middle, IsPermutation-refl, IsPermutation-swap, IsPermutation-trans}
use Rattle.cq_value.proofs.Lists.{all_more, all_weaker, filter_none}
use Rattle.cq_value.proofs.Truths.{two_ways}
use Rattle.cq_tree.specs.declared.failure.StoreFailure.{StoreFailure}
use Rattle.cq_answer.specs.declared.answer.Answer.TheVariants as answer
use Rattle.cq_answer.specs.declared.answered.Answered.{Answered}
use Rattle.cq_answer.specs.declared.fault.Fault.TheVariants as fault
use Rattle.cq_history.specs.Faults.{AccountsFor, Climbs, NamesBelow, Range, range_in, ranges_of}
use Rattle.cq_history.specs.Laws.{StoreGoesOn}
use Rattle.cq_history.specs.Phases.{phase_in}
use Rattle.cq_history.proofs.Faults.{fault_accounts, new_accounts, other_accounts}
use Rattle.cq_store.specs.Stores.{StoreState, Rose}
use Rattle.cq_cluster.specs.Accounts.{AccountsByPhases, AreByPhase, later_phases}

-- ---- the order of answers

-- what is true of all answers is true of them in another order
pub all_permuted : {X : Type 0} (P : X → Type 0) (xs ys : List X) → IsPermutation xs ys → AllByRecursion P xs → AllByRecursion P ys
all_permuted P xs ys same all = recursion_from_All P ys (All-permutation P xs ys same (All-from_recursion P xs all))

pub by_phase_both : (xs ys : List Answered) → AreByPhase xs → AreByPhase ys → AllByRecursion (λ (a : Answered). AllByRecursion (λ (b : Answered). a.phase ≤ b.phase) ys) xs → AreByPhase (xs ++ ys)
by_phase_both [] ys p q all = q
by_phase_both (x ∷ xs) ys p q all = (both xs p.0, by_phase_both xs ys p.1 q all.1)
  where
    both : (zs : List Answered) → AllByRecursion (λ (b : Answered). x.phase ≤ b.phase) zs → AllByRecursion (λ (b : Answered). x.phase ≤ b.phase) (zs ++ ys)
    both [] h = all.0
    both (z ∷ zs) h = (h.0, both zs h.1)

-- a list whose images stand in another order is in that order itself
pub lifted : {P X : Type 0} (f : P → X) (ps : List P) (xs ys : List X) → map f ps ≡ xs → IsPermutation xs ys → (qs : List P) × IsPermutation ps qs × (map f qs ≡ ys)
lifted {P} f ps xs ys are = IsPermutation-keeps xs (λ l. (qs : List P) × IsPermutation ps qs × (map f qs ≡ l)) (ps, IsPermutation-refl ps, are) (λ l i j p q h.
    let long = sym (length-map h.0 f) ∙ ap (λ v. length v) h.2 in
    let low : i < length h.0 = omega (arith, p, long) in
    let high : j < length h.0 = omega (arith, q, long) in
    (swap h.0 i j, IsPermutation-trans ps h.0 (swap h.0 i j) h.1 (IsPermutation-swap h.0 (swap h.0 i j) i j low high refl), swapped h.0 i j low high ∙ ap (λ v. swap v i j) h.2)) ys
  where
    swapped : (qs : List P) (i j : ℕ) → i < length qs → j < length qs → map f (swap qs i j) ≡ swap (map f qs) i j
    swapped [] i j low high = refl
    swapped (d ∷ ds) i j low high =
        let qs = d ∷ ds in
        ap (map f) (sym (swap_is qs i j d low high)) ∙ map-set f (set qs i (get_or qs j d)) j (get_or qs i d) ∙ ap (λ v. set v j (f (get_or qs i d))) (map-set f qs i (get_or qs j d))
        ∙ ap (λ v. set (set (map f qs) i v) j (f (get_or qs i d))) (sym (get_or-map f qs j d (f d) high)) ∙ ap (λ v. set (set (map f qs) i (get_or (map f qs) j (f d))) j v) (sym (get_or-map f qs i d (f d) low))
        ∙ swap_is (map f qs) i j (f d) (let long = length-map qs f in omega (arith, low, long)) (let long = length-map qs f in omega (arith, high, long))

by_phase_more : (xs : List Answered) (a : Answered) → AreByPhase xs → AllByRecursion (λ (b : Answered). b.phase ≤ a.phase) xs → AreByPhase (xs ++ a ∷ [])
by_phase_more xs a p all = by_phase_both xs (a ∷ []) p (tt, tt) (all_weaker (λ (b : Answered). b.phase ≤ a.phase) (λ (b : Answered). AllByRecursion (λ (c : Answered). b.phase ≤ c.phase) (a ∷ [])) (λ b le. (le, tt)) xs all)

-- an answer among others that are by phase
record IsPut (a : Answered) (xs : List Answered) : Type 0 where
  ys : List Answered
  same : IsPermutation (a ∷ xs) ys
  phases : AreByPhase ys
  above : (n : ℕ) → n ≤ a.phase → AllByRecursion (λ (b : Answered). n ≤ b.phase) xs → AllByRecursion (λ (b : Answered). n ≤ b.phase) ys

put : (a : Answered) (xs : List Answered) → AreByPhase xs → IsPut a xs
put a [] p = record { ys = a ∷ []; same = IsPermutation-refl (a ∷ []); phases = (tt, tt); above = λ n le all. (le, tt) }
put a (x ∷ xs) p = elim (two_ways (nat_le a.phase x.phase)) [
  | inl y ↦
      let le : a.phase ≤ x.phase = grind (arith, nat_tests, y) in
      record {
        ys = a ∷ x ∷ xs;
        same = IsPermutation-refl (a ∷ x ∷ xs);
        phases = ((le, all_weaker (λ (b : Answered). x.phase ≤ b.phase) (λ (b : Answered). a.phase ≤ b.phase) (λ b h. omega (arith, h, le)) xs p.0), p);
        above = λ n low all. (low, all);
      }
  | inr z ↦
      let le : x.phase ≤ a.phase = grind (arith, nat_tests, z) in
      let h = put a xs p.1 in
      record {
        ys = x ∷ h.ys;
        same = IsPermutation-trans (a ∷ x ∷ xs) (x ∷ a ∷ xs) (x ∷ h.ys) (IsPermutation-middle (a ∷ []) x xs) (IsPermutation-cons x (a ∷ xs) h.ys h.same);
        phases = (h.above x.phase le p.0, h.phases);
        above = λ n low all. (all.0, h.above n low all.1);
      }
]

-- answers by phase
by_phase : (answers : List Answered) → (order : List Answered) × IsPermutation answers order × AreByPhase order
by_phase [] = ([], IsPermutation-refl [], tt)
by_phase (a ∷ answers) =
    let h = by_phase answers in
    let p = put a h.0 h.2 in
    (p.ys, IsPermutation-trans (a ∷ answers) (a ∷ h.0) p.ys (IsPermutation-cons a answers h.0 h.1) p.same, p.phases)

-- ---- what a store's count accounts for

-- no answers
pub none_by_phases : (s : StoreState) → AccountsByPhases [] s
none_by_phases s = record { order = []; all = IsPermutation-refl []; phases = tt; accounts = record { climbs = omega arith; steady = λ k. refl } }

-- those that don't name a new shard
pub new_by_phases : (answers : List Answered) (s : StoreState) → AllByRecursion (λ (a : Answered). NamesBelow s.shard a.answer) answers → AccountsByPhases answers s
new_by_phases answers s below =
    let h = by_phase answers in
    record { order = h.0; all = h.1; phases = h.2; accounts = new_accounts h.0 s (all_permuted (λ (a : Answered). NamesBelow s.shard a.answer) answers h.0 h.1 below) }

-- the same ones, as it goes on
climbs_up : (low : ℕ) (rs : List Range) (c d : ℕ) → c ≤ d → Climbs low rs c → Climbs low rs d
climbs_up low [] c d le h = omega (arith, le, h)
climbs_up low (r ∷ rs) c d le h = (h.0, h.1, climbs_up r.1 rs c d le h.2)

account_on : (answers : List Answered) (s t : StoreState) → StoreGoesOn s t → AccountsFor answers s → AccountsFor answers t
account_on answers s t on h =
    let same : ranges_of t.node t.shard answers ≡ ranges_of s.node s.shard answers = ap (λ k. ranges_of k t.shard answers) on.node ∙ ap (λ k. ranges_of s.node k answers) on.shard in
    record {
      climbs = subst (λ rs. Climbs 0 rs t.faults) (sym same) (climbs_up 0 (ranges_of s.node s.shard answers) s.faults t.faults on.counts h.climbs);
      steady = λ k. same ∙ h.steady (subst IsTrue on.steady k);
    }

pub same_by_phases : (answers : List Answered) (s t : StoreState) → StoreGoesOn s t → AccountsByPhases answers s → AccountsByPhases answers t
same_by_phases answers s t on h = record { order = h.order; all = h.all; phases = h.phases; accounts = account_on h.order s t on h.accounts }

-- one more of no earlier phase
module _ (answers : List Answered) (a : Answered) (s t : StoreState) (on : StoreGoesOn s t) (last : AllByRecursion (λ (b : Answered). b.phase ≤ a.phase) answers) (h : AccountsByPhases answers s) where
  more : AccountsFor (h.order ++ a ∷ []) t → AccountsByPhases (answers ++ a ∷ []) t
  more accounts = record {
    order = h.order ++ a ∷ [];
    all = IsPermutation-append_left (a ∷ []) answers h.order h.all;
    phases = by_phase_more h.order a h.phases (all_permuted (λ (b : Answered). b.phase ≤ a.phase) answers h.order h.all last);
    accounts = accounts;
  }

  pub other_by_phases : range_in s.node s.shard a.answer ≡ [] → AccountsByPhases (answers ++ a ∷ []) t
  other_by_phases none = more (other_accounts h.order a s t on none h.accounts)

  pub fault_by_phases : (failure : StoreFailure) → s.steady ≡ false → a.answer ≡ answer.Failed (fault.Worker failure) → s.node ≡ failure.node → s.shard ≡ failure.shard → s.faults ≤ failure.before → Rose failure.before failure.after →
      failure.after ≤ t.faults → AccountsByPhases (answers ++ a ∷ []) t
  fault_by_phases failure unsteady is node shard from rose to = more (fault_accounts h.order a s t failure on unsteady is node shard from rose to h.accounts)

-- another answer in the place of one, of its phase, that names the same stores
abbrev pub AreAlike : Answered → Answered → Type 0
AreAlike a b = (b.phase ≡ a.phase) × ((node shard : ℕ) → range_in node shard b.answer ≡ range_in node shard a.answer)

abbrev Pair : Type 0
Pair = Answered × Answered

abbrev AreAllAlike : List Pair → Type 0
AreAllAlike ps = AllByRecursion (λ (p : Pair). AreAlike p.0 p.1) ps

abbrev firsts : List Pair → List Answered
firsts ps = map (λ (p : Pair). p.0) ps

abbrev seconds : List Pair → List Answered
seconds ps = map (λ (p : Pair). p.1) ps

alike_by_phase : (ps : List Pair) → AreAllAlike ps → AreByPhase (firsts ps) → AreByPhase (seconds ps)
alike_by_phase [] alike h = tt
alike_by_phase (p ∷ ps) alike h = (rest ps alike.1 h.0, alike_by_phase ps alike.1 h.1)
  where
    rest : (qs : List Pair) → AreAllAlike qs → AllByRecursion (λ (b : Answered). p.0.phase ≤ b.phase) (firsts qs) → AllByRecursion (λ (b : Answered). p.1.phase ≤ b.phase) (seconds qs)
    rest [] same le = tt
    rest (q ∷ qs) same le = ((let own = alike.0.0 in let other = same.0.0 in let low = le.0 in omega (arith, own, other, low)), rest qs same.1 le.1)

alike_ranges : (node shard : ℕ) (ps : List Pair) → AreAllAlike ps → ranges_of node shard (seconds ps) ≡ ranges_of node shard (firsts ps)
alike_ranges node shard [] alike = refl
alike_ranges node shard (p ∷ ps) alike = ap (λ v. v ++ ranges_of node shard (seconds ps)) (alike.0.1 node shard) ∙ ap (λ v. range_in node shard p.0.answer ++ v) (alike_ranges node shard ps alike.1)

module _ (a b : Answered) (alike : AreAlike a b) where
  abbrev pairs : List Answered → List Pair
  pairs [] = (a, b) ∷ []
  pairs (c ∷ answers) = (c, c) ∷ pairs answers

  pairs_alike : (answers : List Answered) → AreAllAlike (pairs answers)
  pairs_alike [] = (alike, tt)
  pairs_alike (c ∷ answers) = ((refl, λ node shard. refl), pairs_alike answers)

  pairs_firsts : (answers : List Answered) → firsts (pairs answers) ≡ answers ++ a ∷ []
  pairs_firsts [] = refl
  pairs_firsts (c ∷ answers) = ap (λ v. c ∷ v) (pairs_firsts answers)

  pairs_seconds : (answers : List Answered) → seconds (pairs answers) ≡ answers ++ b ∷ []
  pairs_seconds [] = refl
  pairs_seconds (c ∷ answers) = ap (λ v. c ∷ v) (pairs_seconds answers)

  pub alike_by_phases : (answers : List Answered) (s : StoreState) → AccountsByPhases (answers ++ a ∷ []) s → AccountsByPhases (answers ++ b ∷ []) s
  alike_by_phases answers s h =
      let ps = pairs answers in
      let l = lifted (λ (p : Pair). p.0) ps (answers ++ a ∷ []) h.order (pairs_firsts answers) h.all in
      let all = all_permuted (λ (p : Pair). AreAlike p.0 p.1) ps l.0 l.1 (pairs_alike answers) in
      let ranges : ranges_of s.node s.shard (seconds l.0) ≡ ranges_of s.node s.shard h.order = alike_ranges s.node s.shard l.0 all ∙ ap (ranges_of s.node s.shard) l.2 in
      record {
        order = seconds l.0;
        all = subst (λ v. IsPermutation v (seconds l.0)) (pairs_seconds answers) (IsPermutation-map (λ (p : Pair). p.1) ps l.0 l.1);
        phases = alike_by_phase l.0 all (subst AreByPhase (sym l.2) h.phases);
        accounts = record {
          climbs = subst (λ rs. Climbs 0 rs s.faults) (sym ranges) h.accounts.climbs;
          steady = λ k. ranges ∙ h.accounts.steady k;
        };
      }

-- ---- the answers since a group was moved

-- an answer, where it is of a phase behind this one
abbrev pub one_later : ℕ → Answered → List Answered
one_later phase a = cond (nat_lt phase a.phase) (a ∷ []) []

phase_more : (n : ℕ) (answers : List Answered) (a : Answered) → a.statement ≢ n → phase_in (answers ++ a ∷ []) n ≡ phase_in answers n
phase_more n [] a other = rw (ne_eqb a.statement n other) refl
phase_more n (b ∷ answers) a other = elim (two_ways (nat_eq b.statement n)) [ inl y ↦ rw y refl | inr z ↦ rw z (phase_more n answers a other) ]

-- one more, which isn't to the statement that moved it
pub later_more : (n : ℕ) (answers : List Answered) (a : Answered) → a.statement ≢ n → later_phases n (answers ++ a ∷ []) ≡ later_phases n answers ++ one_later (phase_in answers n) a
later_more n answers a other =
    ap (λ k. filter (λ (b : Answered). nat_lt k b.phase) (answers ++ a ∷ [])) (phase_more n answers a other) ∙ filter-append (λ (b : Answered). nat_lt (phase_in answers n) b.phase) answers (a ∷ [])

phase_last : (n : ℕ) (answers : List Answered) (a : Answered) → AllByRecursion (λ (b : Answered). b.statement ≢ n) answers → a.statement ≡ n → phase_in (answers ++ a ∷ []) n ≡ a.phase
phase_last n [] a far is = rw (eq-eqb a.statement n is) refl
phase_last n (b ∷ answers) a far is = rw (ne_eqb b.statement n far.0) (phase_last n answers a far.1 is)

-- none is behind the next statement, which is the last
pub later_last : (n : ℕ) (answers : List Answered) (a : Answered) → AllByRecursion (λ (b : Answered). b.statement ≢ n) answers → a.statement ≡ n → AllByRecursion (λ (b : Answered). b.phase ≤ a.phase) answers → later_phases n (answers ++ a ∷ []) ≡ []
later_last n answers a far is last =
    ap (λ k. filter (λ (b : Answered). nat_lt k b.phase) (answers ++ a ∷ [])) (phase_last n answers a far is)
    ∙ filter_none (λ (b : Answered). nat_lt a.phase b.phase) (answers ++ a ∷ [])
    (all_more (λ (b : Answered). nat_lt a.phase b.phase ≡ false) answers a
    (all_weaker (λ (b : Answered). b.phase ≤ a.phase) (λ (b : Answered). nat_lt a.phase b.phase ≡ false) (λ b le. le-ltb a.phase b.phase le) answers last) (le-ltb a.phase a.phase (omega arith)))
