-- What a store's count accounts for, as a block's answers come.
use Rattle.std.proofs.Common.{◌≡◌, ◌≢◌, ◌⊎◌, ◌<◌, ◌≤◌, inl, inr, ℕ, Bool, true, false, List, [], ◌∷◌, ◌++◌, map, refl, sym, ◌∙◌, ap, subst, arith, append_assoc, ne_eqb}
use Rattle.std.specs.Prelude.{IsTrue, nat_eq, nat_lt, filter, not, ◌&&◌}
use Rattle.std.specs.List.{AllByRecursion}
use Rattle.std.specs.List.Sorted.{IsPermutation}
use Rattle.std.proofs.lemmas.Bool.{lt-ltb, le-ltb}
use Rattle.std.proofs.lemmas.List.Elements.{filter-append}
use Rattle.std.proofs.lemmas.List.Sorted.{IsPermutation-append, IsPermutation-append_left, IsPermutation-cons, IsPermutation-middle, IsPermutation-refl, IsPermutation-sym, IsPermutation-trans}
use Rattle.cq_value.proofs.Lists.{all_weaker, all_filtered, filter_none, append_nil}
use Rattle.cq_value.proofs.Truths.{two_ways}
use Rattle.cq_answer.specs.declared.answer.Answer.{Answer}
use Rattle.cq_answer.specs.declared.answer.Answer.TheVariants as answer
use Rattle.cq_answer.specs.declared.answered.Answered.{Answered}
use Rattle.cq_answer.specs.declared.fault.Fault.TheVariants as fault
use Rattle.cq_store.specs.Stores.{StoreState}
use Rattle.cq_history.specs.Faults.{Climbs, Range, range_in, ranges_of}
use Rattle.cq_history.specs.Phases.{phase_in}
use Rattle.cq_history.proofs.Lists.{filter_all}
use Rattle.cq_cluster.specs.Accounts.{AccountsByPhases, AreByPhase, later_phases}
use Rattle.cq_cluster.proofs.PhaseLaws.{all_permuted, by_phase_both, lifted, none_by_phases}
use Rattle.cq_block_accounts.specs.Accounts.{TellsOf}

-- ---- the answers that name a store, in the order in which its calls failed

module _ (node shard : ℕ) where
  one_range : (a : Answer) → (range_in node shard a ≡ []) ⊎ ((r : Range) × (range_in node shard a ≡ r ∷ []))
  one_range (answer.Failed (fault.Worker failure)) = elim (two_ways (nat_eq failure.node node && nat_eq failure.shard shard)) [ inl y ↦ inr ((failure.before, failure.after), rw y refl) | inr z ↦ inl (rw z refl) ]
  one_range a = inl refl

  abbrev is_some : List Range → Bool
  is_some [] = false
  is_some (r ∷ rs) = true

  abbrev first_of : List Range → Range
  first_of [] = (0, 0)
  first_of (r ∷ rs) = r

  abbrev names : Answered → Bool
  names a = is_some (range_in node shard a.answer)

  abbrev range_at : Answered → Range
  range_at a = first_of (range_in node shard a.answer)

  ranges_named : (answers : List Answered) → map range_at (filter names answers) ≡ ranges_of node shard answers
  ranges_named [] = refl
  ranges_named (a ∷ answers) = elim (one_range a.answer) [
    | inl none ↦ rw none (ranges_named answers)
    | inr one ↦ rw one.1 (ap (λ r. r ∷ map range_at (filter names answers)) (ap first_of one.1) ∙ ap (λ v. one.0 ∷ v) (ranges_named answers))
  ]

  all_named : (answers : List Answered) → AllByRecursion (λ (a : Answered). names a ≡ true) (filter names answers)
  all_named [] = tt
  all_named (a ∷ answers) = elim (two_ways (names a)) [ inl y ↦ rw y (y, all_named answers) | inr z ↦ rw z (all_named answers) ]

  -- others have no ranges
  abbrev others : List Answered → List Answered
  others answers = filter (λ (a : Answered). not (names a)) answers

  no_others : (answers : List Answered) → ranges_of node shard (others answers) ≡ []
  no_others [] = refl
  no_others (a ∷ answers) = elim (one_range a.answer) [
    | inl none ↦ rw none (ap (λ v. v ++ ranges_of node shard (others answers)) none ∙ no_others answers)
    | inr one ↦ rw one.1 (no_others answers)
  ]

  apart : (answers : List Answered) → IsPermutation answers (filter names answers ++ others answers)
  apart [] = IsPermutation-refl []
  apart (a ∷ answers) =
      let some = filter names answers in
      let rest = others answers in
      let more = IsPermutation-cons a answers (some ++ rest) (apart answers) in
      elim (two_ways (names a)) [
        | inl y ↦ rw y more
        | inr z ↦ rw z (IsPermutation-trans (a ∷ answers) (a ∷ (some ++ rest)) (some ++ a ∷ rest) more (IsPermutation-sym (some ++ a ∷ rest) (a ∷ (some ++ rest)) (IsPermutation-middle some a rest)))
      ]

  pub ranges_both : (xs ys : List Answered) → ranges_of node shard (xs ++ ys) ≡ ranges_of node shard xs ++ ranges_of node shard ys
  ranges_both [] ys = refl
  ranges_both (x ∷ xs) ys = ap (λ v. range_in node shard x.answer ++ v) (ranges_both xs ys) ∙ sym (append_assoc (range_in node shard x.answer) (ranges_of node shard xs) (ranges_of node shard ys))

  pub in_order : (block : List Answered) (ranges : List Range) → IsPermutation (ranges_of node shard block) ranges → (order : List Answered) × IsPermutation block order × (ranges_of node shard order ≡ ranges)
  in_order block ranges told =
      let some = filter names block in
      let rest = others block in
      let l = lifted range_at some (ranges_of node shard block) ranges (ranges_named block) told in
      let own : ranges_of node shard l.0 ≡ ranges =
      sym (ranges_named l.0) ∙ ap (map range_at) (filter_all names l.0 (all_permuted (λ (a : Answered). names a ≡ true) some l.0 l.1 (all_named block))) ∙ l.2 in (
        l.0 ++ rest,
        IsPermutation-trans block (some ++ rest) (l.0 ++ rest) (apart block) (IsPermutation-append_left rest some l.0 l.1),
        ranges_both l.0 rest ∙ ap (λ v. v ++ ranges_of node shard rest) own ∙ ap (λ v. ranges ++ v) (no_others block) ∙ append_nil ranges,
      )

-- ---- a block

pub climbs_from : (low high : ℕ) (rs : List Range) (n : ℕ) → low ≤ high → Climbs high rs n → Climbs low rs n
climbs_from low high [] n le h = omega (arith, le, h)
climbs_from low high (r ∷ rs) n le h = ((let l = h.0 in omega (arith, le, l)), h.1, h.2)

climbs_more : (low : ℕ) (rs more : List Range) (n m : ℕ) → Climbs low rs n → Climbs n more m → Climbs low (rs ++ more) m
climbs_more low [] more n m h k = climbs_from low n more m h k
climbs_more low (r ∷ rs) more n m h k = (h.0, h.1, climbs_more r.1 rs more n m h.2 k)

of_one_phase : (phase : ℕ) (xs : List Answered) → AllByRecursion (λ (a : Answered). a.phase ≡ phase) xs → AreByPhase xs
of_one_phase phase [] all = tt
of_one_phase phase (x ∷ xs) all = (
  all_weaker (λ (a : Answered). a.phase ≡ phase) (λ (a : Answered). x.phase ≤ a.phase) (λ a is. (let own = all.0 in omega (arith, own, is))) xs all.1,
  of_one_phase phase xs all.1,
)

-- a store's count accounts for a block's answers too, which tell of what happened to it meanwhile
block_accounts : (phase : ℕ) (answers block : List Answered) (s t : StoreState) → AllByRecursion (λ (a : Answered). a.phase < phase) answers → AllByRecursion (λ (a : Answered). a.phase ≡ phase) block → TellsOf block s t →
    AccountsByPhases answers s → AccountsByPhases (answers ++ block) t
block_accounts phase answers block s t early now tells h =
    let new = in_order s.node s.shard block tells.ranges tells.told in
    let of_phase = all_permuted (λ (a : Answered). a.phase ≡ phase) block new.0 new.1 now in
    let before = all_permuted (λ (a : Answered). a.phase < phase) answers h.order h.all early in
    let order = h.order ++ new.0 in
    let ranges : ranges_of t.node t.shard order ≡ ranges_of s.node s.shard h.order ++ tells.ranges =
    ap (λ k. ranges_of k t.shard order) tells.on.node ∙ ap (λ k. ranges_of s.node k order) tells.on.shard ∙ ranges_both s.node s.shard h.order new.0 ∙ ap (λ v. ranges_of s.node s.shard h.order ++ v) new.2 in
    record {
      order = order;
      all = IsPermutation-append answers h.order block new.0 h.all new.1;
      phases = by_phase_both h.order new.0 h.phases (of_one_phase phase new.0 of_phase)
          (all_weaker (λ (a : Answered). a.phase < phase) (λ (a : Answered). AllByRecursion (λ (b : Answered). a.phase ≤ b.phase) new.0)
          (λ a low. all_weaker (λ (b : Answered). b.phase ≡ phase) (λ (b : Answered). a.phase ≤ b.phase) (λ b is. omega (arith, low, is)) new.0 of_phase) h.order before);
      accounts = record {
        climbs = subst (λ rs. Climbs 0 rs t.faults) (sym ranges) (climbs_more 0 (ranges_of s.node s.shard h.order) tells.ranges s.faults t.faults h.accounts.climbs tells.climbs);
        steady = λ k. (let was : IsTrue s.steady = subst IsTrue tells.on.steady k in ranges ∙ ap (λ v. v ++ tells.ranges) (h.accounts.steady was) ∙ tells.steady was);
      };
    }

-- ---- the answers since a shard group was moved

none_of : (n : ℕ) (block : List Answered) → AllByRecursion (λ (a : Answered). a.statement ≢ n) block → phase_in block n ≡ 0
none_of n [] far = refl
none_of n (b ∷ block) far = rw (ne_eqb b.statement n far.0) (none_of n block far.1)

same_phase : (n : ℕ) (answers block : List Answered) → AllByRecursion (λ (a : Answered). a.statement ≢ n) block → phase_in (answers ++ block) n ≡ phase_in answers n
same_phase n [] block far = none_of n block far
same_phase n (a ∷ answers) block far = elim (two_ways (nat_eq a.statement n)) [ inl y ↦ rw y refl | inr m ↦ rw m (same_phase n answers block far) ]

phase_below : (n number : ℕ) (answers : List Answered) → 0 < number → AllByRecursion (λ (a : Answered). a.phase < number) answers → phase_in answers n < number
phase_below n number [] low early = low
phase_below n number (a ∷ answers) low early = elim (two_ways (nat_eq a.statement n)) [ inl y ↦ rw y early.0 | inr m ↦ rw m (phase_below n number answers low early.1) ]

later_on : (number n : ℕ) (answers block : List Answered) → 0 < number → AllByRecursion (λ (a : Answered). a.phase < number) answers → AllByRecursion (λ (a : Answered). a.phase ≡ number) block → AllByRecursion (λ (a : Answered). a.statement ≢ n) block →
    later_phases n (answers ++ block) ≡ later_phases n answers ++ block
later_on number n answers block low early now far =
    let below : phase_in answers n < number = phase_below n number answers low early in
    ap (λ k. filter (λ (a : Answered). nat_lt k a.phase) (answers ++ block)) (same_phase n answers block far)
    ∙ filter-append (λ (a : Answered). nat_lt (phase_in answers n) a.phase) answers block
    ∙ ap (λ v. later_phases n answers ++ v) (filter_all (λ (a : Answered). nat_lt (phase_in answers n) a.phase) block
    (all_weaker (λ (a : Answered). a.phase ≡ number) (λ (a : Answered). nat_lt (phase_in answers n) a.phase ≡ true) (λ a is. lt-ltb (phase_in answers n) a.phase (omega (arith, is, below))) block now))

-- a count accounts for those since its group was moved: by a statement of an earlier phase, or never
pub staying_accounts : (phase n : ℕ) (answers block : List Answered) (s t : StoreState) → 0 < phase → AllByRecursion (λ (a : Answered). a.phase < phase) answers → AllByRecursion (λ (a : Answered). a.phase ≡ phase) block →
    AllByRecursion (λ (a : Answered). a.statement ≢ n) block → TellsOf block s t → AccountsByPhases (later_phases n answers) s → AccountsByPhases (later_phases n (answers ++ block)) t
staying_accounts number n answers block s t low early now far tells h =
    subst (λ v. AccountsByPhases v t) (sym (later_on number n answers block low early now far))
    (block_accounts number (later_phases n answers) block s t (all_filtered (λ (a : Answered). a.phase < number) (λ (a : Answered). nat_lt (phase_in answers n) a.phase) answers early) now tells h)

-- or by one of the block: no phase comes behind it yet
pub moved_accounts : (phase n : ℕ) (answers : List Answered) (s : StoreState) → AllByRecursion (λ (a : Answered). a.phase ≤ phase) answers → phase_in answers n ≡ phase → AccountsByPhases (later_phases n answers) s
moved_accounts number n answers s low is =
    let none_later : later_phases n answers ≡ [] =
    filter_none (λ (a : Answered). nat_lt (phase_in answers n) a.phase) answers
    (all_weaker (λ (a : Answered). a.phase ≤ number) (λ (a : Answered). nat_lt (phase_in answers n) a.phase ≡ false) (λ a l. le-ltb (phase_in answers n) a.phase (omega (arith, l, is))) answers low) in
    subst (λ v. AccountsByPhases v s) (sym none_later) (none_by_phases s)
