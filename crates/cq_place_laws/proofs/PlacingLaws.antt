-- The laws on where a block leaves the shard groups.
use Rattle.std.proofs.Common.{cond, ◌≡◌, ◌≢◌, ◌⊎◌, inl, inr, ◌+◌, ◌<◌, ◌≤◌, ℕ, List, [], ◌∷◌, ◌++◌, length, drop, refl, sym, ◌∙◌, ap, subst, arith, append-nil}
use Rattle.std.specs.Prelude.{nat_eq}
use Rattle.std.specs.List.{AllByRecursion, sum_by}
use Rattle.cq_value.proofs.Lists.{all_weaker}
use Rattle.cq_tree.specs.declared.journal.Entry.{Entry}
use Rattle.cq_tree.specs.declared.journal.EntryKind.TheVariants.{Cutover}
use Rattle.cq_catalog.specs.Contents.{Contents}
use Rattle.cq_answer.specs.declared.answered.Answered.{Answered}
use Rattle.cq_planning.specs.Touched.{numbers}
use Rattle.cq_journal.specs.Records.{Journal}
use Rattle.cq_journal.specs.Stations.{Station, moved, station_of, node_of}
use Rattle.cq_history.specs.Run.{Run, Rules, Environment, environment_from}
use Rattle.cq_history.specs.Phases.{IsOf}
use Rattle.cq_history.specs.Journals.{journal_in}
use Rattle.cq_history.specs.Room.{stores_on}
use Rattle.cq_history.specs.Legality.{IsLegal}
use Rattle.cq_history.specs.Log.{Era}
use Rattle.cq_history.proofs.Entries.{with_list, three, drop_all}
use Rattle.cq_history.proofs.Moving.{station_more}
use Rattle.cq_place_laws.specs.Placing.{arrives, leaves, nodes_in, IsBlock, BlockPlaces, BlockNodesUsed, AreCutBy, BlockMovers}
use Rattle.cq_place_laws.proofs.PlacingSums.{all_numbers, sum_alike, sum_nothing, sum_both, sum_turned, sum_at}
use Rattle.cq_place_laws.proofs.PlacingJournal.{Along, along_both, CutsOver, cuts_behind, Balances, weigh}
use Rattle.cq_place_laws.proofs.PlacingDeeds.{HasStayed}
use Rattle.cq_place_laws.proofs.PlacingBlock.{Makes, of_block, apart_all, all_made, legal_behind}
use Rattle.cq_place_laws.proofs.PlacingGroup.{of_statement, of_all, weight, balances, cut_of, cut_or_not, node_stays, of_mover, of_stayer}

-- ---- entries of which some may be a Cutover

abbrev HasNoCutover : List Entry → Type 0
HasNoCutover es = AllByRecursion (λ (e : Entry). e.kind ≢ Cutover) es

last_cut : (block : List Answered) (es : List Entry) → AllByRecursion (λ (e : Entry). IsOf block e.who) es → AreCutBy block es ⊎ HasNoCutover es
last_cut block [] all = inr tt
last_cut block (e ∷ es) all = elim (last_cut block es all.1) [
  | inl c ↦ inl (record { front = e ∷ c.front; last = c.last; back = c.back; all = ap (λ (v : List Entry). e ∷ v) c.all; cuts = c.cuts; by = c.by; behind = c.behind })
  | inr far ↦ elim (cut_or_not e.kind) [
    | inl cut ↦ inl (record { front = []; last = e; back = es; all = refl; cuts = cut; by = all.0; behind = far })
    | inr other ↦ inr (other, far)
  ]
]

-- what each entry keeps of the node, all keep
module _ (P : ℕ → Type 0) where
  abbrev Leads : Journal → Entry → Type 0
  Leads j e = P (node_of j) → P (moved (station_of j) e.who e.kind).node

  keep_on : (j : Journal) (es : List Entry) → Along Leads j es → P (node_of j) → P (node_of (with_list j (j.entries ++ es)))
  keep_on j [] all p = subst (λ (v : List Entry). P (node_of (with_list j v))) (sym (append-nil j.entries)) p
  keep_on j (e ∷ es) all p =
      subst (λ (v : List Entry). P (node_of (with_list j v))) (three j.entries e es)
      (keep_on (with_list j (j.entries ++ e ∷ [])) es all.1 (subst (λ (s : Station). P s.node) (sym (station_more e.who e.kind j)) (all.0 p)))

stays : (j : Journal) (es : List Entry) → HasNoCutover es → node_of (with_list j (j.entries ++ es)) ≡ node_of j
stays j es far = keep_on (λ n. n ≡ node_of j) j es (each j es far) refl
  where
    each : (k : Journal) (fs : List Entry) → HasNoCutover fs → Along (Leads (λ n. n ≡ node_of j)) k fs
    each k [] all = tt
    each k (f ∷ fs) all = (λ p. node_stays (station_of k) f.who f.kind all.0 ∙ p, each (with_list k (k.entries ++ f ∷ [])) fs all.1)

-- ---- the block

module _ (rules : Rules) (run : Run) (before : Era) (all : List Answered) (e : Environment) (answers block : List Answered) (sessions : List ℕ) (old new : List Journal)
    (b : IsBlock rules run before all e answers block sessions old new) where
  abbrev c : Contents
  c = e.catalog

  make : AllByRecursion (Makes run.workers c old new) block
  make = all_made rules run before all e answers block sessions old new b

  more : ℕ → List Entry
  more g = drop (length (journal_in old g).entries) (journal_in new g).entries

  module _ (g : ℕ) (l : g < length old) where
    abbrev j : Journal
    j = journal_in old g

    more_is : (b.phase.entries g l).0 ≡ more g
    unfolding more
    more_is = sym (ap (drop (length j.entries)) (ap (λ (v : Journal). v.entries) (b.phase.entries g l).1) ∙ drop_all j.entries (b.phase.entries g l).0)

    goes_on : journal_in new g ≡ with_list j (j.entries ++ more g)
    goes_on = (b.phase.entries g l).1 ∙ ap (λ (v : List Entry). with_list j (j.entries ++ v)) more_is

    of_more : AllByRecursion (λ (f : Entry). IsOf block f.who) (more g)
    of_more = subst (AllByRecursion (λ (f : Entry). IsOf block f.who)) more_is (of_block rules run before all e answers block sessions old new b g l)

    cuts : Along (CutsOver (journal_in new g)) j (more g)
    cuts =
        subst (λ (v : Journal). Along (CutsOver v) j (more g)) (sym goes_on)
        (cuts_behind (environment_from e block).catalog g j (more g) (subst (IsLegal (environment_from e block).catalog g) goes_on (legal_behind rules run before all e answers block sessions old new b g)))

    -- of one group
    group_places : (node : ℕ) → weight c node g (nodes_in new g) + sum_by (of_all (leaves c node) block) (more g) ≡ weight c node g (nodes_in old g) + sum_by (of_all (arrives c node) block) (more g)
    group_places node =
        let into = of_all (arrives c node) block in
        let out = of_all (leaves c node) block in
        let each : Along (Balances (weight c node g) into out) j (more g) =
        along_both (CutsOver (journal_in new g)) (Balances (weight c node g) into out) (λ (f : Entry). IsOf block f.who)
        (balances run.workers c old new block (apart_all rules run before all e answers block sessions old new b) make g node) j (more g) cuts of_more in
        ap (λ (v : Journal). weight c node g (node_of v) + sum_by out (more g)) goes_on ∙ weigh (weight c node g) into out j (more g) each

  groups_are : length old ≡ c.groups
  groups_are = b.was.log.laid.groups

  -- over all groups, a statement's number comes in where its move ends
  over_groups : (x : Answered → ℕ) (a : Answered) → Makes run.workers c old new a → ((m : Makes run.workers c old new a) → HasStayed c m.made a.bound a.answer → x a ≡ 0) →
      sum_by (λ g. sum_by (of_statement x a) (more g)) (numbers 0 c.groups) ≡ x a
  over_groups x a m nothing = elim m.did [
    | inl h ↦
        sum_alike (λ g. sum_by (of_statement x a) (more g)) (λ g. cond (nat_eq g h.group) (x a) 0) (numbers 0 c.groups)
        (all_numbers (λ g. sum_by (of_statement x a) (more g) ≡ cond (nat_eq g h.group) (x a) 0) 0 c.groups
        (λ g above below. of_mover run.workers c old new block (apart_all rules run before all e answers block sessions old new b) make g x a m (more g) (goes_on g (omega (arith, below, groups_are))) h))
        ∙ sum_at h.group (x a) 0 c.groups (omega arith) (let there = h.there in omega (arith, there))
    | inr h ↦
        sum_nothing (λ g. sum_by (of_statement x a) (more g)) (numbers 0 c.groups)
        (all_numbers (λ g. sum_by (of_statement x a) (more g) ≡ 0) 0 c.groups
        (λ g above below. of_stayer run.workers c old new block (apart_all rules run before all e answers block sessions old new b) make g x a m (more g) (goes_on g (omega (arith, below, groups_are))) h))
        ∙ sym (nothing m h)
  ]

  -- so all Cutovers count for as much as all statements
  all_counted : (x : Answered → ℕ) → ((a : Answered) (m : Makes run.workers c old new a) → HasStayed c m.made a.bound a.answer → x a ≡ 0) → sum_by (λ g. sum_by (of_all x block) (more g)) (numbers 0 c.groups) ≡ sum_by x block
  all_counted x nothing =
      let each : (g : ℕ) → sum_by (of_all x block) (more g) ≡ sum_by (λ a. sum_by (of_statement x a) (more g)) block = λ g. sum_turned (λ f a. of_statement x a f) (more g) block in
      sum_alike (λ g. sum_by (of_all x block) (more g)) (λ g. sum_by (λ a. sum_by (of_statement x a) (more g)) block) (numbers 0 c.groups)
      (all_numbers (λ g. sum_by (of_all x block) (more g) ≡ sum_by (λ a. sum_by (of_statement x a) (more g)) block) 0 c.groups (λ g above below. each g))
      ∙ sum_turned (λ g a. sum_by (of_statement x a) (more g)) (numbers 0 c.groups) block
      ∙ sum_alike (λ a. sum_by (λ g. sum_by (of_statement x a) (more g)) (numbers 0 c.groups)) x block
      (all_weaker (Makes run.workers c old new) (λ (a : Answered). sum_by (λ g. sum_by (of_statement x a) (more g)) (numbers 0 c.groups) ≡ x a) (λ a m. over_groups x a m (nothing a)) block make)

  places : (node : ℕ) → stores_on c (nodes_in new) node + sum_by (leaves c node) block ≡ stores_on c (nodes_in old) node + sum_by (arrives c node) block
  places node =
      let was : ℕ → ℕ = λ g. weight c node g (nodes_in old g) in
      let is : ℕ → ℕ = λ g. weight c node g (nodes_in new g) in
      let into : ℕ → ℕ = λ g. sum_by (of_all (arrives c node) block) (more g) in
      let out : ℕ → ℕ = λ g. sum_by (of_all (leaves c node) block) (more g) in
      let gs = numbers 0 c.groups in
      let each : sum_by (λ g. is g + out g) gs ≡ sum_by (λ g. was g + into g) gs =
      sum_alike (λ g. is g + out g) (λ g. was g + into g) gs (all_numbers (λ g. is g + out g ≡ was g + into g) 0 c.groups (λ g above below. group_places g (omega (arith, below, groups_are)) node)) in
      let left : sum_by (λ g. is g + out g) gs ≡ sum_by is gs + sum_by out gs = sum_both is out gs in
      let right : sum_by (λ g. was g + into g) gs ≡ sum_by was gs + sum_by into gs = sum_both was into gs in
      let leaving : sum_by out gs ≡ sum_by (leaves c node) block = all_counted (leaves c node) (λ a m h. h.out node) in
      let arriving : sum_by into gs ≡ sum_by (arrives c node) block = all_counted (arrives c node) (λ a m h. h.into node) in
      omega (arith, each, left, right, leaving, arriving)

  -- ---- one group

  abbrev IsUsed : ℕ → ℕ → Type 0
  IsUsed g n = (n ≡ nodes_in old g) ⊎ ((1 ≤ n) × (n ≤ run.workers))

  is_used : (g : ℕ) → g < length old → IsUsed g (nodes_in new g)
  is_used g l =
      subst (λ (v : Journal). IsUsed g (node_of v)) (sym (goes_on g l))
      (keep_on (IsUsed g) (journal_in old g) (more g) (along_both (CutsOver (journal_in new g)) (Leads (IsUsed g)) (λ (f : Entry). IsOf block f.who) leads (journal_in old g) (more g) (cuts g l) (of_more g l)) (inl refl))
    where
      leads : (k : Journal) (f : Entry) → CutsOver (journal_in new g) k f → IsOf block f.who → Leads (IsUsed g) k f
      leads k f over o p = elim (cut_or_not f.kind) [
        | inl cut ↦
            let x = cut_of run.workers c old new block (apart_all rules run before all e answers block sessions old new b) make g k f (over cut) o in
            let next : (moved (station_of k) f.who f.kind).node ≡ x.moves.to = ap (λ kind. (moved (station_of k) f.who kind).node) cut ∙ x.to in
            inr (let low = x.moves.low in omega (arith, low, next), let high = x.moves.high in omega (arith, high, next))
        | inr far ↦ subst (IsUsed g) (sym (node_stays (station_of k) f.who f.kind far)) p
      ]

  movers : (g : ℕ) → g < length old →
      (es : List Entry) × (journal_in new g ≡ record (journal_in old g) { entries = (journal_in old g).entries ++ es })
      × (AreCutBy block es ⊎ (AllByRecursion (λ (f : Entry). f.kind ≢ Cutover) es × (nodes_in new g ≡ nodes_in old g)))
  movers g l = (
    more g,
    goes_on g l,
    elim (last_cut block (more g) (of_more g l)) [
      | inl c ↦ inl c
      | inr far ↦ inr (far, ap node_of (goes_on g l) ∙ stays (journal_in old g) (more g) far)
    ],
  )

pub block_places : BlockPlaces
block_places rules run before all e answers block sessions old new b node = places rules run before all e answers block sessions old new b node

pub block_nodes_used : BlockNodesUsed
block_nodes_used rules run before all e answers block sessions old new b g l = is_used rules run before all e answers block sessions old new b g l

pub block_movers : BlockMovers
block_movers rules run before all e answers block sessions old new b g l = movers rules run before all e answers block sessions old new b g l
