-- One group behind a block: the node of its journal, and the Cutovers of each statement.
use Rattle.std.proofs.Common.{zero, suc, cond, ◌≡◌, ◌≢◌, ◌⊎◌, inl, inr, ◌+◌, ◌≤◌, ℕ, true, List, [], ◌∷◌, ◌++◌, length, map, refl, sym, ◌∙◌, ap, subst, arith, Some, slice_get}
use Rattle.std.specs.Prelude.{nat_eq}
use Rattle.std.specs.List.{AllByRecursion, sum_by}
use Rattle.std.proofs.lemmas.Bool.Decides.{eqb_tells}
use Rattle.std.proofs.lemmas.List.{map-append}
use Rattle.std.proofs.lemmas.List.Sums.{sum_by-cons, sum_by-append}
use Rattle.cq_value.proofs.Lists.{all_weaker, filter_none}
use Rattle.cq_value.proofs.Truths.{two_ways}
use Rattle.cq_tree.specs.declared.journal.Who.{Who}
use Rattle.cq_tree.specs.declared.journal.Entry.{Entry}
use Rattle.cq_tree.specs.declared.journal.EntryKind.{EntryKind}
use Rattle.cq_tree.specs.declared.journal.EntryKind.TheVariants as entry
use Rattle.cq_catalog.specs.Contents.{Contents}
use Rattle.cq_answer.specs.declared.answered.Answered.{Answered}
use Rattle.cq_journal.specs.Records.{Journal}
use Rattle.cq_journal.specs.Stations.{Station, moved, station_of, node_of}
use Rattle.cq_history.specs.Phases.{who_of, IsOf}
use Rattle.cq_history.specs.Room.{tables_in, is_on, stores_from, stores_to, stores_moved}
use Rattle.cq_history.specs.Journals.{journal_in, made_by, kinds_of, Step, steps_of, kinds_in}
use Rattle.cq_history.specs.Moves.{IsMove}
use Rattle.cq_history.proofs.Lists.{all_at}
use Rattle.cq_history.proofs.Entries.{with_list, kinds_append, steps_kinds, apart}
use Rattle.cq_history.proofs.Visiting.{made_own}
use Rattle.cq_place_laws.specs.Placing.{arrives, leaves}
use Rattle.cq_place_laws.proofs.PlacingSums.{sum_nothing, all_so}
use Rattle.cq_place_laws.proofs.PlacingJournal.{IsAmong, Ends, CutsOver, Balances}
use Rattle.cq_place_laws.proofs.PlacingDeeds.{IsNoCutover, HasMoved, HasStayed}
use Rattle.cq_place_laws.proofs.PlacingBlock.{AreApart, Makes}

-- ---- a number at each Cutover

abbrev pub at_cutover : ℕ → EntryKind → ℕ
at_cutover n entry.Cutover = n
at_cutover n k = 0

-- that of a statement, at its Cutovers
abbrev pub of_statement : (Answered → ℕ) → Answered → Entry → ℕ
of_statement x a e = cond (made_by (who_of a) e) (at_cutover (x a) e.kind) 0

-- those of all statements of a block
abbrev pub of_all : (Answered → ℕ) → List Answered → Entry → ℕ
of_all x block e = sum_by (λ a. of_statement x a e) block

pub at_no_cutover : (n : ℕ) (k : EntryKind) → IsNoCutover k → at_cutover n k ≡ 0
at_no_cutover n entry.Read far = refl
at_no_cutover n (entry.Write op reply) far = refl
at_no_cutover n (entry.MoveStart to) far = refl
at_no_cutover n entry.CatchUp far = refl
at_no_cutover n entry.Cutover far = absurd (far refl)
at_no_cutover n entry.MoveStop far = refl

of_none : (x : Answered → ℕ) (a : Answered) (e : Entry) → IsNoCutover e.kind → of_statement x a e ≡ 0
of_none x a e far = elim (two_ways (made_by (who_of a) e)) [ inl y ↦ rw y (at_no_cutover (x a) e.kind far) | inr n ↦ rw n refl ]

pub all_of_none : (x : Answered → ℕ) (block : List Answered) (e : Entry) → IsNoCutover e.kind → of_all x block e ≡ 0
all_of_none x block e far = sum_nothing (λ (a : Answered). of_statement x a e) block (all_so (λ (a : Answered). of_statement x a e ≡ 0) (λ a. of_none x a e far) block)

of_other : (x : Answered → ℕ) (a : Answered) (e : Entry) → a.statement ≢ e.who.statement → of_statement x a e ≡ 0
of_other x a e far = rw (apart (who_of a) e.who (λ same. far (ap (λ (w : Who). w.statement) same))) refl

-- a Cutover is of one statement
pub of_one : (x : Answered → ℕ) (e : Entry) → e.kind ≡ entry.Cutover → (block : List Answered) → AreApart block → (place : ℕ) (a : Answered) → slice_get block place ≡ Some a → who_of a ≡ e.who → of_all x block e ≡ x a
of_one x e cut [] differ place a there is = cc there
of_one x e cut (b ∷ block) differ zero a there is =
    let same : b ≡ a = (let here : Some b ≡ Some a = there in cc here) in
    let all : of_all x (b ∷ block) e ≡ of_statement x b e + of_all x block e = sum_by-cons (λ (c : Answered). of_statement x c e) b block in
    let number : b.statement ≡ e.who.statement = ap (λ (c : Answered). c.statement) same ∙ ap (λ (w : Who). w.statement) is in
    let rest : of_all x block e ≡ 0 = sum_nothing (λ (c : Answered). of_statement x c e) block
    (all_weaker (λ (c : Answered). b.statement ≢ c.statement) (λ (c : Answered). of_statement x c e ≡ 0) (λ c far. of_other x c e (λ k. far (number ∙ sym k))) block differ.0) in
    let own : made_by (who_of b) e ≡ true = ap (λ (w : Who). made_by w e) (ap who_of same ∙ is) ∙ made_own e.who e.kind in
    let here : of_statement x b e ≡ x a = rw (own, cut) (ap x same) in
    omega (arith, all, rest, here)
of_one x e cut (b ∷ block) differ (suc place) a there is =
    let all : of_all x (b ∷ block) e ≡ of_statement x b e + of_all x block e = sum_by-cons (λ (c : Answered). of_statement x c e) b block in
    let far : b.statement ≢ a.statement = all_at (λ (c : Answered). b.statement ≢ c.statement) block place a differ.0 there in
    let here : of_statement x b e ≡ 0 = of_other x b e (λ k. far (k ∙ sym (ap (λ (w : Who). w.statement) is))) in
    let rest : of_all x block e ≡ x a = of_one x e cut block differ.1 place a there is in
    omega (arith, all, here, rest)

-- ---- the Cutovers of one statement in a group

own_cutovers : (x : Answered → ℕ) (a : Answered) (es : List Entry) → sum_by (of_statement x a) es ≡ sum_by (at_cutover (x a)) (kinds_of (who_of a) es)
own_cutovers x a [] = refl
own_cutovers x a (e ∷ es) =
    let all : sum_by (of_statement x a) (e ∷ es) ≡ of_statement x a e + sum_by (of_statement x a) es = sum_by-cons (of_statement x a) e es in
    let more : sum_by (of_statement x a) es ≡ sum_by (at_cutover (x a)) (kinds_of (who_of a) es) = own_cutovers x a es in
    elim (two_ways (made_by (who_of a) e)) [
      | inl y ↦
          let here : of_statement x a e ≡ at_cutover (x a) e.kind = rw y refl in
          let list : kinds_of (who_of a) (e ∷ es) ≡ e.kind ∷ kinds_of (who_of a) es = rw y refl in
          let cons : sum_by (at_cutover (x a)) (e.kind ∷ kinds_of (who_of a) es) ≡ at_cutover (x a) e.kind + sum_by (at_cutover (x a)) (kinds_of (who_of a) es) = sum_by-cons (at_cutover (x a)) e.kind (kinds_of (who_of a) es) in
          let goal : sum_by (of_statement x a) (e ∷ es) ≡ sum_by (at_cutover (x a)) (e.kind ∷ kinds_of (who_of a) es) = omega (arith, all, more, here, cons) in
          goal ∙ ap (sum_by (at_cutover (x a))) (sym list)
      | inr n ↦
          let here : of_statement x a e ≡ 0 = rw n refl in
          let list : kinds_of (who_of a) (e ∷ es) ≡ kinds_of (who_of a) es = rw n refl in
          let goal : sum_by (of_statement x a) (e ∷ es) ≡ sum_by (at_cutover (x a)) (kinds_of (who_of a) es) = omega (arith, all, more, here) in
          goal ∙ ap (sum_by (at_cutover (x a))) (sym list)
    ]

pub none_at : (n : ℕ) (kinds : List EntryKind) → AllByRecursion IsNoCutover kinds → sum_by (at_cutover n) kinds ≡ 0
none_at n kinds all = sum_nothing (at_cutover n) kinds (all_weaker IsNoCutover (λ (k : EntryKind). at_cutover n k ≡ 0) (λ k far. at_no_cutover n k far) kinds all)

rounds_cut_none : (n : ℕ) (rounds : List Step) → AllByRecursion (λ (s : Step). s.kind ≡ entry.CatchUp) rounds → sum_by (at_cutover n) (kinds_in rounds) ≡ 0
rounds_cut_none n [] all = refl
rounds_cut_none n (s ∷ rounds) all =
    let cons : sum_by (at_cutover n) (kinds_in (s ∷ rounds)) ≡ at_cutover n s.kind + sum_by (at_cutover n) (kinds_in rounds) = sum_by-cons (at_cutover n) s.kind (kinds_in rounds) in
    let here : at_cutover n s.kind ≡ 0 = ap (at_cutover n) all.0 in
    let more : sum_by (at_cutover n) (kinds_in rounds) ≡ 0 = rounds_cut_none n rounds all.1 in
    omega (arith, cons, here, more)

-- a move has one
move_cuts_once : (c : Contents) (group from to n : ℕ) (r : _) (steps : List Step) → IsMove c group from to r steps → sum_by (at_cutover n) (kinds_in steps) ≡ n
move_cuts_once c group from to n r steps m =
    let f : EntryKind → ℕ = at_cutover n in
    let list : kinds_in steps ≡ m.start.kind ∷ (kinds_in m.rounds ++ m.cutover.kind ∷ []) = ap kinds_in m.all ∙ ap (λ v. m.start.kind ∷ v) (map-append (λ (s : Step). s.kind) m.rounds (m.cutover ∷ [])) in
    let first : sum_by f (m.start.kind ∷ (kinds_in m.rounds ++ m.cutover.kind ∷ [])) ≡ f m.start.kind + sum_by f (kinds_in m.rounds ++ m.cutover.kind ∷ []) = sum_by-cons f m.start.kind (kinds_in m.rounds ++ m.cutover.kind ∷ []) in
    let both : sum_by f (kinds_in m.rounds ++ m.cutover.kind ∷ []) ≡ sum_by f (kinds_in m.rounds) + sum_by f (m.cutover.kind ∷ []) = sum_by-append f (kinds_in m.rounds) (m.cutover.kind ∷ []) in
    let begins : f m.start.kind ≡ 0 = ap f m.starts in
    let rounds : sum_by f (kinds_in m.rounds) ≡ 0 = rounds_cut_none n m.rounds m.catches in
    let ends : sum_by f (m.cutover.kind ∷ []) ≡ 0 + n = ap (λ (k : EntryKind). sum_by f (k ∷ [])) m.ends in
    ap (sum_by f) list ∙ omega (arith, first, both, begins, rounds, ends)

-- ---- the move that ends at a Cutover

pub cut_or_not : (k : EntryKind) → (k ≡ entry.Cutover) ⊎ IsNoCutover k
cut_or_not entry.Read = inr (λ same. cc same)
cut_or_not (entry.Write op reply) = inr (λ same. cc same)
cut_or_not (entry.MoveStart to) = inr (λ same. cc same)
cut_or_not entry.CatchUp = inr (λ same. cc same)
cut_or_not entry.Cutover = inl refl
cut_or_not entry.MoveStop = inr (λ same. cc same)

pub node_stays : (s : Station) (who : Who) (k : EntryKind) → IsNoCutover k → (moved s who k).node ≡ s.node
node_stays s who entry.Read far = refl
node_stays s who (entry.Write op reply) far = refl
node_stays s who (entry.MoveStart to) far = refl
node_stays s who entry.CatchUp far = refl
node_stays s who entry.Cutover far = absurd (far refl)
node_stays s who entry.MoveStop far = refl

among_kinds : (P : EntryKind → Type 0) (s : Step) (steps : List Step) → IsAmong s steps → AllByRecursion P (kinds_in steps) → P s.kind
among_kinds P s [] i all = absurd i
among_kinds P s (t ∷ steps) (inl e) all = subst (λ (v : Step). P v.kind) (sym e) all.0
among_kinds P s (t ∷ steps) (inr i) all = among_kinds P s steps i all.1

-- none but the first step of a move begins it
one_start : (s cutover : Step) (rounds : List Step) (to : ℕ) → s.kind ≡ entry.MoveStart to → AllByRecursion (λ (t : Step). t.kind ≡ entry.CatchUp) rounds → cutover.kind ≡ entry.Cutover → IsAmong s (rounds ++ cutover ∷ []) → ⊥
one_start s cutover [] to starts all ends (inl e) = let bad : entry.MoveStart to ≡ entry.Cutover = sym starts ∙ ap (λ (v : Step). v.kind) e ∙ ends in cc bad
one_start s cutover [] to starts all ends (inr i) = absurd i
one_start s cutover (t ∷ rounds) to starts all ends (inl e) = let bad : entry.MoveStart to ≡ entry.CatchUp = sym starts ∙ ap (λ (v : Step). v.kind) e ∙ all.0 in cc bad
one_start s cutover (t ∷ rounds) to starts all ends (inr i) = one_start s cutover rounds to starts all.1 ends i

start_is : (c : Contents) (group from to : ℕ) (r : _) (steps : List Step) (m : IsMove c group from to r steps) (s : Step) (target : ℕ) → IsAmong s steps → s.kind ≡ entry.MoveStart target → s ≡ m.start
start_is c group from to r steps m s target i starts = by (subst (IsAmong s) m.all i)
  where
    by : IsAmong s (m.start ∷ m.rounds ++ m.cutover ∷ []) → s ≡ m.start
    by (inl e) = e
    by (inr k) = absurd (one_start s m.cutover m.rounds target starts m.catches m.ends k)

-- what a group on this node counts for at a node
abbrev pub weight : Contents → ℕ → ℕ → ℕ → ℕ
weight c node g n = cond (is_on n node) (length (tables_in c g)) 0

module _ (workers : ℕ) (c : Contents) (old new : List Journal) (block : List Answered) (differ : AreApart block) (all : AllByRecursion (Makes workers c old new) block) (g : ℕ) where
  -- a Cutover of the group, behind this journal, is that of a move that was made
  pub record IsCutOf (j : Journal) (e : Entry) : Type 0 where
    pub place : ℕ
    pub answered : Answered
    pub there : slice_get block place ≡ Some answered
    pub is : who_of answered ≡ e.who
    pub makes : Makes workers c old new answered
    pub moves : HasMoved workers c makes.made answered.bound answered.answer
    pub group : moves.group ≡ g
    pub from : node_of j ≡ moves.from
    pub to : (station_of j).target ≡ moves.to

  pub cut_of : (j : Journal) (e : Entry) → Ends (journal_in new g) j e.who → IsOf block e.who → IsCutOf j e
  cut_of j e ends o = by (all_at (Makes workers c old new) block o.place o.answered all o.there)
    where
      steps_are : (m : Makes workers c old new o.answered) → steps_of e.who (journal_in new g) ≡ m.made g
      steps_are m = ap (λ (w : Who). steps_of w (journal_in new g)) (sym o.is) ∙ m.steps g

      cut_by : (m : Makes workers c old new o.answered) (h : HasMoved workers c m.made o.answered.bound o.answered.answer) → h.group ≡ g → IsCutOf j e
      cut_by m h same =
          let here : IsAmong ends.start (m.made h.group) = subst (IsAmong ends.start) (steps_are m ∙ ap m.made (sym same)) ends.begun in
          let start : ends.start ≡ h.move.start = start_is c h.group h.from h.to h.report (m.made h.group) h.move ends.start (station_of j).target here ends.starts in
          let kind : entry.MoveStart (station_of j).target ≡ entry.MoveStart h.to = sym ends.starts ∙ ap (λ (s : Step). s.kind) start ∙ h.move.starts in
          record {
            place = o.place;
            answered = o.answered;
            there = o.there;
            is = o.is;
            makes = m;
            moves = h;
            group = same;
            from = sym ends.there ∙ ap (λ (s : Step). node_of s.before) start ∙ h.move.there;
            to = cc kind;
          }

      by : Makes workers c old new o.answered → IsCutOf j e
      by m = elim m.did [
        | inl h ↦ elim (eqb_tells g h.group) [
          | inl y ↦ cut_by m h (sym y.1)
          | inr n ↦ absurd (let none : IsAmong ends.start [] = subst (IsAmong ends.start) (steps_are m ∙ h.others g n.0) ends.begun in none)
        ]
        | inr h ↦ absurd (among_kinds IsNoCutover (record { before = j; kind = entry.Cutover }) (m.made g) (subst (IsAmong (record { before = j; kind = entry.Cutover })) (steps_are m) ends.ends) (h.none g) refl)
      ]

  -- ---- what a node counts for

  module _ (node : ℕ) where
    abbrev here : ℕ → ℕ
    here = weight c node g

    weight_is : (n : ℕ) → 1 ≤ n → here n ≡ cond (nat_eq n node) (length (tables_in c g)) 0
    weight_is n low = elim (eqb_tells n 0) [ inl y ↦ absurd (let zero = y.1 in omega (arith, low, zero)) | inr f ↦ rw f.0 refl ]

    module _ (a : Answered) (made : ℕ → List Step) (h : HasMoved workers c made a.bound a.answer) (same : h.group ≡ g) where
      leaves_is : leaves c node a ≡ cond (nat_eq h.from node) (length (tables_in c g)) 0
      leaves_is =
          ap (λ b. cond b (stores_from c node a.bound) 0) h.table
          ∙ ap (stores_from c node) h.is
          ∙ ap (λ o. cond (nat_eq h.from node) (stores_moved c o) 0) h.of
          ∙ ap (λ n. cond (nat_eq h.from node) (length (tables_in c n)) 0) same

      arrives_is : arrives c node a ≡ cond (nat_eq h.to node) (length (tables_in c g)) 0
      arrives_is =
          ap (λ b. cond b (stores_to c node a.bound) 0) h.table
          ∙ ap (stores_to c node) h.is
          ∙ ap (λ o. cond (nat_eq h.to node) (stores_moved c o) 0) h.of
          ∙ ap (λ n. cond (nat_eq h.to node) (length (tables_in c n)) 0) same

    pub balances : (j : Journal) (e : Entry) → CutsOver (journal_in new g) j e → IsOf block e.who → Balances here (of_all (arrives c node) block) (of_all (leaves c node) block) j e
    balances j e cuts o = elim (cut_or_not e.kind) [
      | inl cut ↦
          let ends = cuts cut in
          let x = cut_of j e ends o in
          let out : of_all (leaves c node) block e ≡ leaves c node x.answered = of_one (leaves c node) e cut block differ x.place x.answered x.there x.is in
          let into : of_all (arrives c node) block e ≡ arrives c node x.answered = of_one (arrives c node) e cut block differ x.place x.answered x.there x.is in
          let from : here (node_of j) ≡ leaves c node x.answered =
          weight_is (node_of j) ends.from_low ∙ ap (λ n. cond (nat_eq n node) (length (tables_in c g)) 0) x.from ∙ sym (leaves_is x.answered x.makes.made x.moves x.group) in
          let to : here (station_of j).target ≡ arrives c node x.answered =
          weight_is (station_of j).target ends.to_low ∙ ap (λ n. cond (nat_eq n node) (length (tables_in c g)) 0) x.to ∙ sym (arrives_is x.answered x.makes.made x.moves x.group) in
          let next : here (moved (station_of j) e.who e.kind).node ≡ here (station_of j).target = ap (λ (k : EntryKind). here (moved (station_of j) e.who k).node) cut in
          omega (arith, out, into, from, to, next)
      | inr far ↦
          let out : of_all (leaves c node) block e ≡ 0 = all_of_none (leaves c node) block e far in
          let into : of_all (arrives c node) block e ≡ 0 = all_of_none (arrives c node) block e far in
          let next : here (moved (station_of j) e.who e.kind).node ≡ here (node_of j) = ap here (node_stays (station_of j) e.who e.kind far) in
          omega (arith, out, into, next)
    ]

  -- ---- the Cutovers of one statement among the group's new entries

  module _ (x : Answered → ℕ) (a : Answered) (m : Makes workers c old new a) (more : List Entry) (is : journal_in new g ≡ with_list (journal_in old g) ((journal_in old g).entries ++ more)) where
    new_kinds : kinds_of (who_of a) more ≡ kinds_in (m.made g)
    new_kinds =
        let front : kinds_of (who_of a) (journal_in old g).entries ≡ [] = ap (map (λ (e : Entry). e.kind)) (filter_none (made_by (who_of a)) (journal_in old g).entries (m.news g)) in
        ap (λ (v : List EntryKind). v ++ kinds_of (who_of a) more) (sym front)
        ∙ sym (kinds_append (who_of a) (journal_in old g).entries more)
        ∙ ap (λ (v : Journal). kinds_of (who_of a) v.entries) (sym is)
        ∙ sym (steps_kinds (who_of a) (with_list (journal_in new g) []) (journal_in new g).entries)
        ∙ ap kinds_in (m.steps g)

    cutovers_are : sum_by (of_statement x a) more ≡ sum_by (at_cutover (x a)) (kinds_in (m.made g))
    cutovers_are = own_cutovers x a more ∙ ap (sum_by (at_cutover (x a))) new_kinds

    pub of_mover : (h : HasMoved workers c m.made a.bound a.answer) → sum_by (of_statement x a) more ≡ cond (nat_eq g h.group) (x a) 0
    of_mover h = elim (eqb_tells g h.group) [
      | inl y ↦ rw y.0 (cutovers_are ∙ ap (λ k. sum_by (at_cutover (x a)) (kinds_in (m.made k))) y.1 ∙ move_cuts_once c h.group h.from h.to (x a) h.report (m.made h.group) h.move)
      | inr n ↦ rw n.0 (cutovers_are ∙ ap (λ v. sum_by (at_cutover (x a)) (kinds_in v)) (h.others g n.0))
    ]

    pub of_stayer : HasStayed c m.made a.bound a.answer → sum_by (of_statement x a) more ≡ 0
    of_stayer h = cutovers_are ∙ none_at (x a) (kinds_in (m.made g)) (h.none g)
