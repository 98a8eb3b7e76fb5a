-- The steps of a statement in one group, between entries of sessions beside: they are visits of the group, and legal.
use Rattle.std.proofs.Common.{◌≡◌, ◌≢◌, ◌⊎◌, ◌<◌, ◌≤◌, inl, inr, ℕ, true, false, cond, List, [], ◌∷◌, ◌++◌, length, refl, sym, ◌∙◌, ap, subst, arith, Some, None, Option, append-nil}
use Rattle.std.specs.Prelude.{⊤, nat_eq, not, filter, slice_get, fold}
use Rattle.std.specs.List.{AllByRecursion}
use Rattle.std.proofs.lemmas.Bool.Decides.{eqb_tells}
use Rattle.cq_value.proofs.Lists.{all_right, all_weaker}
use Rattle.cq_value.proofs.Truths.{two_ways}
use Rattle.cq_tree.specs.declared.journal.Who.{Who}
use Rattle.cq_tree.specs.declared.journal.Entry.{Entry}
use Rattle.cq_tree.specs.declared.journal.EntryKind.{EntryKind}
use Rattle.cq_tree.specs.declared.journal.EntryKind.TheVariants as entry
use Rattle.cq_catalog.specs.Contents.{Contents}
use Rattle.cq_journal.specs.Records.{Journal}
use Rattle.cq_journal.specs.Stations.{Station, moved, node_of}
use Rattle.cq_planning.specs.Touched.{among}
use Rattle.cq_history.specs.Journals.{journal_in, cut, made_by, Step, steps_after}
use Rattle.cq_history.specs.Legality.{CanFollow, IsLegalKind, IsLegalStep, IsLegal}
use Rattle.cq_history.specs.Deeds.{Deed, Phase, IsFresh, MayCome, Visits}
use Rattle.cq_history.proofs.Entries.{with_list, three, take_all, index_beyond}
use Rattle.cq_history.proofs.Visiting.{made_who}
use Rattle.cq_history.proofs.Phasing.{all_by_get}

-- ---- legal steps

got_behind : {X : Type 0} (xs : List X) (x : X) (ys : List X) → slice_get (xs ++ x ∷ ys) (length xs) ≡ Some x
got_behind [] x ys = refl
got_behind (z ∷ xs) x ys = got_behind xs x ys

-- those of a statement are, where the journal is
pub legal_steps : (c : Contents) (group : ℕ) (who : Who) (j : Journal) (more : List Entry) → IsLegal c group (with_list j (j.entries ++ more)) → AllByRecursion (IsLegalStep c group who) (steps_after who j more)
legal_steps c group who j [] legal = tt
legal_steps c group who j (e ∷ more) legal =
    let next = with_list j (j.entries ++ e ∷ []) in
    let rest = legal_steps c group who next more (subst (λ (v : List Entry). IsLegal c group (with_list j v)) (sym (three j.entries e more)) legal) in
    elim (two_ways (made_by who e)) [
      | inl m ↦ rw m ((kind, subst (λ (w : Who). CanFollow c j w e.kind) (made_who who e m) follows), rest)
      | inr n ↦ rw n rest
    ]
  where
    kind : IsLegalKind c group e.kind
    kind = (all_right (λ (x : Entry). IsLegalKind c group x.kind) j.entries (e ∷ more) legal.kinds).0

    follows : CanFollow c j e.who e.kind
    follows = subst (λ (v : List Entry). CanFollow c (with_list j v) e.who e.kind) (take_all j.entries (e ∷ more)) (legal.follow (length j.entries) e (got_behind j.entries e more))

-- ---- a group that was opened on a node is on one

-- a move goes to a node
abbrev GoesSomewhere : EntryKind → Type 0
GoesSomewhere (entry.MoveStart to) = 1 ≤ to
GoesSomewhere kind = ⊤

goes_somewhere : (c : Contents) (j : Journal) (who : Who) (k : EntryKind) → CanFollow c j who k → GoesSomewhere k
goes_somewhere c j who entry.Read f = tt
goes_somewhere c j who (entry.Write op reply) f = tt
goes_somewhere c j who (entry.MoveStart to) f = f.1
goes_somewhere c j who entry.CatchUp f = tt
goes_somewhere c j who entry.Cutover f = tt
goes_somewhere c j who entry.MoveStop f = tt

stays_somewhere : (es : List Entry) (s : Station) → 1 ≤ s.node → 1 ≤ s.target → AllByRecursion (λ (e : Entry). GoesSomewhere e.kind) es → 1 ≤ (fold (λ (t : Station) (e : Entry). moved t e.who e.kind) s es).node
stays_somewhere [] s node target all = node
stays_somewhere (e ∷ es) s node target all = let one = by_kind e.kind all.0 in stays_somewhere es (moved s e.who e.kind) one.0 one.1 all.1
  where
    by_kind : (k : EntryKind) → GoesSomewhere k → (1 ≤ (moved s e.who k).node) × (1 ≤ (moved s e.who k).target)
    by_kind entry.Read l = (node, target)
    by_kind (entry.Write op reply) l = (node, target)
    by_kind (entry.MoveStart to) l = (node, l)
    by_kind entry.CatchUp l = (node, target)
    by_kind entry.Cutover l = (target, target)
    by_kind entry.MoveStop l = (node, target)

pub is_somewhere : (c : Contents) (group : ℕ) (j : Journal) → IsLegal c group j → j.opening ≢ 0 → 1 ≤ node_of j
is_somewhere c group j legal opened =
    stays_somewhere j.entries (record { node = j.opening; moving = None; target = j.opening }) (omega (arith, opened)) (omega (arith, opened))
    (all_by_get (λ (e : Entry). GoesSomewhere e.kind) j.entries (λ i e s. goes_somewhere c (cut i j) e.who e.kind (legal.follow i e s)))

-- ---- visits

-- these steps in a group, and none in the others; and a look there
abbrev pub in_group : ℕ → List Step → ℕ → List Step
in_group group steps g = cond (nat_eq g group) steps []

abbrev pub look_in : ℕ → Option Journal → ℕ → Option Journal
look_in group look g = cond (nat_eq g group) look None

abbrev pub deed_in : ℕ → List Step → Option Journal → Deed
deed_in group steps look = record { made = in_group group steps; looked = look_in group look }

-- an entry that may come: the statement's own, or one of another of these sessions
abbrev pub MayComeIn : List ℕ → Who → Entry → Type 0
MayComeIn sessions who e = (made_by who e ≡ true) ⊎ ((e.who.session ≢ who.session) × (among e.who.session sessions ≡ true))

among_others : (s n : ℕ) (sessions : List ℕ) → n ≢ s → among n sessions ≡ true → among n (filter (λ t. not (nat_eq t s)) sessions) ≡ true
among_others s n [] other is = cc
among_others s n (t ∷ sessions) other is = elim (eqb_tells t s) [
  | inl y ↦
      let left : among n (filter (λ u. not (nat_eq u s)) sessions) ≡ true = among_others s n sessions other (elim (eqb_tells n t) [
        | inl z ↦ absurd (other (z.1 ∙ y.1))
        | inr z ↦ (let rest : among n sessions ≡ true = rw z.0 at is in rest)
      ]) in
      rw y.0 left
  | inr y ↦ elim (eqb_tells n t) [
    | inl z ↦ rw y.0 (rw z.0 refl)
    | inr z ↦ (let rest : among n sessions ≡ true = rw z.0 at is in rw y.0 (rw z.0 (among_others s n sessions other rest)))
  ]
]

-- journals that go on in a group alone, by the steps of a statement and by entries that may come
pub record GoesBy (sessions : List ℕ) (who : Who) (group : ℕ) (steps : List Step) (old new : List Journal) : Type 0 where
  pub count : length new ≡ length old
  pub there : group < length old
  pub more : List Entry
  pub grown : journal_in new group ≡ with_list (journal_in old group) ((journal_in old group).entries ++ more)
  pub own : steps ≡ steps_after who (journal_in old group) more
  pub comes : AllByRecursion (MayComeIn sessions who) more
  pub others : (g : ℕ) → nat_eq g group ≡ false → journal_in new g ≡ journal_in old g

-- a look at the group meanwhile
abbrev pub IsLookAt : ℕ → List Journal → List Journal → Journal → Type 0
IsLookAt group old new j = (place : ℕ) × (length (journal_in old group).entries ≤ place) × (place ≤ length (journal_in new group).entries) × (j ≡ cut place (journal_in new group))

abbrev pub MayLook : ℕ → List Journal → List Journal → Option Journal → Type 0
MayLook group old new None = ⊤
MayLook group old new (Some j) = IsLookAt group old new j

module _ (sessions : List ℕ) (who : Who) (group : ℕ) (steps : List Step) (look : Option Journal) (old new : List Journal) (goes : GoesBy sessions who group steps old new) (may : MayLook group old new look) where
  abbrev Grown : ℕ → Type 0
  Grown g = (more : List Entry) × (journal_in new g ≡ with_list (journal_in old g) ((journal_in old g).entries ++ more)) × (in_group group steps g ≡ steps_after who (journal_in old g) more) × AllByRecursion (MayComeIn sessions who) more

  own_here : (g : ℕ) → nat_eq g group ≡ true → in_group group steps g ≡ steps
  own_here g y = ap (λ b. cond b steps []) y

  grown_at : (g : ℕ) → Grown g
  grown_at g = elim (eqb_tells g group) [
    | inl y ↦ subst Grown (sym y.1) (goes.more, goes.grown, own_here group (ap (λ n. nat_eq n group) (sym y.1) ∙ y.0) ∙ goes.own, goes.comes)
    | inr n ↦ ([], goes.others g n.0 ∙ ap (with_list (journal_in old g)) (sym (append-nil (journal_in old g).entries)), ap (λ b. cond b steps []) n.0, tt)
  ]

  looked_at : (g : ℕ) (j : Journal) → look_in group look g ≡ Some j → (g < length old) × IsLookAt g old new j
  looked_at g j is = elim (eqb_tells g group) [
    | inl y ↦
        let its : look ≡ Some j = ap (λ b. cond b look None) (sym y.0) ∙ is in
        subst (λ n. (n < length old) × IsLookAt n old new j) (sym y.1) (goes.there, subst (MayLook group old new) its may)
    | inr n ↦ (let none : None ≡ Some j = ap (λ b. cond b look None) (sym n.0) ∙ is in absurd (cc none))
  ]

  no_group : (g : ℕ) → length old ≤ g → IsFresh g (journal_in new g) × (in_group group steps g ≡ [])
  no_group g far = (
    subst (IsFresh g) (sym (index_beyond new g _ (let count = goes.count in omega (arith, count, far)))) (record { number = refl; base = λ table. refl; entries = refl }),
    elim (eqb_tells g group) [ inl y ↦ (let there = goes.there in absurd (omega (arith, there, y.1, far))) | inr n ↦ ap (λ b. cond b steps []) n.0 ],
  )

  -- they are visits, in a phase of its session
  pub goes_visits : (p : Phase) → p.sessions ≡ filter (λ t. not (nat_eq t who.session)) sessions → Visits p who (deed_in group steps look) old new
  goes_visits p beside = record {
    count = (let count = goes.count in omega (arith, count));
    grown = λ g l. (let at = grown_at g in (at.0, at.1, at.2, all_weaker (MayComeIn sessions who) (MayCome p who) may_come at.0 at.3));
    looked = λ g j is. looked_at g j is;
    fresh = λ g far. no_group g far;
  }
    where
      may_come : (e : Entry) → MayComeIn sessions who e → MayCome p who e
      may_come e (inl m) = inl m
      may_come e (inr c) = inr (subst (λ ns. among e.who.session ns ≡ true) (sym beside) (among_others who.session e.who.session sessions c.0 c.1))

  -- and legal, where the group's journal is
  pub goes_legal : (c : Contents) → IsLegal c group (journal_in new group) → (g : ℕ) → AllByRecursion (IsLegalStep c g who) (in_group group steps g)
  goes_legal c legal g = elim (eqb_tells g group) [
    | inl y ↦ subst (λ n. AllByRecursion (IsLegalStep c n who) (in_group group steps n)) (sym y.1)
        (subst (AllByRecursion (IsLegalStep c group who)) (sym (own_here group (ap (λ n. nat_eq n group) (sym y.1) ∙ y.0) ∙ goes.own)) (legal_steps c group who (journal_in old group) goes.more (subst (IsLegal c group) goes.grown legal)))
    | inr n ↦ subst (AllByRecursion (IsLegalStep c g who)) (sym (ap (λ b. cond b steps []) n.0)) tt
  ]
