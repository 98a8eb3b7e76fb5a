-- What a session of a block needs to answer a statement over its passes.
use Rattle.std.proofs.Common.{◌≡◌, ◌≢◌, ◌≤◌, ◌+◌, inl, inr, ℕ, Bool, cond, zero, suc, true, false, List, [], ◌∷◌, ◌++◌, filter, length, map, refl, sym, ◌∙◌, ap, subst, arith, eq-eqb, Option, Some}
use Rattle.std.specs.Prelude.{IsSome, None, Result, Ok, Err, nat_eq, not, slice_get, slice_index_or}
use Rattle.std.specs.List.{AllZip, AllByRecursion}
use Rattle.std.proofs.lemmas.Bool.{eqb-true}
use Rattle.cq_value.proofs.Lists.{got, length_map}
use Rattle.cq_value.proofs.Truths.{two_ways, or_right, below_or_not}
use Rattle.atomic_table.specs.Seated.{TableId}
use Rattle.cq_tree.specs.declared.failure.StoreFailure.{StoreFailure}
use Rattle.cq_tree.specs.declared.statement.Statement.{Statement}
use Rattle.cq_tree.specs.declared.statement.Statement.TheVariants as statement
use Rattle.cq_answer.specs.declared.answer.Answer.TheVariants as answer
use Rattle.cq_answer.specs.declared.answered.Answered.{Answered}
use Rattle.cq_answer.specs.declared.answered.Settings.{Settings}
use Rattle.cq_answer.specs.declared.fault.Fault.{Fault}
use Rattle.cq_answer.specs.declared.fault.Fault.TheVariants as fault
use Rattle.cq_tree.specs.declared.journal.EntryKind.{EntryKind}
use Rattle.cq_tree.specs.declared.journal.Who.{Who}
use Rattle.cq_catalog.specs.Contents.{Contents}
use Rattle.cq_journal.specs.Records.{Journal}
use Rattle.cq_planning.specs.Database.{shape_in}
use Rattle.cq_planning.specs.Touched.{among}
use Rattle.cq_store.specs.Stores.{StoreState}
use Rattle.cq_group.specs.declared.group.GroupState.{GroupState}
use Rattle.cq_group.specs.Groups.{Outline, shape_at, or_no_shape, journal_of}
use Rattle.cq_group.specs.Resting.{IsResting, journals_of}
use Rattle.cq_history.specs.Deeds.{Phase}
use Rattle.cq_history.specs.Faults.{IsShardIn}
use Rattle.cq_history.specs.Journals.{journal_in}
use Rattle.cq_history.specs.Legality.{IsLegal, IsLegalKind}
use Rattle.cq_history.specs.Looks.{has_shard}
use Rattle.cq_history.specs.Log.{IsAnsweredIn}
use Rattle.cq_history.specs.Phases.{who_of}
use Rattle.cq_history.specs.Refusals.{rules}
use Rattle.cq_history.specs.Run.{Run, Environment, after}
use Rattle.cq_history.proofs.Entries.{index_beyond}
use Rattle.cq_cell.specs.Lists.{NotIn}
use Rattle.cq_cell.proofs.Zips.{zip_long}
use Rattle.cq_reach.specs.Seen.{Seen, seen_of, all_seen, journals_in}
use Rattle.cq_reach.specs.Outlook.{MayFind}
use Rattle.cq_groups.specs.Found.{IsShaped, MayComeIn}
use Rattle.cq_groups.specs.Looking.{environment_at}
use Rattle.cq_groups.specs.Served.{IsWhole}
use Rattle.cq_shared.specs.declared.content.Shard.{Shard}
use Rattle.cq_shared.specs.declared.note.Note.{Note}
use Rattle.cq_shared.specs.Blocks.{MayShare}
use Rattle.cq_shared.specs.Notes.{Stands, IsShard}
use Rattle.cq_shared.specs.Seen.{Pass, group_of, seen_since, seen_by, IsRuled}
use Rattle.cq_shared.specs.Writes.{Has}
use Rattle.cq_shared.proofs.Legal.{stands_legal}
use Rattle.cq_shared.proofs.Standing.{seen_same}
use Rattle.cq_shared.specs.Quiet.{GoesOn, GoOn, Blames}
use Rattle.cq_desk.specs.Desks.{IsReady, IsOfOthers, known_by, outlook_by}
use Rattle.cq_block_laws.specs.Serving.{Opening, IsPhaseOf, IsAnsweredBeside}
use Rattle.cq_block_laws.specs.Sessions.{Hands, PassGoesOn, PassesGoOn, SettlesOne, IsSpared, journals_by, errands_by, known_by as known, ServesOne}
use Rattle.cq_place_laws.specs.Placing.{is_table, leaves}
use Rattle.cq_block_laws.specs.Settling.{lost_in}
use Rattle.cq_block_move.specs.Hands.{IsPassTo, IsBenchTo, AreReady, AreHands, IsOpenedOver}
use Rattle.cq_cluster.specs.declared.retired.Retired.{Retired}
use Rattle.cq_cluster.specs.Accounts.{Retires, tells_retired}
use Rattle.cq_shared.specs.Errands.{WorkerPass}
use Rattle.cq_store.specs.declared.worker.Worker.{Worker}
use Rattle.cq_block.specs.declared.legality.Ground.{Ground}
use Rattle.cq_block.specs.declared.session.Hands.{Hands as HeldHands}
use Rattle.cq_block.specs.Ground.{terms_of}
use Rattle.cq_history.specs.Room.{stores_from, stores_to}
use Rattle.cq_history.specs.Phases.{MayBeInBlock}
use Rattle.cq_answer.specs.declared.answer.Answer.{Answer}
use Rattle.std.proofs.lemmas.List.{append-nil}
use Rattle.cq_block_laws.specs.Laws.{IsNoMove}
use Rattle.cq_block_laws.proofs.Places.{map_got, got_map, got_as}
use Rattle.cq_block_laws.proofs.Served.{quiet_beside}
use Rattle.cq_block.specs.Running.{IsOpeningFor, IsResponse, MayRun, IsSeated, IsPlain, hands_of}
use Rattle.cq_session.specs.Shared.{CanRun, CanAnswer, CanServe, IsAnsweredOver, bound_of}
use Rattle.cq_session.specs.declared.copying.Reading.{Reading}
use Rattle.cq_session.specs.declared.texts.Response.{Response}

-- ---- lists

module _ {A B : Type 0} where
  -- what stands beside an item of the second list
  pub zip_back : (R : A → B → Type 0) (xs : List A) (ys : List B) (i : ℕ) (y : B) → AllZip R xs ys → slice_get ys i ≡ Some y → Has xs i (λ x. R x y)
  zip_back R [] [] i y h e = absurd (cc e)
  zip_back R [] (b ∷ ys) i y h e = absurd h
  zip_back R (a ∷ xs) [] i y h e = absurd h
  zip_back R (a ∷ xs) (b ∷ ys) zero y h e = record { item = a; there = refl; holds = (let s : b ≡ y = cc in subst (λ v. R a v) s h.0) }
  zip_back R (a ∷ xs) (b ∷ ys) (suc i) y h e = (let r = zip_back R xs ys i y h.1 e in record { item = r.item; there = r.there; holds = r.holds })

  index_map : (f : A → B) (xs : List A) (i : ℕ) (x : A) (d : B) → slice_get xs i ≡ Some x → slice_index_or (map f xs) i d ≡ f x
  index_map f [] i x d e = absurd (cc e)
  index_map f (y ∷ xs) zero x d e = (let s : y ≡ x = cc in ap f s)
  index_map f (y ∷ xs) (suc i) x d e = index_map f xs i x d e

all_got : {A : Type 0} (P : A → Type 0) (xs : List A) (i : ℕ) (x : A) → AllByRecursion P xs → slice_get xs i ≡ Some x → P x
all_got P [] i x h e = absurd (cc e)
all_got P (y ∷ xs) zero x h e = (let s : y ≡ x = cc in subst P s h.0)
all_got P (y ∷ xs) (suc i) x h e = all_got P xs i x h.1 e

-- a list in place of the second one, item by item
pub zip_on : {A B : Type 0} (R : A → B → Type 0) (xs : List A) (ys zs : List B) → AllZip R xs ys → length zs ≡ length ys → ((i : ℕ) (x : A) (y z : B) → slice_get ys i ≡ Some y → slice_get zs i ≡ Some z → R x y → R x z) → AllZip R xs zs
zip_on R [] [] [] h l f = tt
zip_on R [] [] (z ∷ zs) h l f = absurd (omega (arith, l))
zip_on R [] (y ∷ ys) zs h l f = absurd h
zip_on R (x ∷ xs) [] zs h l f = absurd h
zip_on R (x ∷ xs) (y ∷ ys) [] h l f = absurd (omega (arith, l))
zip_on R (x ∷ xs) (y ∷ ys) (z ∷ zs) h l f = (f 0 x y z refl refl h.0, zip_on R xs ys zs h.1 (omega (arith, l)) (λ i. f (suc i)))

-- ---- sessions beside

others_among : (s t : ℕ) (ns : List ℕ) → t ≢ s → (NotIn t ns → ⊥) → among t (filter (λ u. not (nat_eq u s)) ns) ≡ true
others_among s t [] far out = absurd (out tt)
others_among s t (x ∷ xs) far out = elim (two_ways (nat_eq t x)) [
  | inl y ↦ (let e : t ≡ x = eqb-true t x y in elim (two_ways (nat_eq x s)) [ inl k ↦ absurd (far (e ∙ eqb-true x s k)) | inr k ↦ rw k (rw y refl) ])
  | inr n ↦
      let more = others_among s t xs far (λ k. out ((λ e. (let yes : nat_eq t x ≡ true = eq-eqb t x (sym e) in let bad : true ≡ false = sym yes ∙ n in cc bad)), k)) in
      elim (two_ways (nat_eq x s)) [ inl k ↦ rw k more | inr k ↦ rw k (or_right (nat_eq t x) (among t (filter (λ u. not (nat_eq u s)) xs)) more) ]
]

pub others_come : (p : Phase) (who : Who) (numbers : List ℕ) → p.sessions ≡ filter (λ u. not (nat_eq u who.session)) numbers → MayComeIn p who (IsOfOthers numbers who)
others_come p who numbers is e of = (
  elim (two_ways (nat_eq e.who.session who.session)) [ inl y ↦ absurd (of.0 (eqb-true e.who.session who.session y)) | inr n ↦ rw n refl ],
  subst (λ v. among e.who.session v ≡ true) (sym is) (others_among who.session e.who.session numbers of.0 of.1),
)

-- ---- groups that stand

module _ {X : Type 0} (state : X → StoreState) (c : Contents) (nodes : ℕ) where
  module _ (g : ℕ) (o x : GroupState X) (l : List Note) (h : Stands state (IsLegalKind c g) o x l) (rest : IsResting state o) (is : IsShaped c nodes g (seen_of o)) where
    stands_shaped : IsShaped c nodes g (seen_of x)
    stands_shaped = record {
      near = λ e.
          let on : x.node ≡ 0 = sym h.resting.placed ∙ e in
          let was : o.node ≡ 0 = eqb-true o.node 0 (sym h.remains.spread ∙ eq-eqb x.node 0 on) in
          let near = is.near (rest.placed ∙ was) in
          (subst (λ n. 1 ≤ n) (sym h.remains.nodes) near.0, h.remains.nodes ∙ near.1);
      tables = subst (λ (ts : List Outline). (table : ℕ) → has_shard c g table ≡ true → IsSome (shape_at ts table) × (or_no_shape (shape_at ts table) ≡ shape_in c table)) (sym h.remains.tables) is.tables;
      shards = subst (λ (ts : List Outline). AllByRecursion (λ (w : Outline). IsShardIn c g w.2) ts) (sym h.remains.tables) is.shards;
    }

  module _ (rule : Ground X) (opened : List (GroupState X)) (workers : List (Worker X)) (may : MayRun state c nodes rule opened workers) where
    -- the group at a place stood so, since it was opened
    record HasBeen (g : ℕ) (s : Seen) : Type 0 where
      was : GroupState X
      there : slice_get opened g ≡ Some was
      group : GroupState X
      notes : List Note
      stands : Stands state (IsLegalKind c g) was group notes
      is : s ≡ seen_of group

    been_shaped : (g : ℕ) (s : Seen) → HasBeen g s → IsShaped c nodes g s
    been_shaped g s b = subst (IsShaped c nodes g) (sym b.is)
        (stands_shaped g b.was b.group b.notes b.stands (all_got (MayShare state (terms_of state) rule) opened g b.was may.share b.there).resting (may.whole.shaped.each g (seen_of b.was) (got_map seen_of opened g b.was b.there)))

    been_legal : (g : ℕ) (s : Seen) → HasBeen g s → IsLegal c g s.journal
    been_legal g s b =
        subst (λ (v : Seen). IsLegal c g v.journal) (sym b.is)
        (stands_legal state c g b.was b.group b.notes (λ table has. ((may.whole.shaped.each g (seen_of b.was) (got_map seen_of opened g b.was b.there)).tables table has).1)
        (subst (IsLegal c g) (ap (λ v. journal_in v g) (map_journals opened) ∙ index_map journal_of opened g b.was _ b.there) (may.whole.legal g)) b.stands)
      where
        map_journals : (gs : List (GroupState X)) → journals_in (all_seen gs) ≡ map journal_of gs
        map_journals [] = refl
        map_journals (y ∷ gs) = ap (λ v. journal_of y ∷ v) (map_journals gs)

    all_whole : (found : List Seen) → length found ≡ length opened → ((g : ℕ) (s : Seen) → slice_get found g ≡ Some s → HasBeen g s) → IsWhole c nodes found
    all_whole found long been = record {
      shaped = record { count = long ∙ sym (length_map seen_of opened) ∙ may.whole.shaped.count; each = λ g s e. been_shaped g s (been g s e) };
      legal = legal;
    }
      where
        legal : (g : ℕ) → IsLegal c g (journal_in (journals_in found) g)
        legal g = elim (below_or_not g (length found)) [
          | inl l ↦ (let s = got found g l.1 in subst (IsLegal c g) (sym (index_map (λ (v : Seen). v.journal) found g s.0 _ s.1)) (been_legal g s.0 (been g s.0 s.1)))
          | inr n ↦
              let none : journal_in (journals_in found) g ≡ journal_in (journals_in (all_seen opened)) g =
              index_beyond (journals_in found) g _ (let k = length_map (λ (v : Seen). v.journal) found in omega (arith, k, n.1))
              ∙ sym (index_beyond (journals_in (all_seen opened)) g _ (let k = length_map (λ (v : Seen). v.journal) (all_seen opened) in let m = length_map seen_of opened in omega (arith, k, m, n.1, long))) in
              subst (IsLegal c g) (sym none) (may.whole.legal g)
        ]

    -- a value of the cell to which a pass is
    shard_been : (g : ℕ) (o : GroupState X) (p : Pass X (Ground X)) → slice_get opened g ≡ Some o → IsPassTo rule o p → (a x : Shard X (Ground X)) (l : List Note) → p.place.me.0.origin ≡ Some a → IsShard state (terms_of state) a x l → (s : Seen) → s ≡ seen_of x.group → HasBeen g s
    shard_been g o p e to a x l origin h s is =
        let same : a ≡ to.shard = (let t : Some a ≡ Some to.shard = sym origin ∙ to.origin in cc) in
        let group : a.group ≡ o = ap (λ (v : Shard X (Ground X)). v.group) same ∙ to.shared.0 in
        let ruled : a.rules.value.catalog.value ≡ c = ap (λ (v : Shard X (Ground X)). v.rules.value.catalog.value) same ∙ ap (λ (v : Ground X). v.catalog.value) to.shared.1 ∙ may.over.catalog in
        let number : o.journal.group ≡ g = may.numbered g o e in record {
          was = o;
          there = e;
          group = x.group;
          notes = l;
          stands = subst (λ n. Stands state (IsLegalKind c n) o x.group l) number
              (subst (λ (v : Contents × GroupState X). Stands state (IsLegalKind v.0 v.1.journal.group) v.1 x.group l) (λ i. (ruled i, group i)) h.stands);
          is = is;
        }

-- ---- a session

module _ {X : Type 0} (state : X → StoreState) (c : Contents) (nodes : ℕ) (cells stalls : List TableId) (numbers : List ℕ) (n : ℕ) (held : HeldHands X) (h : IsSeated state c nodes cells stalls numbers n held) where
  abbrev passes : List (Pass X (Ground X))
  passes = held.passes.items

  found_whole : (who : Who) (found : List Seen) → MayFind (outlook_by state (terms_of state) numbers passes who) found → IsWhole c nodes found
  found_whole who found f = all_whole state c nodes h.hands.rule h.hands.opened h.hands.workers h.may found (f.count ∙ (length_map known_by passes ∙ zip_long (IsPassTo h.hands.rule) h.hands.opened passes h.hands.to)) each
    where
      each : (g : ℕ) (s : Seen) → slice_get found g ≡ Some s → HasBeen state c nodes h.hands.rule h.hands.opened h.hands.workers h.may g s
      each g s e = elim (f.each g s e) [
        | inl k ↦
            let p = map_got known_by passes g s k in
            let o = zip_back (IsPassTo h.hands.rule) h.hands.opened passes g p.0 h.hands.to p.1 in
            let t = (h.hands.passes.own g p.0 p.1).stood in
            shard_been state c nodes h.hands.rule h.hands.opened h.hands.workers h.may g o.item p.0 o.there o.holds t.opening t.shard p.0.place.me.0.news t.origin t.stands s
            (sym p.2 ∙ ((λ i. seen_since (group_of (t.origin i)) p.0.place.me.0.news) ∙ sym (seen_same state (IsLegalKind t.opening.rules.value.catalog.value t.opening.group.journal.group) t.opening.group t.shard.group p.0.place.me.0.news t.stands.stands)))
        | inr m ↦
            let b = m.may in
            let o = zip_back (IsPassTo h.hands.rule) h.hands.opened passes g b.pass h.hands.to b.there in
            shard_been state c nodes h.hands.rule h.hands.opened h.hands.workers h.may g o.item b.pass o.there o.holds b.finds.opening b.shard (b.pass.place.me.0.news ++ b.finds.more) b.finds.origin b.finds.stands s b.is
      ]

  may_enter : (g : ℕ) (kind : EntryKind) → IsLegalKind c g kind → (p : Pass X (Ground X)) → slice_get passes g ≡ Some p → (r : Ground X) → IsRuled p.place r → IsLegalKind r.catalog.value (seen_by p.place).journal.number kind
  may_enter g kind legal p e r ruled =
      let o = zip_back (IsPassTo h.hands.rule) h.hands.opened passes g p h.hands.to e in
      let to = o.holds in
      let same : ruled.0 ≡ to.shard = (let t : Some ruled.0 ≡ Some to.shard = sym ruled.1 ∙ to.origin in cc) in
      let rule : r.catalog.value ≡ c = ap (λ (v : Ground X). v.catalog.value) (sym ruled.2 ∙ ap (λ (v : Shard X (Ground X)). v.rules.value) same ∙ to.shared.1) ∙ h.may.over.catalog in
      let number : (seen_by p.place).journal.number ≡ g =
      (λ i. (seen_since (group_of (to.origin i)) p.place.me.0.news).journal.number) ∙ ap (λ (v : GroupState X). v.journal.group) to.shared.0 ∙ h.may.numbered g o.item o.there in
      subst (λ (v : Contents × ℕ). IsLegalKind v.0 v.1 kind) (λ i. (sym rule i, sym number i)) legal

  pub can_serve : (who : Who) → who.session ≡ n → CanServe c nodes who (outlook_by state (terms_of state) numbers passes who)
  can_serve who own = record {
    some = h.may.some;
    keyed = h.may.keyed;
    few = (let k = length_map known_by passes in let m = zip_long (IsPassTo h.hands.rule) h.hands.opened passes h.hands.to in let f = h.may.few in omega (arith, k, m, f));
    whole = found_whole who;
    may = λ g kind legal p e r ruled. may_enter g kind legal p e r ruled;
    phase = record { journals = []; beside = []; sessions = filter (λ u. not (nat_eq u who.session)) numbers };
    beside = others_come (record { journals = []; beside = []; sessions = filter (λ u. not (nat_eq u who.session)) numbers }) who numbers refl;
  }

  -- passes that went on
  module _ (new : HeldHands X) (on : GoOn passes new.passes.items) (benches : new.benches ≡ held.benches) where
    old_of : (g : ℕ) (q : Pass X (Ground X)) → slice_get new.passes.items g ≡ Some q → (p : Pass X (Ground X)) × (slice_get passes g ≡ Some p) × GoesOn p.place q.place
    old_of g q e = (let p = got_as new.passes.items passes g q on.count e in (p.0, p.1, on.each g p.0 q p.1 e))

    pub still_seated : (cells' : List TableId) (numbers' : List ℕ) → IsReady state (terms_of state) cells' numbers' new.passes.items n → IsSeated state c nodes cells stalls numbers n new
    still_seated cells' numbers' ready = record {
      hands = record {
        rule = h.hands.rule;
        opened = h.hands.opened;
        workers = h.hands.workers;
        ground = h.hands.ground;
        to = zip_on (IsPassTo h.hands.rule) h.hands.opened passes new.passes.items h.hands.to on.count (λ i x y z e f to. record { shard = to.shard; origin = (on.each i y z e f).same.2 ∙ to.origin; shared = to.shared });
        to_workers = subst (AllZip (IsBenchTo h.hands.rule) h.hands.workers) (sym (ap (λ v. v.items) benches)) h.hands.to_workers;
        passes = record {
          at = record {
            count = on.count ∙ h.hands.passes.at.count;
            each = λ k z q e f. (let p = old_of k q f in let a = h.hands.passes.at.each k z p.0 e p.1 in (p.2.same.0 ∙ a.0, a.1));
          };
          own = λ g q e. (let p = old_of g q e in let o = h.hands.passes.own g p.0 p.1 in record { rests = (ready.own g q e).rests; stood = (ready.own g q e).stood; numbered = o.numbered ∙ sym p.2.same.3; block = p.2.same.4 ∙ o.block });
        };
        benches = subst (AreReady state (terms_of state) stalls numbers n) (sym (ap (λ v. v.items) benches)) h.hands.benches;
      };
      may = h.may;
    }

  -- a move's passes went on
  pub moved_seated : (new : HeldHands X) → AreHands state (terms_of state) c nodes cells stalls numbers n (hands_of new) → PassesGoOn passes new.passes.items → PassesGoOn held.benches.items new.benches.items → IsSeated state c nodes cells stalls numbers n new
  moved_seated new now on beside = record {
    hands = record {
      rule = h.hands.rule;
      opened = h.hands.opened;
      workers = h.hands.workers;
      ground = h.hands.ground;
      to = zip_on (IsPassTo h.hands.rule) h.hands.opened passes new.passes.items h.hands.to on.count (λ i x y z e f to. record { shard = to.shard; origin = (on.each i y z e f).same.2 ∙ to.origin; shared = to.shared });
      to_workers = zip_on (IsBenchTo h.hands.rule) h.hands.workers held.benches.items new.benches.items h.hands.to_workers beside.count (λ i x y z e f to. record { stock = to.stock; origin = (beside.each i y z e f).same.2 ∙ to.origin; shared = to.shared });
      passes = now.passes;
      benches = now.benches;
    };
    may = h.may;
  }

  -- a block that may be opened so
  abbrev pub opening : Settings → Opening
  opening settings = record { environment = environment_at c settings []; journals = journals_of h.hands.opened; sessions = numbers }

  pub opens : (settings : Settings) → IsOpenedOver c numbers (opening settings)
  opens settings = record {
    catalog = refl;
    sessions = refl;
    groups = (let count = h.may.whole.shaped.count in let k = length_map seen_of h.hands.opened in let m = length_map journal_of h.hands.opened in omega (arith, count, k, m));
  }

-- ---- an answer

run_plain : (c : Contents) (s : Statement) → CanRun c s → IsPlain (Some s)
run_plain c (statement.Select q) can = tt
run_plain c (statement.Write op) can = tt
run_plain c s can = absurd can

plain_may : (bound : Option Statement) → IsPlain bound → MayBeInBlock bound
plain_may None plain = tt
plain_may (Some (statement.Select q)) plain = tt
plain_may (Some (statement.Write op)) plain = tt
plain_may (Some s) plain = absurd plain

pub can_plain : (c : Contents) (read : Result Reading Fault) → CanAnswer c read → IsPlain (bound_of read)
can_plain c (Ok r) can = run_plain c r.statement can
can_plain c (Err f) can = tt

plain_stays : (bound : Option Statement) → IsPlain bound → IsNoMove bound
plain_stays None plain = tt
plain_stays (Some (statement.Move shard from to)) plain = absurd plain
plain_stays bound plain = tt

-- a query or a write moves no group, and loses no store
none_moved : (bound : Option Statement) (b : Bool) (c : Contents) (node : ℕ) → IsPlain bound → (cond b (stores_from c node bound) 0 ≡ 0) × (cond b (stores_to c node bound) 0 ≡ 0)
none_moved None true c node plain = (refl, refl)
none_moved None false c node plain = (refl, refl)
none_moved (Some (statement.Select q)) true c node plain = (refl, refl)
none_moved (Some (statement.Select q)) false c node plain = (refl, refl)
none_moved (Some (statement.Write op)) true c node plain = (refl, refl)
none_moved (Some (statement.Write op)) false c node plain = (refl, refl)
none_moved (Some s) b c node plain = absurd plain

none_lost : (node : ℕ) (a : Answer) → tells_retired a ≡ false → lost_in node a ≡ 0
none_lost node (answer.Failed (fault.Retired failure)) stays = absurd (cc)
none_lost node (answer.Failed f) stays = refl
none_lost node (answer.Tag t) stays = refl
none_lost node (answer.Table names rows) stays = refl

retires_none : {X : Type 0} (who : Who) (a : Answer) (old new : List (Retired X)) → tells_retired a ≡ false → new ≡ old → Retires who a old new
retires_none who (answer.Failed (fault.Retired failure)) old new stays same = absurd (cc)
retires_none who (answer.Failed f) old new stays same = same
retires_none who (answer.Tag t) old new stays same = same
retires_none who (answer.Table names rows) old new stays same = same

same_pass : {A : Type 0} (xs : List A) (at : ℕ) (p q : A) → slice_get xs at ≡ Some p → slice_get xs at ≡ Some q → q ≡ p
same_pass xs at p q was is = (let e : Some q ≡ Some p = sym is ∙ was in cc)

module _ {X : Type 0} where
  journals_known : (passes : List (Pass X (Ground X))) → journals_in (map known_by passes) ≡ journals_by passes
  journals_known [] = refl
  journals_known (p ∷ passes) = ap (λ v. (known_by p).journal ∷ v) (journals_known passes)

  passes_go_on : (old new : List (Pass X (Ground X))) → GoOn old new → PassesGoOn old new
  passes_go_on old new on = record { count = on.count; each = λ at p q was is. (let g = on.each at p q was is in record { same = g.same; notes = g.notes; mine = g.mine }) }

  benches_stay : (benches : List (WorkerPass X (Ground X))) → PassesGoOn benches benches
  benches_stay benches = record {
    count = refl;
    each = λ at p q was is. subst (λ (v : WorkerPass X (Ground X)). PassGoesOn p v) (sym (same_pass benches at p q was is))
        (record { same = (refl, refl, refl, refl, refl); notes = []; mine = sym (append-nil p.place.me.0.mine) });
  }

  module _ (state : X → StoreState) (c : Contents) (nodes : ℕ) (settings : Settings) (numbers : List ℕ) (a : Answered) (old new : HeldHands X) where
    beside : IsAnsweredOver c nodes settings (who_of a) (outlook_by state (terms_of state) numbers old.passes.items (who_of a)) (outlook_by state (terms_of state) numbers new.passes.items (who_of a)) a.bound a.answer →
        (o : Opening) → IsOpeningFor c settings numbers o → (run : Run) → run.workers ≡ nodes → (p : Phase) → IsPhaseOf o a.session p →
        IsAnsweredIn rules run o.environment (after o.environment a.bound a.answer) p (who_of a) (journals_by old.passes.items) (journals_by new.passes.items) a.bound a.answer
    beside h o for run of p is =
        let e : Environment = environment_at c settings for.retired in
        let k = h p (others_come p (who_of a) numbers (is.sessions ∙ ap (filter (λ u. not (nat_eq u a.session))) for.sessions)) run for.retired of in
        subst (λ (v : Environment). IsAnsweredIn rules run v (after v a.bound a.answer) p (who_of a) (journals_by old.passes.items) (journals_by new.passes.items) a.bound a.answer) (sym for.environment)
        (subst (λ (v : Environment). IsAnsweredIn rules run e v p (who_of a) (journals_by old.passes.items) (journals_by new.passes.items) a.bound a.answer) (sym k.leads)
        (subst (λ (v : List Journal × List Journal). IsAnsweredIn rules run e e p (who_of a) v.0 v.1 a.bound a.answer) (λ i. (journals_known old.passes.items i, journals_known new.passes.items i)) k))

    -- a query or a write, as it is answered over the passes, and leaves the rest of the hands
    pub serves_one : IsAnsweredOver c nodes settings (who_of a) (outlook_by state (terms_of state) numbers old.passes.items (who_of a)) (outlook_by state (terms_of state) numbers new.passes.items (who_of a)) a.bound a.answer → IsPlain a.bound →
        tells_retired a.answer ≡ false → GoOn old.passes.items new.passes.items → ((f : StoreFailure) → a.answer ≡ answer.Failed (fault.Worker f) → Blames (who_of a) f old.passes.items new.passes.items) →
        new.benches ≡ old.benches → new.retired ≡ old.retired → (o : Opening) → IsOpeningFor c settings numbers o → ServesOne state (terms_of state) rules nodes o a (hands_of old) (hands_of new)
    serves_one h plain stays on blames benches retired o for =
        let bs : new.benches.items ≡ old.benches.items = ap (λ v. v.items) benches in
        let rs : new.retired.items ≡ old.retired.items = ap (λ v. v.items) retired in
        record {
          answered = λ run of free.
              subst (λ (v : List (WorkerPass X (Ground X))). IsAnsweredBeside rules run o a (known (hands_of old)) (record { journals = journals_by new.passes.items; errands = errands_by v })) (sym bs)
              (quiet_beside rules run o a (journals_by old.passes.items) (journals_by new.passes.items) (errands_by old.benches.items) (plain_stays a.bound plain) (beside h o for run of));
          allowed = plain_may a.bound plain;
          goes_on = passes_go_on old.passes.items new.passes.items on;
          benches = subst (PassesGoOn old.benches.items) (sym bs) (benches_stay old.benches.items);
          settles = λ at p q was is.
              let same : q ≡ p = same_pass old.benches.items at p q was (subst (λ (v : List (WorkerPass X (Ground X))). slice_get v at ≡ Some q) bs is) in
              let moved = none_moved a.bound (is_table a.answer) o.environment.catalog (at + 1) plain in
              let out = moved.0 in
              let back = moved.1 in
              let none = none_lost (at + 1) a.answer stays in
              subst (λ (v : WorkerPass X (Ground X)). SettlesOne o (at + 1) a p v) (sym same) (omega (arith, out, back, none));
          blames = blames;
          retires = retires_none (who_of a) a.answer old.retired.items new.retired.items stays rs;
          fresh = λ r under all. subst (AllByRecursion (IsSpared state (terms_of state) r)) (sym rs) all;
        }

    -- the same, by the response
    pub serves_by : (who : Who) (r : Response) → IsResponse who settings r a → IsAnsweredOver c nodes settings who (outlook_by state (terms_of state) numbers old.passes.items who) (outlook_by state (terms_of state) numbers new.passes.items who) r.bound r.answer → IsPlain r.bound →
        tells_retired r.answer ≡ false → GoOn old.passes.items new.passes.items → ((f : StoreFailure) → r.answer ≡ answer.Failed (fault.Worker f) → Blames who f old.passes.items new.passes.items) →
        new.benches ≡ old.benches → new.retired ≡ old.retired → (o : Opening) → IsOpeningFor c settings numbers o → ServesOne state (terms_of state) rules nodes o a (hands_of old) (hands_of new)
    serves_by who r is h plain stays on blames =
        let answered = subst (λ (v : Who × Option Statement × Answer). IsAnsweredOver c nodes settings v.0 (outlook_by state (terms_of state) numbers old.passes.items v.0) (outlook_by state (terms_of state) numbers new.passes.items v.0) v.1 v.2) (λ i. (sym is.by i, sym is.bound i, sym is.answer i)) h in
        serves_one answered (subst IsPlain (sym is.bound) plain) (ap tells_retired is.answer ∙ stays) on (λ f e. subst (λ (w : Who). Blames w f old.passes.items new.passes.items) (sym is.by) (blames f (sym is.answer ∙ e)))
