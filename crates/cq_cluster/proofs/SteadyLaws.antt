-- Nodes whose stores never fail, as stores go to and fro.
use Rattle.std.proofs.Common.{◌≡◌, inl, inr, ℕ, zero, suc, ◌-◌, ◌<◌, Bool, true, false, cond, List, [], ◌∷◌, ◌++◌, length, map, get_or, take, refl, sym, ap, subst, ◌∙◌, arith, Some, slice_get, Result, Ok, Err, IfOk, IfErr}
use Rattle.std.specs.Prelude.{IsTrue, find}
use Rattle.std.specs.List.{AllByRecursion, AllZip, flat_map}
use Rattle.std.proofs.Math.ListN.{set}
use Rattle.cq_value.proofs.Lists.{all_map, all_append, all_more, all_left, all_right, all_filtered}
use Rattle.cq_tree.specs.declared.failure.StoreFailure.{StoreFailure}
use Rattle.cq_tree.specs.declared.journal.Who.{Who}
use Rattle.cq_catalog.specs.declared.info.Opened.{Opened}
use Rattle.cq_answer.specs.declared.answer.Answer.{Answer}
use Rattle.cq_answer.specs.declared.answer.Answer.TheVariants as answer
use Rattle.cq_answer.specs.declared.fault.Fault.{Fault}
use Rattle.cq_answer.specs.declared.fault.Fault.TheVariants as fault
use Rattle.cq_history.specs.Faults.{NamesNoStore}
use Rattle.cq_history.specs.Rebalances.{Either}
use Rattle.cq_history.proofs.Lists.{all_at, all_take, got_below}
use Rattle.cq_store.specs.Stores.{StoreState}
use Rattle.cq_store.specs.Workers.{keeps_no_shard, spares, taken, kept}
use Rattle.cq_store.specs.declared.worker.Worker.{Worker}
use Rattle.cq_group.specs.declared.group.GroupState.{GroupState}
use Rattle.cq_group.specs.declared.group.GroupTable.{GroupTable}
use Rattle.cq_group.specs.Groups.{stores_of}
use Rattle.cq_group.specs.Calls.{Failed, GoesOn, Lifted, Releases, SomeZip}
use Rattle.cq_group.specs.Opening.{LosesLast}
use Rattle.cq_group.specs.Resting.{GoOn}
use Rattle.cq_move.specs.Outcomes.{IsTried}
use Rattle.cq_move.specs.Taking.{without_first}
use Rattle.cq_move.specs.declared.outcome.MoveReport.{MoveReport}
use Rattle.cq_cluster.specs.declared.cluster.Cluster.{Cluster}
use Rattle.cq_cluster.specs.declared.retired.Retired.{Retired}
use Rattle.cq_cluster.specs.Accounts.{NamesFailed, Retires}
use Rattle.cq_cluster.specs.Cluster.{IsRetired, IsSound}
use Rattle.cq_cluster.specs.Moving.{HasKeptGroup, HasMovedGroup, move_answer}
use Rattle.cq_cluster.specs.Steady.{ArePartedSteady, AreSteady, AreTakenSteady, GroupsAreSteady, IsSteadyAt, KeepsSteady, NamesNoSteady, NamesNode, RetiredAreSteady, SparesSteady, StaySteady, TakesBackSteady, WorkersAreSteady}
use Rattle.cq_cluster.specs.Steps.{AreOpened, HasOpened, IsBegun, forgotten}
use Rattle.cq_cluster.proofs.ListLaws.{item_at}

-- ---- a fact of each item of a list

pub all_set : {X : Type 0} (P : X → Type 0) (xs : List X) (k : ℕ) (x : X) → AllByRecursion P xs → P x → AllByRecursion P (set xs k x)
all_set P [] k x all p = tt
all_set P (y ∷ ys) zero x all p = (p, all.1)
all_set P (y ∷ ys) (suc k) x all p = (all.0, all_set P ys k x all.1 p)

-- an item that is read
pub all_read : {X : Type 0} (P : X → Type 0) (xs : List X) (k : ℕ) (x : X) → AllByRecursion P xs → k < length xs → x ≡ get_or xs k x → P x
all_read P [] k x all within is = absurd (omega (arith, within))
all_read P (y ∷ ys) zero x all within is = subst P (sym is) all.0
all_read P (y ∷ ys) (suc k) x all within is = all_read P ys k x all.1 (omega (arith, within)) is

pub all_got : {X : Type 0} (P : X → Type 0) (xs : List X) → ((k : ℕ) (x : X) → slice_get xs k ≡ Some x → P x) → AllByRecursion P xs
all_got P [] each = tt
all_got P (x ∷ xs) each = (each 0 x refl, all_got P xs (λ k y s. each (suc k) y s))

-- ---- a worker's list

abbrev pub IsSteadyOn : ℕ → StoreState → Type 0
IsSteadyOn node s = s.node ≡ node → IsTrue s.steady

all_kept : (P : StoreState → Type 0) (n : ℕ) (ss : List StoreState) → AllByRecursion P ss → AllByRecursion P (kept n ss)
all_kept P zero ss all = all
all_kept P (suc n) [] all = tt
all_kept P (suc n) (s ∷ ss) all = by_test (keeps_no_shard s) (all_kept P n ss all.1) (all_kept P (suc n) ss all.1)
  where
    by_test : (b : Bool) → AllByRecursion P (kept n ss) → AllByRecursion P (kept (suc n) ss) → AllByRecursion P (cond b (kept n ss) (s ∷ kept (suc n) ss))
    by_test true fewer same = fewer
    by_test false fewer same = (all.0, same)

-- a store that became another is as steady
pub as_steady : (node : ℕ) (s t : StoreState) → t.node ≡ s.node → t.steady ≡ s.steady → IsSteadyOn node s → IsSteadyOn node t
as_steady node s t at is h on = subst IsTrue (sym is) (h (sym at ∙ on))

not_both : (b : Bool) → b ≡ false → IsTrue b → ⊥
not_both b off on = let no : true ≡ false = sym on ∙ off in cc

module _ {X : Type 0} (state : X → StoreState) where
  states_back : (P : StoreState → Type 0) (xs : List X) → AllByRecursion P (map state xs) → AllByRecursion (λ (x : X). P (state x)) xs
  states_back P [] all = tt
  states_back P (x ∷ xs) all = (all.0, states_back P xs all.1)

  pub parted : (n : ℕ) (old out left : List X) → map state out ≡ taken n (map state old) → map state left ≡ kept n (map state old) → ArePartedSteady state old out left
  parted n old out left takes keeps node all =
      let P : StoreState → Type 0 = IsSteadyOn node in
      let states = all_map (λ (x : X). P (state x)) P state (λ x p. p) old all in (
        states_back P out (subst (AllByRecursion P) (sym takes) (all_take P n (spares (map state old)) (all_filtered P keeps_no_shard (map state old) states))),
        states_back P left (subst (AllByRecursion P) (sym keeps) (all_kept P n (map state old) states)),
      )

  pub joined_one : (node : ℕ) (old new : List X) (x : X) → new ≡ old ++ x ∷ [] → AreSteady state node old → IsSteadyOn node (state x) → AreSteady state node new
  joined_one node old new x same all p = subst (AreSteady state node) (sym same) (all_more (λ (y : X). IsSteadyOn node (state y)) old x all p)

  pub steady_both : (node : ℕ) (xs ys : List X) → AreSteady state node xs → AreSteady state node ys → AreSteady state node (xs ++ ys)
  steady_both node xs ys p q = all_append (λ (x : X). IsSteadyOn node (state x)) xs ys p q

  pub steady_front : (node : ℕ) (xs ys : List X) → AreSteady state node (xs ++ ys) → AreSteady state node xs
  steady_front node xs ys p = all_left (λ (x : X). IsSteadyOn node (state x)) xs ys p

  pub steady_behind : (node : ℕ) (xs ys : List X) → AreSteady state node (xs ++ ys) → AreSteady state node ys
  steady_behind node xs ys p = all_right (λ (x : X). IsSteadyOn node (state x)) xs ys p

  -- ---- stores that become others

  zip_steady : (R : StoreState → StoreState → Type 0) (node : ℕ) (xs ys : List X) → ((s t : StoreState) → R s t → (t.node ≡ s.node) × (t.steady ≡ s.steady)) → AllZip (Lifted state R) xs ys → AreSteady state node xs → AreSteady state node ys
  zip_steady R node [] [] keep zip all = tt
  zip_steady R node [] (y ∷ ys) keep zip all = absurd zip
  zip_steady R node (x ∷ xs) [] keep zip all = absurd zip
  zip_steady R node (x ∷ xs) (y ∷ ys) keep zip all =
      let same = keep (state x) (state y) zip.0 in
      (as_steady node (state x) (state y) same.0 same.1 all.0, zip_steady R node xs ys keep zip.1 all.1)

  pub go_on_steady : (node : ℕ) (xs ys : List X) → AllZip (Lifted state GoesOn) xs ys → AreSteady state node xs → AreSteady state node ys
  go_on_steady node xs ys zip all = zip_steady GoesOn node xs ys (λ s t h. (ap (λ (v : StoreState). v.node) h.state, ap (λ (v : StoreState). v.steady) h.state)) zip all

  pub tried_steady : (node : ℕ) (xs ys : List X) → AllZip (Lifted state IsTried) xs ys → AreSteady state node xs → AreSteady state node ys
  tried_steady node xs ys zip all = zip_steady IsTried node xs ys (λ s t h. (ap (λ (v : StoreState). v.node) h.state, ap (λ (v : StoreState). v.steady) h.state)) zip all

  pub released_steady : (node : ℕ) (xs ys : List X) → AllZip (Lifted state Releases) xs ys → AreSteady state node xs → AreSteady state node ys
  released_steady node xs ys zip all = zip_steady Releases node xs ys (λ s t h. (ap (λ (v : StoreState). v.node) h.state, ap (λ (v : StoreState). v.steady) h.state)) zip all

  -- a group without its last table, and the stores that this had
  pub lost_steady : (node : ℕ) (old new : GroupState X) (stores : List X) → LosesLast state old new stores → AreSteady state node (stores_of old) → AreSteady state node (stores_of new) × AreSteady state node stores
  lost_steady node old new stores lost all =
      let both = subst (AreSteady state node) lost.rest all in
      (steady_front node (stores_of new) lost.held both, released_steady node lost.held stores lost.released (steady_behind node (stores_of new) lost.held both))

  -- ---- groups

  -- groups that were just opened have no stores
  opened_steady : (node nodes first : ℕ) (opened : List (GroupState X)) → AreOpened state nodes first opened → GroupsAreSteady state node opened
  opened_steady node nodes first opened are = all_got (λ (g : GroupState X). AreSteady state node (stores_of g)) opened (λ k g s.
      subst (λ (ts : List (GroupTable X)). AreSteady state node (flat_map (λ (t : GroupTable X). t.stores.items) ts)) (sym (are k g s).tables) tt)

  either_way : (b : Bool) (A B C : Type 0) → (A → C) → (B → C) → Either b A B → C
  either_way true A B C f g h = f h
  either_way false A B C f g h = g h

  pub begun_steady : (node nodes : ℕ) (o : Opened) (old new : List (GroupState X)) → IsBegun state nodes o old new → GroupsAreSteady state node old → GroupsAreSteady state node new
  begun_steady node nodes o old new begun all =
      either_way o.fresh (HasOpened state nodes o old new) (new ≡ old) (GroupsAreSteady state node new)
      (λ h. subst (GroupsAreSteady state node) (sym h.1) (all_append (λ (g : GroupState X). AreSteady state node (stores_of g)) old h.0 all (opened_steady node nodes o.first_group h.0 h.3)))
      (λ same. subst (GroupsAreSteady state node) (sym same) all) begun

  pub forgotten_steady : (node : ℕ) (o : Opened) (groups : List (GroupState X)) → GroupsAreSteady state node groups → GroupsAreSteady state node (forgotten o groups)
  forgotten_steady node o groups all = by_fresh o.fresh
    where
      by_fresh : (b : Bool) → GroupsAreSteady state node (cond b (take (length groups - o.count) groups) groups)
      by_fresh true = all_take (λ (g : GroupState X). AreSteady state node (stores_of g)) (length groups - o.count) groups all
      by_fresh false = all

  pub one_group_more : (node : ℕ) (old new : List (GroupState X)) (g : GroupState X) → new ≡ old ++ g ∷ [] → GroupsAreSteady state node old → AreSteady state node (stores_of g) → GroupsAreSteady state node new
  one_group_more node old new g same all p = subst (GroupsAreSteady state node) (sym same) (all_more (λ (h : GroupState X). AreSteady state node (stores_of h)) old g all p)

  -- groups that went on
  pub gone_on_steady : (node : ℕ) (old new : List (GroupState X)) → GoOn state old new → GroupsAreSteady state node old → GroupsAreSteady state node new
  gone_on_steady node old new on all = all_got (λ (g : GroupState X). AreSteady state node (stores_of g)) new (λ k h s.
      let was = at_old k h s in
      go_on_steady node (stores_of was.0) (stores_of h) (on.each k was.0 h was.1 s).0.stores (all_at (λ (g : GroupState X). AreSteady state node (stores_of g)) old k was.0 all was.1))
    where
      at_old : (k : ℕ) (h : GroupState X) → slice_get new k ≡ Some h → (g : GroupState X) × (slice_get old k ≡ Some g)
      at_old k h s = item_at old k (let below = got_below new k h s in omega (arith, below, on.count))

  -- ---- a cluster

  pub stay_twice : (g h i : List (GroupState X)) (v w x : List (Worker X)) → StaySteady state g v h w → StaySteady state h w i x → StaySteady state g v i x
  stay_twice g h i v w x first second node groups workers = let mid = first node groups workers in second node mid.0 mid.1

  pub keeps_by : (old new : Cluster X) → StaySteady state old.groups.items old.workers.items new.groups.items new.workers.items → new.retired.items ≡ old.retired.items → KeepsSteady state old new
  keeps_by old new stay retired node was =
      let now = stay node was.groups was.workers in
      record { groups = now.0; workers = now.1; retired = subst (RetiredAreSteady state node) (sym retired) was.retired }

  pub keeps_none : (cl : Cluster X) → KeepsSteady state cl cl
  keeps_none cl node was = was

  pub keeps_same : (old new : Cluster X) → new.groups.items ≡ old.groups.items → new.workers.items ≡ old.workers.items → new.retired.items ≡ old.retired.items → KeepsSteady state old new
  keeps_same old new groups workers retired node was = record {
    groups = subst (GroupsAreSteady state node) (sym groups) was.groups;
    workers = subst (WorkersAreSteady state node) (sym workers) was.workers;
    retired = subst (RetiredAreSteady state node) (sym retired) was.retired;
  }

  -- only groups went on
  pub keeps_on : (old new : Cluster X) → GoOn state old.groups.items new.groups.items → new.workers.items ≡ old.workers.items → new.retired.items ≡ old.retired.items → KeepsSteady state old new
  keeps_on old new on workers retired node was = record {
    groups = gone_on_steady node old.groups.items new.groups.items on was.groups;
    workers = subst (WorkersAreSteady state node) (sym workers) was.workers;
    retired = subst (RetiredAreSteady state node) (sym retired) was.retired;
  }

  -- ---- what is named

  -- a store that failed is of a node whose stores aren't all steady
  pub failed_unsteady : (failure : StoreFailure) (xs ys : List X) → SomeZip (Lifted state (Failed failure)) xs ys → AreSteady state failure.node xs → ⊥
  failed_unsteady failure [] ys some all = some
  failed_unsteady failure (x ∷ xs) [] some all = some
  failed_unsteady failure (x ∷ xs) (y ∷ ys) some all = elim some [
    | inl f ↦ not_both (state x).steady f.unsteady (all.0 f.of_node)
    | inr more ↦ failed_unsteady failure xs ys more all.1
  ]

  -- so is one that is retired
  pub retired_unsteady : (node : ℕ) (r : Retired X) → IsRetired state r → r.node ≡ node → ((state r.store).node ≡ node → IsTrue (state r.store).steady) → ⊥
  retired_unsteady node r is at h = not_both (state r.store).steady is.unsteady (h (is.of_node ∙ at))

  all_last : {Y : Type 0} (P : Y → Type 0) (xs : List Y) (y : Y) → AllByRecursion P (xs ++ y ∷ []) → P y
  all_last P xs y all = (all_right P xs (y ∷ []) all).0

  -- an answer that tells of a store which is retired then
  retired_named : (who : Who) (failure : StoreFailure) (old new : Cluster X) → KeepsSteady state old new → AllByRecursion (IsRetired state) new.retired.items →
      Retires who (answer.Failed (fault.Retired failure)) old.retired.items new.retired.items → IsSteadyAt state old failure.node → ⊥
  retired_named who failure old new keeps are retires was =
      let r = retires.0 in
      let now = (keeps failure.node was).retired in
      retired_unsteady failure.node r (all_last (IsRetired state) old.retired.items r (subst (AllByRecursion (IsRetired state)) retires.1 are)) retires.3
      (all_last (λ (s : Retired X). (state s.store).node ≡ failure.node → IsTrue (state s.store).steady) old.retired.items r (subst (RetiredAreSteady state failure.node) retires.1 now))

  -- an answer names a node whose stores aren't all steady, where it names a store that failed or one that is retired then
  pub names_by : (who : Who) (a : Answer) (old new : Cluster X) → KeepsSteady state old new → AllByRecursion (IsRetired state) new.retired.items → Retires who a old.retired.items new.retired.items →
      ((failure : StoreFailure) → a ≡ answer.Failed (fault.Worker failure) → GroupsAreSteady state failure.node old.groups.items → ⊥) → NamesNoSteady state old a
  names_by who (answer.Failed (fault.Worker failure)) old new keeps are retires failed node was is =
      failed failure refl (subst (λ n. GroupsAreSteady state n old.groups.items) (sym is) was.groups)
  names_by who (answer.Failed (fault.Retired failure)) old new keeps are retires failed node was is =
      retired_named who failure old new keeps are retires (subst (IsSteadyAt state old) (sym is) was)
  names_by who (answer.Failed f) old new keeps are retires failed node was is = is
  names_by who (answer.Tag t) old new keeps are retires failed node was is = is
  names_by who (answer.Table names rows) old new keeps are retires failed node was is = is

  -- a store of the groups that failed
  pub groups_unsteady : (a : Answer) (old new : List (GroupState X)) → NamesFailed state a old new → (failure : StoreFailure) → a ≡ answer.Failed (fault.Worker failure) → GroupsAreSteady state failure.node old → ⊥
  groups_unsteady a old new failed failure is all =
      let f = failed failure is in
      failed_unsteady failure (stores_of f.1.was) (stores_of f.1.is) f.1.failed (all_at (λ (g : GroupState X). AreSteady state failure.node (stores_of g)) old f.0 f.1.was all f.1.there)

  -- ---- stores that are set aside

  pub found_steady : (node : ℕ) (test : X → Bool) (xs : List X) (x : X) → find test xs ≡ Some x → AreSteady state node xs → IsSteadyOn node (state x)
  found_steady node test [] x is all = cc
  found_steady node test (y ∷ ys) x is all = by_test (test y) is (λ e. found_steady node test ys x e all.1)
    where
      by_test : (b : Bool) → cond b (Some y) (find test ys) ≡ Some x → (find test ys ≡ Some x → IsSteadyOn node (state x)) → IsSteadyOn node (state x)
      by_test true e more = subst (λ (z : X). IsSteadyOn node (state z)) (let same : y ≡ x = cc in same) all.0
      by_test false e more = more e

  pub left_steady : (node : ℕ) (test : X → Bool) (xs : List X) → AreSteady state node xs → AreSteady state node (without_first test xs)
  left_steady node test [] all = tt
  left_steady node test (x ∷ xs) all = by_test (test x) (left_steady node test xs all.1)
    where
      by_test : (b : Bool) → AreSteady state node (without_first test xs) → AreSteady state node (cond b xs (x ∷ without_first test xs))
      by_test true rest = all.1
      by_test false rest = (all.0, rest)

  pub one_retired_more : (node : ℕ) (old new : List (Retired X)) (r : Retired X) → new ≡ old ++ r ∷ [] → RetiredAreSteady state node old → IsSteadyOn node (state r.store) → RetiredAreSteady state node new
  one_retired_more node old new r same all p = subst (RetiredAreSteady state node) (sym same) (all_more (λ (s : Retired X). IsSteadyOn node (state s.store)) old r all p)

  -- ---- moves

  unnamed : (f : Fault) → NamesNoStore f → (node : ℕ) → NamesNode (answer.Failed f) node → ⊥
  unnamed (fault.Worker failure) none node is = let no : true ≡ false = none in cc
  unnamed (fault.Retired failure) none node is = let no : true ≡ false = none in cc
  unnamed f none node is = is

  pub spares_failed : (old new : Cluster X) (f : Fault) → KeepsSteady state old new → NamesNoStore f → SparesSteady state (answer.Failed f) old new
  spares_failed old new f keeps none = record { keeps = keeps; names = λ node was is. unnamed f none node is }

  pub spares_none : (cl : Cluster X) (f : Fault) → NamesNoStore f → SparesSteady state (answer.Failed f) cl cl
  spares_none cl f none = spares_failed cl cl f (keeps_none cl) none

  -- a statement of which nothing but the groups went on, and which retires no store
  pub spares_groups : (cl : Cluster X) (new : List (GroupState X)) (who : Who) (a : Answer) → IsSound state cl → GoOn state cl.groups.items new → NamesFailed state a cl.groups.items new → Retires who a cl.retired.items cl.retired.items →
      (after : Cluster X) → after.groups.items ≡ new → after.workers.items ≡ cl.workers.items → after.retired.items ≡ cl.retired.items → SparesSteady state a cl after
  spares_groups cl new who a sound on failed retires after groups workers retired =
      let keeps = keeps_on cl after (subst (GoOn state cl.groups.items) (sym groups) on) workers retired in
      record {
        keeps = keeps;
        names = names_by who a cl after keeps (subst (AllByRecursion (IsRetired state)) (sym retired) sound.retired) (subst (Retires who a cl.retired.items) (sym retired) retires) (groups_unsteady a cl.groups.items new failed);
      }

  -- one that goes on behind a call that keeps nodes steady
  pub spares_behind : (old mid new : Cluster X) (a : Answer) → KeepsSteady state old mid → SparesSteady state a mid new → SparesSteady state a old new
  spares_behind old mid new a keeps spares = record { keeps = λ node was. spares.keeps node (keeps node was); names = λ node was is. spares.names node (keeps node was) is }

  -- stores that were not taken for a move, for want of memory
  pub taken_none : (cl mid : Cluster X) → mid.groups.items ≡ cl.groups.items → mid.workers.items ≡ cl.workers.items → mid.retired.items ≡ cl.retired.items → SparesSteady state (answer.Failed fault.Memory) cl mid
  taken_none cl mid groups workers retired = record { keeps = keeps_same cl mid groups workers retired; names = λ node was is. is }

  -- a move for which stores were taken
  module _ (cl mid new : Cluster X) (who : Who) (group from to : ℕ) (given : List X) (takes : AreTakenSteady state cl.workers.items given mid.workers.items) (groups : mid.groups.items ≡ cl.groups.items) (retired : mid.retired.items ≡ cl.retired.items)
      (back : TakesBackSteady state given mid new) where
    keeps_moved : KeepsSteady state cl new
    keeps_moved node was =
        let taken = takes node was.workers in
        back node (record { groups = subst (GroupsAreSteady state node) (sym groups) was.groups; workers = taken.1; retired = subst (RetiredAreSteady state node) (sym retired) was.retired }) taken.0

    names_kept : (f : Fault) → HasKeptGroup state who group to (length given) f mid new → NamesNoSteady state cl (answer.Failed f)
    names_kept (fault.Worker failure) h node was is =
        let all = subst (GroupsAreSteady state failure.node) (sym groups) (subst (λ n. GroupsAreSteady state n cl.groups.items) (sym is) was.groups) in
        failed_unsteady failure (stores_of h.at.was) (stores_of h.at.is) h.at.cause.1 (all_at (λ (g : GroupState X). AreSteady state failure.node (stores_of g)) mid.groups.items group h.at.was all h.at.changed.there)
    names_kept (fault.Retired failure) h node was is =
        let lose = h.up.retired.1 in
        let now = subst (RetiredAreSteady state node) lose.all (keeps_moved node was).retired in
        retired_unsteady node lose.last lose.is (lose.of_node ∙ is) (all_last (λ (s : Retired X). IsSteadyOn node (state s.store)) mid.retired.items lose.last now)
    names_kept f h node was is = is

    pub move_spares : (result : Result MoveReport Fault) → IfOk result (λ r. HasMovedGroup state who group from to (length given) r mid new) → IfErr result (λ f. HasKeptGroup state who group to (length given) f mid new) → SparesSteady state (move_answer result) cl new
    move_spares (Ok r) moved kept = record { keeps = keeps_moved; names = λ node was is. is }
    move_spares (Err f) moved kept = record { keeps = keeps_moved; names = names_kept f kept }
