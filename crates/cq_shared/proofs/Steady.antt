-- The stores of a group that are steady by the terms of sharing, as its notes grow.
use Rattle.std.proofs.Common.{◌≡◌, ℕ, IsTrue, List, [], ◌∷◌, ◌++◌, refl, sym, ap, ◌∙◌, subst, Some, Result, Ok, Err}
use Rattle.std.proofs.lemmas.Bool.{false≢true}
use Rattle.std.proofs.lemmas.Option.{same_Some}
use Rattle.std.specs.Prelude.{OnOk, OnErr, IfOk, IfErr}
use Rattle.std.specs.List.{AllByRecursion, AllZip}
use Rattle.cq_tree.specs.declared.failure.StoreFailure.{StoreFailure}
use Rattle.cq_tree.specs.declared.journal.Who.{Who}
use Rattle.cq_tree.specs.declared.journal.EntryKind.{EntryKind}
use Rattle.cq_store.specs.Stores.{StoreState}
use Rattle.cq_cell.specs.Turn.{IsSame}
use Rattle.cq_group.specs.declared.group.GroupState.{GroupState}
use Rattle.cq_group.specs.declared.group.GroupError.{GroupError}
use Rattle.cq_group.specs.declared.group.GroupError.TheVariants as error
use Rattle.cq_group.specs.declared.group.Staged.{Staged}
use Rattle.cq_group.specs.declared.group.Staged.TheVariants as staged
use Rattle.cq_group.specs.declared.incoming.Incoming.{Incoming}
use Rattle.cq_group.specs.declared.moves.Exchanged.{Exchanged}
use Rattle.cq_group.specs.declared.start.MoveWhy.{MoveWhy}
use Rattle.cq_group.specs.declared.start.MoveWhy.TheVariants as why
use Rattle.cq_group.specs.declared.start.MoveRefused.{MoveRefused}
use Rattle.cq_group.specs.Groups.{stores_of}
use Rattle.cq_group.specs.Calls.{GroupGoesOn, GoesOn, Lifted, SomeZip, Failed, Blames}
use Rattle.cq_group.specs.Incoming.{RefusesMove, arriving}
use Rattle.cq_group.proofs.Zips.{all_along, all_append, some_not}
use Rattle.cq_move_calls.specs.Moving.{AreSteadyOn}
use Rattle.cq_reach.specs.Staging.{outcome_by}
use Rattle.cq_shared.specs.declared.content.Shard.{Shard}
use Rattle.cq_shared.specs.declared.note.Note.{Note}
use Rattle.cq_shared.specs.Terms.{Terms}
use Rattle.cq_shared.specs.Notes.{GoesTo, MayNote, Stands, IsShard}
use Rattle.cq_shared.specs.Seen.{Place, ReachesBy, SteadyBy}
use Rattle.cq_shared.specs.Reads.{read_notes, failure}
use Rattle.cq_shared.specs.Writes.{failed_notes}
use Rattle.cq_shared.specs.Moving.{notes_of, start_notes, why_notes}

module _ {X : Type 0} (state : X → StoreState) (steady : ℕ → Type 0) where
  -- those of the stores on these nodes are steady
  abbrev pub AreSteady : List X → Type 0
  AreSteady xs = (node : ℕ) → steady node → AreSteadyOn state node xs

  abbrev IsSteadyAt : ℕ → X → Type 0
  IsSteadyAt node x = (state x).node ≡ node → IsTrue (state x).steady

  -- stores that go on stay steady
  pub steady_on : (xs ys : List X) → AllZip (Lifted state GoesOn) xs ys → AreSteady xs → AreSteady ys
  steady_on xs ys went all node k = all_along (IsSteadyAt node) (Lifted state GoesOn) (IsSteadyAt node) (λ x y a r on. subst IsTrue (sym (ap (λ (s : StoreState). s.steady) r.state)) (a (sym (ap (λ (s : StoreState). s.node) r.state) ∙ on))) xs ys (all node k) went

-- these notes may be made
abbrev pub AreSpared : Terms → List Note → Type 0
AreSpared t notes = AllByRecursion (MayNote t) notes

module _ {X : Type 0} (state : X → StoreState) (t : Terms) where
  module _ (xs ys : List X) (all : AreSteady state t.steady xs) (who : Who) where
    -- a store that failed is on none of these nodes
    elsewhere : (f : StoreFailure) → SomeZip (Lifted state (Failed f)) xs ys → t.steady f.node → ⊥
    elsewhere f some k = some_not (λ x. (state x).node ≡ f.node → IsTrue (state x).steady) (Lifted state (Failed f)) (λ x y a r. false≢true (sym r.unsteady ∙ a r.of_node)) xs ys (all f.node k) some

    pub failure_spares : (e : GroupError) → Blames state e xs ys → AreSpared t (failure who e)
    failure_spares (error.Worker f) b = (elsewhere f b, tt)
    failure_spares error.Memory b = tt

    pub read_spares : {V : Type 0} (r : Result V GroupError) → IfErr r (λ e. Blames state e xs ys) → AreSpared t (read_notes who r)
    read_spares (Ok v) b = (tt, tt)
    read_spares (Err e) b = failure_spares e b

    pub write_spares : (r : Result Staged GroupError) → IfErr r (λ e. Blames state e xs ys) → IfErr (outcome_by r) (λ e. AreSpared t (failed_notes who e))
    write_spares (Ok (staged.Ready reply)) b = tt
    write_spares (Ok (staged.Refused reply)) b = tt
    write_spares (Ok staged.NoIds) b = tt
    write_spares (Err (error.Worker f)) b = (elsewhere f b, tt)
    write_spares (Err error.Memory) b = tt

  -- an entry that begins no move may be made
  pub step_spares : {V E : Type 0} (who : Who) (kind : EntryKind) (r : Result V E) → GoesTo t.reaches kind → AreSpared t (notes_of who kind r)
  step_spares who kind (Ok v) goes = (goes, tt)
  step_spares who kind (Err e) goes = tt

  module _ (x y : GroupState X) (all : AreSteady state t.steady (stores_of x)) (who : Who) (to from : ℕ) where
    why_spares : (w : MoveWhy) → RefusesMove state x y to from w → AreSpared t (why_notes who w)
    why_spares (why.Moving by) r = tt
    why_spares (why.NotThere node) r = tt
    why_spares (why.SameNode node) r = tt
    why_spares (why.Worker f) r = (elsewhere (stores_of x) (stores_of y) all who f r.1, tt)
    why_spares why.Memory r = tt

    pub start_spares : t.reaches to → (r : Result (Incoming X) (MoveRefused X)) → IfErr r (λ e. RefusesMove state x y to from e.why) → AreSpared t (start_notes who to r)
    start_spares reach (Ok i) h = (reach, tt)
    start_spares reach (Err e) h = why_spares e.why h

-- ---- groups with their rules

module _ {X C : Type 0} (state : X → StoreState) (terms : C → Terms) (o x : Shard X C) (l : List Note) (ruled : x.rules ≡ o.rules) (steady : AreSteady state (terms o.rules.value).steady (stores_of x.group)) (spares : AreSpared (terms o.rules.value) l)
    (notes : List Note) (y : GroupState X) (stands : Stands state ((terms o.rules.value).allows o.group.journal.group) o.group y (l ++ notes)) where
  -- a group that went on, with these notes
  pub shard_on : GroupGoesOn state x.group y → AreSpared (terms o.rules.value) notes → IsShard state terms o (record { group = y; rules = x.rules }) (l ++ notes)
  shard_on on more = record {
    ruled = ruled;
    stands = stands;
    steady = steady_on state (terms o.rules.value).steady (stores_of x.group) (stores_of y) on.stores steady;
    spares = all_append (MayNote (terms o.rules.value)) l notes spares more;
  }

  -- a group that got the stores that came in, where a cutover was made
  pub shard_cut : {V E : Type 0} (r : Result V E) (came : List X) → AreSteady state (terms o.rules.value).steady came → OnOk r (AllZip (Lifted state GoesOn) came (stores_of y)) → OnErr r (y ≡ x.group) → AreSpared (terms o.rules.value) notes →
      IsShard state terms o (record { group = y; rules = x.rules }) (l ++ notes)
  shard_cut {V} {E} r came all new err more = record {
    ruled = ruled;
    stands = stands;
    steady = exchanged r new err;
    spares = all_append (MayNote (terms o.rules.value)) l notes spares more;
  }
    where
      exchanged : (r' : Result V E) → OnOk r' (AllZip (Lifted state GoesOn) came (stores_of y)) → OnErr r' (y ≡ x.group) → AreSteady state (terms o.rules.value).steady (stores_of y)
      exchanged (Ok v) went same = steady_on state (terms o.rules.value).steady came (stores_of y) went all
      exchanged (Err e) went same = subst (λ (z : GroupState X). AreSteady state (terms o.rules.value).steady (stores_of z)) (sym same) steady

-- ---- passes

module _ {X C : Type 0} (terms : C → Terms) (p : Place X C) (o : Shard X C) (origin : p.me.0.origin ≡ Some o) (node : ℕ) where
  -- the stores of a node are steady by the rules of a pass's group, and by those of the group's opening
  pub steady_by : (terms o.rules.value).steady node → SteadyBy terms p node
  steady_by k c ruled = subst (λ (z : C). (terms z).steady node) (ap (λ (z : Shard X C). z.rules.value) (same_Some o ruled.0 (sym origin ∙ ruled.1)) ∙ ruled.2) k

  pub steady_of : SteadyBy terms p node → (terms o.rules.value).steady node
  steady_of h = h o.rules.value (o, origin, refl)

  -- groups may be moved to a node by the rules of the opening
  pub reaches_of : ReachesBy terms p node → (terms o.rules.value).reaches node
  reaches_of h = h o.rules.value (o, origin, refl)

-- a pass that went on has the same steady nodes
pub steady_same : {X C : Type 0} (terms : C → Terms) (p q : Place X C) (node : ℕ) → IsSame p q → SteadyBy terms p node → SteadyBy terms q node
steady_same terms p q node same h c ruled = h c (ruled.0, sym same.2 ∙ ruled.1, ruled.2)

-- what an exchange gives back is as steady as the group was
pub back_steady : {X E : Type 0} (state : X → StoreState) (x : GroupState X) (steady : ℕ → Type 0) (r : Result (Exchanged X) E) → AreSteady state steady (stores_of x) → IfOk r (λ e. e.stores.items ≡ stores_of x) →
    IfOk r (λ e. (node : ℕ) → steady node → AreSteadyOn state node e.stores.items)
back_steady state x steady (Ok e) all old = subst (AreSteady state steady) (sym old) all
back_steady state x steady (Err e) all old = tt
