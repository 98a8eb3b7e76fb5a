-- What calls for groups that are held alone keep, one after the other: the laws of the trait Moves there.
use Rattle.std.proofs.Common.{◌≡◌, ◌∙◌, inl, inr, ◌<◌, ℕ, IsTrue, List, [], ◌∷◌, length, refl, sym, ap, subst, arith, Some, slice_get}
use Rattle.std.specs.List.{AllZip}
use Rattle.std.proofs.lemmas.Bool.Decides.{eqb_tells}
use Rattle.cq_store.specs.Stores.{StoreState}
use Rattle.cq_group.specs.declared.group.GroupState.{GroupState}
use Rattle.cq_group.specs.Groups.{stores_of}
use Rattle.cq_group.specs.Calls.{GoesOn, GroupGoesOn, Lifted}
use Rattle.cq_group.proofs.MoveEntries.{same_go_on}
use Rattle.cq_group.proofs.WriteLaws.{goes_on_twice}
use Rattle.cq_history.proofs.Lists.{all_at}
use Rattle.cq_history.proofs.Phasing.{all_by_get}
use Rattle.cq_reach.proofs.Growth.{got, got_below, one_item}
use Rattle.cq_move_calls.specs.Held.{AreKept, GoesOnAt, GroupsAreSteady}
use Rattle.cq_move_calls.specs.Moving.{AreSteadyOn}

module _ {X : Type 0} (state : X → StoreState) (node : ℕ) where
  go_on_steady : (xs ys : List X) → AllZip (Lifted state GoesOn) xs ys → AreSteadyOn state node xs → AreSteadyOn state node ys
  go_on_steady [] [] h all = tt
  go_on_steady [] (y ∷ ys) h all = absurd h
  go_on_steady (x ∷ xs) [] h all = absurd h
  go_on_steady (x ∷ xs) (y ∷ ys) h all =
      ((λ on. subst IsTrue (sym (ap (λ (s : StoreState). s.steady) h.0.state)) (all.0 (sym (ap (λ (s : StoreState). s.node) h.0.state) ∙ on))), go_on_steady xs ys h.1 all.1)

  abbrev OfGroup : GroupState X → Type 0
  OfGroup g = AreSteadyOn state node (stores_of g)

  -- the other groups are as they were, and the stores of this one
  all_kept : (group : ℕ) (old new : List (GroupState X)) → AreKept group old new → ((h : GroupState X) → slice_get new group ≡ Some h → OfGroup h) → GroupsAreSteady state node old → GroupsAreSteady state node new
  all_kept group old new keeps here all = all_by_get OfGroup new by_place
    where
      by_place : (i : ℕ) (h : GroupState X) → slice_get new i ≡ Some h → OfGroup h
      by_place i h e = elim (eqb_tells i group) [
        | inl p ↦ here h (ap (slice_get new) (sym p.1) ∙ e)
        | inr p ↦ all_at OfGroup old i h all (sym (keeps.others i p.1) ∙ e)
      ]

  pub kept_steady : (group : ℕ) (old new : List (GroupState X)) → AreKept group old new → GoesOnAt state group old new → GroupsAreSteady state node old → GroupsAreSteady state node new
  kept_steady group old new keeps on all = all_kept group old new keeps here all
    where
      here : (h : GroupState X) → slice_get new group ≡ Some h → OfGroup h
      here h e =
          let low : group < length old = (let l = got_below new group h e in let count = keeps.count in omega (arith, l, count)) in
          let was = got old group low in
          go_on_steady (stores_of was.0) (stores_of h) (on was.0 h was.1 e).stores (all_at OfGroup old group was.0 all was.1)

  -- one got these stores, and gave those that it had
  pub exchanged_steady : (group : ℕ) (old new : List (GroupState X)) (g h : GroupState X) (given : List X) → AreKept group old new → slice_get old group ≡ Some g → slice_get new group ≡ Some h → AllZip (Lifted state GoesOn) given (stores_of h) →
      GroupsAreSteady state node old → AreSteadyOn state node given → GroupsAreSteady state node new × AreSteadyOn state node (stores_of g)
  exchanged_steady group old new g h given keeps was is went all stores = (
    all_kept group old new keeps (λ k e. subst OfGroup (one_item h k (sym is ∙ e)) (go_on_steady given (stores_of h) went stores)) all,
    all_at OfGroup old group g all was,
  )

-- ---- one call after another

pub kept_none : {X : Type 0} (group : ℕ) (a : List (GroupState X)) → AreKept group a a
kept_none group a = record { count = refl; others = λ at apart. refl }

pub kept_twice : {X : Type 0} (group : ℕ) (a b c : List (GroupState X)) → AreKept group a b → AreKept group b c → AreKept group a c
kept_twice group a b c k l = record { count = l.count ∙ k.count; others = λ at apart. l.others at apart ∙ k.others at apart }

pub went_none : {X : Type 0} (state : X → StoreState) (group : ℕ) (a : List (GroupState X)) → GoesOnAt state group a a
went_none state group a g h e f =
    subst (λ v. GroupGoesOn state g v) (one_item g h (sym e ∙ f)) (same_go_on state g g refl refl refl refl refl)

pub went_twice : {X : Type 0} (state : X → StoreState) (group : ℕ) (a b c : List (GroupState X)) → AreKept group a b → GoesOnAt state group a b → GoesOnAt state group b c → GoesOnAt state group a c
went_twice state group a b c k first last g i e f =
    let low : group < length b = (let l = got_below a group g e in let count = k.count in omega (arith, l, count)) in
    let mid = got b group low in
    goes_on_twice state g mid.0 i (first g mid.0 e mid.1) (last mid.0 i mid.1 f)
