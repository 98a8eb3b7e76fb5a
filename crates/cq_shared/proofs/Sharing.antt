-- Groups at the opening of a block.
use Rattle.std.proofs.Common.{◌≡◌, ℕ, List, [], ◌∷◌, map, refl, sym, subst}
use Rattle.std.proofs.lemmas.List.{append-nil}
use Rattle.std.specs.List.{AllZip, AllByRecursion}
use Rattle.cq_tree.specs.declared.journal.Entry.{Entry}
use Rattle.cq_tree.specs.declared.journal.EntryKind.{EntryKind}
use Rattle.cq_store.specs.Stores.{StoreState}
use Rattle.cq_group.specs.declared.group.GroupState.{GroupState}
use Rattle.cq_group.specs.Groups.{entries_of, stores_of}
use Rattle.cq_group.specs.Calls.{GoesOn, Lifted}
use Rattle.cq_group.specs.Resting.{IsResting}
use Rattle.cq_group.proofs.Zips.{zip_refl}
use Rattle.cq_group.proofs.Turns.{rests, rests_go_on}
use Rattle.cq_move_calls.specs.Moving.{AreSteadyOn}
use Rattle.cq_shared.specs.declared.content.Shard.{Shard}
use Rattle.cq_shared.specs.Terms.{Terms}
use Rattle.cq_shared.specs.Blocks.{MayShare, IsShared, group_in}
use Rattle.cq_shared.specs.Notes.{Stands, IsShard}

begins : {X : Type 0} (state : X → StoreState) (allowed : EntryKind → Type 0) (g : GroupState X) → IsResting state g → AllByRecursion (λ (e : Entry). allowed e.kind) (entries_of g) → Stands state allowed g g []
begins state allowed g resting kinds = record {
  remains = record { number = refl; opening = refl; nodes = refl; spread = refl; tables = refl };
  journal = sym (append-nil (entries_of g));
  kinds = kinds;
  resting = resting;
  moves = tt;
  stores = zip_refl (Lifted state GoesOn) (λ x. rests_go_on (state x) (state x) (rests (state x))) (stores_of g);
  failed = tt;
}

module _ {X C : Type 0} where
  -- each group stands for itself
  pub all_stand : (state : X → StoreState) (terms : C → Terms) (rules : C) (groups : List (GroupState X)) (shards : List (Shard X C)) → AllZip (IsShared rules) groups shards → AllByRecursion (MayShare state terms rules) groups
      → AllByRecursion (λ (x : Shard X C). IsShard state terms x x []) shards
  all_stand state terms rules [] [] h k = tt
  all_stand state terms rules [] (x ∷ xs) h k = absurd h
  all_stand state terms rules (g ∷ gs) [] h k = absurd h
  all_stand state terms rules (g ∷ gs) (x ∷ xs) h k = (
    record {
      ruled = refl;
      stands = begins state ((terms x.rules.value).allows x.group.journal.group) x.group (subst (IsResting state) (sym h.0.0) k.0.resting)
          (subst (λ (z : GroupState X × C). AllByRecursion (λ (e : Entry). (terms z.1).allows z.0.journal.group e.kind) (entries_of z.0)) (λ i. (sym h.0.0 i, sym h.0.1 i)) k.0.kinds);
      steady = λ node s. subst (λ (z : GroupState X). AreSteadyOn state node (stores_of z)) (sym h.0.0) (k.0.steady node (subst (λ (c : C). (terms c).steady node) h.0.1 s));
      spares = tt;
    },
    all_stand state terms rules gs xs h.1 k.1,
  )

  pub parted : (rules : C) (groups : List (GroupState X)) (shards : List (Shard X C)) → AllZip (IsShared rules) groups shards → map group_in shards ≡ groups
  parted rules [] [] h = refl
  parted rules [] (x ∷ xs) h = absurd h
  parted rules (g ∷ gs) [] h = absurd h
  parted rules (g ∷ gs) (x ∷ xs) h = λ i. h.0.0 i ∷ parted rules gs xs h.1 i
