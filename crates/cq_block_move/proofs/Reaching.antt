-- The workers of a run's nodes, as a session reaches them.
use Rattle.std.proofs.Common.{◌≡◌, ◌≢◌, ℕ, zero, suc, ◌-◌, ◌≤◌, List, [], ◌∷◌, refl, ◌∙◌, ap, subst, arith, Some, slice_get}
use Rattle.std.proofs.lemmas.Option.{same_Some}
use Rattle.std.specs.List.{AllZip}
use Rattle.atomic_table.specs.Seated.{TableId}
use Rattle.cq_catalog.specs.Contents.{Contents}
use Rattle.cq_store.specs.Stores.{StoreState}
use Rattle.cq_reach.proofs.Growth.{got}
use Rattle.cq_shared.specs.Terms.{Terms}
use Rattle.cq_shared.specs.Errands.{node_in}
use Rattle.cq_block_laws.specs.Sessions.{Hands}
use Rattle.cq_block_move.specs.Hands.{IsBenchTo, AreHands}
use Rattle.cq_block_move.specs.Benches.{IsThere}
use Rattle.cq_block_move.proofs.Calling.{up}

-- what is beside the item at a place
pub record Across {A B : Type 0} (R : A → B → Type 0) (ys : List B) (k : ℕ) (x : A) : Type 0 where
  pub item : B
  pub there : slice_get ys k ≡ Some item
  pub holds : R x item

pub across : {A B : Type 0} (R : A → B → Type 0) (xs : List A) (ys : List B) → AllZip R xs ys → (k : ℕ) (x : A) → slice_get xs k ≡ Some x → Across R ys k x
across R [] [] h k x e = absurd (cc e)
across R [] (b ∷ ys) h k x e = absurd h
across R (a ∷ xs) [] h k x e = absurd h
across R (a ∷ xs) (b ∷ ys) h zero x e = record { item = b; there = refl; holds = subst (λ z. R z b) (same_Some a x e) h.0 }
across R (a ∷ xs) (b ∷ ys) h (suc k) x e = let r = across R xs ys h.1 k x e in record { item = r.item; there = r.there; holds = r.holds }

-- a session has a pass to the worker of each node of the run
pub is_there : {X C : Type 0} (state : X → StoreState) (terms : C → Terms) (c : Contents) (nodes : ℕ) (cells stalls : List TableId) (sessions : List ℕ) (session : ℕ) (h : Hands X C) → AreHands state terms c nodes cells stalls sessions session h →
    (node : ℕ) → node ≢ 0 → node ≤ nodes → IsThere node h.benches
is_there {X} {C} state terms c nodes cells stalls sessions session h hands node some low =
    let ground = hands.ground in
    let enough = ground.enough in
    let high = up node some in
    let w = got hands.workers (node - 1) (omega (arith, high, low, enough)) in
    let r = across (IsBenchTo hands.rule) hands.workers h.benches hands.to_workers (node - 1) w.0 w.1 in record {
      some = some;
      pass = r.item;
      there = r.there;
      on = ap node_in r.holds.origin ∙ (ap (λ v. v.node) r.holds.shared.0 ∙ (ground.on (node - 1) w.0 w.1 ∙ high));
    }
