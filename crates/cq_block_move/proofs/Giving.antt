-- The stores of a move that ended early, as they are given back.
use Rattle.std.proofs.Common.{◌≡◌, inl, inr, ℕ, ◌-◌, ◌≤◌, Bool, true, false, List, [], ◌∷◌, sym, ◌∙◌, subst, arith}
use Rattle.std.specs.Prelude.{All, IsTrue}
use Rattle.std.proofs.lemmas.List.Elements.{All-head, All-tail}
use Rattle.cq_answer.specs.declared.fault.Fault.{Fault}
use Rattle.cq_answer.specs.declared.fault.Fault.TheVariants as fault
use Rattle.cq_store.specs.Stores.{StoreState}
use Rattle.cq_move_calls.specs.Moving.{AreSteadyOn}
use Rattle.cq_cluster.specs.Moving.{AreUnsteady, CanRetire, SomeFailed}
use Rattle.cq_cluster.specs.Steps.{IsStoreOf}
use Rattle.cq_shared.specs.Errands.{WorkerPass}
use Rattle.cq_block_move.specs.Benches.{Owes, RetiresOn}

pub owes_fewer : {X C : Type 0} (node n m : ℕ) (benches : List (WorkerPass X C)) → m ≤ n → Owes node n benches → Owes node m benches
owes_fewer node n m benches low owes p e = let h = owes p e in omega (arith, h, low)

not_both : (b : Bool) → b ≡ false → IsTrue b → ⊥
not_both b f t = let e : true ≡ false = sym t ∙ f in absurd (cc e)

module _ {X : Type 0} (state : X → StoreState) (node : ℕ) where
  -- where a store of a list failed, it isn't steady
  some_unsteady : (shard after : ℕ) (xs : List X) → All (λ (x : X). IsStoreOf node (state x)) xs → SomeFailed state shard after xs → AreUnsteady state shard xs → AreSteadyOn state node xs → ⊥
  some_unsteady shard after [] on some bad steady = some
  some_unsteady shard after (x ∷ xs) on some bad steady = elim some [
    | inl h ↦ not_both (state x).steady (All-head (λ (y : X). (state y).shard ≡ shard → (state y).steady ≡ false) x xs bad h.0) (steady.0 (All-head (λ (y : X). IsStoreOf node (state y)) x xs on))
    | inr h ↦ some_unsteady shard after xs (All-tail (λ (y : X). IsStoreOf node (state y)) x xs on) h (All-tail (λ (y : X). (state y).shard ≡ shard → (state y).steady ≡ false) x xs bad) steady.1
  ]

  -- no store is retired where all are steady
  pub none_retired : (f : Fault) (xs : List X) → CanRetire state node xs f → All (λ (x : X). IsStoreOf node (state x)) xs → (k : ℕ) → AreSteadyOn state k xs → RetiresOn k f → ⊥
  none_retired (fault.Retired failure) xs can on k steady at = some_unsteady failure.shard failure.after xs on can.2 can.3 (subst (λ (n : ℕ). AreSteadyOn state n xs) (sym at ∙ can.0) steady)
  none_retired f xs can on k steady at = absurd at
