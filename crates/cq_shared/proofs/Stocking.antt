-- Workers at the opening of a block.
use Rattle.std.proofs.Common.{◌≡◌, List, [], ◌∷◌, map, refl, sym, subst, arith}
use Rattle.std.specs.List.{AllZip, AllByRecursion}
use Rattle.cq_store.specs.Stores.{StoreState}
use Rattle.cq_store.specs.declared.worker.Worker.{Worker}
use Rattle.cq_shared.specs.declared.worker.Stock.{Stock}
use Rattle.cq_shared.specs.Terms.{Terms}
use Rattle.cq_shared.specs.Blocks.{MaySpare, IsStock, worker_in}
use Rattle.cq_shared.specs.Errands.{IsBench}

module _ {X C : Type 0} where
  begins : (state : X → StoreState) (terms : C → Terms) (x : Stock X C) → MaySpare state terms x.rules.value x.worker → IsBench state terms x x []
  begins state terms x h = record { ruled = refl; node = refl; count = refl; left = omega arith; spare = h.0; steady = h.1 }

  -- each worker stands for itself
  pub all_bench : (state : X → StoreState) (terms : C → Terms) (rules : C) (ws : List (Worker X)) (xs : List (Stock X C)) → AllZip (IsStock rules) ws xs → AllByRecursion (MaySpare state terms rules) ws
      → AllByRecursion (λ (x : Stock X C). IsBench state terms x x []) xs
  all_bench state terms rules [] [] h k = tt
  all_bench state terms rules [] (x ∷ xs) h k = absurd h
  all_bench state terms rules (w ∷ ws) [] h k = absurd h
  all_bench state terms rules (w ∷ ws) (x ∷ xs) h k = (
    begins state terms x (subst (λ (z : Worker X × C). MaySpare state terms z.1 z.0) (λ i. (sym h.0.0 i, sym h.0.1 i)) k.0),
    all_bench state terms rules ws xs h.1 k.1,
  )

  pub returned : (rules : C) (ws : List (Worker X)) (xs : List (Stock X C)) → AllZip (IsStock rules) ws xs → map worker_in xs ≡ ws
  returned rules [] [] h = refl
  returned rules [] (x ∷ xs) h = absurd h
  returned rules (w ∷ ws) [] h = absurd h
  returned rules (w ∷ ws) (x ∷ xs) h = λ i. h.0.0 i ∷ returned rules ws xs h.1 i
