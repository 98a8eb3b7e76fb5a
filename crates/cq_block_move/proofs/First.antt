-- The passes of a session to workers as they are given out, and as they come back.
use Rattle.std.proofs.Common.{◌≡◌, ℕ, zero, suc, List, [], ◌∷◌, map, refl, sym, ap, subst, arith, Some, slice_get}
use Rattle.std.proofs.lemmas.Option.{same_Some}
use Rattle.std.specs.List.{AllZip, AllByRecursion}
use Rattle.atomic_table.specs.Seated.{TableId}
use Rattle.cq_store.specs.Stores.{StoreState}
use Rattle.cq_store.specs.declared.worker.Worker.{Worker}
use Rattle.cq_cell.specs.declared.view.Key.{Key}
use Rattle.cq_cell.specs.Many.{IsFirst, IsBack, origin_in}
use Rattle.cq_cell.specs.Turn.{IsAt}
use Rattle.cq_shared.specs.declared.worker.Stock.{Stock}
use Rattle.cq_shared.specs.Terms.{Terms}
use Rattle.cq_shared.specs.Blocks.{MaySpare, AreStocked}
use Rattle.cq_shared.specs.Errands.{WorkerPass, IsBench, GivesOwed}
use Rattle.cq_shared.proofs.Stocking.{all_bench}
use Rattle.cq_block_move.specs.Hands.{IsOwn, AreReady}

-- the table ids of workers' cells
abbrev pub stall_ids : {X C : Type 0} → List (TableId × Key (Stock X C)) → List TableId
stall_ids {X} {C} ks = map (λ (c : TableId × Key (Stock X C)). c.0) ks

-- ---- as they are given out

module _ {X C : Type 0} (state : X → StoreState) (terms : C → Terms) (numbers : List ℕ) (n : ℕ) where
  own_first : (k : TableId × Key (Stock X C)) (p : WorkerPass X C) → IsFirst numbers n k p → IsBench state terms (origin_in k) (origin_in k) [] → IsOwn state terms numbers n p.place
  own_first k p first stands =
      let me = first.me in record {
        rests = (ap (λ m. m.0.live) me, ap (λ m. m.0.root) me, ap (λ m. m.0.turn) me, ap (λ m. m.1) me);
        numbered = sym (ap (λ m. m.0.number) me);
        block = ap (λ m. m.0.sessions) me;
        kept = record { opening = origin_in k; origin = ap (λ m. m.0.origin) me; stock = origin_in k; stands = subst (IsBench state terms (origin_in k) (origin_in k)) (sym (ap (λ m. m.0.news) me)) stands };
        right = subst GivesOwed (sym (ap (λ m. m.0.mine) me)) (omega arith);
      }

  all_own : (ks : List (TableId × Key (Stock X C))) (bench : List (WorkerPass X C)) → AllZip (IsFirst numbers n) ks bench → AllByRecursion (λ (x : Stock X C). IsBench state terms x x []) (map origin_in ks) →
      (at : ℕ) (p : WorkerPass X C) → slice_get bench at ≡ Some p → IsOwn state terms numbers n p.place
  all_own [] [] first stand at p e = absurd (cc e)
  all_own [] (b ∷ bench) first stand at p e = absurd first
  all_own (k ∷ ks) [] first stand at p e = absurd first
  all_own (k ∷ ks) (b ∷ bench) first stand zero p e = subst (λ (q : WorkerPass X C). IsOwn state terms numbers n q.place) (same_Some b p e) (own_first k b first.0 stand.0)
  all_own (k ∷ ks) (b ∷ bench) first stand (suc at) p e = all_own ks bench first.1 stand.1 at p e

  each_at : (ks : List (TableId × Key (Stock X C))) (bench : List (WorkerPass X C)) → AllZip (IsFirst numbers n) ks bench → AllZip (λ (z : TableId) (p : WorkerPass X C). IsAt z p.place) (stall_ids ks) bench
  each_at [] [] first = tt
  each_at [] (b ∷ bench) first = absurd first
  each_at (k ∷ ks) [] first = absurd first
  each_at (k ∷ ks) (b ∷ bench) first = (first.0.at, each_at ks bench first.1)

-- the passes of a session to workers are ready
pub benches_first : {X C : Type 0} (state : X → StoreState) (terms : C → Terms) (rule : C) (numbers : List ℕ) (workers : List (Worker X)) (ks : List (TableId × Key (Stock X C))) (stalls : List (WorkerPass X C)) (benches : List (List (WorkerPass X C))) →
    AllByRecursion (MaySpare state terms rule) workers → AreStocked numbers rule workers ks stalls benches → (n : ℕ) (bench : List (WorkerPass X C)) → AllZip (IsFirst numbers n) ks bench → AreReady state terms (stall_ids ks) numbers n bench
benches_first {X} {C} state terms rule numbers workers ks stalls benches may stocked n bench first =
    let stand = all_bench state terms rule workers stocked.stocks stocked.are may in record {
      at = each_at state terms numbers n ks bench first;
      own = all_own state terms numbers n ks bench first (subst (AllByRecursion (λ (x : Stock X C). IsBench state terms x x [])) (sym stocked.opened.values) stand);
    }

-- ---- as they come back

module _ {X C : Type 0} (state : X → StoreState) (terms : C → Terms) (numbers : List ℕ) (n : ℕ) where
  each_back : (ks : List (TableId × Key (Stock X C))) (bench : List (WorkerPass X C)) → AllZip (λ (z : TableId) (p : WorkerPass X C). IsAt z p.place) (stall_ids ks) bench →
      ((at : ℕ) (p : WorkerPass X C) → slice_get bench at ≡ Some p → IsOwn state terms numbers n p.place) → AllZip (IsBack n) ks bench
  each_back [] [] at own = tt
  each_back [] (b ∷ bench) at own = absurd at
  each_back (k ∷ ks) [] at own = absurd at
  each_back (k ∷ ks) (b ∷ bench) at own =
      let o = own 0 b refl in
      (record { at = at.0; rests = o.rests; own = sym o.numbered }, each_back ks bench at.1 (λ place q e. own (suc place) q e))

  -- passes that are ready are at rest, and can come back
  pub benches_back : (ks : List (TableId × Key (Stock X C))) (bench : List (WorkerPass X C)) → AreReady state terms (stall_ids ks) numbers n bench → AllZip (IsBack n) ks bench
  benches_back ks bench ready = each_back ks bench ready.at ready.own
