-- The workers of a cluster behind a block.
use Rattle.std.proofs.Common.{◌≡◌, ℕ, zero, suc, ◌+◌, ◌<◌, ◌≤◌, List, [], ◌∷◌, ◌++◌, length, refl, sym, ap, ◌∙◌, subst, arith, Some, slice_get}
use Rattle.std.specs.Prelude.{All, take, drop}
use Rattle.std.specs.List.{sum_by}
use Rattle.std.proofs.lemmas.List.Elements.{All-from_recursion}
use Rattle.std.proofs.lemmas.List.Sums.{sum_by-cons}
use Rattle.cq_value.proofs.Lists.{all_weaker}
use Rattle.cq_answer.specs.declared.answered.Answered.{Answered}
use Rattle.cq_history.specs.Room.{retired_of}
use Rattle.cq_store.specs.Stores.{StoreState, IsSpare}
use Rattle.cq_store.specs.Workers.{room}
use Rattle.cq_store.specs.declared.worker.Worker.{Worker}
use Rattle.cq_group.specs.declared.group.GroupState.{GroupState}
use Rattle.cq_cluster.specs.Cluster.{IsWaiting, IsWorkerAt, AreWorkers, held, everywhere, whole_at}
use Rattle.cq_cluster.proofs.ListLaws.{item_at}
use Rattle.cq_shared.specs.Terms.{Terms}
use Rattle.cq_shared.specs.declared.errand.Errand.{Errand}
use Rattle.cq_shared.specs.declared.errand.Errand.TheVariants as errand
use Rattle.cq_shared.specs.Errands.{took_in, owed_in, tooks, owed}
use Rattle.cq_block_laws.specs.Serving.{Opening}
use Rattle.cq_block_laws.specs.Sessions.{RanAt}
use Rattle.cq_place_laws.specs.Placing.{arrives, leaves}
use Rattle.cq_block_laws.specs.Settling.{lost}

-- ---- lists

pub got_front : {A : Type 0} (xs ys : List A) (k : ℕ) (x : A) → k < length xs → slice_get (xs ++ ys) k ≡ Some x → slice_get xs k ≡ Some x
got_front [] ys k x low e = absurd (omega (arith, low))
got_front (y ∷ xs) ys zero x low e = e
got_front (y ∷ xs) ys (suc k) x low e = got_front xs ys k x (omega (arith, low)) e

pub got_taken : {A : Type 0} (n : ℕ) (xs : List A) (k : ℕ) (x : A) → k < n → slice_get xs k ≡ Some x → slice_get (take n xs) k ≡ Some x
got_taken zero xs k x low e = absurd (omega (arith, low))
got_taken (suc n) [] k x low e = absurd (cc e)
got_taken (suc n) (y ∷ xs) zero x low e = e
got_taken (suc n) (y ∷ xs) (suc k) x low e = got_taken n xs k x (omega (arith, low)) e

-- of the first items each is at its place
pub taken_got : {A : Type 0} (n : ℕ) (xs : List A) (k : ℕ) (x : A) → slice_get (take n xs) k ≡ Some x → (k < n) × (slice_get xs k ≡ Some x)
taken_got zero xs k x e = absurd (cc e)
taken_got (suc n) [] k x e = absurd (cc e)
taken_got (suc n) (y ∷ xs) zero x e = (omega arith, e)
taken_got (suc n) (y ∷ xs) (suc k) x e = (let r = taken_got n xs k x e in (let low = r.0 in omega (arith, low), r.1))

pub taken_count : {A : Type 0} (n : ℕ) (xs : List A) → n ≤ length xs → length (take n xs) ≡ n
taken_count zero xs h = refl
taken_count (suc n) [] h = absurd (omega (arith, h))
taken_count (suc n) (x ∷ xs) h = ap suc (taken_count n xs (omega (arith, h)))

-- what stands behind the first items of a list stands there, whatever stands in their place
pub got_behind : {A : Type 0} (n : ℕ) (xs ws : List A) (k : ℕ) → length xs ≡ n → n ≤ length ws → n ≤ k → slice_get (xs ++ drop n ws) k ≡ slice_get ws k
got_behind zero [] ws k e h low = refl
got_behind zero (x ∷ xs) ws k e h low = absurd (omega (arith, e))
got_behind (suc n) [] ws k e h low = absurd (omega (arith, e))
got_behind (suc n) (x ∷ xs) [] k e h low = absurd (omega (arith, h))
got_behind (suc n) (x ∷ xs) (w ∷ ws) zero e h low = absurd (omega (arith, low))
got_behind (suc n) (x ∷ xs) (w ∷ ws) (suc k) e h low = got_behind n xs ws k (omega (arith, e)) (omega (arith, h)) (omega (arith, low))

pub changed_count : {A : Type 0} (n : ℕ) (xs ws : List A) → length xs ≡ n → n ≤ length ws → length (xs ++ drop n ws) ≡ length ws
changed_count zero [] ws e h = refl
changed_count zero (x ∷ xs) ws e h = absurd (omega (arith, e))
changed_count (suc n) [] ws e h = absurd (omega (arith, e))
changed_count (suc n) (x ∷ xs) [] e h = absurd (omega (arith, h))
changed_count (suc n) (x ∷ xs) (w ∷ ws) e h = ap suc (changed_count n xs ws (omega (arith, e)) (omega (arith, h)))

-- ---- one worker

took_owed : (n : Errand) → took_in n ≤ owed_in n
took_owed (errand.Took who n) = omega arith
took_owed (errand.Room who n) = omega arith
took_owed (errand.Gave who) = omega arith

-- no more was taken than may be given
tooks_owed : (l : List Errand) → tooks l ≤ owed l
tooks_owed [] = omega arith
tooks_owed (n ∷ l) =
    let one = took_owed n in
    let rest = tooks_owed l in
    let took = sum_by-cons took_in n l in
    let may = sum_by-cons owed_in n l in
    omega (arith, one, rest, took, may)

module _ {X C : Type 0} (state : X → StoreState) (terms : C → Terms) (shared_by : C) (o : Opening) (block : List Answered) where
  -- a worker that came back lacks the stores that are out then
  pub worker_behind : (at whole out now : ℕ) (w v : Worker X) → IsWorkerAt state whole out at w → RanAt state terms shared_by o block at w v →
      now + sum_by (leaves o.environment.catalog (at + 1)) block ≡ out + sum_by (arrives o.environment.catalog (at + 1)) block + sum_by (lost (at + 1)) block → IsWorkerAt state whole now at v
  worker_behind at whole out now w v was ran settled =
      let before : length ran.was.worker.stores.items ≡ length w.stores.items = ap (λ (u : Worker X). length u.stores.items) ran.opens.0 in
      let after : length ran.is.worker.stores.items ≡ length v.stores.items = ap (λ (u : Worker X). length u.stores.items) ran.closes in
      let room_before : room ran.was.worker.stores ≡ room w.stores = ap (λ (u : Worker X). room u.stores) ran.opens.0 in
      let room_after : room ran.is.worker.stores ≡ room v.stores = ap (λ (u : Worker X). room u.stores) ran.closes in
      let count = ran.stands.count in
      let left = ran.stands.left in
      let settles = ran.settles in
      let total = was.total in
      let had = was.room in
      let few = tooks_owed ran.notes in
      let node : ran.was.worker.node ≡ at + 1 = ap (λ (u : Worker X). u.node) ran.opens.0 ∙ was.node in
      record {
        node = ap (λ (u : Worker X). u.node) (sym ran.closes) ∙ ran.stands.node ∙ node;
        stores = subst (λ (u : Worker X). All (λ x. IsWaiting (at + 1) (state x)) u.stores.items) ran.closes
            (All-from_recursion (λ x. IsWaiting (at + 1) (state x)) ran.is.worker.stores.items
            (all_weaker (λ (x : X). IsSpare (state x) × ((state x).node ≡ ran.was.worker.node)) (λ (x : X). IsWaiting (at + 1) (state x)) (λ x s. record { spare = s.0; of_node = s.1 ∙ node }) ran.is.worker.stores.items ran.stands.spare));
        total = omega (arith, before, after, count, settles, total, settled);
        room = omega (arith, room_before, room_after, left, settles, had, few, settled);
      }

  -- ---- all workers

  module _ (nodes : ℕ) (entry : List (Worker X)) (was is : List ℕ) (old new : List (GroupState X)) (ws vs : List (Worker X)) (few : nodes ≤ length ws) (count : length vs ≡ nodes) where
    pub workers_behind : AreWorkers state nodes entry was old ws →
        ((place : ℕ) (w v : Worker X) → place < nodes → slice_get (take nodes ws) place ≡ Some w → slice_get vs place ≡ Some v → RanAt state terms shared_by o block place w v) →
        ((place : ℕ) → place < nodes → (held place new + everywhere new + retired_of (place + 1) is) + sum_by (leaves o.environment.catalog (place + 1)) block
        ≡ (held place old + everywhere old + retired_of (place + 1) was) + sum_by (arrives o.environment.catalog (place + 1)) block + sum_by (lost (place + 1)) block) → AreWorkers state nodes entry is new (vs ++ drop nodes ws)
    workers_behind are ran settled = record {
      same_length = changed_count nodes vs ws count few ∙ are.same_length;
      used = λ place v low at.
          let w = item_at ws place (omega (arith, low, few)) in
          worker_behind place (whole_at entry place) (held place old + everywhere old + retired_of (place + 1) was) (held place new + everywhere new + retired_of (place + 1) is) w.0 v (are.used place w.0 low w.1)
          (ran place w.0 v low (got_taken nodes ws place w.0 low w.1) (got_front vs (drop nodes ws) place v (omega (arith, low, count)) at)) (settled place low);
      unused = λ place low. got_behind nodes vs ws place count few low ∙ are.unused place low;
    }
