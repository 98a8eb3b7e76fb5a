-- What a move's answer tells of the workers' stores is what its session noted there, and what it retired.
use Rattle.std.proofs.Common.{◌≡◌, inl, inr, ℕ, ◌+◌, cond, List, [], ◌∷◌, ◌++◌, refl, sym, ap, ◌∙◌, subst, arith, Some, if◌then◌else◌, eq-eqb, length, length-append, ◌≤◌}
use Rattle.std.specs.Prelude.{nat_eq, Ok}
use Rattle.std.proofs.lemmas.Bool.{ne_eqb}
use Rattle.std.proofs.lemmas.Bool.Decides.{eqb_tells}
use Rattle.std.proofs.lemmas.List.Sums.{sum_by-cons, sum_by-append}
use Rattle.std.specs.List.{AllByRecursion, sum_by}
use Rattle.cq_value.proofs.Lists.{all_append}
use Rattle.cq_tree.specs.declared.journal.Who.{Who}
use Rattle.cq_tree.specs.declared.statement.Statement.TheVariants.{Move}
use Rattle.cq_catalog.specs.Contents.{Contents}
use Rattle.cq_catalog.specs.Placement.{group_of_shard}
use Rattle.cq_answer.specs.declared.answer.Answer.{Answer}
use Rattle.cq_answer.specs.declared.answer.Answer.TheVariants as answer
use Rattle.cq_answer.specs.declared.answered.Answered.{Answered}
use Rattle.cq_answer.specs.declared.fault.Fault.{Fault}
use Rattle.cq_answer.specs.declared.fault.Fault.TheVariants as fault
use Rattle.cq_history.specs.Room.{stores_moved, stores_to, stores_from}
use Rattle.cq_move.specs.declared.outcome.MoveReport.{MoveReport}
use Rattle.cq_store.specs.Stores.{StoreState}
use Rattle.cq_cluster.specs.declared.retired.Retired.{Retired}
use Rattle.cq_cluster.specs.Accounts.{Retires}
use Rattle.cq_cluster.specs.Moving.{Loses, move_answer}
use Rattle.cq_shared.specs.declared.errand.Errand.{Errand}
use Rattle.cq_shared.specs.declared.errand.Errand.TheVariants as errand
use Rattle.cq_shared.specs.Errands.{WorkerPass, gave_in, gaves, took_in, tooks}
use Rattle.cq_shared.specs.Stocks.{SendsSome, give_notes}
use Rattle.cq_shared.specs.Terms.{Terms}
use Rattle.cq_shared.proofs.Stocks.{give_gaves, give_tooks}
use Rattle.cq_place_laws.specs.Placing.{arrives, leaves, is_table}
use Rattle.cq_block_laws.specs.Serving.{Opening}
use Rattle.cq_block_laws.specs.Sessions.{IsSpared, SettlesOne}
use Rattle.cq_block_laws.specs.Settling.{lost, lost_in}
use Rattle.cq_move_laws.specs.Notes.{at_node}
use Rattle.cq_block_move.specs.Benches.{RetiresOn}
use Rattle.cq_block_move.specs.Moves.{exchanging}

-- ---- sums of notes

sum_one : (f : Errand → ℕ) (e : Errand) → sum_by f (e ∷ []) ≡ f e
sum_one f e = let one : sum_by f (e ∷ []) ≡ f e + sum_by f [] = sum_by-cons f e [] in omega (arith, one)

-- so many at this node
abbrev pub of_node : ℕ → ℕ → ℕ → ℕ
of_node node at n = cond (nat_eq node (at + 1)) n 0

sum_at : (f : Errand → ℕ) (node : ℕ) (l : List Errand) (at n : ℕ) → sum_by f l ≡ n → sum_by f (at_node node l at) ≡ of_node node at n
sum_at f node l at n is = elim (eqb_tells (at + 1) node) [
  | inl y ↦ rw (y.0, eq-eqb node (at + 1) (sym y.1)) is
  | inr z ↦ rw (z.0, ne_eqb node (at + 1) (λ e. z.1 (sym e))) refl
]

of_none : (node at : ℕ) → of_node node at 0 ≡ 0
of_none node at = elim (eqb_tells node (at + 1)) [ inl y ↦ rw y.0 refl | inr z ↦ rw z.0 refl ]

module _ (who : Who) (n to room given node at : ℕ) where
  abbrev took : List Errand
  took = at_node to (errand.Took who n ∷ []) at

  abbrev made : List Errand
  made = at_node room (errand.Room who n ∷ []) at

  abbrev gave : List Errand
  gave = at_node node (give_notes who given) at

  pub exchange_tooks : tooks (exchanging who n to room given node at) ≡ of_node to at n
  exchange_tooks =
      let all : tooks ((took ++ made) ++ gave) ≡ tooks (took ++ made) + tooks gave = sum_by-append took_in (took ++ made) gave in
      let both : tooks (took ++ made) ≡ tooks took + tooks made = sum_by-append took_in took made in
      let x : tooks took ≡ of_node to at n = sum_at took_in to (errand.Took who n ∷ []) at n (sum_one took_in (errand.Took who n)) in
      let y : tooks made ≡ of_node room at 0 = sum_at took_in room (errand.Room who n ∷ []) at 0 (sum_one took_in (errand.Room who n)) in
      let z : tooks gave ≡ of_node node at 0 = sum_at took_in node (give_notes who given) at 0 (give_tooks who given) in
      let v = of_none room at in
      let w = of_none node at in
      omega (arith, all, both, x, y, z, v, w)

  pub exchange_gaves : gaves (exchanging who n to room given node at) ≡ of_node node at given
  exchange_gaves =
      let all : gaves ((took ++ made) ++ gave) ≡ gaves (took ++ made) + gaves gave = sum_by-append gave_in (took ++ made) gave in
      let both : gaves (took ++ made) ≡ gaves took + gaves made = sum_by-append gave_in took made in
      let x : gaves took ≡ of_node to at 0 = sum_at gave_in to (errand.Took who n ∷ []) at 0 (sum_one gave_in (errand.Took who n)) in
      let y : gaves made ≡ of_node room at 0 = sum_at gave_in room (errand.Room who n ∷ []) at 0 (sum_one gave_in (errand.Room who n)) in
      let z : gaves gave ≡ of_node node at given = sum_at gave_in node (give_notes who given) at given (give_gaves who given) in
      let v = of_none to at in
      let w = of_none room at in
      omega (arith, all, both, x, y, z, v, w)

-- ---- what an answer tells

module _ (c : Contents) (k : ℕ) (a : Answered) where
  failed_leaves : (f : Fault) → a.answer ≡ answer.Failed f → leaves c k a ≡ 0
  failed_leaves f is = ap (λ (v : Answer). if is_table v then stores_from c k a.bound else 0) is

  failed_arrives : (f : Fault) → a.answer ≡ answer.Failed f → arrives c k a ≡ 0
  failed_arrives f is = ap (λ (v : Answer). if is_table v then stores_to c k a.bound else 0) is

  module _ (shard from to : ℕ) (r : MoveReport) (bound : a.bound ≡ Some (Move shard from to)) (is : a.answer ≡ move_answer (Ok r)) where
    done_leaves : leaves c k a ≡ cond (nat_eq from k) (stores_moved c (group_of_shard c shard)) 0
    done_leaves = ap (λ (v : Answer). if is_table v then stores_from c k a.bound else 0) is ∙ ap (stores_from c k) bound

    done_arrives : arrives c k a ≡ cond (nat_eq to k) (stores_moved c (group_of_shard c shard)) 0
    done_arrives = ap (λ (v : Answer). if is_table v then stores_to c k a.bound else 0) is ∙ ap (stores_to c k) bound

-- ---- as the notes and the answer settle

-- these notes of a statement settle with its answer, at the worker at a place
abbrev pub SettleWith : Contents → ℕ → Answered → List Errand → Type 0
SettleWith c node a ours = tooks ours + leaves c node a ≡ gaves ours + arrives c node a + lost node a

pub settles_by : {X C : Type 0} (o : Opening) (node : ℕ) (a : Answered) (p q : WorkerPass X C) (ours : List Errand) → SendsSome p.place ours q.place → SettleWith o.environment.catalog node a ours → SettlesOne o node a p q
settles_by o node a p q ours sends settle =
    let took : tooks q.place.me.0.mine ≡ tooks p.place.me.0.mine + tooks ours = ap tooks sends.mine ∙ sum_by-append took_in p.place.me.0.mine ours in
    let gave : gaves q.place.me.0.mine ≡ gaves p.place.me.0.mine + gaves ours = ap gaves sends.mine ∙ sum_by-append gave_in p.place.me.0.mine ours in
    omega (arith, took, gave, settle)

-- a move that came to its end
pub done_settles : (c : Contents) (a : Answered) (shard from to group room : ℕ) (who : Who) (r : MoveReport) → a.bound ≡ Some (Move shard from to) → a.answer ≡ move_answer (Ok r) → group_of_shard c shard ≡ Some group → (at : ℕ) →
    SettleWith c (at + 1) a (exchanging who (stores_moved c (Some group)) to room (stores_moved c (Some group)) from at)
done_settles c a shard from to group room who r bound is of at =
    let n = stores_moved c (Some group) in
    let took = exchange_tooks who n to room n from at in
    let gave = exchange_gaves who n to room n from at in
    let many : stores_moved c (group_of_shard c shard) ≡ n = ap (stores_moved c) of in
    let left : leaves c (at + 1) a ≡ of_node from at n = done_leaves c (at + 1) a shard from to r bound is ∙ ap (of_node from at) many in
    let came : arrives c (at + 1) a ≡ of_node to at n = done_arrives c (at + 1) a shard from to r bound is ∙ ap (of_node to at) many in
    let none : lost (at + 1) a ≡ 0 = ap (lost_in (at + 1)) is in
    omega (arith, took, gave, left, came, none)

-- by a fault no store is lost, but one where a store is retired
pub lost_by : {X : Type 0} (state : X → StoreState) (who : Who) (n to at : ℕ) (old new : List (Retired X)) (f : Fault) → Loses state who n old new f → ((k : ℕ) → RetiresOn k f → k ≡ to) → lost_in (at + 1) (answer.Failed f) ≡ of_node to at n
lost_by state who n to at old new (fault.Retired failure) loses on =
    ap (λ k. cond (nat_eq k (at + 1)) 1 0) (on failure.node refl) ∙ ap (of_node to at) (sym loses.0)
lost_by state who n to at old new f loses on = sym (of_none to at) ∙ ap (of_node to at) (sym loses.0)

-- a move that wasn't made, and had taken stores
pub kept_settles : {X : Type 0} (state : X → StoreState) (c : Contents) (a : Answered) (who : Who) (n to room given gone : ℕ) (old new : List (Retired X)) (f : Fault) → a.answer ≡ answer.Failed f → given + gone ≡ n → Loses state who gone old new f →
    ((k : ℕ) → RetiresOn k f → k ≡ to) → (at : ℕ) → SettleWith c (at + 1) a (exchanging who n to room given to at)
kept_settles state c a who n to room given gone old new f is all loses on at =
    let took = exchange_tooks who n to room given to at in
    let gave = exchange_gaves who n to room given to at in
    let left = failed_leaves c (at + 1) a f is in
    let came = failed_arrives c (at + 1) a f is in
    let none : lost (at + 1) a ≡ of_node to at gone = ap (lost_in (at + 1)) is ∙ lost_by state who gone to at old new f loses on in
    let sum : of_node to at n ≡ of_node to at given + of_node to at gone = elim (eqb_tells to (at + 1)) [ inl y ↦ rw y.0 (sym all) | inr z ↦ rw z.0 refl ] in
    omega (arith, took, gave, left, came, none, sum)

-- one that had taken none
pub none_settles : (c : Contents) (a : Answered) (f : Fault) (k : ℕ) → a.answer ≡ answer.Failed f → lost_in k (answer.Failed f) ≡ 0 → SettleWith c k a []
none_settles c a f k is keeps =
    let left = failed_leaves c k a f is in
    let came = failed_arrives c k a f is in
    let none : lost k a ≡ 0 = ap (lost_in k) is ∙ keeps in
    omega (arith, left, came, none)

-- ---- the stores that are retired

pub retires_by : {X : Type 0} (state : X → StoreState) (who : Who) (n : ℕ) (old new : List (Retired X)) (f : Fault) → Loses state who n old new f → Retires who (answer.Failed f) old new
retires_by state who n old new (fault.Retired failure) loses = let h = loses.1 in (h.last, h.all, h.by, h.of_node, h.from, h.upto)
retires_by state who n old new f loses = loses.1

pub fresh_by : {X C : Type 0} (state : X → StoreState) (terms : C → Terms) (rule : C) (who : Who) (n : ℕ) (old new : List (Retired X)) (f : Fault) → Loses state who n old new f → ((k : ℕ) → (terms rule).steady k → RetiresOn k f → ⊥) →
    AllByRecursion (IsSpared state terms rule) old → AllByRecursion (IsSpared state terms rule) new
fresh_by state terms rule who n old new (fault.Retired failure) loses spared all =
    let h = loses.1 in
    subst (AllByRecursion (IsSpared state terms rule)) (sym h.all) (all_append (IsSpared state terms rule) old (h.last ∷ []) all ((h.is, λ steady. spared h.last.node steady (sym h.of_node)), tt))
fresh_by state terms rule who n old new f loses spared all = subst (AllByRecursion (IsSpared state terms rule)) (sym loses.1) all

-- as many, or one more
pub few_retired : {X : Type 0} (state : X → StoreState) (who : Who) (n : ℕ) (old new : List (Retired X)) (f : Fault) → Loses state who n old new f → length new ≤ length old + 1
few_retired state who n old new (fault.Retired failure) loses =
    let h = loses.1 in
    let long = ap (λ (l : List (Retired _)). length l) h.all in
    let both = length-append old (h.last ∷ []) in
    omega (arith, long, both)
few_retired state who n old new f loses = let same = ap (λ (l : List (Retired _)). length l) loses.1 in omega (arith, same)
