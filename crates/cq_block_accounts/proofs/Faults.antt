-- Counts of faults of groups, as a block comes.
use Rattle.std.proofs.Common.{◌≡◌, ◌⊎◌, ◌<◌, ◌≤◌, inl, inr, ℕ, List, [], ◌∷◌, ◌++◌, sym, subst, arith, Some, slice_get}
use Rattle.std.specs.List.{AllByRecursion, AllZip}
use Rattle.cq_value.proofs.Lists.{all_weaker, all_append, got}
use Rattle.cq_answer.specs.declared.answered.Answered.{Answered}
use Rattle.cq_store.specs.Stores.{StoreState}
use Rattle.cq_history.specs.Phases.{phase_in}
use Rattle.cq_history.specs.Faults.{NamesBelow}
use Rattle.cq_history.proofs.Lists.{got_below}
use Rattle.cq_group.specs.declared.group.GroupState.{GroupState}
use Rattle.cq_group.specs.Groups.{stores_of, entries_of}
use Rattle.cq_cluster.specs.Accounts.{moved_by, AccountsByPhases, later_phases}
use Rattle.cq_block_accounts.specs.Accounts.{IsToldOf, BlockIsAccounted, TellsOf}
use Rattle.cq_block_accounts.proofs.Blocks.{staying_accounts, moved_accounts}

module _ {X : Type 0} where
  abbrev Account : (X → StoreState) → List Answered → List X → Type 0
  Account state answers stores = AllByRecursion (λ (x : X). AccountsByPhases answers (state x)) stores

  along : (P Q : X → Type 0) (R : X → X → Type 0) → ((x y : X) → R x y → P x → Q y) → (xs ys : List X) → AllZip R xs ys → AllByRecursion P xs → AllByRecursion Q ys
  along P Q R f [] [] z all = tt
  along P Q R f [] (y ∷ ys) z all = absurd z
  along P Q R f (x ∷ xs) [] z all = absurd z
  along P Q R f (x ∷ xs) (y ∷ ys) z all = (f x y z.0 all.0, along P Q R f xs ys z.1 all.1)

  every : (P : X → Type 0) → ((x : X) → P x) → (xs : List X) → AllByRecursion P xs
  every P p [] = tt
  every P p (x ∷ xs) = (p x, every P p xs)

  pub block_is_accounted : (state : X → StoreState) → BlockIsAccounted state
  block_is_accounted state c phase answers block old new low early now names told h = record {
    stores = λ i g there.
        let before = got old i (let b = got_below new i g there in let n = told.count in omega (arith, b, n)) in
        by_group i before.0 g before.1 (told.each i before.0 g before.1 there);
    below = all_append (λ (a : Answered). NamesBelow c.next_shard a.answer) answers block h.below names;
  }
    where
      upto : AllByRecursion (λ (a : Answered). a.phase ≤ phase) (answers ++ block)
      upto = all_append (λ (a : Answered). a.phase ≤ phase) answers block
          (all_weaker (λ (a : Answered). a.phase < phase) (λ (a : Answered). a.phase ≤ phase) (λ a l. omega (arith, l)) answers early)
          (all_weaker (λ (a : Answered). a.phase ≡ phase) (λ (a : Answered). a.phase ≤ phase) (λ a is. omega (arith, is)) block now)

      by_group : (i : ℕ) (g k : GroupState X) → slice_get old i ≡ Some g → (phase_in (answers ++ block) (moved_by (entries_of k)) ≡ phase) ⊎ IsToldOf state block g k →
          Account state (later_phases (moved_by (entries_of k)) (answers ++ block)) (stores_of k)
      by_group i g k was (inl moved) = every (λ (x : X). AccountsByPhases (later_phases (moved_by (entries_of k)) (answers ++ block)) (state x))
          (λ x. moved_accounts phase (moved_by (entries_of k)) (answers ++ block) (state x) upto moved) (stores_of k)
      by_group i g k was (inr t) = subst (λ n. Account state (later_phases n (answers ++ block)) (stores_of k)) (sym t.moved)
          (along (λ (x : X). AccountsByPhases (later_phases (moved_by (entries_of g)) answers) (state x)) (λ (x : X). AccountsByPhases (later_phases (moved_by (entries_of g)) (answers ++ block)) (state x))
          (λ (x y : X). TellsOf block (state x) (state y)) (λ x y tells account. staying_accounts phase (moved_by (entries_of g)) answers block (state x) (state y) low early now t.earlier tells account)
          (stores_of g) (stores_of k) t.tells (h.stores i g was))
