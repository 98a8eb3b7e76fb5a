-- How a store's state goes on, call after call.
use Rattle.std.proofs.Common.{◌≡◌, ◌≤◌, ℕ, IsTrue, List, [], refl, sym, ap, ◌∙◌, subst, arith}
use Rattle.cq_value.specs.declared.change.Change.{Change}
use Rattle.cq_value.specs.Tables.{Table}
use Rattle.cq_tree.specs.declared.failure.StoreFailure.{StoreFailure}
use Rattle.cq_store.specs.Stores.{StoreState, Becomes}
use Rattle.cq_group.specs.Calls.{Rests, Discards, Commits, Stages, KeepsRows, GoesOn, Failed}

-- the state that is wanted, but for the rows, what is staged and the count, where those are the old one's
becomes : (old new : StoreState) (rows : Table) (staged : List Change) →
    new.node ≡ old.node → new.shard ≡ old.shard → new.steady ≡ old.steady → new.rows ≡ rows → new.staged ≡ staged →
    old.faults ≤ new.faults → (IsTrue old.steady → new.faults ≡ old.faults) →
    Becomes old (record old { rows = rows; staged = staged }) new
becomes old new rows staged node shard steady r s counts k =
    record { state = λ i. record { node = node i; shard = shard i; rows = r i; staged = s i; faults = new.faults; steady = steady i }; counts = counts; steady = k }

pub rests_go_on : (s t : StoreState) → Rests s t → GoesOn s t
rests_go_on s t h = becomes s t t.rows t.staged (ap (λ (x : StoreState). x.node) h.state) (ap (λ (x : StoreState). x.shard) h.state) (ap (λ (x : StoreState). x.steady) h.state) refl refl h.counts h.steady

pub discards_go_on : (s t : StoreState) → Discards s t → GoesOn s t
discards_go_on s t h = becomes s t t.rows t.staged (ap (λ (x : StoreState). x.node) h.state) (ap (λ (x : StoreState). x.shard) h.state) (ap (λ (x : StoreState). x.steady) h.state) refl refl h.counts h.steady

pub commits_go_on : (s t : StoreState) → Commits s t → GoesOn s t
commits_go_on s t h = becomes s t t.rows t.staged (ap (λ (x : StoreState). x.node) h.state) (ap (λ (x : StoreState). x.shard) h.state) (ap (λ (x : StoreState). x.steady) h.state) refl refl h.counts h.steady

pub keeps_go_on : (s t : StoreState) → KeepsRows s t → GoesOn s t
keeps_go_on s t h = becomes s t t.rows t.staged (ap (λ (x : StoreState). x.node) h.state) (ap (λ (x : StoreState). x.shard) h.state) (ap (λ (x : StoreState). x.steady) h.state) refl refl h.counts h.steady

pub rests_keep : (s t : StoreState) → Rests s t → KeepsRows s t
rests_keep s t h = becomes s t s.rows t.staged (ap (λ (x : StoreState). x.node) h.state) (ap (λ (x : StoreState). x.shard) h.state) (ap (λ (x : StoreState). x.steady) h.state) (ap (λ (x : StoreState). x.rows) h.state) refl h.counts h.steady

pub discards_keep : (s t : StoreState) → Discards s t → KeepsRows s t
discards_keep s t h = becomes s t s.rows t.staged (ap (λ (x : StoreState). x.node) h.state) (ap (λ (x : StoreState). x.shard) h.state) (ap (λ (x : StoreState). x.steady) h.state) (ap (λ (x : StoreState). x.rows) h.state) refl h.counts h.steady

pub stages_keep : (changes : List Change) (s t : StoreState) → Stages changes s t → KeepsRows s t
stages_keep changes s t h = becomes s t s.rows t.staged (ap (λ (x : StoreState). x.node) h.state) (ap (λ (x : StoreState). x.shard) h.state) (ap (λ (x : StoreState). x.steady) h.state) (ap (λ (x : StoreState). x.rows) h.state) refl h.counts h.steady

-- a store rests where nothing happens
pub rests : (s : StoreState) → Rests s s
rests s = record { state = refl; counts = omega arith; steady = λ k. refl }

pub keeps : (s : StoreState) → KeepsRows s s
keeps s = rests_keep s s (rests s)

-- one after the other
pub keeps_more : (s t u : StoreState) → KeepsRows s t → KeepsRows t u → KeepsRows s u
keeps_more s t u h k = becomes s u s.rows u.staged
    (ap (λ (x : StoreState). x.node) k.state ∙ ap (λ (x : StoreState). x.node) h.state)
    (ap (λ (x : StoreState). x.shard) k.state ∙ ap (λ (x : StoreState). x.shard) h.state)
    (ap (λ (x : StoreState). x.steady) k.state ∙ ap (λ (x : StoreState). x.steady) h.state)
    (ap (λ (x : StoreState). x.rows) k.state ∙ ap (λ (x : StoreState). x.rows) h.state)
    refl (omega (arith, h.counts, k.counts))
    (λ i. k.steady (subst IsTrue (sym (ap (λ (x : StoreState). x.steady) h.state)) i) ∙ h.steady i)

pub goes_on_more : (s t u : StoreState) → GoesOn s t → GoesOn t u → GoesOn s u
goes_on_more s t u h k = becomes s u u.rows u.staged
    (ap (λ (x : StoreState). x.node) k.state ∙ ap (λ (x : StoreState). x.node) h.state)
    (ap (λ (x : StoreState). x.shard) k.state ∙ ap (λ (x : StoreState). x.shard) h.state)
    (ap (λ (x : StoreState). x.steady) k.state ∙ ap (λ (x : StoreState). x.steady) h.state)
    refl refl (omega (arith, h.counts, k.counts))
    (λ i. k.steady (subst IsTrue (sym (ap (λ (x : StoreState). x.steady) h.state)) i) ∙ h.steady i)

pub rests_more : (s t u : StoreState) → Rests s t → Rests t u → Rests s u
rests_more s t u h k = becomes s u s.rows s.staged
    (ap (λ (x : StoreState). x.node) k.state ∙ ap (λ (x : StoreState). x.node) h.state)
    (ap (λ (x : StoreState). x.shard) k.state ∙ ap (λ (x : StoreState). x.shard) h.state)
    (ap (λ (x : StoreState). x.steady) k.state ∙ ap (λ (x : StoreState). x.steady) h.state)
    (ap (λ (x : StoreState). x.rows) k.state ∙ ap (λ (x : StoreState). x.rows) h.state)
    (ap (λ (x : StoreState). x.staged) k.state ∙ ap (λ (x : StoreState). x.staged) h.state)
    (omega (arith, h.counts, k.counts))
    (λ i. k.steady (subst IsTrue (sym (ap (λ (x : StoreState). x.steady) h.state)) i) ∙ h.steady i)

pub stages_after : (changes : List Change) (s t u : StoreState) → Rests s t → Stages changes t u → Stages changes s u
stages_after changes s t u h k = becomes s u s.rows changes
    (ap (λ (x : StoreState). x.node) k.state ∙ ap (λ (x : StoreState). x.node) h.state)
    (ap (λ (x : StoreState). x.shard) k.state ∙ ap (λ (x : StoreState). x.shard) h.state)
    (ap (λ (x : StoreState). x.steady) k.state ∙ ap (λ (x : StoreState). x.steady) h.state)
    (ap (λ (x : StoreState). x.rows) k.state ∙ ap (λ (x : StoreState). x.rows) h.state)
    (ap (λ (x : StoreState). x.staged) k.state)
    (omega (arith, h.counts, k.counts))
    (λ i. k.steady (subst IsTrue (sym (ap (λ (x : StoreState). x.steady) h.state)) i) ∙ h.steady i)

-- a store with nothing staged, where no changes are to be staged
pub stages_none : (changes : List Change) (s : StoreState) → s.staged ≡ [] → changes ≡ [] → Stages changes s s
stages_none changes s h k = becomes s s s.rows changes refl refl refl refl (h ∙ sym k) (omega arith) (λ i. refl)

-- what was staged in between is dropped, so the store rests if nothing was staged before
pub dropped : (s t u : StoreState) → s.staged ≡ [] → KeepsRows s t → Discards t u → Rests s u
dropped s t u nothing h k = becomes s u s.rows s.staged
    (ap (λ (x : StoreState). x.node) k.state ∙ ap (λ (x : StoreState). x.node) h.state)
    (ap (λ (x : StoreState). x.shard) k.state ∙ ap (λ (x : StoreState). x.shard) h.state)
    (ap (λ (x : StoreState). x.steady) k.state ∙ ap (λ (x : StoreState). x.steady) h.state)
    (ap (λ (x : StoreState). x.rows) k.state ∙ ap (λ (x : StoreState). x.rows) h.state)
    (ap (λ (x : StoreState). x.staged) k.state ∙ sym nothing)
    (omega (arith, h.counts, k.counts))
    (λ i. k.steady (subst IsTrue (sym (ap (λ (x : StoreState). x.steady) h.state)) i) ∙ h.steady i)

-- a store that failed in one of several calls failed in all of them together
pub failed_later : (failure : StoreFailure) (s t u : StoreState) → GoesOn s t → Failed failure t u → Failed failure s u
failed_later failure s t u h k = record {
  of_node = sym (ap (λ (x : StoreState). x.node) h.state) ∙ k.of_node;
  of_shard = sym (ap (λ (x : StoreState). x.shard) h.state) ∙ k.of_shard;
  unsteady = sym (ap (λ (x : StoreState). x.steady) h.state) ∙ k.unsteady;
  from = omega (arith, h.counts, k.from);
  rose = k.rose;
  to = k.to;
}

pub failed_before : (failure : StoreFailure) (s t u : StoreState) → Failed failure s t → GoesOn t u → Failed failure s u
failed_before failure s t u h k = record {
  of_node = h.of_node;
  of_shard = h.of_shard;
  unsteady = h.unsteady;
  from = h.from;
  rose = h.rose;
  to = omega (arith, h.to, k.counts);
}
