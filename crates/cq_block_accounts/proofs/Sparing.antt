-- Nodes whose stores are all steady, behind a block.
use Rattle.std.proofs.Common.{◌≡◌, ℕ, zero, suc, ◌<◌, List, [], ◌∷◌, ◌++◌, length, refl, sym, ◌∙◌, ap, subst, arith, Some, slice_get}
use Rattle.std.specs.Prelude.{IsTrue, drop}
use Rattle.std.specs.List.{AllByRecursion}
use Rattle.cq_value.proofs.Lists.{all_both, all_append, all_left, all_right}
use Rattle.cq_tree.specs.declared.failure.StoreFailure.{StoreFailure}
use Rattle.cq_answer.specs.declared.answer.Answer.{Answer}
use Rattle.cq_answer.specs.declared.answer.Answer.TheVariants as answer
use Rattle.cq_answer.specs.declared.answered.Answered.{Answered}
use Rattle.cq_answer.specs.declared.fault.Fault.TheVariants as fault
use Rattle.cq_store.specs.Stores.{StoreState}
use Rattle.cq_store.specs.declared.worker.Worker.{Worker}
use Rattle.cq_history.specs.Phases.{who_of}
use Rattle.cq_history.specs.Refusals.{rules}
use Rattle.cq_history.proofs.Lists.{got_below}
use Rattle.cq_group.specs.declared.group.GroupState.{GroupState}
use Rattle.cq_group.specs.Groups.{stores_of}
use Rattle.cq_cell.specs.Lists.{AllThree, Distinct}
use Rattle.cq_cell.specs.Passes.{IsOver}
use Rattle.cq_cell.proofs.Zips.{zip_long}
use Rattle.cq_cluster.specs.declared.cluster.Cluster.{Cluster}
use Rattle.cq_cluster.specs.declared.retired.Retired.{Retired}
use Rattle.cq_cluster.specs.Accounts.{AreRetired}
use Rattle.cq_cluster.specs.Steady.{AreSteady, IsSteadyAt, KeepsSteady, NamesNoSteady, RetiredAreSteady, WorkersAreSteady}
use Rattle.cq_cluster.proofs.ListLaws.{item_at}
use Rattle.cq_cluster.proofs.SteadyLaws.{all_got}
use Rattle.cq_shared.specs.Terms.{Terms}
use Rattle.cq_shared.specs.declared.note.Note.{Note}
use Rattle.cq_shared.specs.declared.note.Note.TheVariants as note
use Rattle.cq_shared.specs.Notes.{who_of as noted_by, MayNote}
use Rattle.cq_shared.specs.Quiet.{Blames}
use Rattle.cq_shared.specs.Seen.{Pass}
use Rattle.cq_block_laws.specs.Closing.{Session, numbers_of, answers_of}
use Rattle.cq_block_laws.specs.Serving.{Opening}
use Rattle.cq_block_laws.specs.Sessions.{Hands, AreServedBy, HasRun, IsSpared, RanAt, retired_by}
use Rattle.cq_block_laws.proofs.Histories.{IsRow, as_many, group_ran, histories, histories_count, history_ran, rows, served_go_on}
use Rattle.cq_block_laws.proofs.Places.{same_there, zip_got}
use Rattle.cq_block_laws.proofs.Retiring.{block_retires_all}
use Rattle.cq_block_laws.proofs.Settled.{block_settles}
use Rattle.cq_block_accounts.specs.Cluster.{IsBehind, used_workers, unused_workers}
use Rattle.cq_block_accounts.proofs.Lost.{each_told}
use Rattle.cq_block_accounts.proofs.Telling.{all_own}

all_drop : {A : Type 0} (P : A → Type 0) (n : ℕ) (xs : List A) → AllByRecursion P xs → AllByRecursion P (drop n xs)
all_drop P zero xs all = all
all_drop P (suc n) [] all = tt
all_drop P (suc n) (x ∷ xs) all = all_drop P n xs all.1

-- ---- the failures that sessions tell of

module _ {X C : Type 0} (state : X → StoreState) (terms : C → Terms) (nodes : ℕ) (o : Opening) (opened : List (GroupState X)) (workers : List (Worker X)) (sessions : List Session) (closed : List (GroupState X)) (returned : List (Worker X))
    (h : HasRun state terms rules nodes o opened workers sessions closed returned) where
  abbrev IsOfOther : Note → Type 0
  IsOfOther n = MayNote (terms h.shared_by) n

  abbrev Row : Session → Hands X C → Hands X C → Type 0
  Row = IsRow state terms rules nodes o opened workers sessions closed returned h

  abbrev AreSpared : List (Pass X C) → Type 0
  AreSpared passes = (i : ℕ) (q : Pass X C) → slice_get passes i ≡ Some q → AllByRecursion IsOfOther q.place.me.0.mine

  by_pass : (p q : Pass X C) (notes : List Note) → p ≡ q → IsOver noted_by notes p → AllByRecursion IsOfOther notes → AllByRecursion IsOfOther q.place.me.0.mine
  by_pass p q notes same over all = subst (λ (v : Pass X C). AllByRecursion IsOfOther v.place.me.0.mine) same (subst (AllByRecursion IsOfOther) (sym over.mine) (all_own noted_by IsOfOther p.place.me.0.number notes all))

  noted_spared : (s : Session) (first last : Hands X C) → Row s first last → AreSpared last.passes
  noted_spared s first last row i q there =
      let all = histories state terms rules nodes o opened workers sessions closed returned h in
      let low : i < length opened =
      (let b = got_below last.passes i q there in let n = zip_long (IsOver noted_by) all last.passes row.over in let m = histories_count state terms rules nodes o opened workers sessions closed returned h in omega (arith, b, n, m)) in
      let g = item_at opened i low in
      let x = item_at closed i (let n = as_many state terms rules nodes o opened workers sessions closed returned h in omega (arith, low, n)) in
      let l = item_at all i (let m = histories_count state terms rules nodes o opened workers sessions closed returned h in omega (arith, low, m)) in
      let r = history_ran state terms rules nodes o opened workers sessions closed returned h i g.0 x.0 l.0 g.1 x.1 l.1 in
      let over = zip_got (IsOver noted_by) all last.passes i l.0 row.over l.1 in
      by_pass over.item q l.0 (same_there last.passes i over.item q over.there there) over.holds r.spares

  -- no answer tells of a failure on a node that is to be steady
  abbrev pub TellsOfOther : Answered → Type 0
  TellsOfOther a = (failure : StoreFailure) → a.answer ≡ answer.Failed (fault.Worker failure) → (terms h.shared_by).steady failure.node → ⊥

  served_tells : (first : Hands X C) (answers : List Answered) (last : Hands X C) → AreServedBy state terms rules nodes o first answers last → AreSpared last.passes → AllByRecursion TellsOfOther answers
  served_tells first [] last served all = tt
  served_tells first (a ∷ more) last served all = (λ failure is. blamed failure (served.1.blames failure is), served_tells served.0 more last served.2 all)
    where
      blamed : (failure : StoreFailure) → Blames (who_of a) failure first.passes served.0.passes → (terms h.shared_by).steady failure.node → ⊥
      blamed failure b =
          let n = b.noted in
          let later = served_go_on state terms rules nodes o served.0 more last served.2 in
          let q = item_at last.passes b.group (let low = got_below served.0.passes b.group n.after n.is in let m = later.count in omega (arith, low, m)) in
          let on = later.each b.group n.after q.0 n.is q.1 in
          let before = n.before.place.me.0.mine in
          let failed = note.Failed (who_of a) failure ∷ [] in
          let seen : AllByRecursion IsOfOther ((before ++ n.holds.0 ++ failed) ++ on.notes) = subst (AllByRecursion IsOfOther) (on.mine ∙ ap (λ v. v ++ on.notes) n.holds.1) (all b.group q.0 q.1) in
          (all_right IsOfOther (before ++ n.holds.0) failed (all_left IsOfOther (before ++ n.holds.0 ++ failed) on.notes seen)).0

  all_tell : (ss : List Session) (fs ls : List (Hands X C)) → AllThree Row ss fs ls → AllByRecursion TellsOfOther (answers_of ss)
  all_tell [] fs ls rs = tt
  all_tell (s ∷ ss) [] ls rs = absurd rs
  all_tell (s ∷ ss) (f ∷ fs) [] rs = absurd rs
  all_tell (s ∷ ss) (f ∷ fs) (l ∷ ls) rs =
      all_append TellsOfOther s.answers (answers_of ss) (served_tells f s.answers l rs.0.served (noted_spared s f l rs.0)) (all_tell ss fs ls rs.1)

  pub block_tells_of_other : AllByRecursion TellsOfOther (answers_of sessions)
  block_tells_of_other = all_tell sessions h.firsts h.lasts (rows state terms rules nodes o opened workers sessions closed returned h)

-- ---- the cluster

module _ {X C : Type 0} (state : X → StoreState) (terms : C → Terms) (o : Opening) (sessions : List Session) (old new : Cluster X) (returned : List (Worker X))
    (h : HasRun state terms rules old.nodes o old.groups.items (used_workers old) sessions new.groups.items returned) where
  retires : AreRetired (answers_of sessions) (retired_by h.lasts) × AllByRecursion (IsSpared state terms h.shared_by) (retired_by h.lasts)
  retires = block_retires_all state terms rules old.nodes o old.groups.items (used_workers old) sessions new.groups.items returned h

  -- nodes that are to be steady have only steady stores
  pub keeps_steady : Distinct (numbers_of sessions) → IsBehind returned (retired_by h.lasts) old new → ((node : ℕ) → IsSteadyAt state old node → (terms h.shared_by).steady node) → KeepsSteady state old new
  keeps_steady apart behind kept node was =
      let steady = kept node was in record {
        groups = all_got (λ (g : GroupState X). AreSteady state node (stores_of g)) new.groups.items (λ k x there.
            let same = as_many state terms rules old.nodes o old.groups.items (used_workers old) sessions new.groups.items returned h in
            let g = item_at old.groups.items k (let low = got_below new.groups.items k x there in omega (arith, low, same)) in
            (group_ran state terms rules old.nodes o old.groups.items (used_workers old) sessions new.groups.items returned h k g.0 x g.1 there).1.steady node steady);
        workers = subst (WorkersAreSteady state node) (sym behind.workers) (all_append (λ (w : Worker X). AreSteady state node w.stores.items) returned (unused_workers old) (back steady)
            (all_drop (λ (w : Worker X). AreSteady state node w.stores.items) old.nodes old.workers.items was.workers));
        retired = subst (RetiredAreSteady state node) (sym behind.retired)
            (all_append (λ (r : Retired X). (state r.store).node ≡ node → IsTrue (state r.store).steady) old.retired.items (retired_by h.lasts) was.retired (others steady (retired_by h.lasts) retires.1));
      }
    where
      settles : (length returned ≡ length (used_workers old)) × ((at : ℕ) (w v : Worker X) → slice_get (used_workers old) at ≡ Some w → slice_get returned at ≡ Some v → RanAt state terms h.shared_by o (answers_of sessions) at w v)
      settles = block_settles state terms rules old.nodes o old.groups.items (used_workers old) sessions new.groups.items returned h apart

      back : (terms h.shared_by).steady node → WorkersAreSteady state node returned
      back steady = all_got (λ (w : Worker X). AreSteady state node w.stores.items) returned (λ k v there.
          let w = item_at (used_workers old) k (let low = got_below returned k v there in let same = settles.0 in omega (arith, low, same)) in
          let ran = settles.1 k w.0 v w.1 there in
          subst (λ (u : Worker X). AreSteady state node u.stores.items) ran.closes (ran.stands.steady node (subst (λ (c : C). (terms c).steady node) (sym ran.opens.1) steady)))

      others : (terms h.shared_by).steady node → (rs : List (Retired X)) → AllByRecursion (IsSpared state terms h.shared_by) rs → RetiredAreSteady state node rs
      others steady [] all = tt
      others steady (r ∷ rs) all = (
        (λ is. absurd (all.0.1 (subst (terms h.shared_by).steady (sym is ∙ all.0.0.of_node) steady))),
        others steady rs all.1,
      )

  by_answer : (a : Answer) → ((failure : StoreFailure) → a ≡ answer.Failed (fault.Worker failure) → (terms h.shared_by).steady failure.node → ⊥) →
      ((failure : StoreFailure) → a ≡ answer.Failed (fault.Retired failure) → (terms h.shared_by).steady failure.node → ⊥) → ((node : ℕ) → IsSteadyAt state old node → (terms h.shared_by).steady node) → NamesNoSteady state old a
  by_answer (answer.Failed (fault.Worker failure)) tells lost kept node was is = tells failure refl (subst (terms h.shared_by).steady (sym is) (kept node was))
  by_answer (answer.Failed (fault.Retired failure)) tells lost kept node was is = lost failure refl (subst (terms h.shared_by).steady (sym is) (kept node was))
  by_answer (answer.Failed f) tells lost kept node was is = is
  by_answer (answer.Tag t) tells lost kept node was is = is
  by_answer (answer.Table names values) tells lost kept node was is = is

  -- and no answer names one
  pub names_none : ((node : ℕ) → IsSteadyAt state old node → (terms h.shared_by).steady node) → AllByRecursion (λ (a : Answered). NamesNoSteady state old a.answer) (answers_of sessions)
  names_none kept =
      all_both (λ (a : Answered). (failure : StoreFailure) → a.answer ≡ answer.Failed (fault.Worker failure) → (terms h.shared_by).steady failure.node → ⊥)
      (λ (a : Answered). (failure : StoreFailure) → a.answer ≡ answer.Failed (fault.Retired failure) → (terms h.shared_by).steady failure.node → ⊥) (λ (a : Answered). NamesNoSteady state old a.answer)
      (λ a tells lost. by_answer a.answer tells lost kept) (answers_of sessions)
      (block_tells_of_other state terms old.nodes o old.groups.items (used_workers old) sessions new.groups.items returned h)
      (each_told (λ n. (terms h.shared_by).steady n → ⊥) (answers_of sessions) (retired_by h.lasts) retires.0 (spares (retired_by h.lasts) retires.1))
    where
      spares : (rs : List (Retired X)) → AllByRecursion (IsSpared state terms h.shared_by) rs → AllByRecursion (λ (r : Retired X). (terms h.shared_by).steady r.node → ⊥) rs
      spares [] all = tt
      spares (r ∷ rs) all = (all.0.1, spares rs all.1)
