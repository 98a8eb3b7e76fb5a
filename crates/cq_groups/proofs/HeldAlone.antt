-- Over groups that are held alone a statement is answered as a serial one.
use Rattle.std.proofs.Common.{◌≡◌, inl, inr, ℕ, ◌<◌, List, length, refl, sym, ◌∙◌, ap, subst, arith, Some, None, slice_get}
use Rattle.cq_tree.specs.declared.failure.StoreFailure.{StoreFailure}
use Rattle.cq_tree.specs.declared.journal.Who.{Who}
use Rattle.cq_tree.specs.declared.statement.Statement.{Statement}
use Rattle.cq_catalog.specs.Contents.{Contents}
use Rattle.cq_journal.specs.Records.{Journal}
use Rattle.cq_journal.specs.Stations.{node_of}
use Rattle.cq_answer.specs.declared.answer.Answer.{Answer}
use Rattle.cq_answer.specs.declared.answered.Settings.{Settings}
use Rattle.cq_store.specs.Stores.{StoreState}
use Rattle.cq_history.specs.Run.{Run}
use Rattle.cq_history.specs.Journals.{journal_in}
use Rattle.cq_history.specs.Legality.{IsLegal}
use Rattle.cq_history.specs.Refusals.{rules, refusal_in}
use Rattle.cq_history.specs.Deeds.{Phase, alone}
use Rattle.cq_history.specs.Log.{IsAnswered}
use Rattle.cq_group.specs.declared.group.GroupState.{GroupState}
use Rattle.cq_group.specs.Resting.{journals_of, AreResting, GoOn, HasFailed, HasFailedAt}
use Rattle.cq_reach.specs.Seen.{Seen, all_seen, journals_in}
use Rattle.cq_reach.specs.Outlook.{Meets, MayFind, Chain, still, more, FailsLast}
use Rattle.cq_reach.specs.Alone.{outlook_alone}
use Rattle.cq_reach.proofs.Growth.{got, go_on_itself, go_on_twice}
use Rattle.cq_reach.proofs.Failing.{failed_later}
use Rattle.cq_reach.proofs.Seeing.{seen_back, seen_long, journals_seen}
use Rattle.cq_groups.specs.Reads.{AreShaped as AreShapedAlone}
use Rattle.cq_groups.specs.Found.{IsShaped, MayComeIn}
use Rattle.cq_groups.specs.Looking.{environment_at}
use Rattle.cq_groups.specs.Served.{IsWhole, IsAnsweredBy}
use Rattle.cq_groups.proofs.FoundLaws.{lists_same}

module _ {X : Type 0} (old : List (GroupState X)) where
  -- they are found as they are
  found_alone : (found : List Seen) → MayFind (outlook_alone old) found → found ≡ all_seen old
  found_alone found may = lists_same (all_seen old) found may.count (λ g l.
      let s = got found g (let c = may.count in omega (arith, c, l)) in
      s.1 ∙ sym (elim (may.each g s.0 s.1) [ inl same ↦ same | inr met ↦ met.may ]))

  pub whole_alone : (c : Contents) (nodes : ℕ) → IsWhole c nodes (all_seen old) → (found : List Seen) → MayFind (outlook_alone old) found → IsWhole c nodes found
  whole_alone c nodes whole found may = subst (IsWhole c nodes) (sym (found_alone found may)) whole

  -- groups that rest, and are those of the catalogue
  pub rests_whole : (state : X → StoreState) (c : Contents) (nodes : ℕ) → AreResting state old → AreShapedAlone c nodes old → ((g : ℕ) → IsLegal c g (journal_in (journals_of old) g)) → IsWhole c nodes (all_seen old)
  rests_whole state c nodes resting shaped legal = record {
    shaped = record {
      count = seen_long old ∙ shaped.count;
      each = λ group s at.
          let b = seen_back old group s at in
          let its = shaped.each group b.0 b.1 in
          let placed = (resting group b.0 b.1).placed in
          subst (IsShaped c nodes group) (sym b.2) (record { near = λ none. its.near (sym placed ∙ none); tables = its.tables; shards = its.shards });
    };
    legal = subst (λ (js : List Journal). (g : ℕ) → IsLegal c g (journal_in js g)) (sym (journals_seen old)) legal;
  }

  -- the answer is that of a serial statement
  pub answered_alone : (new : List (GroupState X)) (c : Contents) (nodes : ℕ) (who : Who) (s : Statement) (a : Answer) → ((p : Phase) → MayComeIn p who (λ e. ⊥) → IsAnsweredBy c nodes p who s a (all_seen old) (all_seen new)) →
      (run : Run) (settings : Settings) (retired : List ℕ) → run.workers ≡ nodes → refusal_in (environment_at c settings retired) s ≡ None →
      IsAnswered rules run (environment_at c settings retired) (environment_at c settings retired) who (journals_of old) (journals_of new) (Some s) a
  answered_alone new c nodes who s a all run settings retired workers runs =
      let h = all (alone (journals_in (all_seen old))) (λ e bad. absurd bad) run settings retired workers runs in
      subst (λ (js : List Journal). IsAnswered rules run (environment_at c settings retired) (environment_at c settings retired) who js (journals_of new) (Some s) a) (journals_seen old)
      (subst (λ (js : List Journal). IsAnswered rules run (environment_at c settings retired) (environment_at c settings retired) who (journals_in (all_seen old)) js (Some s) a) (journals_seen new) h)

module _ {V X : Type 0} (state : X → StoreState) (items : V → List (GroupState X)) where
  -- each call goes on
  pub steps_alone : (x y : V) → AreResting state (items x) → Chain (λ a b. GoOn state (items a) (items b)) x y → GoOn state (items x) (items y)
  steps_alone x y resting still = go_on_itself state (items x) resting
  steps_alone x y resting (more {y = mid} before last) = go_on_twice state (items x) (items mid) (items y) (steps_alone x mid resting before) last

  -- and a store that failed in the last one failed meanwhile
  pub failed_alone : (x y : V) (f : StoreFailure) → AreResting state (items x) → FailsLast (λ a b. GoOn state (items a) (items b)) (λ a b group failure. HasFailedAt state group failure (items a) (items b)) f x y → HasFailed state f (items x) (items y)
  failed_alone x y f resting h = (h.group, failed_later state f h.group (items x) (items h.before) (items y) (steps_alone x h.before resting h.steps) h.fails)
