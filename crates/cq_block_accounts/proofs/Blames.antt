-- The failures that a session's answers name are some of those that it noted.
use Rattle.std.proofs.Common.{◌≡◌, ◌<◌, inl, inr, ℕ, List, [], ◌∷◌, ◌++◌, refl, sym, ◌∙◌, ap, subst, append_assoc, Some}
use Rattle.std.specs.Prelude.{slice_get}
use Rattle.std.specs.List.{AllByRecursion}
use Rattle.std.proofs.lemmas.Bool.Decides.{eqb_tells}
use Rattle.std.proofs.lemmas.Grind.{flat_map-append}
use Rattle.cq_value.proofs.Lists.{all_left, all_right, append_nil}
use Rattle.cq_tree.specs.declared.failure.StoreFailure.{StoreFailure}
use Rattle.cq_tree.specs.declared.journal.Who.{Who}
use Rattle.cq_catalog.specs.Contents.{Contents}
use Rattle.cq_catalog.specs.Whole.{IsWhole}
use Rattle.cq_answer.specs.declared.answer.Answer.{Answer}
use Rattle.cq_answer.specs.declared.answer.Answer.TheVariants as answer
use Rattle.cq_answer.specs.declared.answered.Answered.{Answered}
use Rattle.cq_answer.specs.declared.fault.Fault.TheVariants as fault
use Rattle.cq_history.specs.Run.{Rules}
use Rattle.cq_history.specs.Faults.{IsShardIn, NamesBelow, range_in, ranges_of}
use Rattle.cq_history.specs.Phases.{who_of}
use Rattle.cq_cluster.proofs.AnswerLaws.{given_out}
use Rattle.cq_shared.specs.declared.note.Note.{Note}
use Rattle.cq_shared.specs.declared.note.Note.TheVariants as note
use Rattle.cq_shared.specs.Quiet.{Blames}
use Rattle.cq_shared.specs.Seen.{Pass}
use Rattle.cq_shared.specs.Terms.{Terms}
use Rattle.cq_shared.specs.Writes.{InBoth}
use Rattle.cq_store.specs.Stores.{StoreState}
use Rattle.cq_block_laws.specs.Serving.{Opening}
use Rattle.cq_block_laws.specs.Sessions.{Hands, PassesGoOn, ServesOne, AreServedBy}
use Rattle.cq_block_laws.proofs.Histories.{served_go_on}
use Rattle.cq_block_laws.proofs.Places.{got_as, same_there}
use Rattle.cq_block_accounts.proofs.Parts.{IsPart, part_none, part_all, part_more}
use Rattle.cq_block_accounts.proofs.Failures.{noted_in, ranges_noted, IsOfFailed}

pub behind_same : {A : Type 0} (xs ys zs : List A) → xs ++ ys ≡ xs ++ zs → ys ≡ zs
behind_same [] ys zs e = e
behind_same (x ∷ xs) ys zs e = behind_same xs ys zs (let h : xs ++ ys ≡ xs ++ zs = cc in h)

names_below : (next : ℕ) (b : Answer) → ((f : StoreFailure) → b ≡ answer.Failed (fault.Worker f) → f.shard < next) → NamesBelow next b
names_below next (answer.Failed (fault.Worker f)) low = low f refl
names_below next b low = tt

module _ {X C : Type 0} (state : X → StoreState) (terms : C → Terms) (c : Contents) where
  -- passes that noted failures of their groups' shards alone
  abbrev pub AllOfGroup : List (Pass X C) → Type 0
  AllOfGroup passes = (j : ℕ) (q : Pass X C) → slice_get passes j ≡ Some q → AllByRecursion (IsOfFailed (IsShardIn c j)) q.place.me.0.mine

  before : (old new : List (Pass X C)) → PassesGoOn old new → AllOfGroup new → AllOfGroup old
  before old new go all j p at =
      let q = got_as old new j p (sym go.count) at in
      all_left (IsOfFailed (IsShardIn c j)) p.place.me.0.mine (go.each j p q.0 at q.1).notes (subst (AllByRecursion (IsOfFailed (IsShardIn c j))) (go.each j p q.0 at q.1).mine (all j q.0 q.1))

  -- a failure that an answer names is of a shard of the group in which it was noted
  noted_group : (who : Who) (f : StoreFailure) (old new : List (Pass X C)) → AllOfGroup new → (b : Blames who f old new) → IsShardIn c b.group f.shard
  noted_group who f old new all b =
      let n = b.noted in
      (all_right (IsOfFailed (IsShardIn c b.group)) (n.before.place.me.0.mine ++ n.holds.0) (note.Failed who f ∷ []) (subst (AllByRecursion (IsOfFailed (IsShardIn c b.group))) n.holds.1 (all b.group n.after n.is))).0

  -- so the answers of a session name no shard that isn't given out
  pub session_below : (rules : Rules) (nodes : ℕ) (o : Opening) → IsWhole c → (old : Hands X C) (answers : List Answered) (new : Hands X C) → AreServedBy state terms rules nodes o old answers new → AllOfGroup new.passes →
      AllByRecursion (λ (a : Answered). NamesBelow c.next_shard a.answer) answers
  session_below rules nodes o whole old [] new h all = tt
  session_below rules nodes o whole old (a ∷ more) new h all = (
    names_below c.next_shard a.answer (λ f e.
        let b = h.1.blames f e in
        given_out c b.group f.shard whole (noted_group (who_of a) f old.passes h.0.passes (before h.0.passes new.passes (served_go_on state terms rules nodes o h.0 more new h.2) all) b)),
    session_below rules nodes o whole h.0 more new h.2 all,
  )

  module _ (rules : Rules) (nodes : ℕ) (o : Opening) (i node shard : ℕ) (one : (j k id : ℕ) → IsShardIn c j id → IsShardIn c k id → j ≡ k) (here : IsShardIn c i shard) where
    -- one answer, by what its session noted in the store's group meanwhile
    module _ (a : Answered) (old new : Hands X C) (serves : ServesOne state terms rules nodes o a old new) (all : AllOfGroup new.passes) (p q : Pass X C) (was : slice_get old.passes i ≡ Some p) (is : slice_get new.passes i ≡ Some q) (notes : List Note)
        (mine : q.place.me.0.mine ≡ p.place.me.0.mine ++ notes) where
      -- the pass noted this last
      abbrev EndsSo : StoreFailure → Pass X C → Pass X C → Type 0
      EndsSo f u v = (some : List Note) × (v.place.me.0.mine ≡ u.place.me.0.mine ++ some ++ note.Failed (who_of a) f ∷ [])

      last_part : (f : StoreFailure) (some : List Note) → notes ≡ some ++ note.Failed (who_of a) f ∷ [] → IsPart (range_in node shard (answer.Failed (fault.Worker f))) (ranges_noted node shard notes)
      last_part f some e =
          let r = range_in node shard (answer.Failed (fault.Worker f)) in
          subst (IsPart r) (sym (ap (ranges_noted node shard) e ∙ flat_map-append (noted_in node shard) some (note.Failed (who_of a) f ∷ [])))
          (part_more [] (ranges_noted node shard some) r (r ++ []) (part_none (ranges_noted node shard some)) (subst (IsPart r) (sym (append_nil r)) (part_all r)))

      in_group : (f : StoreFailure) → InBoth old.passes new.passes i (EndsSo f) → IsPart (range_in node shard (answer.Failed (fault.Worker f))) (ranges_noted node shard notes)
      in_group f b =
          let some = b.holds.0 in
          let its : q.place.me.0.mine ≡ (p.place.me.0.mine ++ some) ++ note.Failed (who_of a) f ∷ [] =
          subst (λ (v : Pass X C). v.place.me.0.mine ≡ (p.place.me.0.mine ++ some) ++ note.Failed (who_of a) f ∷ []) (same_there new.passes i b.after q b.is is)
          (subst (λ (u : Pass X C). b.after.place.me.0.mine ≡ (u.place.me.0.mine ++ some) ++ note.Failed (who_of a) f ∷ []) (same_there old.passes i b.before p b.was was) b.holds.1) in
          last_part f some (behind_same p.place.me.0.mine notes (some ++ note.Failed (who_of a) f ∷ []) (sym mine ∙ its ∙ append_assoc p.place.me.0.mine some (note.Failed (who_of a) f ∷ [])))

      -- a failure of the store's shard was noted in its group
      group_is : (f : StoreFailure) (b : Blames (who_of a) f old.passes new.passes) → f.shard ≡ shard → b.group ≡ i
      group_is f b e = one b.group i shard (subst (IsShardIn c b.group) e (noted_group (who_of a) f old.passes new.passes all b)) here

      by_answer : (b : Answer) → a.answer ≡ b → IsPart (range_in node shard b) (ranges_noted node shard notes)
      by_answer (answer.Failed (fault.Worker f)) e = elim (eqb_tells f.node node) [
        | inl y ↦ elim (eqb_tells f.shard shard) [
          | inl z ↦ (let b = serves.blames f e in in_group f (subst (λ j. InBoth old.passes new.passes j (EndsSo f)) (group_is f b z.1) b.noted))
          | inr z ↦ rw (y.0, z.0) (part_none (ranges_noted node shard notes))
        ]
        | inr y ↦ rw y.0 (part_none (ranges_noted node shard notes))
      ]
      by_answer b e = part_none (ranges_noted node shard notes)

      pub one_part : IsPart (range_in node shard a.answer) (ranges_noted node shard notes)
      one_part = by_answer a.answer refl

    -- what a session noted in the store's group, where it answered so
    pub record HasNoted (answers : List Answered) (p q : Pass X C) : Type 0 where
      pub notes : List Note
      pub mine : q.place.me.0.mine ≡ p.place.me.0.mine ++ notes
      pub part : IsPart (ranges_of node shard answers) (ranges_noted node shard notes)

    pub session_noted : (old : Hands X C) (answers : List Answered) (new : Hands X C) (p q : Pass X C) → AreServedBy state terms rules nodes o old answers new → AllOfGroup new.passes → slice_get old.passes i ≡ Some p →
        slice_get new.passes i ≡ Some q → HasNoted answers p q
    session_noted old [] new p q h all was is = record {
      notes = [];
      mine = ap (λ (v : Pass X C). v.place.me.0.mine) (same_there old.passes i q p (subst (λ (v : Hands X C). slice_get v.passes i ≡ Some q) h is) was) ∙ sym (append_nil p.place.me.0.mine);
      part = refl;
    }
    session_noted old (a ∷ more) new p q h all was is =
        let mid = h.0 in
        let go = h.1.goes_on in
        let m = got_as old.passes mid.passes i p (sym go.count) was in
        let on = go.each i p m.0 was m.1 in
        let rest = session_noted mid more new m.0 q h.2 all m.1 is in
        let first : IsPart (range_in node shard a.answer) (ranges_noted node shard on.notes) =
        one_part a old mid h.1 (before mid.passes new.passes (served_go_on state terms rules nodes o mid more new h.2) all) p m.0 was m.1 on.notes on.mine in record {
          notes = on.notes ++ rest.notes;
          mine = rest.mine ∙ ap (λ v. v ++ rest.notes) on.mine ∙ append_assoc p.place.me.0.mine on.notes rest.notes;
          part = subst (IsPart (ranges_of node shard (a ∷ more))) (sym (flat_map-append (noted_in node shard) on.notes rest.notes))
              (part_more (range_in node shard a.answer) (ranges_noted node shard on.notes) (ranges_of node shard more) (ranges_noted node shard rest.notes) first rest.part);
        }
