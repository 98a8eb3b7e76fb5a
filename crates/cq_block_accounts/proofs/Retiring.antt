-- The stores that a block retired.
use Rattle.std.proofs.Common.{◌≡◌, inl, inr, ℕ, false, List, [], ◌∷◌, ◌++◌, map, filter, refl, sym, ◌∙◌, ap, subst, Some, None, Option, append-nil, append_assoc}
use Rattle.std.specs.List.{AllByRecursion, AllZip, flat_map}
use Rattle.std.proofs.lemmas.List.{map-append}
use Rattle.std.proofs.lemmas.List.Elements.{filter-append}
use Rattle.cq_value.proofs.Truths.{two_ways}
use Rattle.cq_tree.specs.declared.statement.Statement.{Statement}
use Rattle.cq_tree.specs.declared.statement.Statement.TheVariants as statement
use Rattle.cq_answer.specs.declared.answer.Answer.{Answer}
use Rattle.cq_answer.specs.declared.answer.Answer.TheVariants as answer
use Rattle.cq_answer.specs.declared.answered.Answered.{Answered}
use Rattle.cq_answer.specs.declared.fault.Fault.{Fault}
use Rattle.cq_answer.specs.declared.fault.Fault.TheVariants as fault
use Rattle.cq_history.specs.Run.{Environment, retiring, after, environment_from}
use Rattle.cq_history.specs.Phases.{MayBeInBlock}
use Rattle.cq_cluster.specs.declared.retired.Retired.{Retired}
use Rattle.cq_cluster.specs.Accounts.{AreRetired, StandsFor, tells_retired, is_retiring}
use Rattle.cq_block_accounts.specs.Accounts.{RetiredOn, SessionsRetire, IsMove, MayRetire, BlockRetires}

-- ---- one answer

abbrev with_retired : Environment → List ℕ → Environment
with_retired e retired = record e { retired = retired }

-- an answer that tells of no retired store leaves it
fault_leaves : (e : Environment) (f : Fault) → tells_retired (answer.Failed f) ≡ false → retiring e f ≡ e
fault_leaves e (fault.Retired failure) none = absurd (cc none)
fault_leaves e f none = refl

pub leaves : (e : Environment) (bound : Option Statement) (a : Answer) → MayBeInBlock bound → tells_retired a ≡ false → after e bound a ≡ e
leaves e None (answer.Failed f) m none = refl
leaves e None (answer.Tag t) m none = refl
leaves e None (answer.Table names rows) m none = refl
leaves e (Some (statement.Select q)) (answer.Failed f) m none = refl
leaves e (Some (statement.Select q)) (answer.Tag t) m none = refl
leaves e (Some (statement.Select q)) (answer.Table names rows) m none = refl
leaves e (Some (statement.Write op)) (answer.Failed f) m none = refl
leaves e (Some (statement.Write op)) (answer.Tag t) m none = refl
leaves e (Some (statement.Write op)) (answer.Table names rows) m none = refl
leaves e (Some (statement.Move shard from to)) (answer.Failed f) m none = fault_leaves e f none
leaves e (Some (statement.Move shard from to)) (answer.Tag t) m none = refl
leaves e (Some (statement.Move shard from to)) (answer.Table names rows) m none = refl
leaves e (Some s) a m none = absurd m

-- a move's answer that tells of one has its node put behind
adds : (e : Environment) (bound : Option Statement) (a : Answer) (node shard before rose : ℕ) → IsMove bound → a ≡ answer.Failed (fault.Retired (record { node = node; shard = shard; before = before; after = rose })) → after e bound a ≡ with_retired e (e.retired ++ node ∷ [])
adds e None a node shard before rose m is = absurd m
adds e (Some (statement.Move shard from to)) a node id before rose m is = ap (after e (Some (statement.Move shard from to))) is
adds e (Some s) a node shard before rose m is = absurd m

-- ---- all answers

module _ {X : Type 0} where
  zip_append : (xs us : List Answered) (ys vs : List (Retired X)) → AllZip StandsFor xs ys → AllZip StandsFor us vs → AllZip StandsFor (xs ++ us) (ys ++ vs)
  zip_append [] us [] vs z w = w
  zip_append [] us (y ∷ ys) vs z w = absurd z
  zip_append (x ∷ xs) us [] vs z w = absurd z
  zip_append (x ∷ xs) us (y ∷ ys) vs z w = (z.0, zip_append xs us ys vs z.1 w)

  both_retired : (answers block : List Answered) (old more : List (Retired X)) → AreRetired answers old → AreRetired block more → AreRetired (answers ++ block) (old ++ more)
  both_retired answers block old more h k =
      subst (λ v. AllZip StandsFor v (old ++ more)) (sym (filter-append is_retiring answers block)) (zip_append (filter is_retiring answers) (filter is_retiring block) old more h k)

  pub retired_on : RetiredOn X
  retired_on answers block old new r h = subst (AreRetired (answers ++ block)) (sym r.1) (both_retired answers block old r.0 h r.2)

  pub sessions_retire : SessionsRetire X
  sessions_retire [] all = tt
  sessions_retire (s ∷ sessions) all =
      both_retired s.0 (flat_map (λ (s : List Answered × List (Retired X)). s.0) sessions) s.1 (flat_map (λ (s : List Answered × List (Retired X)). s.1) sessions) all.0 (sessions_retire sessions all.1)

  -- ---- the environment

  abbrev nodes_of : List (Retired X) → List ℕ
  nodes_of retired = map (λ (r : Retired X). r.node) retired

  behind : (e : Environment) (block : List Answered) (more : List (Retired X)) → AllByRecursion MayRetire block → AreRetired block more → environment_from e block ≡ with_retired e (e.retired ++ nodes_of more)
  behind e [] [] may are = ap (with_retired e) (sym (append-nil e.retired))
  behind e [] (r ∷ more) may are = absurd are
  behind e (a ∷ block) more may are = elim (two_ways (is_retiring a)) [
    | inl y ↦ first more (let h : AllZip StandsFor (a ∷ filter is_retiring block) more = rw y at are in h) (may.0.moves y) (λ e more are. behind e block more may.1 are)
    | inr n ↦ ap (λ v. environment_from v block) (leaves e a.bound a.answer may.0.allowed n) ∙ behind e block more may.1 (let h : AllZip StandsFor (filter is_retiring block) more = rw n at are in h)
  ]
    where
      first : (rs : List (Retired X)) → AllZip StandsFor (a ∷ filter is_retiring block) rs → IsMove a.bound →
          ((v : Environment) (ms : List (Retired X)) → AreRetired block ms → environment_from v block ≡ with_retired v (v.retired ++ nodes_of ms)) → environment_from e (a ∷ block) ≡ with_retired e (e.retired ++ nodes_of rs)
      first [] z m rest = absurd z
      first (r ∷ rs) z m rest =
          ap (λ v. environment_from v block) (adds e a.bound a.answer r.node z.0.0 r.before r.after m z.0.1)
          ∙ rest (with_retired e (e.retired ++ r.node ∷ [])) rs z.1
          ∙ ap (with_retired e) (append_assoc e.retired (r.node ∷ []) (nodes_of rs))

  pub block_retires : BlockRetires X
  block_retires e block old new may r was =
      behind e block r.0 may r.2
      ∙ ap (with_retired e) (ap (λ v. v ++ nodes_of r.0) was ∙ sym (map-append (λ (r : Retired X). r.node) old r.0) ∙ ap nodes_of (sym r.1))
