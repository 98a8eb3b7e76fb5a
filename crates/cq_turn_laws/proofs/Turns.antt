-- Statements that run one after the other, whichever they are.
use Rattle.std.proofs.Common.{◌≡◌, inl, inr, ℕ, List, [], ◌∷◌, ◌++◌, length, refl, sym, ◌∙◌, ap, subst, Option, Some, None, append-nil, append_assoc}
use Rattle.std.specs.List.{AllByRecursion}
use Rattle.std.proofs.lemmas.Bool.{cases_lt}
use Rattle.cq_value.proofs.Lists.{all_weaker, all_append, got_last}
use Rattle.cq_tree.specs.declared.journal.Who.{Who}
use Rattle.cq_tree.specs.declared.journal.Entry.{Entry}
use Rattle.cq_tree.specs.declared.journal.EntryKind.{EntryKind}
use Rattle.cq_tree.specs.declared.statement.Statement.{Statement}
use Rattle.cq_tree.specs.declared.statement.Statement.TheVariants as statement
use Rattle.cq_catalog.specs.Contents.{Contents}
use Rattle.cq_answer.specs.declared.answer.Answer.{Answer}
use Rattle.cq_answer.specs.declared.answer.Answer.TheVariants as answer
use Rattle.cq_answer.specs.declared.answered.Answered.{Answered}
use Rattle.cq_answer.specs.declared.fault.Fault.TheVariants as fault
use Rattle.cq_journal.specs.Records.{Journal}
use Rattle.cq_history.specs.Run.{Run, Rules, Environment, after, environment_from}
use Rattle.cq_history.specs.Phases.{who_of, MayBeInBlock, IsOf}
use Rattle.cq_history.specs.Journals.{journal_in, Kinds, kinds_in, with_entries, consecutive}
use Rattle.cq_history.specs.Legality.{IsLegalStep, IsLegal}
use Rattle.cq_history.specs.Deeds.{Grows}
use Rattle.cq_history.specs.Log.{IsAnswered}
use Rattle.cq_history.proofs.Doing.{with_both}
use Rattle.cq_history.proofs.Entries.{all_own}
use Rattle.cq_history.proofs.Later.{legal_later}
use Rattle.cq_history.proofs.Phasing.{legal_more, legal_fresh, get_left}
use Rattle.cq_history.proofs.Script.{with_none}
use Rattle.cq_history.proofs.Visiting.{visits_alone}
use Rattle.cq_turn_laws.specs.Turns.{AreInTurns}
use Rattle.cq_turn_laws.specs.Laws.{TurnsGoOn, TurnsKeep, TurnsAreLaid, TurnsAreLegal, TurnsNumber, TurnsEnter}

pub turns_go_on : TurnsGoOn
turns_go_on rules run e last next old mid new [] a h w = (
  next,
  new,
  subst (λ (v : Environment). IsAnswered rules run v next (who_of a) old new a.bound a.answer) h.0 (subst (λ (js : List Journal). IsAnswered rules run last next (who_of a) js new a.bound a.answer) h.1 w),
  (refl, refl),
)
turns_go_on rules run e last next old mid new (b ∷ block) a h w = (h.0, h.1, h.2, turns_go_on rules run h.0 last next h.1 mid new block a h.3 w)

-- ---- the environment

-- the nodes of the stores that a statement of a block retires
abbrev pub gone : Option Statement → Answer → List ℕ
gone (Some (statement.Move shard from to)) (answer.Failed (fault.Retired failure)) = failure.node ∷ []
gone bound a = []

abbrev pub retire : Environment → List ℕ → Environment
retire e retired = record { catalog = e.catalog; settings = e.settings; retired = retired }

none_gone : (e : Environment) → e ≡ retire e (e.retired ++ [])
none_gone e = ap (retire e) (sym (append-nil e.retired))

-- it leaves all else
pub left_of : (e : Environment) (bound : Option Statement) (a : Answer) → MayBeInBlock bound → after e bound a ≡ retire e (e.retired ++ gone bound a)
left_of e None (answer.Tag t) m = none_gone e
left_of e None (answer.Table names rows) m = none_gone e
left_of e None (answer.Failed f) m = none_gone e
left_of e (Some (statement.Select q)) (answer.Tag t) m = none_gone e
left_of e (Some (statement.Select q)) (answer.Table names rows) m = none_gone e
left_of e (Some (statement.Select q)) (answer.Failed f) m = none_gone e
left_of e (Some (statement.Write op)) (answer.Tag t) m = none_gone e
left_of e (Some (statement.Write op)) (answer.Table names rows) m = none_gone e
left_of e (Some (statement.Write op)) (answer.Failed f) m = none_gone e
left_of e (Some (statement.Move shard from to)) (answer.Tag t) m = none_gone e
left_of e (Some (statement.Move shard from to)) (answer.Table names rows) m = none_gone e
left_of e (Some (statement.Move shard from to)) (answer.Failed (fault.Retired failure)) m = refl
left_of e (Some (statement.Move shard from to)) (answer.Failed f) m = none_gone e
left_of e (Some s) a m = absurd m

block_keeps : (e : Environment) (block : List Answered) → AllByRecursion (λ (a : Answered). MayBeInBlock a.bound) block →
    ((environment_from e block).catalog ≡ e.catalog) × ((environment_from e block).settings ≡ e.settings)
block_keeps e [] all = (refl, refl)
block_keeps e (a ∷ block) all =
    let one = left_of e a.bound a.answer all.0 in
    let rest = block_keeps (after e a.bound a.answer) block all.1 in
    (rest.0 ∙ ap (λ (v : Environment). v.catalog) one, rest.1 ∙ ap (λ (v : Environment). v.settings) one)

pub turns_leave : (rules : Rules) (run : Run) (e last : Environment) (old new : List Journal) (block : List Answered) → AreInTurns rules run e old block last new → last ≡ environment_from e block
turns_leave rules run e last old new [] h = h.0
turns_leave rules run e last old new (a ∷ block) h = turns_leave rules run h.0 last h.1 new block h.3 ∙ ap (λ (v : Environment). environment_from v block) (sym h.2.leads)

pub turns_keep : TurnsKeep
turns_keep rules run e last old new block h =
    let is = turns_leave rules run e last old new block h in (
      is,
      λ may. (let k = block_keeps e block may in (ap (λ (v : Environment). v.catalog) is ∙ k.0, ap (λ (v : Environment). v.settings) is ∙ k.1)),
    )

-- ---- the journals

pub turns_are_laid : TurnsAreLaid
turns_are_laid rules run kept e last old new [] h laid = rw (h.0, h.1) laid
turns_are_laid rules run kept e last old new (a ∷ block) h laid = turns_are_laid rules run kept h.0 last h.1 new block h.3 (h.2.laid kept laid)

-- a statement's entries, each made over what stood before it
legal_with : (c : Contents) (g : ℕ) (who : Who) (j : Journal) (kinds : List EntryKind) → IsLegal c g j → AllByRecursion (IsLegalStep c g who) (consecutive who j kinds) → IsLegal c g (with_entries who kinds j)
legal_with c g who j [] l all = subst (IsLegal c g) (sym (with_none who j)) l
legal_with c g who j (k ∷ ks) l all =
    subst (IsLegal c g) (with_both who (k ∷ []) ks j) (legal_with c g who (with_entries who (k ∷ []) j) ks (legal_more c g j who k l all.0.0 all.0.1) all.1)

module _ (rules : Rules) (run : Run) (e next : Environment) (who : Who) (old new : List Journal) (bound : Option Statement) (a : Answer) (w : IsAnswered rules run e next who old new bound a) where
  abbrev pub added : Kinds
  added g = kinds_in (w.deed.made g)

  pub grows : Grows who added old new
  grows = (visits_alone who w.deed old old new w.visits).0

  pub made_is : (g : ℕ) → w.deed.made g ≡ consecutive who (journal_in old g) (added g)
  made_is = (visits_alone who w.deed old old new w.visits).1

  pub stays_legal : ((g : ℕ) → IsLegal e.catalog g (journal_in old g)) → (g : ℕ) → IsLegal next.catalog g (journal_in new g)
  stays_legal legal g = elim (cases_lt g (length old)) [
    | inl l ↦
        legal_later e.catalog next.catalog w.on g (journal_in new g)
        (subst (IsLegal e.catalog g) (sym (grows.kept g l)) (legal_with e.catalog g who (journal_in old g) (added g) (legal g) (subst (AllByRecursion (IsLegalStep e.catalog g who)) (made_is g) (w.does.legal g))))
    | inr m ↦ legal_fresh next.catalog g (journal_in new g) (grows.fresh g m).0
  ]

  stays_numbered : ((g : ℕ) → (journal_in old g).number ≡ g) → (g : ℕ) → (journal_in new g).number ≡ g
  stays_numbered number g = elim (cases_lt g (length old)) [
    | inl l ↦ ap (λ (j : Journal). j.number) (grows.kept g l) ∙ number g
    | inr m ↦ (grows.fresh g m).0.number
  ]

  -- what holds of the entries so far and of the statement's own
  all_entries : (P : Who → Type 0) → P who → ((g : ℕ) → AllByRecursion (λ (f : Entry). P f.who) (journal_in old g).entries) → (g : ℕ) → AllByRecursion (λ (f : Entry). P f.who) (journal_in new g).entries
  all_entries P own all g = elim (cases_lt g (length old)) [
    | inl l ↦ subst (λ (j : Journal). AllByRecursion (λ (f : Entry). P f.who) j.entries) (sym (grows.kept g l))
        (all_append (λ (f : Entry). P f.who) (journal_in old g).entries _ (all g) (all_own (λ (f : Entry). P f.who) who (added g) (λ k. own)))
    | inr m ↦ subst (AllByRecursion (λ (f : Entry). P f.who)) (sym (grows.fresh g m).0.entries) tt
  ]

pub turns_are_legal : TurnsAreLegal
turns_are_legal rules run e last old new [] h legal = rw (h.0, h.1) legal
turns_are_legal rules run e last old new (a ∷ block) h legal =
    turns_are_legal rules run h.0 last h.1 new block h.3 (stays_legal rules run e h.0 (who_of a) old h.1 a.bound a.answer h.2 legal)

pub turns_number : TurnsNumber
turns_number rules run e last old new [] h number = rw h.1 number
turns_number rules run e last old new (a ∷ block) h number =
    turns_number rules run h.0 last h.1 new block h.3 (stays_numbered rules run e h.0 (who_of a) old h.1 a.bound a.answer h.2 number)

pub turns_enter : TurnsEnter
turns_enter rules run e last old new answers [] h of = rw (h.1, append-nil answers) of
turns_enter rules run e last old new answers (a ∷ block) h of =
    subst (λ (v : List Answered). (g : ℕ) → AllByRecursion (λ (f : Entry). IsOf v f.who) (journal_in new g).entries) (append_assoc answers (a ∷ []) block)
    (turns_enter rules run h.0 last h.1 new (answers ++ a ∷ []) block h.3
    (all_entries rules run e h.0 (who_of a) old h.1 a.bound a.answer h.2 (IsOf (answers ++ a ∷ []))
    (record { answered = a; place = length answers; there = got_last answers a; is = refl })
    (λ g. all_weaker (λ (f : Entry). IsOf answers f.who) (λ (f : Entry). IsOf (answers ++ a ∷ []) f.who)
    (λ f o. record { answered = o.answered; place = o.place; there = get_left answers (a ∷ []) o.place o.answered o.there; is = o.is }) (journal_in old g).entries (of g))))
