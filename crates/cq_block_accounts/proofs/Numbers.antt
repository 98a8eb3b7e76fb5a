-- The numbers of a block's sessions, and of its statements.
use Rattle.std.proofs.Common.{◌≡◌, ◌≢◌, ◌+◌, ◌<◌, ◌≤◌, ℕ, zero, suc, List, [], ◌∷◌, ◌++◌, fold, length, refl, subst, arith, Some}
use Rattle.std.specs.Prelude.{slice_get}
use Rattle.std.specs.List.{AllByRecursion}
use Rattle.cq_value.proofs.Lists.{all_weaker, all_right}
use Rattle.cq_tree.specs.declared.journal.Entry.{Entry}
use Rattle.cq_tree.specs.declared.journal.EntryKind.{EntryKind}
use Rattle.cq_tree.specs.declared.journal.EntryKind.TheVariants.{Cutover}
use Rattle.cq_tree.specs.declared.journal.Who.{Who}
use Rattle.cq_answer.specs.declared.answered.Answered.{Answered}
use Rattle.cq_answer.specs.declared.answered.Settings.{Settings}
use Rattle.cq_journal.specs.Records.{Journal}
use Rattle.cq_history.specs.Journals.{journal_in}
use Rattle.cq_history.specs.Phases.{IsOf}
use Rattle.cq_history.proofs.Lists.{all_at}
use Rattle.cq_group.specs.declared.group.GroupState.{GroupState}
use Rattle.cq_group.specs.Groups.{entries_of}
use Rattle.cq_group.specs.Resting.{journals_of}
use Rattle.cq_cell.specs.Lists.{NotIn, Distinct}
use Rattle.cq_cluster.specs.Accounts.{mover_after, moved_by}
use Rattle.cq_cluster.proofs.JournalLaws.{journal_at}
use Rattle.cq_block_laws.specs.Closing.{Session, numbers_of, answers_of, AreSessions}
use Rattle.cq_block_laws.proofs.Ordered.{each_answer}
use Rattle.cq_block_accounts.specs.Blames.{AreNoMovers, SessionsAreNew}

-- ---- sessions

module _ (first count : ℕ) (given : Settings) where
  not_in : (n low : ℕ) (sessions : List Session) → n < low → AreSessions first count given low sessions → NotIn n (numbers_of sessions)
  not_in n low [] less all = tt
  not_in n low (s ∷ more) less all = ((λ same. let h = all.0 in omega (arith, less, h, same)), not_in n (s.number + 1) more (let h = all.0 in omega (arith, less, h)) all.3)

  distinct : (low : ℕ) (sessions : List Session) → AreSessions first count given low sessions → Distinct (numbers_of sessions)
  distinct low [] all = tt
  distinct low (s ∷ more) all = (not_in s.number (s.number + 1) more (omega arith) all.3, distinct (s.number + 1) more all.3)

-- ---- movers

mover_low : (kind : EntryKind) (last statement most : ℕ) → last ≤ most → statement ≤ most → mover_after last statement kind ≤ most
mover_low Cutover last statement most before now = now
mover_low kind last statement most before now = before

moved_low : (es : List Entry) (last most : ℕ) → last ≤ most → AllByRecursion (λ (e : Entry). e.who.statement ≤ most) es → fold (λ n (e : Entry). mover_after n e.who.statement e.kind) last es ≤ most
moved_low [] last most low all = low
moved_low (e ∷ es) last most low all = moved_low es (mover_after last e.who.statement e.kind) most (mover_low e.kind last e.who.statement most low all.0) all.1

each_of : {A : Type 0} (P : A → Type 0) (xs : List A) → ((i : ℕ) (x : A) → slice_get xs i ≡ Some x → P x) → AllByRecursion P xs
each_of P [] each = tt
each_of P (x ∷ xs) each = (each zero x refl, each_of P xs (λ i y at. each (suc i) y at))

module _ {X : Type 0} where
  no_movers : (answers block : List Answered) (groups : List (GroupState X)) (most : ℕ) → ((g : ℕ) → AllByRecursion (λ (e : Entry). IsOf answers e.who) (journal_in (journals_of groups) g).entries) →
      AllByRecursion (λ (a : Answered). a.statement ≤ most) answers → AllByRecursion (λ (a : Answered). most < a.statement) block → AreNoMovers block groups
  no_movers answers block groups most of_answers early late = each_of (λ (g : GroupState X). AllByRecursion (λ (a : Answered). a.statement ≢ moved_by (entries_of g)) block) groups (λ i g at.
      let low : moved_by (entries_of g) ≤ most =
      moved_low (entries_of g) 0 most (omega arith) (subst (λ (j : Journal). AllByRecursion (λ (e : Entry). e.who.statement ≤ most) j.entries) (journal_at groups i g at)
      (all_weaker (λ (e : Entry). IsOf answers e.who) (λ (e : Entry). e.who.statement ≤ most) (λ e of. answered_low e of) (journal_in (journals_of groups) i).entries (of_answers i))) in
      all_weaker (λ (a : Answered). most < a.statement) (λ (a : Answered). a.statement ≢ moved_by (entries_of g)) (λ a l same. omega (arith, low, l, same)) block late)
    where
      answered_low : (e : Entry) → IsOf answers e.who → e.who.statement ≤ most
      answered_low e of = subst (λ (w : Who). w.statement ≤ most) of.is (all_at (λ (a : Answered). a.statement ≤ most) answers of.place of.answered early of.there)

  pub sessions_are_new : SessionsAreNew X
  sessions_are_new rules run before past answers e groups count given sessions whole are = record {
    distinct = distinct (length all + 1) count given 1 sessions are;
    movers = no_movers answers (answers_of sessions) groups (length all) whole.log.of_answers early late;
    numbers = all_weaker (λ (a : Answered). length all < a.statement) (λ (a : Answered). AllByRecursion (λ (b : Answered). b.statement ≢ a.statement) answers)
        (λ a l. all_weaker (λ (b : Answered). b.statement ≤ length all) (λ (b : Answered). b.statement ≢ a.statement) (λ b le same. omega (arith, l, le, same)) answers early) (answers_of sessions) late;
  }
    where
      all : List Answered
      all = past ++ answers

      early : AllByRecursion (λ (a : Answered). a.statement ≤ length all) answers
      early = all_right (λ (a : Answered). a.statement ≤ length all) past answers whole.complete

      late : AllByRecursion (λ (a : Answered). length all < a.statement) (answers_of sessions)
      late = each_answer (length all + 1) count given (λ (a : Answered). length all < a.statement) 1 sessions (λ s a l of. (let h = of.low in omega (arith, h))) are
