-- A query or a write that is answered over the groups as it found them is answered in its phase.
use Rattle.std.proofs.Common.{◌≡◌, inl, inr, ℕ, ◌<◌, ◌≤◌, true, false, List, [], ◌∷◌, ◌++◌, length, refl, sym, ◌∙◌, ap, subst, arith, Some, None, Option, length-append}
use Rattle.std.specs.List.{AllByRecursion}
use Rattle.cq_value.proofs.Lists.{all_append, all_weaker, append_nil}
use Rattle.cq_tree.specs.declared.failure.StoreFailure.{StoreFailure}
use Rattle.cq_tree.specs.declared.journal.Entry.{Entry}
use Rattle.cq_tree.specs.declared.journal.Who.{Who}
use Rattle.cq_tree.specs.declared.query.Query.{Query}
use Rattle.cq_tree.specs.declared.statement.Statement.{Statement}
use Rattle.cq_tree.specs.declared.statement.Statement.TheVariants as statement
use Rattle.cq_tree.specs.declared.write.Reply.{Reply}
use Rattle.cq_tree.specs.declared.write.Reply.TheVariants.{Duplicate, OutOfRange}
use Rattle.cq_tree.specs.declared.write.ShardOp.{ShardOp}
use Rattle.cq_journal.specs.Records.{Journal}
use Rattle.cq_answer.specs.declared.answer.Answer.{Answer}
use Rattle.cq_answer.specs.declared.answer.Answer.TheVariants as answer
use Rattle.cq_answer.specs.declared.fault.What.TheVariants as what
use Rattle.cq_answer.specs.declared.fault.Fault.{Fault}
use Rattle.cq_answer.specs.declared.fault.Fault.TheVariants as fault
use Rattle.cq_history.specs.Run.{Run, Rules, Environment}
use Rattle.cq_history.specs.Journals.{made_by, journal_in, steps_after}
use Rattle.cq_history.specs.Standing.{Runs, RunsUnless, IsFaultIn, IsRefusedIn}
use Rattle.cq_history.specs.Deeds.{Deed, Phase, alone, in_deed, Does, MayCome, Visits}
use Rattle.cq_history.specs.Log.{IsAnswered, IsAnsweredIn}
use Rattle.cq_history.proofs.Entries.{with_list, steps_append, steps_others, AreOthers}
use Rattle.cq_history.proofs.Visiting.{appended, laid_same}
use Rattle.cq_reach.specs.Seen.{Seen, journals_in}
use Rattle.cq_reach.specs.Outlook.{Outlook, MayFind}
use Rattle.cq_reach.proofs.Growth.{got, one_item}
use Rattle.cq_reach.proofs.Seeing.{journal_seen, journals_long}
use Rattle.cq_groups.specs.Found.{MayComeIn}

-- ---- what a statement of rows is answered doesn't depend on its phase

module _ (p r : Phase) (touched : List ℕ) (run : Run) (e : Environment) (d : Deed) where
  fault_in : (IsOn : Journal → ℕ → Type 0) (group : ℕ) (f : StoreFailure) → IsFaultIn e.catalog touched (in_deed p e.catalog d) IsOn group f → IsFaultIn e.catalog touched (in_deed r e.catalog d) IsOn group f
  fault_in IsOn group f h = record { there = h.there; kept = h.kept; on = h.on; rose = h.rose }

  refused_in : (op : ShardOp) (reply : Reply) → IsRefusedIn e.catalog touched (in_deed p e.catalog d) op reply → IsRefusedIn e.catalog touched (in_deed r e.catalog d) op reply
  refused_in op reply h = record { group = h.group; there = h.there; entries = h.entries; replied = h.replied; ids = h.ids; ready = h.ready }

  select_in : (q : Query) (a : Answer) → Runs touched run e (in_deed p e.catalog d) (statement.Select q) a → Runs touched run e (in_deed r e.catalog d) (statement.Select q) a
  select_in q (answer.Table names rows) h = h
  select_in q (answer.Failed (fault.Limit what.Rows n)) h = h
  select_in q (answer.Failed (fault.Worker f)) h = record { group = h.group; entries = h.entries; fault = fault_in _ h.group f h.fault }
  select_in q (answer.Failed fault.Memory) h = h
  select_in q a h = absurd h

  write_in : (op : ShardOp) (a : Answer) → Runs touched run e (in_deed p e.catalog d) (statement.Write op) a → Runs touched run e (in_deed r e.catalog d) (statement.Write op) a
  write_in op (answer.Tag t) h = let m = h.2 in (h.0, h.1, record { shared = m.shared; counts = m.counts; sum = m.sum; entries = m.entries; replied = m.replied; ids = m.ids })
  write_in op (answer.Failed fault.Duplicate) h = refused_in op Duplicate h
  write_in op (answer.Failed fault.ValueOutOfRange) h = refused_in op OutOfRange h
  write_in op (answer.Failed (fault.Limit what.Ids n)) h = let l = h.1 in (h.0, record { group = l.group; there = l.there; entries = l.entries; ids = l.ids; ready = l.ready })
  write_in op (answer.Failed (fault.Worker f)) h = record { group = h.group; entries = h.entries; fault = fault_in _ h.group f h.fault }
  write_in op (answer.Failed fault.Memory) h = h
  write_in op a h = absurd h

  unless_in : (s : Statement) (a : Answer) (refusal : Option Fault) → (Runs touched run e (in_deed p e.catalog d) s a → Runs touched run e (in_deed r e.catalog d) s a) →
      RunsUnless refusal touched run e (in_deed p e.catalog d) s a → RunsUnless refusal touched run e (in_deed r e.catalog d) s a
  unless_in s a (Some f) same h = h
  unless_in s a None same h = same h

-- ---- its visits, behind the entries that came before them

-- entries came to these journals
pub record HaveCome (comes : Entry → Type 0) (old found : List Journal) : Type 0 where
  pub count : length found ≡ length old
  pub more : (g : ℕ) → g < length old → (es : List Entry) × (journal_in found g ≡ with_list (journal_in old g) ((journal_in old g).entries ++ es)) × AllByRecursion comes es

module _ (p : Phase) (who : Who) (comes : Entry → Type 0) (may : MayComeIn p who comes) (old found new : List Journal) (come : HaveCome comes old found) where
  visits_behind : (d : Deed) → Visits (alone found) who d found new → Visits p who d old new
  visits_behind d v = record {
    count = let c = come.count in let n = v.count in omega (arith, c, n);
    grown = λ g l.
        let a = come.more g l in
        let b = v.grown g (let c = come.count in omega (arith, c, l)) in
        let j = journal_in old g in (
          a.0 ++ b.0,
          appended j (journal_in found g) (journal_in new g) a.0 b.0 a.1 b.1,
          b.2 ∙ ap (λ (x : Journal). steps_after who x b.0) a.1
              ∙ ap (λ steps. steps ++ steps_after who (with_list j (j.entries ++ a.0)) b.0) (sym (steps_others who j a.0 (all_weaker comes (λ e. made_by who e ≡ false) (λ e c. (may e c).0) a.0 a.2)))
              ∙ sym (steps_append who j a.0 b.0),
          all_append (MayCome p who) a.0 b.0 (all_weaker comes (MayCome p who) (λ e c. inr (may e c).1) a.0 a.2) (all_weaker (MayCome (alone found) who) (MayCome p who) (λ e m. own e m) b.0 b.3),
        );
    looked = λ g j l.
        let o = v.looked g j l in
        let within : g < length old = let c = come.count in let n = o.0 in omega (arith, c, n) in
        let a = come.more g within in
        let long = ap (λ (x : Journal). length x.entries) a.1 ∙ length-append (journal_in old g).entries a.0 in
        (within, (o.1.0, omega (arith, long, o.1.1), o.1.2, o.1.3));
    fresh = λ g m. v.fresh g (let c = come.count in omega (arith, c, m));
  }
    where
      own : (e : Entry) → MayCome (alone found) who e → MayCome p who e
      own e (inl m) = inl m
      own e (inr m) = absurd (cc m)

  -- answered over what it found, it is answered in its phase
  behind : (rules : Rules) (run : Run) (e : Environment) (s : Statement) (a : Answer) → ((d : Deed) → Runs (rules.touched e.catalog s) run e (in_deed (alone found) e.catalog d) s a → Runs (rules.touched e.catalog s) run e (in_deed p e.catalog d) s a) →
      IsAnswered rules run e e who found new (Some s) a → IsAnsweredIn rules run e e p who old new (Some s) a
  behind rules run e s a same w = record {
    deed = w.deed;
    does = record { stands = unless_in (alone found) p (rules.touched e.catalog s) run e w.deed s a (rules.refusal e s) (same w.deed) w.does.stands; legal = w.does.legal };
    visits = visits_behind w.deed w.visits;
    leads = w.leads;
    on = w.on;
    laid = λ kept laid. w.laid kept (laid_same run kept e.catalog old found come.count (λ g l. ap (λ (x : Journal). x.opening) (come.more g l).1) laid);
  }

  pub query_behind : (rules : Rules) (run : Run) (e : Environment) (q : Query) (a : Answer) → IsAnswered rules run e e who found new (Some (statement.Select q)) a → IsAnsweredIn rules run e e p who old new (Some (statement.Select q)) a
  query_behind rules run e q a w = behind rules run e (statement.Select q) a (λ d. select_in (alone found) p (rules.touched e.catalog (statement.Select q)) run e d q a) w

  pub write_behind : (rules : Rules) (run : Run) (e : Environment) (op : ShardOp) (a : Answer) → IsAnswered rules run e e who found new (Some (statement.Write op)) a → IsAnsweredIn rules run e e p who old new (Some (statement.Write op)) a
  write_behind rules run e op a w = behind rules run e (statement.Write op) a (λ d. write_in (alone found) p (rules.touched e.catalog (statement.Write op)) run e d op a) w

-- ---- what a statement found

-- entries of others came to what was known
pub found_come : (o : Outlook) (found : List Seen) → MayFind o found → HaveCome o.comes (journals_in o.known) (journals_in found)
found_come o found may =
    let a = journals_long o.known in
    let b = journals_long found in
    record {
      count = b ∙ may.count ∙ sym a;
      more = λ g l.
          let k = got o.known g (omega (arith, a, l)) in
          let s = got found g (let c = may.count in omega (arith, a, c, l)) in
          let was = journal_seen o.known g k.0 _ k.1 in
          let is = journal_seen found g s.0 _ s.1 in
          elim (may.each g s.0 s.1) [
            | inl same ↦
                let one : k.0 ≡ s.0 = one_item k.0 s.0 (sym k.1 ∙ same) in
                ([], is ∙ ap (λ (v : Seen). v.journal) (sym one) ∙ sym was ∙ ap (with_list (journal_in (journals_in o.known) g)) (sym (append_nil (journal_in (journals_in o.known) g).entries)), tt)
            | inr met ↦
                let one : met.was ≡ k.0 = one_item met.was k.0 (sym met.there ∙ k.1) in
                let grown = met.grown in (
                  grown.more,
                  is ∙ ap (λ (v : Seen). v.journal) grown.is ∙ ap (λ (v : Seen). with_list v.journal (v.journal.entries ++ grown.more)) one ∙ ap (λ (j : Journal). with_list j (j.entries ++ grown.more)) (sym was),
                  grown.all,
                )
          ];
    }
