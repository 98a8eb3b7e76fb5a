-- The catalogue in force at a statement.
use Rattle.std.proofs.Common.{◌≡◌, ◌<◌, ◌≤◌, inl, inr, ℕ, Bool, true, false, List, [], ◌∷◌, ◌++◌, filter, refl, sym, ◌∙◌, ap, subst, arith, Some, None, Option, append-nil}
use Rattle.std.specs.Prelude.{nat_lt}
use Rattle.std.specs.List.{AllByRecursion}
use Rattle.std.proofs.lemmas.Bool.{cases_lt, lt-ltb, le-ltb}
use Rattle.std.proofs.lemmas.List.Elements.{filter-append}
use Rattle.cq_value.proofs.Lists.{all_weaker, all_right, filter_none}
use Rattle.cq_tree.specs.declared.statement.Statement.{Statement}
use Rattle.cq_tree.specs.declared.statement.Statement.TheVariants as statement
use Rattle.cq_catalog.specs.Contents.{Contents}
use Rattle.cq_answer.specs.declared.answer.Answer.{Answer}
use Rattle.cq_answer.specs.declared.answer.Answer.TheVariants as answer
use Rattle.cq_answer.specs.declared.answered.Answered.{Answered}
use Rattle.cq_answer.specs.declared.answered.Settings.{Settings}
use Rattle.cq_answer.specs.declared.fault.Fault.{Fault}
use Rattle.cq_answer.specs.declared.fault.Fault.TheVariants as fault
use Rattle.cq_history.specs.Run.{Run, Environment, retiring, first, after, environment_from}
use Rattle.cq_history.specs.Phases.{before_phase, environment_at, StandsBefore, AreInScriptOrder, MayBeInBlock, IsAllowed}
use Rattle.cq_history.specs.Laws.{CatalogBefore, RoomAlone}
use Rattle.cq_history.proofs.Phasing.{fold_more}

-- environments that differ in what was retired alone
record Alike (e other : Environment) : Type 0 where
  catalog : e.catalog ≡ other.catalog
  settings : e.settings ≡ other.settings

abbrev retire : Environment → List ℕ → Environment
retire e retired = record e { retired = retired }

same : (e : Environment) → Alike e e
same e = record { catalog = refl; settings = refl }

then_alike : (a b c : Environment) → Alike a b → Alike b c → Alike a c
then_alike a b c f g = record { catalog = f.catalog ∙ g.catalog; settings = f.settings ∙ g.settings }

-- what was retired doesn't matter to what comes then
after_retiring : (e : Environment) (retired : List ℕ) (f : Fault) → Alike (retiring (retire e retired) f) (retiring e f)
after_retiring e retired (fault.Retired failure) = record { catalog = refl; settings = refl }
after_retiring e retired f = record { catalog = refl; settings = refl }

after_retired : (e : Environment) (retired : List ℕ) (bound : Option Statement) (a : Answer) → Alike (after (retire e retired) bound a) (after e bound a)
after_retired e retired None (answer.Failed f) = record { catalog = refl; settings = refl }
after_retired e retired None (answer.Tag t) = record { catalog = refl; settings = refl }
after_retired e retired None (answer.Table names rows) = record { catalog = refl; settings = refl }
after_retired e retired (Some (statement.Move shard from to)) (answer.Failed f) = after_retiring e retired f
after_retired e retired (Some (statement.Rebalance by_size)) (answer.Failed f) = after_retiring e retired f
after_retired e retired (Some s) (answer.Failed f) = record { catalog = refl; settings = refl }
after_retired e retired (Some (statement.CreateTable name columns key)) (answer.Tag t) = record { catalog = refl; settings = refl }
after_retired e retired (Some s) (answer.Tag t) = record { catalog = refl; settings = refl }
after_retired e retired (Some (statement.CreateTable name columns key)) (answer.Table names rows) = record { catalog = refl; settings = refl }
after_retired e retired (Some s) (answer.Table names rows) = record { catalog = refl; settings = refl }

after_alike : (e other : Environment) (bound : Option Statement) (a : Answer) → Alike e other → Alike (after e bound a) (after other bound a)
after_alike e other bound a h =
    subst (λ (v : Environment). Alike (after e bound a) (after v bound a)) whole
    (then_alike (after e bound a) (after e bound a) (after (retire e other.retired) bound a) (same (after e bound a)) (turned (after_retired e other.retired bound a)))
  where
    whole : retire e other.retired ≡ other
    whole = ap (λ (c : Contents). record { catalog = c; settings = e.settings; retired = other.retired }) h.catalog ∙ ap (λ (s : Settings). record { catalog = other.catalog; settings = s; retired = other.retired }) h.settings

    turned : Alike (after (retire e other.retired) bound a) (after e bound a) → Alike (after e bound a) (after (retire e other.retired) bound a)
    turned k = record { catalog = sym k.catalog; settings = sym k.settings }

all_alike : (e other : Environment) (answers : List Answered) → Alike e other → Alike (environment_from e answers) (environment_from other answers)
all_alike e other [] h = h
all_alike e other (a ∷ more) h = all_alike (after e a.bound a.answer) (after other a.bound a.answer) more (after_alike e other a.bound a.answer h)

-- a statement of a block leaves them
block_leaves : (e : Environment) (bound : Option Statement) (a : Answer) → MayBeInBlock bound → Alike (after e bound a) e
block_leaves e None (answer.Tag t) m = same e
block_leaves e None (answer.Table names rows) m = same e
block_leaves e None (answer.Failed f) m = same e
block_leaves e (Some (statement.Select q)) (answer.Tag t) m = same e
block_leaves e (Some (statement.Select q)) (answer.Table names rows) m = same e
block_leaves e (Some (statement.Select q)) (answer.Failed f) m = same e
block_leaves e (Some (statement.Write op)) (answer.Tag t) m = same e
block_leaves e (Some (statement.Write op)) (answer.Table names rows) m = same e
block_leaves e (Some (statement.Write op)) (answer.Failed f) m = same e
block_leaves e (Some (statement.Move shard from to)) (answer.Tag t) m = same e
block_leaves e (Some (statement.Move shard from to)) (answer.Table names rows) m = same e
block_leaves e (Some (statement.Move shard from to)) (answer.Failed (fault.Retired failure)) m = record { catalog = refl; settings = refl }
block_leaves e (Some (statement.Move shard from to)) (answer.Failed f) m = same e
block_leaves e (Some s) a m = absurd m

-- those of earlier phases leave what all leave, where the others are of this phase and so of a block
earlier_leave : (phase : ℕ) (e other : Environment) (answers : List Answered) → Alike e other → AllByRecursion (λ (x : Answered). (x.phase < phase → ⊥) → MayBeInBlock x.bound) answers →
    Alike (environment_from e (before_phase phase answers)) (environment_from other answers)
earlier_leave phase e other [] h all = h
earlier_leave phase e other (x ∷ more) h all = elim (cases_lt x.phase phase) [
  | inl l ↦ rw (lt-ltb x.phase phase l) (earlier_leave phase (after e x.bound x.answer) (after other x.bound x.answer) more (after_alike e other x.bound x.answer h) all.1)
  | inr m ↦
      let left = block_leaves other x.bound x.answer (all.0 (λ l. omega (arith, m, l))) in
      rw (le-ltb x.phase phase m) (earlier_leave phase e (after other x.bound x.answer) more (record { catalog = h.catalog ∙ sym left.catalog; settings = h.settings ∙ sym left.settings }) all.1)
]

-- no later answer is of an earlier phase
none_later : (a : Answered) (more : List Answered) → AllByRecursion (StandsBefore a) more → before_phase a.phase (a ∷ more) ≡ []
none_later a more all =
    rw (le-ltb a.phase a.phase (omega arith)) (filter_none (λ (x : Answered). nat_lt x.phase a.phase) more
    (all_weaker (StandsBefore a) (λ (x : Answered). nat_lt x.phase a.phase ≡ false) (λ x h. le-ltb x.phase a.phase (upto x h)) more all))
  where
    upto : (x : Answered) → StandsBefore a x → a.phase ≤ x.phase
    upto x (inl k) = let l = k.0 in omega (arith, l)
    upto x (inr k) = let l = k.phase in omega (arith, l)

each_before : (front : List Answered) (a : Answered) (more : List Answered) → AreInScriptOrder (front ++ a ∷ more) → AllByRecursion IsAllowed (front ++ a ∷ more) →
    AllByRecursion (λ (x : Answered). (x.phase < a.phase → ⊥) → MayBeInBlock x.bound) front × (before_phase a.phase (front ++ a ∷ more) ≡ before_phase a.phase front)
each_before [] a more script allowed = (tt, none_later a more script.0)
each_before (x ∷ front) a more script allowed =
    let rest = each_before front a more script.1 allowed.1 in
    let here : StandsBefore x a = (all_right (StandsBefore x) front (a ∷ more) script.0).0 in (
      ((λ early. allowed.0 (of_block here early)), rest.0),
      elim (cases_lt x.phase a.phase) [
        | inl l ↦ rw (lt-ltb x.phase a.phase l) (ap (λ (v : List Answered). x ∷ v) rest.1)
        | inr m ↦ rw (le-ltb x.phase a.phase m) rest.1
      ],
    )
  where
    of_block : StandsBefore x a → (x.phase < a.phase → ⊥) → 1 ≤ x.session
    of_block (inl k) early = absurd (early k.0)
    of_block (inr k) early = k.session

pub catalog_before : CatalogBefore
catalog_before run front a more script allowed =
    let each = each_before front a more script allowed in
    let alike = earlier_leave a.phase (first run) (first run) front (same (first run)) each.0 in (
      ap (λ (v : List Answered). (environment_from (first run) v).catalog) each.1 ∙ alike.catalog,
      ap (λ (v : List Answered). (after (environment_from (first run) v) a.bound a.answer).catalog) each.1
          ∙ (after_alike (environment_from (first run) (before_phase a.phase front)) (environment_from (first run) front) a.bound a.answer alike).catalog
          ∙ ap (λ (v : Environment). v.catalog) (sym (fold_more (first run) front (a ∷ []))),
    )

pub room_alone : RoomAlone
room_alone run c retired nodes at free h = let l = h.least in let m = h.most in omega (arith, l, m)
