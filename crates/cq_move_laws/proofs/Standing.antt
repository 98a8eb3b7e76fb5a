-- How the answers of a move stand by its deed.
use Rattle.std.proofs.Common.{◌≡◌, ◌≢◌, ◌⊎◌, ◌<◌, ◌≤◌, ◌+◌, inl, inr, ℕ, true, cond, List, [], ◌∷◌, length, refl, sym, ◌∙◌, ap, subst, arith, Some, None, Option, ne_eqb, eq-eqb}
use Rattle.std.specs.Prelude.{◌-◌, ◌||◌, nat_eq, nat_lt}
use Rattle.std.proofs.lemmas.Bool.{lt-ltb, le-ltb}
use Rattle.std.proofs.lemmas.Bool.Decides.{eqb_tells}
use Rattle.cq_tree.specs.declared.journal.Who.{Who}
use Rattle.cq_tree.specs.declared.statement.Statement.TheVariants as statement
use Rattle.cq_catalog.specs.Contents.{Contents}
use Rattle.cq_catalog.specs.Placement.{group_of_shard}
use Rattle.cq_catalog.specs.Refusals.{first_of}
use Rattle.cq_journal.specs.Records.{Journal}
use Rattle.cq_journal.specs.Stations.{node_of, moving_of}
use Rattle.cq_answer.specs.declared.answer.Answer.{Answer}
use Rattle.cq_answer.specs.declared.answer.Answer.TheVariants as answer
use Rattle.cq_answer.specs.declared.fault.Fault.{Fault}
use Rattle.cq_answer.specs.declared.fault.Fault.TheVariants as fault
use Rattle.cq_history.specs.Run.{Run, Rules, Environment}
use Rattle.cq_history.specs.Room.{tables_in, short_of, IsRoom}
use Rattle.cq_history.specs.Journals.{journal_in, none, Step, kinds_in}
use Rattle.cq_history.specs.Moves.{node_fault, mover_fault, place_fault, start_fault}
use Rattle.cq_history.specs.Standing.{Enters, EntersIn, Yields, MovesUnless, IsMovedIn, RunsUnless, StandsIn}
use Rattle.cq_history.specs.Deeds.{Deed, Phase, first_seen, in_deed}
use Rattle.cq_move_laws.proofs.Steps.{deed_in}

-- ---- why a move doesn't begin

node_none : (run : Run) (to : ℕ) → 0 < to → to ≤ run.workers → node_fault run to ≡ None
node_none run to low high = rw (ne_eqb to 0 (λ e. absurd (omega (arith, e, low))), le-ltb run.workers to high) refl

node_zero : (run : Run) (to : ℕ) → nat_eq to 0 ≡ true → node_fault run to ≡ Some (fault.NoNode to)
node_zero run to y = ap (λ b. cond (b || nat_lt run.workers to) (Some (fault.NoNode to)) None) y

node_some : (run : Run) (to : ℕ) → (to ≡ 0) ⊎ (run.workers < to) → node_fault run to ≡ Some (fault.NoNode to)
node_some run to (inl e) = node_zero run to (eq-eqb to 0 e)
node_some run to (inr far) = elim (eqb_tells to 0) [ inl y ↦ node_zero run to y.0 | inr n ↦ rw (n.0, lt-ltb run.workers to far) refl ]

short_none : (free n at : ℕ) → n ≤ free → short_of free n at ≡ None
short_none free n at enough = rw (le-ltb free n enough) refl

short_some : (free n to : ℕ) → 0 < to → free < n → short_of free n (to - 1) ≡ Some (fault.NoRoom to free n)
short_some free n to low few = rw (lt-ltb free n few) (ap (λ k. Some (fault.NoRoom k free n)) (let e : to - 1 + 1 ≡ to = omega (arith, low) in e))

place_none : (node from to : ℕ) → node ≡ from → node ≢ to → place_fault node from to ≡ None
place_none node from to there other = rw (eq-eqb node from there, ne_eqb node to other) refl

place_there : (node from to : ℕ) → node ≢ from → place_fault node from to ≡ Some (fault.NotThere node)
place_there node from to other = rw (ne_eqb node from other) refl

place_same : (node from to : ℕ) → node ≡ from → node ≡ to → place_fault node from to ≡ Some (fault.SameNode node)
place_same node from to there same = rw (eq-eqb node from there, eq-eqb node to same) refl

module _ (run : Run) (c : Contents) (free group from to : ℕ) where
  abbrev n : ℕ
  n = length (tables_in c group)

  abbrev fault_at : Option Who → ℕ → Option Fault
  fault_at mover node = start_fault run c free mover node group from to

  pub start_no_node : (mover : Option Who) (node : ℕ) → (to ≡ 0) ⊎ (run.workers < to) → fault_at mover node ≡ Some (fault.NoNode to)
  start_no_node mover node far = ap (λ (o : Option Fault). first_of (o ∷ short_of free n (to - 1) ∷ mover_fault mover ∷ place_fault node from to ∷ [])) (node_some run to far)

  module _ (low : 0 < to) (high : to ≤ run.workers) where
    pub start_no_room : (mover : Option Who) (node : ℕ) → free < n → fault_at mover node ≡ Some (fault.NoRoom to free n)
    start_no_room mover node few =
        ap (λ (o : Option Fault). first_of (o ∷ short_of free n (to - 1) ∷ mover_fault mover ∷ place_fault node from to ∷ [])) (node_none run to low high)
        ∙ ap (λ (o : Option Fault). first_of (o ∷ mover_fault mover ∷ place_fault node from to ∷ [])) (short_some free n to low few)

    -- where enough are spare it is the group's state that refuses it
    pub start_by_group : (mover : Option Who) (node : ℕ) → n ≤ free → fault_at mover node ≡ first_of (mover_fault mover ∷ place_fault node from to ∷ [])
    start_by_group mover node enough =
        ap (λ (o : Option Fault). first_of (o ∷ short_of free n (to - 1) ∷ mover_fault mover ∷ place_fault node from to ∷ [])) (node_none run to low high)
        ∙ ap (λ (o : Option Fault). first_of (o ∷ mover_fault mover ∷ place_fault node from to ∷ [])) (short_none free n (to - 1) enough)

    pub start_moving : (mover : Option Who) (node : ℕ) (by : Who) → n ≤ free → mover ≡ Some by → fault_at mover node ≡ Some (fault.Moving by)
    start_moving mover node by enough is = start_by_group mover node enough ∙ ap (λ (m : Option Who). first_of (mover_fault m ∷ place_fault node from to ∷ [])) is

    unmoved : (mover : Option Who) (node : ℕ) (o : Option Fault) → n ≤ free → mover ≡ None → place_fault node from to ≡ o → fault_at mover node ≡ first_of (o ∷ [])
    unmoved mover node o enough is place =
        start_by_group mover node enough
        ∙ ap (λ (m : Option Who). first_of (mover_fault m ∷ place_fault node from to ∷ [])) is
        ∙ ap (λ (p : Option Fault). first_of (p ∷ [])) place

    pub start_not_there : (mover : Option Who) (node : ℕ) → n ≤ free → mover ≡ None → node ≢ from → fault_at mover node ≡ Some (fault.NotThere node)
    start_not_there mover node enough is other = unmoved mover node (Some (fault.NotThere node)) enough is (place_there node from to other)

    pub start_same : (mover : Option Who) (node : ℕ) → n ≤ free → mover ≡ None → node ≡ from → node ≡ to → fault_at mover node ≡ Some (fault.SameNode node)
    start_same mover node enough is there same = unmoved mover node (Some (fault.SameNode node)) enough is (place_same node from to there same)

    pub start_none : (mover : Option Who) (node : ℕ) → n ≤ free → mover ≡ None → node ≡ from → node ≢ to → fault_at mover node ≡ None
    start_none mover node enough is there other = unmoved mover node None enough is (place_none node from to there other)

-- ---- how it stands

pub yields : (f : Fault) → Yields (Some f) (λ b. ⊥) (answer.Failed f)
yields fault.Memory = tt
yields f = refl

module _ (rules : Rules) (run : Run) (e : Environment) (p : Phase) (d : Deed) (shard from to : ℕ) (a : Answer) (runs : rules.refusal e (statement.Move shard from to) ≡ None) where
  pub stands_unknown : group_of_shard e.catalog shard ≡ None → Enters (in_deed p e.catalog d) none → Yields (Some (fault.NoShard shard)) (λ b. ⊥) a → StandsIn rules run e (in_deed p e.catalog d) (Some (statement.Move shard from to)) a
  stands_unknown unknown enters its =
      subst (λ (o : Option Fault). RunsUnless o (rules.touched e.catalog (statement.Move shard from to)) run e (in_deed p e.catalog d) (statement.Move shard from to) a) (sym runs)
      (subst (λ (o : Option ℕ). IsMovedIn run e (in_deed p e.catalog d) shard from to o a) (sym unknown) (enters, its))

  -- with a look at the group, in a phase that began with these journals
  pub stands_moved : (group free : ℕ) (journals : List Journal) (j : Journal) → group_of_shard e.catalog shard ≡ Some group → group < e.catalog.groups → p.journals ≡ journals → e.catalog.groups ≤ length journals →
      IsRoom run e.catalog e.retired (λ g. node_of (journal_in journals g)) p.beside (to - 1) free → first_seen (d.made group) (d.looked group) ≡ Some j →
      MovesUnless (start_fault run e.catalog free (moving_of j) (node_of j) group from to) e.catalog (in_deed p e.catalog d) group from to a →
      StandsIn rules run e (in_deed p e.catalog d) (Some (statement.Move shard from to)) a
  stands_moved group free journals j is there began groups room saw moves =
      subst (λ (o : Option Fault). RunsUnless o (rules.touched e.catalog (statement.Move shard from to)) run e (in_deed p e.catalog d) (statement.Move shard from to) a) (sym runs)
      (subst (λ (o : Option ℕ). IsMovedIn run e (in_deed p e.catalog d) shard from to o a) (sym is) (record {
        nodes = λ g. node_of (journal_in journals g);
        free = free;
        node = node_of j;
        mover = moving_of j;
        there = there;
        began = λ g l. subst (λ (js : List Journal). (g < length js) × (node_of (journal_in journals g) ≡ node_of (journal_in js g))) (sym began) (omega (arith, l, groups), refl);
        room = room;
        saw = (j, saw, (refl, refl));
        moves = moves;
      }))

-- ---- no entry

module _ (run : Run) (c : Contents) (p : Phase) (group from to : ℕ) (look : Option Journal) where
  -- the deed that is a look at the group
  abbrev idle : Deed
  idle = deed_in group [] look

  pub enters_none : Enters (in_deed p c idle) none
  enters_none g = elim (eqb_tells g group) [ inl y ↦ ap (λ b. kinds_in (cond b [] [])) y.0 | inr n ↦ ap (λ b. kinds_in (cond b [] [])) n.0 ]

  -- it is refused so
  pub moves_refused : (f : Fault) (o : Option Fault) (a : Answer) → o ≡ Some f → Yields (Some f) (λ b. ⊥) a → MovesUnless o c (in_deed p c idle) group from to a
  moves_refused f o a is its = subst (λ (x : Option Fault). MovesUnless x c (in_deed p c idle) group from to a) (sym is) (enters_none, its)

  -- memory may run out whatever refuses it
  pub moves_memory : (o : Option Fault) → MovesUnless o c (in_deed p c idle) group from to (answer.Failed fault.Memory)
  moves_memory None = inl enters_none
  moves_memory (Some f) = (enters_none, tt)

-- entries in its group alone
pub enters_in : (p : Phase) (c : Contents) (group : ℕ) (steps : List Step) (look : Option Journal) (P : List Step → Type 0) → P steps → EntersIn (in_deed p c (deed_in group steps look)) group P
enters_in p c group steps look P h = (
  subst P (sym (ap (λ b. cond b steps []) (eq-eqb group group refl))) h,
  λ g n. ap (λ b. cond b steps []) n,
)
