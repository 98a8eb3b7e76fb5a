-- What a statement of a block did to the groups: it moved one to a worker, or no Cutover is its own.
use Rattle.std.proofs.Common.{◌≡◌, ◌≢◌, ◌⊎◌, inl, inr, ◌<◌, ◌≤◌, ℕ, Bool, true, false, cond, List, [], ◌∷◌, ◌++◌, refl, sym, ◌∙◌, ap, subst, arith, Some, None, Option}
use Rattle.std.specs.Prelude.{nat_eq, ◌-◌}
use Rattle.std.specs.List.{AllByRecursion}
use Rattle.std.proofs.lemmas.Bool.{eqb-true}
use Rattle.cq_value.proofs.Lists.{all_weaker, all_append, all_map}
use Rattle.cq_value.proofs.Truths.{two_ways, below_or_not}
use Rattle.cq_tree.specs.declared.journal.Who.{Who}
use Rattle.cq_tree.specs.declared.journal.EntryKind.{EntryKind}
use Rattle.cq_tree.specs.declared.journal.EntryKind.TheVariants as entry
use Rattle.cq_tree.specs.declared.statement.Statement.{Statement}
use Rattle.cq_tree.specs.declared.statement.Statement.TheVariants as statement
use Rattle.cq_catalog.specs.Contents.{Contents}
use Rattle.cq_catalog.specs.Placement.{group_of_shard}
use Rattle.cq_answer.specs.declared.answer.Answer.{Answer}
use Rattle.cq_answer.specs.declared.answer.Answer.TheVariants as answer
use Rattle.cq_answer.specs.declared.fault.Fault.{Fault}
use Rattle.cq_answer.specs.declared.fault.Fault.TheVariants as fault
use Rattle.cq_history.specs.Run.{Run, Rules, Environment}
use Rattle.cq_history.specs.Phases.{MayBeInBlock}
use Rattle.cq_history.specs.Journals.{none, Step, kinds_in}
use Rattle.cq_history.specs.Room.{stores_to, stores_from, short_of}
use Rattle.cq_history.specs.Moves.{Report, IsMove, IsStopped, node_fault, mover_fault, place_fault, start_fault}
use Rattle.cq_history.specs.Standing.{View, Enters, EntersIn, Yields, Moves, MovesUnless, IsMovedIn, RunsUnless}
use Rattle.cq_history.specs.Deeds.{Deed, Phase, in_deed, Does}
use Rattle.cq_history.specs.Laws.{IsOfNoMove, IsNoMove}
use Rattle.cq_history.proofs.Moving.{others_move_none}
use Rattle.cq_history.proofs.Tables.{first_none}
use Rattle.cq_place_laws.specs.Placing.{is_table}

abbrev pub IsNoCutover : EntryKind → Type 0
IsNoCutover k = k ≢ entry.Cutover

abbrev pub CutsNone : List Step → Type 0
CutsNone steps = AllByRecursion IsNoCutover (kinds_in steps)

-- it made a move, and has entries in its group alone
pub record HasMoved (workers : ℕ) (c : Contents) (made : ℕ → List Step) (bound : Option Statement) (a : Answer) : Type 0 where
  pub shard : ℕ
  pub from : ℕ
  pub to : ℕ
  pub group : ℕ
  pub is : bound ≡ Some (statement.Move shard from to)
  pub table : is_table a ≡ true
  pub of : group_of_shard c shard ≡ Some group
  pub there : group < c.groups
  pub low : 1 ≤ to
  pub high : to ≤ workers
  pub report : Report
  pub move : IsMove c group from to report (made group)
  pub others : (g : ℕ) → nat_eq g group ≡ false → made g ≡ []

-- it moved no group
pub record HasStayed (c : Contents) (made : ℕ → List Step) (bound : Option Statement) (a : Answer) : Type 0 where
  pub none : (g : ℕ) → CutsNone (made g)
  pub into : (node : ℕ) → cond (is_table a) (stores_to c node bound) 0 ≡ 0
  pub out : (node : ℕ) → cond (is_table a) (stores_from c node bound) 0 ≡ 0

abbrev pub MovedOrStayed : ℕ → Contents → (ℕ → List Step) → Option Statement → Answer → Type 0
MovedOrStayed workers c made bound a = HasMoved workers c made bound a ⊎ HasStayed c made bound a

-- ---- entries with no Cutover

of_no_move : (k : EntryKind) → IsOfNoMove k → IsNoCutover k
of_no_move entry.Read h same = cc same
of_no_move (entry.Write op reply) h same = cc same
of_no_move k h same = absurd h

cuts_none : (steps : List Step) → kinds_in steps ≡ [] → CutsNone steps
cuts_none steps is = subst (AllByRecursion IsNoCutover) (sym is) tt

not_cut : (k l : EntryKind) → k ≡ l → IsNoCutover l → IsNoCutover k
not_cut k l same other cut = other (sym same ∙ cut)

stopped_cuts_none : (from to : ℕ) (steps : List Step) → IsStopped from to steps → CutsNone steps
stopped_cuts_none from to steps s =
    subst CutsNone (sym s.all) (
      not_cut s.start.kind (entry.MoveStart to) s.starts (λ same. cc same),
      all_map (λ (t : Step). IsNoCutover t.kind) IsNoCutover (λ (t : Step). t.kind) (λ t other. other) (s.rounds ++ s.stop ∷ [])
          (all_append (λ (t : Step). IsNoCutover t.kind) s.rounds (s.stop ∷ [])
          (all_weaker (λ (t : Step). t.kind ≡ entry.CatchUp) (λ (t : Step). IsNoCutover t.kind) (λ t is. not_cut t.kind entry.CatchUp is (λ same. cc same)) s.rounds s.catches)
          (not_cut s.stop.kind entry.MoveStop s.ends (λ same. cc same), tt)),
    )

-- ---- a move that was made, or not

-- a refusal is no table
refusal_is_no_table : (f : Fault) (a : Answer) → Yields (Some f) (λ b. ⊥) a → is_table a ≡ false
refusal_is_no_table f (answer.Table names rows) h = absurd (cc h)
refusal_is_no_table f (answer.Tag t) h = refl
refusal_is_no_table f (answer.Failed g) h = refl

either_way : (b : Bool) (n : ℕ) → cond b n n ≡ n
either_way true n = refl
either_way false n = refl

low_node : (run : Run) (to : ℕ) → node_fault run to ≡ None → (1 ≤ to) × (to ≤ run.workers)
low_node run to none = elim (two_ways (nat_eq to 0)) [
  | inl y ↦ (let bad : Some (fault.NoNode to) ≡ None = rw y at none in absurd (cc bad))
  | inr n ↦ elim (below_or_not run.workers to) [
    | inl y ↦ (let bad : Some (fault.NoNode to) ≡ None = rw (n, y.0) at none in absurd (cc bad))
    | inr m ↦ (high to n, m.1)
  ]
]
  where
    high : (k : ℕ) → nat_eq k 0 ≡ false → 1 ≤ k
    high k n = grind (arith, n)

module _ (run : Run) (e : Environment) (p : Phase) (d : Deed) where
  abbrev view : View
  view = in_deed p e.catalog d

  abbrev Stays : Option Statement → Answer → Type 0
  Stays bound a = HasStayed e.catalog d.made bound a

  no_table : (bound : Option Statement) (a : Answer) → ((g : ℕ) → CutsNone (d.made g)) → is_table a ≡ false → Stays bound a
  no_table bound a cuts f = record { none = cuts; into = λ node. ap (λ b. cond b (stores_to e.catalog node bound) 0) f; out = λ node. ap (λ b. cond b (stores_from e.catalog node bound) 0) f }

  entered_none : Enters view none → (g : ℕ) → CutsNone (d.made g)
  entered_none h g = cuts_none (d.made g) (h g)

  entered_in : (group from to : ℕ) → EntersIn view group (IsStopped from to) → (g : ℕ) → CutsNone (d.made g)
  entered_in group from to h g = elim (two_ways (nat_eq g group)) [
    | inl y ↦ subst (λ k. CutsNone (d.made k)) (sym (eqb-true g group y)) (stopped_cuts_none from to (d.made group) h.0)
    | inr n ↦ cuts_none (d.made g) (ap kinds_in (h.1 g n))
  ]

  module _ (shard from to : ℕ) where
    abbrev bound : Option Statement
    bound = Some (statement.Move shard from to)

    abbrev Does_so : Answer → Type 0
    Does_so a = MovedOrStayed run.workers e.catalog d.made bound a

    moves_one : (group : ℕ) → group_of_shard e.catalog shard ≡ Some group → group < e.catalog.groups → (1 ≤ to) × (to ≤ run.workers) → (a : Answer) → Moves e.catalog view group from to a → Does_so a
    moves_one group of there node (answer.Table names rows) h = inl (record {
      shard = shard;
      from = from;
      to = to;
      group = group;
      is = refl;
      table = refl;
      of = of;
      there = there;
      low = node.0;
      high = node.1;
      report = h.0;
      move = h.3.0;
      others = h.3.1;
    })
    moves_one group of there node (answer.Failed (fault.Worker failure)) h = inr (no_table bound (answer.Failed (fault.Worker failure)) (entered_none h.0) refl)
    moves_one group of there node (answer.Failed (fault.Retired failure)) h = inr (no_table bound (answer.Failed (fault.Retired failure)) (entered_in group from to h.0) refl)
    moves_one group of there node (answer.Failed fault.Memory) (inl h) = inr (no_table bound (answer.Failed fault.Memory) (entered_none h) refl)
    moves_one group of there node (answer.Failed fault.Memory) (inr h) = inr (no_table bound (answer.Failed fault.Memory) (entered_in group from to h) refl)
    moves_one group of there node a h = absurd h

    moves_unless : (o : Option Fault) (group : ℕ) → group_of_shard e.catalog shard ≡ Some group → group < e.catalog.groups → (o ≡ None → (1 ≤ to) × (to ≤ run.workers)) → (a : Answer) → MovesUnless o e.catalog view group from to a → Does_so a
    moves_unless (Some f) group of there node a h = inr (no_table bound a (entered_none h.0) (refusal_is_no_table f a h.1))
    moves_unless None group of there node a h = moves_one group of there (node refl) a h

    moves_in : (o : Option ℕ) → group_of_shard e.catalog shard ≡ o → (a : Answer) → IsMovedIn run e view shard from to o a → Does_so a
    moves_in None of a h = inr (no_table bound a (entered_none h.0) (refusal_is_no_table (fault.NoShard shard) a h.1))
    moves_in (Some group) of a h =
        moves_unless (start_fault run e.catalog h.free h.mover h.node group from to) group of h.there
        (λ none. low_node run to (first_none (node_fault run to) (short_of h.free _ (to - 1) ∷ mover_fault h.mover ∷ place_fault h.node from to ∷ []) none).0) a h.moves

    moves_run : (o : Option Fault) (touched : List ℕ) (a : Answer) → RunsUnless o touched run e view (statement.Move shard from to) a → Does_so a
    moves_run (Some f) touched a h = inr (no_table bound a (entered_none h.0) (refusal_is_no_table f a h.1))
    moves_run None touched a h = moves_in (group_of_shard e.catalog shard) refl a h

-- ---- statements of a block

others_stay : (rules : Rules) (run : Run) (e : Environment) (p : Phase) (who : Who) (d : Deed) (s : Statement) (a : Answer) → IsNoMove s → Does rules run e p who d (Some s) a → (g : ℕ) → CutsNone (d.made g)
others_stay rules run e p who d s a n does g = all_weaker IsOfNoMove IsNoCutover of_no_move (kinds_in (d.made g)) (others_move_none rules run e p who d s a n does g)

pub moved_or_stayed : (rules : Rules) (run : Run) (e : Environment) (p : Phase) (who : Who) (d : Deed) (bound : Option Statement) (a : Answer) → MayBeInBlock bound → Does rules run e p who d bound a →
    MovedOrStayed run.workers e.catalog d.made bound a
moved_or_stayed rules run e p who d None a may does = inr (record { none = entered_none run e p d does.stands.0; into = λ node. either_way (is_table a) 0; out = λ node. either_way (is_table a) 0 })
moved_or_stayed rules run e p who d (Some (statement.Select q)) a may does =
    inr (record { none = others_stay rules run e p who d (statement.Select q) a tt does; into = λ node. either_way (is_table a) 0; out = λ node. either_way (is_table a) 0 })
moved_or_stayed rules run e p who d (Some (statement.Write op)) a may does =
    inr (record { none = others_stay rules run e p who d (statement.Write op) a tt does; into = λ node. either_way (is_table a) 0; out = λ node. either_way (is_table a) 0 })
moved_or_stayed rules run e p who d (Some (statement.Move shard from to)) a may does =
    moves_run run e p d shard from to (rules.refusal e (statement.Move shard from to)) (rules.touched e.catalog (statement.Move shard from to)) a does.stands
moved_or_stayed rules run e p who d (Some s) a may does = absurd may
