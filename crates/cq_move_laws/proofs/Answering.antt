-- How a move is answered beside other sessions, by what its session noted and found.
use Rattle.std.proofs.Common.{◌≡◌, ◌⊎◌, ◌<◌, inl, inr, ℕ, true, false, cond, List, [], ◌∷◌, ◌++◌, length, take, refl, sym, ◌∙◌, ap, subst, arith, Some, None, Option, append-nil, length-append, eq-eqb}
use Rattle.std.specs.Prelude.{◌-◌, nat_eq}
use Rattle.std.specs.List.{AllByRecursion}
use Rattle.std.proofs.lemmas.Bool.Decides.{eqb_tells}
use Rattle.cq_value.proofs.Lists.{all_weaker}
use Rattle.cq_value.proofs.Truths.{two_ways, or_neither}
use Rattle.cq_tree.specs.declared.journal.Who.{Who}
use Rattle.cq_tree.specs.declared.journal.Entry.{Entry}
use Rattle.cq_tree.specs.declared.statement.Statement.{Statement}
use Rattle.cq_tree.specs.declared.statement.Statement.TheVariants as statement
use Rattle.cq_journal.specs.Records.{Journal}
use Rattle.cq_journal.specs.Stations.{node_of, moving_of}
use Rattle.cq_planning.specs.Touched.{among}
use Rattle.cq_answer.specs.declared.answer.Answer.{Answer}
use Rattle.cq_answer.specs.declared.answer.Answer.TheVariants as answer
use Rattle.cq_answer.specs.declared.answered.Answered.{Answered}
use Rattle.cq_answer.specs.declared.fault.Fault.TheVariants as fault
use Rattle.cq_history.specs.Deeds.{Deed, Phase, first_seen, in_deed, deed_over}
use Rattle.cq_history.specs.Journals.{journal_in, none, made_by, Step, steps_after}
use Rattle.cq_history.specs.Legality.{IsLegalStep}
use Rattle.cq_history.specs.Log.{IsAnsweredIn}
use Rattle.cq_history.specs.Moves.{start_fault}
use Rattle.cq_history.specs.Phases.{who_of}
use Rattle.cq_history.specs.Room.{stores_moved, IsRoom}
use Rattle.cq_history.specs.Run.{Run, Rules, Environment, after}
use Rattle.cq_history.specs.Standing.{MovesUnless, Yields}
use Rattle.cq_history.proofs.Entries.{with_list, steps_others}
use Rattle.cq_history.proofs.Moving.{failed_keeps_catalog}
use Rattle.cq_history.proofs.Script.{grows_none}
use Rattle.cq_history.proofs.Visiting.{grows_visits, visit_is_answered}
use Rattle.cq_reach.specs.Seen.{Seen}
use Rattle.cq_cell.specs.Lists.{NotIn}
use Rattle.cq_move_calls.specs.Moving.{Told}
use Rattle.cq_transfer.specs.Entering.{Enters}
use Rattle.cq_block_laws.specs.Serving.{Opening, Known, Finds, MayFind, free_first, WereFree, Sends, IsPhaseOf, IsAnsweredBeside}
use Rattle.cq_move_laws.specs.Moving.{IsAsked, IsOfGroup, GoesOnIn, ComesBeside}
use Rattle.cq_move_laws.specs.Laws.{UnknownIsAnswered, NodeIsAnswered, RoomIsAnswered, MemoryIsAnswered}
use Rattle.cq_move_laws.proofs.Steps.{in_group, look_in, deed_in, MayComeIn, GoesBy, IsLookAt, MayLook, goes_visits}
use Rattle.cq_move_laws.proofs.Standing.{start_no_node, start_no_room, stands_unknown, stands_moved, moves_refused, moves_memory}
use Rattle.cq_move_laws.proofs.Noting.{free_at_first, sends_nothing, sends_all}

-- ---- what its session saw of the journals

-- a step's journal is the one behind which it stands, with some entries
pub steps_over : (who : Who) (j : Journal) (more : List Entry) → AllByRecursion (λ (s : Step). s.before ≡ with_list j s.before.entries) (steps_after who j more)
steps_over who j [] = tt
steps_over who j (e ∷ more) =
    let rest = steps_over who (with_list j (j.entries ++ e ∷ [])) more in
    elim (two_ways (made_by who e)) [ inl m ↦ rw m (refl, rest) | inr n ↦ rw n rest ]

take_self : {X : Type 0} (xs : List X) → take (length xs) xs ≡ xs
take_self [] = refl
take_self (x ∷ xs) = ap (λ v. x ∷ v) (take_self xs)

not_in : (n : ℕ) (ns : List ℕ) → among n ns ≡ false → NotIn n ns
not_in n [] e = tt
not_in n (m ∷ ns) e =
    let both = or_neither (nat_eq n m) (among n ns) e in
    (λ same. (let yes : nat_eq n m ≡ true = eq-eqb n m (sym same) in let bad : true ≡ false = sym yes ∙ both.0 in cc bad), not_in n ns both.1)

is_among : (n : ℕ) (ns : List ℕ) → (NotIn n ns → ⊥) → among n ns ≡ true
is_among n ns some = elim (two_ways (among n ns)) [ inl y ↦ y | inr f ↦ absurd (some (not_in n ns f)) ]

not_own : (o : Opening) (who : Who) (e : Entry) → ComesBeside o who e → made_by who e ≡ false
not_own o who e c = elim (eqb_tells e.who.session who.session) [ inl p ↦ absurd (c.0 p.1) | inr p ↦ rw p.0 refl ]

module _ (o : Opening) (who : Who) (group : ℕ) (s t : Seen) (old new : List Journal) (there : group < length old) (goes : GoesOnIn group s t old new) where
  may_come : (e : Entry) → ComesBeside o who e → MayComeIn o.sessions who e
  may_come e c = inr (c.0, is_among e.who.session o.sessions c.1)

  grown_by : (more : List Entry) → t.journal ≡ with_list s.journal (s.journal.entries ++ more) → journal_in new group ≡ with_list (journal_in old group) ((journal_in old group).entries ++ more)
  grown_by more is = goes.is ∙ is ∙ ap (λ (j : Journal). with_list j (j.entries ++ more)) (sym goes.was)

  -- its steps, between entries of others
  pub goes_by_steps : (steps : List Step) → Enters (ComesBeside o who) who steps s t → GoesBy o.sessions who group steps old new
  goes_by_steps steps x = record {
    count = goes.count;
    there = there;
    more = x.grown.more;
    grown = grown_by x.grown.more (ap (λ (v : Seen). v.journal) x.grown.is);
    own = x.own ∙ ap (λ (j : Journal). steps_after who j x.grown.more) (sym goes.was);
    comes = all_weaker (λ (e : Entry). (made_by who e ≡ true) ⊎ ComesBeside o who e) (MayComeIn o.sessions who) (λ e c. elim c [ inl m ↦ inl m | inr b ↦ may_come e b ]) x.grown.more x.grown.all;
    others = goes.others;
  }

  -- none, and a look at the group as it was found
  module _ (fact : Seen → Type 0) (told : Told (ComesBeside o who) who [] fact s t) where
    found_is : t.journal ≡ told.found.journal
    found_is = ap (λ (v : Seen). v.journal) told.is ∙ ap (with_list told.found.journal) (append-nil told.found.journal.entries)

    pub goes_by_look : GoesBy o.sessions who group [] old new
    goes_by_look = record {
      count = goes.count;
      there = there;
      more = told.grown.more;
      grown = grown_by told.grown.more (found_is ∙ ap (λ (v : Seen). v.journal) told.grown.is);
      own = sym (steps_others who (journal_in old group) told.grown.more (all_weaker (ComesBeside o who) (λ (e : Entry). made_by who e ≡ false) (not_own o who) told.grown.more told.grown.all));
      comes = all_weaker (ComesBeside o who) (MayComeIn o.sessions who) may_come told.grown.more told.grown.all;
      others = goes.others;
    }

    pub found_last : journal_in new group ≡ told.found.journal
    found_last = goes.is ∙ found_is

    pub looks_last : IsLookAt group old new told.found.journal
    looks_last = (
      length (journal_in new group).entries,
      (let is : length (journal_in new group).entries ≡ length ((journal_in old group).entries ++ goes_by_look.more) = ap (λ (j : Journal). length j.entries) goes_by_look.grown in let long = length-append (journal_in old group).entries goes_by_look.more in omega (arith, is, long)),
      omega arith,
      sym found_last ∙ ap (with_list (journal_in new group)) (sym (take_self (journal_in new group).entries)),
    )

-- where nothing came, and nothing was entered
goes_by_none : (sessions : List ℕ) (who : Who) (group : ℕ) (old new : List Journal) → group < length old → new ≡ old → GoesBy sessions who group [] old new
goes_by_none sessions who group old new there same = subst (GoesBy sessions who group [] old) (sym same) (record {
  count = refl;
  there = there;
  more = [];
  grown = ap (with_list (journal_in old group)) (sym (append-nil (journal_in old group).entries));
  own = refl;
  comes = tt;
  others = λ g n. refl;
})

looks_first : (group : ℕ) (old new : List Journal) → new ≡ old → IsLookAt group old new (journal_in old group)
looks_first group old new same = subst (λ (js : List Journal). IsLookAt group old js (journal_in old group)) (sym same) (
  length (journal_in old group).entries,
  omega arith,
  omega arith,
  ap (with_list (journal_in old group)) (sym (take_self (journal_in old group).entries)),
)

-- ---- its answer

module _ (rules : Rules) (run : Run) (o : Opening) (a : Answered) (shard from to : ℕ) (old new : Known) (asked : IsAsked rules o a shard from to) where
  abbrev e : Environment
  e = o.environment

  abbrev moves : Statement
  moves = statement.Move shard from to

  same_catalog : (ans : Answer) → (after e (Some moves) ans).catalog ≡ e.catalog
  same_catalog (answer.Tag t) = refl
  same_catalog (answer.Table names rows) = refl
  same_catalog (answer.Failed f) = failed_keeps_catalog e (Some moves) f

  abbrev InPhase : Answer → ℕ → Type 0
  InPhase ans free = (p : Phase) → IsPhaseOf o a.session p → IsRoom run e.catalog e.retired (λ g. node_of (journal_in o.journals g)) p.beside (to - 1) free →
      IsAnsweredIn rules run e (after e (Some moves) ans) p (who_of a) old.journals new.journals (Some moves) ans

  pub beside : (ans : Answer) (free : ℕ) → a.answer ≡ ans → ((at : ℕ) → Sends e.catalog at a (old.errands at) (new.errands at)) → WereFree run o (to - 1) (new.errands (to - 1)) (who_of a) free → InPhase ans free →
      IsAnsweredBeside rules run o a old new
  beside ans free is sends were each = record {
    sends = sends;
    free = free;
    finds = subst (λ (b : Option Statement). Finds run o new.errands (who_of a) b free) (sym asked.bound) were;
    answered = λ p in_block may.
        subst (λ (b : Option Statement). IsAnsweredIn rules run e (after e b a.answer) p (who_of a) old.journals new.journals b a.answer) (sym asked.bound)
        (subst (λ (x : Answer). IsAnsweredIn rules run e (after e (Some moves) x) p (who_of a) old.journals new.journals (Some moves) x) (sym is)
        (each p in_block (subst (λ (b : Option Statement). MayFind run o p b free) asked.bound may)));
  }

  module _ (group : ℕ) (of : IsOfGroup o shard group old.journals) where
    pub group_there : group < length old.journals
    group_there = of.known

    -- by its steps there, and by a look where it has none
    module _ (steps : List Step) (look : Option Journal) (j : Journal) (goes : GoesBy o.sessions (who_of a) group steps old.journals new.journals) (may : MayLook group old.journals new.journals look) (first : first_seen steps look ≡ Some j) where
      abbrev deed : Deed
      deed = deed_in group steps look

      saw : first_seen (deed.made group) (deed.looked group) ≡ Some j
      saw =
          let here = eq-eqb group group refl in
          ap (λ b. first_seen (cond b steps []) (look_in group look group)) here ∙ ap (λ b. first_seen steps (cond b look None)) here ∙ first

      pub by_steps : (ans : Answer) (free : ℕ) → a.answer ≡ ans → ((at : ℕ) → Sends e.catalog at a (old.errands at) (new.errands at)) → WereFree run o (to - 1) (new.errands (to - 1)) (who_of a) free →
          ((g : ℕ) → AllByRecursion (IsLegalStep e.catalog g (who_of a)) (in_group group steps g)) →
          ((p : Phase) → MovesUnless (start_fault run e.catalog free (moving_of j) (node_of j) group from to) e.catalog (in_deed p e.catalog deed) group from to ans) → IsAnsweredBeside rules run o a old new
      by_steps ans free is sends were legal its = beside ans free is sends were (λ p in_block room.
          visit_is_answered rules run e (after e (Some moves) ans) p (who_of a) deed old.journals new.journals (Some moves) ans
          (record {
            stands = stands_moved rules run e p deed shard from to ans asked.runs group free o.journals j of.is of.there in_block.journals of.opened room saw (its p);
            legal = legal;
          })
          (goes_visits o.sessions (who_of a) group steps look old.journals new.journals goes may p in_block.sessions) goes.count refl (same_catalog ans))

    no_steps : (g : ℕ) → AllByRecursion (IsLegalStep e.catalog g (who_of a)) (in_group group [] g)
    no_steps g = elim (two_ways (nat_eq g group)) [ inl y ↦ rw y tt | inr n ↦ rw n tt ]

    -- with no entry and no other group seen
    pub by_nothing : (ans : Answer) (free : ℕ) → a.answer ≡ ans → new.journals ≡ old.journals → ((at : ℕ) → Sends e.catalog at a (old.errands at) (new.errands at)) → WereFree run o (to - 1) (new.errands (to - 1)) (who_of a) free →
        ((p : Phase) (look : Option Journal) (mover : Option Who) (node : ℕ) → MovesUnless (start_fault run e.catalog free mover node group from to) e.catalog (in_deed p e.catalog (deed_in group [] look)) group from to ans) →
        IsAnsweredBeside rules run o a old new
    by_nothing ans free is same sends were its =
        let j = journal_in old.journals group in
        by_steps [] (Some j) j (goes_by_none o.sessions (who_of a) group old.journals new.journals group_there same) (looks_first group old.journals new.journals same) refl
        ans free is sends were no_steps (λ p. its p (Some j) (moving_of j) (node_of j))

    -- with no entry, by what was told of the group
    pub by_told : (s t : Seen) (fact : Seen → Type 0) → GoesOnIn group s t old.journals new.journals → (told : Told (ComesBeside o (who_of a)) (who_of a) [] fact s t) → (ans : Answer) (free : ℕ) → a.answer ≡ ans →
        ((at : ℕ) → Sends e.catalog at a (old.errands at) (new.errands at)) → WereFree run o (to - 1) (new.errands (to - 1)) (who_of a) free →
        ((p : Phase) (look : Option Journal) → MovesUnless (start_fault run e.catalog free (moving_of told.found.journal) (node_of told.found.journal) group from to) e.catalog (in_deed p e.catalog (deed_in group [] look)) group from to ans) →
        IsAnsweredBeside rules run o a old new
    by_told s t fact goes told ans free is sends were its =
        let j = told.found.journal in
        by_steps [] (Some j) j (goes_by_look o (who_of a) group s t old.journals new.journals group_there goes fact told) (looks_last o (who_of a) group s t old.journals new.journals group_there goes fact told) refl
        ans free is sends were no_steps (λ p. its p (Some j))

-- ---- moves that come to no group

pub unknown_is_answered : UnknownIsAnswered
unknown_is_answered rules run o a shard from to known asked unknown why = elim why [
  | inl is ↦ by_answer (answer.Failed (fault.NoShard shard)) is refl
  | inr is ↦ by_answer (answer.Failed fault.Memory) is tt
]
  where
    by_answer : (ans : Answer) → a.answer ≡ ans → Yields (Some (fault.NoShard shard)) (λ b. ⊥) ans → IsAnsweredBeside rules run o a known known
    by_answer ans is its =
        beside rules run o a shard from to known known asked ans (free_first run o (to - 1)) is (sends_nothing o.environment.catalog a known.errands known.errands (λ at. record { more = []; all = sym (append-nil (known.errands at)); its = refl }))
        (free_at_first run o (to - 1) (known.errands (to - 1)) (who_of a)) (λ p in_block room.
        visit_is_answered rules run o.environment (after o.environment (Some (statement.Move shard from to)) ans) p (who_of a) (deed_over (who_of a) known.journals (λ g. None) none) known.journals known.journals (Some (statement.Move shard from to)) ans
        (record {
          stands = stands_unknown rules run o.environment p (deed_over (who_of a) known.journals (λ g. None) none) shard from to ans asked.runs unknown (λ g. refl) its;
          legal = λ g. tt;
        })
        (grows_visits p (who_of a) (λ g. None) none known.journals known.journals (λ g j l. absurd (cc l)) (grows_none (who_of a) known.journals)) refl refl (same_catalog rules run o a shard from to known known asked ans))

pub node_is_answered : NodeIsAnswered
node_is_answered rules run o a shard from to group known asked of far is =
    by_nothing rules run o a shard from to known known asked group of (answer.Failed (fault.NoNode to)) (free_first run o (to - 1)) is refl
    (sends_nothing o.environment.catalog a known.errands known.errands (λ at. record { more = []; all = sym (append-nil (known.errands at)); its = refl }))
    (free_at_first run o (to - 1) (known.errands (to - 1)) (who_of a))
    (λ p look mover node. moves_refused run o.environment.catalog p group from to look (fault.NoNode to) _ (answer.Failed (fault.NoNode to)) (start_no_node run o.environment.catalog (free_first run o (to - 1)) group from to mover node far) refl)

pub room_is_answered : RoomIsAnswered
room_is_answered rules run o a shard from to group free old new asked of low high were few same notes is =
    let n = stores_moved o.environment.catalog (Some group) in
    by_nothing rules run o a shard from to old new asked group of (answer.Failed (fault.NoRoom to free n)) free is same (sends_nothing o.environment.catalog a old.errands new.errands notes) were
    (λ p look mover node. moves_refused run o.environment.catalog p group from to look (fault.NoRoom to free n) _ (answer.Failed (fault.NoRoom to free n)) (start_no_room run o.environment.catalog free group from to low high mover node few) refl)

pub memory_is_answered : MemoryIsAnswered
memory_is_answered rules run o a shard from to group old new asked of same notes is =
    let n = stores_moved o.environment.catalog (Some group) in
    by_nothing rules run o a shard from to old new asked group of (answer.Failed fault.Memory) (free_first run o (to - 1)) is same
    (λ at. elim notes [
      | inl nothing ↦ sends_nothing o.environment.catalog a old.errands new.errands nothing at
      | inr all ↦ sends_all o.environment.catalog a shard from to group n n to old.errands new.errands asked.bound of.is refl (omega arith) (inl refl) all at
    ])
    (free_at_first run o (to - 1) (new.errands (to - 1)) (who_of a))
    (λ p look mover node. moves_memory run o.environment.catalog p group from to look _)
