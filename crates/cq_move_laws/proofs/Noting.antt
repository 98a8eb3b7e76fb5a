-- The notes of a move at the workers: they are its session's, and keep within what it takes and gives.
use Rattle.std.proofs.Common.{zero, suc, ◌≡◌, ◌⊎◌, ◌+◌, ◌≤◌, inl, inr, ℕ, Bool, true, false, cond, List, [], ◌∷◌, ◌++◌, filter, refl, sym, ◌∙◌, ap, subst, arith, Some, Option, eq-eqb, append_assoc, append-nil}
use Rattle.std.specs.Prelude.{nat_eq}
use Rattle.std.specs.List.{AllByRecursion, sum_by}
use Rattle.std.proofs.lemmas.Bool.{eqb-true, ne_eqb}
use Rattle.std.proofs.lemmas.Bool.Decides.{eqb_tells}
use Rattle.std.proofs.lemmas.List.Sums.{sum_by-cons, sum_by-append}
use Rattle.cq_value.proofs.Lists.{all_append, all_weaker}
use Rattle.cq_value.proofs.Truths.{two_ways, and_both}
use Rattle.cq_tree.specs.declared.journal.Who.{Who}
use Rattle.cq_tree.specs.declared.statement.Statement.{Statement}
use Rattle.cq_tree.specs.declared.statement.Statement.TheVariants as statement
use Rattle.cq_catalog.specs.Contents.{Contents}
use Rattle.cq_catalog.specs.Placement.{group_of_shard}
use Rattle.cq_answer.specs.declared.answered.Answered.{Answered}
use Rattle.cq_history.specs.Phases.{who_of}
use Rattle.cq_history.specs.Room.{stores_moved, stores_to, stores_from}
use Rattle.cq_history.specs.Run.{Run}
use Rattle.cq_cell.specs.Lists.{own, StartsWith}
use Rattle.cq_cell.proofs.Lists.{own_more}
use Rattle.cq_shared.specs.declared.errand.Errand.{Errand}
use Rattle.cq_shared.specs.declared.errand.Errand.TheVariants as errand
use Rattle.cq_shared.specs.Errands.{sent_by, took_in, gave_in, tooks, gaves}
use Rattle.cq_block_laws.specs.Serving.{Opening, statement_in, sent_for, free_first, WereFree, KeepsWithin, Sends}
use Rattle.cq_move_laws.specs.Notes.{Notes, NotesNothing, TakesAndGives, gifts, at_node}
use Rattle.cq_move_laws.specs.Laws.{NotesBegin, NotesGoOn, CallIsNoted, FreeIsFound}

-- ---- a session's notes

pub notes_begin : NotesBegin
notes_begin session notes = record { more = []; all = sym (append-nil notes); its = refl }

pub notes_go_on : NotesGoOn
notes_go_on session first then old mid new a b = record {
  more = a.more ++ b.more;
  all = b.all ∙ ap (λ v. v ++ b.more) a.all ∙ append_assoc old a.more b.more;
  its = own_more sent_by session a.more b.more ∙ ap (λ v. v ++ own sent_by session b.more) a.its ∙ ap (λ v. first ++ v) b.its;
}

pub call_is_noted : CallIsNoted
call_is_noted session notes more old new others mine is = record {
  more = more ++ notes;
  all = is ∙ append_assoc old more notes;
  its = own_more sent_by session more notes ∙ ap (λ v. v ++ own sent_by session notes) others ∙ mine;
}

-- where none is the session's, none is the statement's
none_for : (who : Who) (xs : List Errand) → own sent_by who.session xs ≡ [] → AllByRecursion (λ n. sent_for who n ≡ false) xs
none_for who [] e = tt
none_for who (x ∷ xs) e = elim (two_ways (nat_eq (sent_by x) who.session)) [
  | inl y ↦ absurd (let bad : x ∷ own sent_by who.session xs ≡ [] = rw y at e in cc bad)
  | inr n ↦ (rw n refl, none_for who xs (let rest : own sent_by who.session xs ≡ [] = rw n at e in rest))
]

pub free_is_found : FreeIsFound
free_is_found run o at who free old more new fresh others begins is = record {
  some = old ++ more;
  begins = begins;
  before = all_append (λ n. sent_for who n ≡ false) old more fresh (none_for who more others);
  is = is;
}

-- as the block was opened, before all notes
pub free_at_first : (run : Run) (o : Opening) (at : ℕ) (notes : List Errand) (who : Who) → WereFree run o at notes who (free_first run o at)
free_at_first run o at notes who = record { some = []; begins = (notes, refl); before = tt; is = refl }

-- what holds of a session's own notes
all_from_own : (P : Errand → Type 0) (s : ℕ) (xs : List Errand) → AllByRecursion P (own sent_by s xs) → AllByRecursion (λ n. sent_by n ≡ s → P n) xs
all_from_own P s [] all = tt
all_from_own P s (x ∷ xs) all = elim (two_ways (nat_eq (sent_by x) s)) [
  | inl y ↦ (let h : P x × AllByRecursion P (own sent_by s xs) = rw y at all in ((λ is. h.0), all_from_own P s xs h.1))
  | inr n ↦ (
      let h : AllByRecursion P (own sent_by s xs) = rw n at all in
      ((λ is. (let yes : nat_eq (sent_by x) s ≡ true = eq-eqb (sent_by x) s is in absurd (let bad : true ≡ false = sym yes ∙ n in cc bad))), all_from_own P s xs h))
]

filter_yes : (p : Errand → Bool) (x : Errand) (xs : List Errand) → p x ≡ true → filter p (x ∷ xs) ≡ x ∷ filter p xs
filter_yes p x xs y = rw y refl

filter_no : (p : Errand → Bool) (x : Errand) (xs : List Errand) → p x ≡ false → filter p (x ∷ xs) ≡ filter p xs
filter_no p x xs n = rw n refl

own_yes : (s : ℕ) (x : Errand) (xs : List Errand) → nat_eq (sent_by x) s ≡ true → own sent_by s (x ∷ xs) ≡ x ∷ own sent_by s xs
own_yes s x xs y = rw y refl

own_no : (s : ℕ) (x : Errand) (xs : List Errand) → nat_eq (sent_by x) s ≡ false → own sent_by s (x ∷ xs) ≡ own sent_by s xs
own_no s x xs n = rw n refl

filter_is_own : (who : Who) (xs : List Errand) → AllByRecursion (λ n. sent_by n ≡ who.session → sent_for who n ≡ true) xs → filter (sent_for who) xs ≡ own sent_by who.session xs
filter_is_own who [] all = refl
filter_is_own who (x ∷ xs) all = elim (two_ways (nat_eq (sent_by x) who.session)) [
  | inl y ↦ filter_yes (sent_for who) x xs (all.0 (eqb-true (sent_by x) who.session y)) ∙ ap (λ v. x ∷ v) (filter_is_own who xs all.1) ∙ sym (own_yes who.session x xs y)
  | inr n ↦ filter_no (sent_for who) x xs (rw n refl) ∙ filter_is_own who xs all.1 ∙ sym (own_no who.session x xs n)
]

-- notes of a statement that keep within its bounds are sent
pub sends_notes : (c : Contents) (at : ℕ) (a : Answered) (mine old new : List Errand) → Notes a.session mine old new → AllByRecursion (λ n. sent_for (who_of a) n ≡ true) mine → KeepsWithin c (at + 1) a.bound mine → Sends c at a old new
sends_notes c at a mine old new notes all within =
    let its = all_from_own (λ n. sent_for (who_of a) n ≡ true) a.session notes.more (subst (AllByRecursion (λ n. sent_for (who_of a) n ≡ true)) (sym notes.its) all) in
    record {
      more = notes.more;
      all = notes.all;
      own = all_weaker (λ n. sent_by n ≡ a.session → sent_for (who_of a) n ≡ true) (λ n. sent_by n ≡ a.session → statement_in n ≡ a.statement)
          (λ n f is. eqb-true (statement_in n) a.statement (and_both (nat_eq (sent_by n) a.session) (nat_eq (statement_in n) a.statement) (f is)).1) notes.more its;
      within = subst (KeepsWithin c (at + 1) a.bound) (sym (filter_is_own (who_of a) notes.more its ∙ notes.its)) within;
    }

-- ---- sums

took_none : (who : Who) (n : ℕ) → tooks (gifts who n) ≡ 0
took_none who zero = refl
took_none who (suc n) = let one : tooks (errand.Gave who ∷ gifts who n) ≡ 0 + tooks (gifts who n) = sum_by-cons took_in (errand.Gave who) (gifts who n) in let more = took_none who n in omega (arith, one, more)

gave_many : (who : Who) (n : ℕ) → gaves (gifts who n) ≡ n
gave_many who zero = refl
gave_many who (suc n) = let one : gaves (errand.Gave who ∷ gifts who n) ≡ 1 + gaves (gifts who n) = sum_by-cons gave_in (errand.Gave who) (gifts who n) in let more = gave_many who n in omega (arith, one, more)

-- of two beginnings of a list one begins the other
one_begins : (xs ys us vs : List Errand) → xs ++ ys ≡ us ++ vs → StartsWith us xs ⊎ StartsWith xs us
one_begins [] ys us vs e = inl (us, refl)
one_begins (x ∷ xs) ys [] vs e = inr (x ∷ xs, refl)
one_begins (x ∷ xs) ys (u ∷ us) vs e =
    let head : x ≡ u = cc in
    let tail : xs ++ ys ≡ us ++ vs = cc in
    elim (one_begins xs ys us vs tail) [
      | inl s ↦ inl (s.0, ap (λ v. x ∷ v) s.1 ∙ ap (λ v. v ∷ us) head)
      | inr s ↦ inr (s.0, ap (λ v. u ∷ v) s.1 ∙ ap (λ v. v ∷ xs) (sym head))
    ]

no_more : (f : Errand → ℕ) (all some : List Errand) → StartsWith all some → sum_by f some ≤ sum_by f all
no_more f all some b = let e : sum_by f all ≡ sum_by f some + sum_by f b.0 = ap (sum_by f) (sym b.1) ∙ sum_by-append f some b.0 in omega (arith, e)

-- notes that give nothing, and then so many gifts
pub keeps_within : (c : Contents) (node : ℕ) (bound : Option Statement) (who : Who) (first : List Errand) (n : ℕ) → gaves first ≡ 0 → tooks first ≤ stores_to c node bound → n ≤ tooks first + stores_from c node bound →
    KeepsWithin c node bound (first ++ gifts who n)
keeps_within c node bound who first n none takes gives = record {
  took = λ some b. (let less = no_more took_in (first ++ gifts who n) some b in omega (arith, less, taken, takes));
  gave = λ some b. elim (one_begins some b.0 first (gifts who n) b.1) [
    | inl s ↦ (let less = no_more gave_in first some s in omega (arith, less, none))
    | inr s ↦ (let less = no_more gave_in (first ++ gifts who n) some b in let more = no_more took_in some first s in omega (arith, less, more, given, gives))
  ];
}
  where
    taken : tooks (first ++ gifts who n) ≡ tooks first
    taken = let e : tooks (first ++ gifts who n) ≡ tooks first + tooks (gifts who n) = sum_by-append took_in first (gifts who n) in let z = took_none who n in omega (arith, e, z)

    given : gaves (first ++ gifts who n) ≡ n
    given = let e : gaves (first ++ gifts who n) ≡ gaves first + gaves (gifts who n) = sum_by-append gave_in first (gifts who n) in let z = gave_many who n in omega (arith, e, z, none)

-- ---- those of a move

its_own : (who : Who) (e : Errand) → sent_by e ≡ who.session → statement_in e ≡ who.statement → sent_for who e ≡ true
its_own who e s n = rw (eq-eqb (sent_by e) who.session s, eq-eqb (statement_in e) who.statement n) refl

gifts_own : (who : Who) (n : ℕ) → AllByRecursion (λ e. sent_for who e ≡ true) (gifts who n)
gifts_own who zero = tt
gifts_own who (suc n) = (its_own who (errand.Gave who) refl refl, gifts_own who n)

turned : (m n : ℕ) → nat_eq m n ≡ nat_eq n m
turned m n = elim (eqb_tells m n) [ inl y ↦ y.0 ∙ sym (eq-eqb n m (sym y.1)) | inr z ↦ z.0 ∙ sym (ne_eqb n m (λ e. z.1 (sym e))) ]

at_all : (P : Errand → Type 0) (node : ℕ) (notes : List Errand) (at : ℕ) → AllByRecursion P notes → AllByRecursion P (at_node node notes at)
at_all P node notes at all = elim (two_ways (nat_eq (at + 1) node)) [ inl y ↦ rw y all | inr n ↦ rw n tt ]

at_sum : (f : Errand → ℕ) (node : ℕ) (e : Errand) (at : ℕ) → sum_by f (at_node node (e ∷ []) at) ≡ cond (nat_eq (at + 1) node) (f e) 0
at_sum f node e at = elim (two_ways (nat_eq (at + 1) node)) [
  | inl y ↦ rw y (let one : sum_by f (e ∷ []) ≡ f e + 0 = sum_by-cons f e [] in omega (arith, one))
  | inr n ↦ rw n refl
]

at_none : (f : Errand → ℕ) (node : ℕ) (e : Errand) (at : ℕ) → f e ≡ 0 → sum_by f (at_node node (e ∷ []) at) ≡ 0
at_none f node e at none = elim (two_ways (nat_eq (at + 1) node)) [
  | inl y ↦ rw y (let one : sum_by f (e ∷ []) ≡ f e + 0 = sum_by-cons f e [] in omega (arith, one, none))
  | inr n ↦ rw n refl
]

gifts_at : (who : Who) (node n at : ℕ) → at_node node (gifts who n) at ≡ gifts who (cond (nat_eq (at + 1) node) n 0)
gifts_at who node n at = elim (two_ways (nat_eq (at + 1) node)) [ inl y ↦ rw y refl | inr m ↦ rw m refl ]

module _ (c : Contents) (who : Who) (shard from to n room gave node at : ℕ) (needs : n ≡ stores_moved c (group_of_shard c shard)) (few : gave ≤ n) (there : (node ≡ to) ⊎ (node ≡ from)) where
  abbrev bound : Option Statement
  bound = Some (statement.Move shard from to)

  abbrev took : List Errand
  took = at_node to (errand.Took who n ∷ []) at

  abbrev makes : List Errand
  makes = at_node room (errand.Room who n ∷ []) at

  abbrev mine : List Errand
  mine = took ++ (makes ++ at_node node (gifts who gave) at)

  pub mine_own : AllByRecursion (λ e. sent_for who e ≡ true) mine
  mine_own =
      let P : Errand → Type 0 = λ e. sent_for who e ≡ true in
      all_append P took (makes ++ at_node node (gifts who gave) at) (at_all P to (errand.Took who n ∷ []) at (its_own who (errand.Took who n) refl refl, tt))
      (all_append P makes (at_node node (gifts who gave) at) (at_all P room (errand.Room who n ∷ []) at (its_own who (errand.Room who n) refl refl, tt)) (at_all P node (gifts who gave) at (gifts_own who gave)))

  abbrev given : ℕ
  given = cond (nat_eq (at + 1) node) gave 0

  parts : (took ++ makes) ++ gifts who given ≡ mine
  parts = append_assoc took makes (gifts who given) ∙ ap (λ v. took ++ (makes ++ v)) (sym (gifts_at who node gave at))

  taken : tooks (took ++ makes) ≡ cond (nat_eq to (at + 1)) n 0
  taken =
      let both : tooks (took ++ makes) ≡ tooks took + tooks makes = sum_by-append took_in took makes in
      let one : tooks took ≡ cond (nat_eq to (at + 1)) n 0 = at_sum took_in to (errand.Took who n) at ∙ ap (λ b. cond b n 0) (turned (at + 1) to) in
      let none : tooks makes ≡ 0 = at_none took_in room (errand.Room who n) at refl in
      omega (arith, both, one, none)

  gave_none : gaves (took ++ makes) ≡ 0
  gave_none =
      let both : gaves (took ++ makes) ≡ gaves took + gaves makes = sum_by-append gave_in took makes in
      let one : gaves took ≡ 0 = at_none gave_in to (errand.Took who n) at refl in
      let none : gaves makes ≡ 0 = at_none gave_in room (errand.Room who n) at refl in
      omega (arith, both, one, none)

  takes : stores_to c (at + 1) bound ≡ cond (nat_eq to (at + 1)) n 0
  takes = ap (λ m. cond (nat_eq to (at + 1)) m 0) (sym needs)

  gives : stores_from c (at + 1) bound ≡ cond (nat_eq from (at + 1)) n 0
  gives = ap (λ m. cond (nat_eq from (at + 1)) m 0) (sym needs)

  enough : given ≤ cond (nat_eq to (at + 1)) n 0 + cond (nat_eq from (at + 1)) n 0
  enough = elim (two_ways (nat_eq (at + 1) node)) [
    | inl y ↦ rw y (elim there [
      | inl is ↦ (let here : nat_eq to (at + 1) ≡ true = turned to (at + 1) ∙ ap (nat_eq (at + 1)) (sym is) ∙ y in rw here (omega (arith, few)))
      | inr is ↦ (let here : nat_eq from (at + 1) ≡ true = turned from (at + 1) ∙ ap (nat_eq (at + 1)) (sym is) ∙ y in rw here (omega (arith, few)))
    ])
    | inr m ↦ rw m (omega arith)
  ]

  pub mine_within : KeepsWithin c (at + 1) bound mine
  mine_within =
      subst (KeepsWithin c (at + 1) bound) parts
      (keeps_within c (at + 1) bound who (took ++ makes) given gave_none (let t = taken in let s = takes in omega (arith, t, s)) (let t = taken in let s = gives in let e = enough in omega (arith, t, s, e)))

-- ---- as they are sent

pub sends_nothing : (c : Contents) (a : Answered) (old new : ℕ → List Errand) → NotesNothing a.session old new → (at : ℕ) → Sends c at a (old at) (new at)
sends_nothing c a old new notes at = sends_notes c at a [] (old at) (new at) (notes at) tt (keeps_within c (at + 1) a.bound (who_of a) [] 0 refl (omega arith) (omega arith))

pub sends_all : (c : Contents) (a : Answered) (shard from to group n gave node : ℕ) (old new : ℕ → List Errand) → a.bound ≡ Some (statement.Move shard from to) → group_of_shard c shard ≡ Some group → n ≡ stores_moved c (Some group) → gave ≤ n →
    (node ≡ to) ⊎ (node ≡ from) → TakesAndGives (who_of a) n to gave node old new → (at : ℕ) → Sends c at a (old at) (new at)
sends_all c a shard from to group n gave node old new bound is needs few there t at =
    let its : n ≡ stores_moved c (group_of_shard c shard) = needs ∙ ap (stores_moved c) (sym is) in
    let who = who_of a in
    let mine : List Errand = at_node to (errand.Took who n ∷ []) at ++ (at_node t.room (errand.Room who n ∷ []) at ++ at_node node (gifts who gave) at) in
    sends_notes c at a mine (old at) (new at) (t.notes at) (mine_own c who shard from to n t.room gave node at its few there)
    (subst (λ (b : Option Statement). KeepsWithin c (at + 1) b mine) (sym bound) (mine_within c who shard from to n t.room gave node at its few there))
