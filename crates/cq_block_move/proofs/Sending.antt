-- What several calls of a session noted at the workers, and whose notes these are.
use Rattle.std.proofs.Common.{◌≡◌, ◌≢◌, inl, inr, ℕ, zero, suc, ◌+◌, ◌-◌, false, ◌&&◌, List, [], ◌∷◌, ◌++◌, refl, sym, ap, ◌∙◌, subst, arith, Some, slice_get, Result, Ok, Err, ne_eqb}
use Rattle.std.specs.Prelude.{nat_eq}
use Rattle.std.proofs.lemmas.Bool.Decides.{eqb_tells}
use Rattle.std.proofs.lemmas.Option.{same_Some}
use Rattle.std.specs.List.{AllByRecursion}
use Rattle.atomic_table.specs.Seated.{TableId}
use Rattle.cq_value.proofs.Lists.{all_append, all_weaker}
use Rattle.cq_value.proofs.Truths.{two_ways}
use Rattle.cq_tree.specs.declared.journal.Who.{Who}
use Rattle.cq_store.specs.Stores.{StoreState}
use Rattle.cq_cell.specs.Lists.{keep, own}
use Rattle.cq_reach.proofs.Growth.{got, got_below}
use Rattle.cq_shared.specs.declared.errand.Errand.{Errand}
use Rattle.cq_shared.specs.Terms.{Terms}
use Rattle.cq_shared.specs.Errands.{Bench, WorkerPass, Sends, sent_by, take_notes, room_notes}
use Rattle.cq_shared.specs.Stocks.{SendsSome, give_notes}
use Rattle.cq_shared.specs.Writes.{TurnsOne}
use Rattle.cq_shared.proofs.Stocks.{AreSentBy, sends_none, sends_then, sends_some}
use Rattle.cq_block_laws.specs.Serving.{statement_in, sent_for}
use Rattle.cq_move_laws.specs.Notes.{at_node}
use Rattle.cq_block_move.specs.Benches.{BenchesSend, AreUnsent}
use Rattle.cq_block_move.specs.Hands.{AreReady}
use Rattle.cq_block_move.proofs.Calling.{at_here, at_other}

-- ---- whose notes they are

-- notes of a statement
abbrev pub AreNotesOf : Who → List Errand → Type 0
AreNotesOf who l = AllByRecursion (λ (n : Errand). (sent_by n ≡ who.session) × (statement_in n ≡ who.statement)) l

pub take_of : {V E : Type 0} (who : Who) (n : ℕ) (r : Result V E) → AreNotesOf who (take_notes who n r)
take_of who n (Ok v) = ((refl, refl), tt)
take_of who n (Err e) = tt

pub room_of : {V E : Type 0} (who : Who) (n : ℕ) (r : Result V E) → AreNotesOf who (room_notes who n r)
room_of who n (Ok v) = ((refl, refl), tt)
room_of who n (Err e) = tt

pub give_of : (who : Who) (n : ℕ) → AreNotesOf who (give_notes who n)
give_of who zero = tt
give_of who (suc n) = ((refl, refl), give_of who n)

pub node_of : (who : Who) (node : ℕ) (l : List Errand) → AreNotesOf who l → (at : ℕ) → AreNotesOf who (at_node node l at)
node_of who node l all at = elim (eqb_tells (at + 1) node) [ inl y ↦ subst (AreNotesOf who) (sym (at_here node l at y.1)) all | inr n ↦ subst (AreNotesOf who) (sym (at_other node l at n.1)) tt ]

pub both_of : (who : Who) (a b : List Errand) → AreNotesOf who a → AreNotesOf who b → AreNotesOf who (a ++ b)
both_of who a b = all_append (λ (n : Errand). (sent_by n ≡ who.session) × (statement_in n ≡ who.statement)) a b

-- a note of another session, or of another statement
not_session : (who : Who) (n : Errand) → sent_by n ≢ who.session → sent_for who n ≡ false
not_session who n d = ap (λ b. b && nat_eq (statement_in n) who.statement) (ne_eqb (sent_by n) who.session d)

not_statement : (who : Who) (n : Errand) → statement_in n ≢ who.statement → sent_for who n ≡ false
not_statement who n d = elim (two_ways (nat_eq (sent_by n) who.session)) [ inl t ↦ rw t (ne_eqb (statement_in n) who.statement d) | inr f ↦ rw f refl ]

-- the notes of a statement are none of another one
pub not_of : (who other : Who) (l : List Errand) → other.statement ≢ who.statement → AreNotesOf who l → AllByRecursion (λ n. sent_for other n ≡ false) l
not_of who other l d all = all_weaker (λ (n : Errand). (sent_by n ≡ who.session) × (statement_in n ≡ who.statement)) (λ (n : Errand). sent_for other n ≡ false) (λ n h. not_statement other n (λ e. d (sym e ∙ h.1))) l all

-- where none of a session's own notes is of a statement of it, none is
none_for : (who : Who) (s : ℕ) (l : List Errand) → who.session ≡ s → AllByRecursion (λ n. sent_for who n ≡ false) (own sent_by s l) → AllByRecursion (λ n. sent_for who n ≡ false) l
none_for who s [] e h = tt
none_for who s (n ∷ l) e h = elim (eqb_tells (sent_by n) s) [
  | inl y ↦
      let k = subst (λ b. AllByRecursion (λ n. sent_for who n ≡ false) (keep b n (own sent_by s l))) y.0 h in
      (k.0, none_for who s l e k.1)
  | inr z ↦
      let k = subst (λ b. AllByRecursion (λ n. sent_for who n ≡ false) (keep b n (own sent_by s l))) z.0 h in
      (not_session who n (λ j. z.1 (j ∙ e)), none_for who s l e k)
]

-- ---- one pass

-- nothing is of this statement
abbrev AreNone : Who → List Errand → Type 0
AreNone who l = AllByRecursion (λ n. sent_for who n ≡ false) l

-- a statement of the session noted nothing by calls of another one
unsent_still : {X C : Type 0} (other : Who) (p q : Bench X C) (notes : List Errand) → other.session ≡ p.me.0.number → AreNone other notes → SendsSome p notes q → AreNone other p.me.0.news → AreNone other q.me.0.news
unsent_still other p q notes by none sends old =
    subst (AreNone other) (sym sends.news) (all_append (λ (n : Errand). sent_for other n ≡ false) p.me.0.news sends.more old (none_for other p.me.0.number sends.more by (subst (AreNone other) (sym sends.sent) none)))

-- ---- the passes of a session

module _ {X C : Type 0} where
  -- nothing was noted
  pub send_none : (benches : List (WorkerPass X C)) → BenchesSend (λ at. []) benches benches
  send_none benches = record { count = refl; each = λ at p q e f. subst (λ (r : WorkerPass X C). SendsSome p.place [] r.place) (same_Some p q (sym e ∙ f)) (sends_none p.place) }

  -- calls, and then others
  pub send_then : (a b : ℕ → List Errand) (old mid new : List (WorkerPass X C)) → BenchesSend a old mid → BenchesSend b mid new → BenchesSend (λ at. a at ++ b at) old new
  send_then a b old mid new h k = record {
    count = k.count ∙ h.count;
    each = λ at p r e f.
        let low = got_below old at p e in
        let long = h.count in
        let q = got mid at (omega (arith, low, long)) in
        sends_then p.place q.0.place r.place (a at) (b at) (h.each at p q.0 e q.1) (k.each at q.0 r q.1 f);
  }

  -- the same notes, said otherwise
  pub send_alike : (a b : ℕ → List Errand) (old new : List (WorkerPass X C)) → ((at : ℕ) → a at ≡ b at) → BenchesSend a old new → BenchesSend b old new
  send_alike a b old new e h = record { count = h.count; each = λ at p q f g. subst (λ (l : List Errand). SendsSome p.place l q.place) (e at) (h.each at p q f g) }

  -- one call of the pass to the worker of a node
  pub send_one : (node : ℕ) (notes : List Errand) (fact : ℕ → Type 0) (old new : List (WorkerPass X C)) → node ≢ 0 → ((p : WorkerPass X C) → slice_get old (node - 1) ≡ Some p → AreSentBy p.place.me.0.number notes) →
      TurnsOne (node - 1) (λ (p q : WorkerPass X C). Sends p.place notes q.place fact) old new → BenchesSend (at_node node notes) old new
  send_one node notes fact old new some sent t = record {
    count = t.count;
    each = λ at p q e f. elim (eqb_tells (at + 1) node) [
      | inl y ↦
          let is : node - 1 ≡ at = (let k = y.1 in omega (arith, k)) in
          let first : t.one.before ≡ p = same_Some t.one.before p (sym t.one.was ∙ (ap (slice_get old) is ∙ e)) in
          let last : t.one.after ≡ q = same_Some t.one.after q (sym t.one.is ∙ (ap (slice_get new) is ∙ f)) in
          let one = sends_some t.one.before.place t.one.after.place notes fact (sent t.one.before t.one.was) t.one.holds in
          subst (λ (l : List Errand). SendsSome p.place l q.place) (sym (at_here node notes at y.1)) (subst (λ (r : WorkerPass X C). SendsSome p.place notes r.place) last (subst (λ (r : WorkerPass X C). SendsSome r.place notes t.one.after.place) first one))
      | inr n ↦
          let other : at ≢ node - 1 = λ (j : at ≡ node - 1). n.1 (omega (arith, j, some)) in
          let same : p ≡ q = same_Some p q (sym e ∙ (sym (t.others at other) ∙ f)) in
          subst (λ (l : List Errand). SendsSome p.place l q.place) (sym (at_other node notes at n.1)) (subst (λ (r : WorkerPass X C). SendsSome p.place [] r.place) same (sends_none p.place))
    ];
  }

  -- a statement of the session noted nothing by calls of another one
  pub still_unsent : (state : X → StoreState) (terms : C → Terms) (stalls : List TableId) (sessions : List ℕ) (other : Who) (ours : ℕ → List Errand) (old new : List (WorkerPass X C)) → AreReady state terms stalls sessions other.session old →
      BenchesSend ours old new → ((at : ℕ) → AllByRecursion (λ n. sent_for other n ≡ false) (ours at)) → AreUnsent other old → AreUnsent other new
  still_unsent state terms stalls sessions other ours old new ready sends ours_none none at q e =
      let low = got_below new at q e in
      let long = sends.count in
      let p = got old at (omega (arith, low, long)) in
      unsent_still other p.0.place q.place (ours at) (ready.own at p.0 p.1).numbered (ours_none at) (sends.each at p.0 q p.1 e) (none at p.0 p.1)
