-- What the sessions of a block noted of its workers settles with its answers.
use Rattle.std.proofs.Common.{◌≡◌, ◌+◌, ◌≤◌, ℕ, true, false, List, [], ◌∷◌, refl, sym, ◌∙◌, ap, subst, arith, ne_eqb, Some}
use Rattle.std.specs.Prelude.{nat_eq, slice_get}
use Rattle.std.specs.List.{AllByRecursion, sum_by}
use Rattle.std.proofs.lemmas.Bool.{eqb-true}
use Rattle.std.proofs.lemmas.List.Sums.{sum_by-cons, sum_by-append}
use Rattle.cq_catalog.specs.Contents.{Contents}
use Rattle.cq_answer.specs.declared.answered.Answered.{Answered}
use Rattle.cq_planning.specs.Touched.{among}
use Rattle.cq_store.specs.Stores.{StoreState}
use Rattle.cq_store.specs.declared.worker.Worker.{Worker}
use Rattle.cq_group.specs.declared.group.GroupState.{GroupState}
use Rattle.cq_history.specs.Run.{Rules}
use Rattle.cq_cell.specs.Lists.{NotIn, Distinct, own, AllThree}
use Rattle.cq_shared.specs.Terms.{Terms}
use Rattle.cq_shared.specs.Errands.{WorkerPass, sent_by, took_in, gave_in, tooks, gaves}
use Rattle.cq_block_laws.specs.Serving.{Opening}
use Rattle.cq_block_laws.specs.Closing.{Session, numbers_of, answers_of}
use Rattle.cq_place_laws.specs.Placing.{arrives, leaves}
use Rattle.cq_block_laws.specs.Settling.{lost, Settle}
use Rattle.cq_block_laws.specs.Sessions.{Hands, SettlesOne, AreServedBy, HasRun, RanAt}
use Rattle.cq_block_laws.specs.Laws.{BlockSettles}
use Rattle.cq_block_laws.proofs.Noted.{all_known}
use Rattle.cq_block_laws.proofs.Places.{got_as, same_there}
use Rattle.cq_block_laws.proofs.Rooms.{AtMostOne, one_more, at_most}
use Rattle.cq_block_laws.proofs.Histories.{as_many_workers, IsRow, rows, IsStall, stall_at, passed_stall}

-- ---- sums over each number's own notes

module _ {N : Type 0} (who : N → ℕ) where
  others : (x : N) (n : ℕ) (ns : List ℕ) → who x ≡ n → NotIn n ns → AllByRecursion (λ m. nat_eq (who x) m ≡ false) ns
  others x n [] is out = tt
  others x n (m ∷ ns) is out = (ne_eqb (who x) m (λ same. out.0 (sym same ∙ is)), others x n ns is out.1)

  -- a note is of one of different numbers at most
  once : (x : N) (ns : List ℕ) → Distinct ns → AtMostOne (nat_eq (who x)) ns
  once x [] apart = tt
  once x (n ∷ ns) apart = ((λ y. others x n ns (eqb-true (who x) n y) apart.0), once x ns apart.1)

  module _ (f : N → ℕ) where
    abbrev own_sum : List N → ℕ → ℕ
    own_sum l n = sum_by f (own who n l)

    adds : (x : N) (l : List N) (n : ℕ) → nat_eq (who x) n ≡ true → own_sum (x ∷ l) n ≡ f x + own_sum l n
    adds x l n y = ap (sum_by f) (takes y) ∙ sum_by-cons f x (own who n l)
      where
        takes : nat_eq (who x) n ≡ true → own who n (x ∷ l) ≡ x ∷ own who n l
        takes y = rw y refl

    stays : (x : N) (l : List N) (n : ℕ) → nat_eq (who x) n ≡ false → own_sum (x ∷ l) n ≡ own_sum l n
    stays x l n m = ap (sum_by f) (lets m)
      where
        lets : nat_eq (who x) n ≡ false → own who n (x ∷ l) ≡ own who n l
        lets m = rw m refl

    zeros : (ns : List ℕ) → sum_by (own_sum []) ns ≡ 0
    zeros [] = refl
    zeros (n ∷ ns) = let a : sum_by (own_sum []) (n ∷ ns) ≡ 0 + sum_by (own_sum []) ns = sum_by-cons (own_sum []) n ns in let b = zeros ns in omega (arith, a, b)

    -- where each note is of one of different numbers, the sums over their own notes are the sum over all
    sums_own : (ns : List ℕ) → Distinct ns → (l : List N) → AllByRecursion (λ x. among (who x) ns ≡ true) l → sum_by (own_sum l) ns ≡ sum_by f l
    sums_own ns apart [] known = zeros ns
    sums_own ns apart (x ∷ l) known =
        let a : sum_by f (x ∷ l) ≡ f x + sum_by f l = sum_by-cons f x l in
        let b : sum_by (own_sum l) ns ≡ sum_by f l = sums_own ns apart l known.1 in
        let least : f x + sum_by (own_sum l) ns ≤ sum_by (own_sum (x ∷ l)) ns = one_more (nat_eq (who x)) (f x) (own_sum l) (own_sum (x ∷ l)) (adds x l) (stays x l) ns known.0 in
        let most : sum_by (own_sum (x ∷ l)) ns ≤ f x + sum_by (own_sum l) ns = at_most (nat_eq (who x)) (f x) (own_sum l) (own_sum (x ∷ l)) (adds x l) (stays x l) ns (once x ns apart) in
        omega (arith, a, b, least, most)

-- ---- the statements of a session

module _ {X C : Type 0} (state : X → StoreState) (terms : C → Terms) (rules : Rules) (nodes : ℕ) (o : Opening) (at : ℕ) where
  abbrev left : List Answered → ℕ
  left answers = sum_by (leaves o.environment.catalog (at + 1)) answers

  abbrev came : List Answered → ℕ
  came answers = sum_by (arrives o.environment.catalog (at + 1)) answers

  abbrev gone : List Answered → ℕ
  gone answers = sum_by (lost (at + 1)) answers

  -- as SettlesOne of several statements
  abbrev SettlesAll : List Answered → WorkerPass X C → WorkerPass X C → Type 0
  SettlesAll answers p q = tooks q.place.me.0.mine + gaves p.place.me.0.mine + left answers ≡ tooks p.place.me.0.mine + gaves q.place.me.0.mine + came answers + gone answers

  settles_none : (p : WorkerPass X C) → SettlesAll [] p p
  settles_none p = let l : left [] ≡ 0 = refl in let c : came [] ≡ 0 = refl in let g : gone [] ≡ 0 = refl in omega (arith, l, c, g)

  settles_more : (a : Answered) (more : List Answered) (p m q : WorkerPass X C) → SettlesOne o (at + 1) a p m → SettlesAll more m q → SettlesAll (a ∷ more) p q
  settles_more a more p m q one rest =
      let l : left (a ∷ more) ≡ leaves o.environment.catalog (at + 1) a + left more = sum_by-cons (leaves o.environment.catalog (at + 1)) a more in
      let c : came (a ∷ more) ≡ arrives o.environment.catalog (at + 1) a + came more = sum_by-cons (arrives o.environment.catalog (at + 1)) a more in
      let g : gone (a ∷ more) ≡ lost (at + 1) a + gone more = sum_by-cons (lost (at + 1)) a more in
      omega (arith, l, c, g, one, rest)

  settles_served : (first : Hands X C) (answers : List Answered) (last : Hands X C) → AreServedBy state terms rules nodes o first answers last → (p q : WorkerPass X C) → slice_get first.benches at ≡ Some p → slice_get last.benches at ≡ Some q →
      SettlesAll answers p q
  settles_served first [] last h p q e f = subst (SettlesAll [] p) (same_there first.benches at p q e (ap (λ (v : Hands X C). slice_get v.benches at) (sym h) ∙ f)) (settles_none p)
  settles_served first (a ∷ more) last h p q e f =
      let m = got_as first.benches h.0.benches at p (sym h.1.benches.count) e in
      settles_more a more p m.0 q (h.1.settles at p m.0 e m.1) (settles_served h.0 more last h.2 m.0 q m.1 f)

-- ---- all sessions

module _ {X C : Type 0} (state : X → StoreState) (terms : C → Terms) (rules : Rules) (nodes : ℕ) (o : Opening) (opened : List (GroupState X)) (workers : List (Worker X)) (sessions : List Session) (closed : List (GroupState X))
    (returned : List (Worker X)) (h : HasRun state terms rules nodes o opened workers sessions closed returned) (at : ℕ) (w : Worker X) (c : IsStall state terms rules nodes o opened workers sessions closed returned h at w) where
  abbrev took_of : ℕ → ℕ
  took_of n = own_sum sent_by took_in c.notes n

  abbrev gave_of : ℕ → ℕ
  gave_of n = own_sum sent_by gave_in c.notes n

  abbrev catalog : Contents
  catalog = o.environment.catalog

  -- a session's own notes
  session_settles : (s : Session) (first last : Hands X C) → IsRow state terms rules nodes o opened workers sessions closed returned h s first last →
      took_of s.number + sum_by (leaves catalog (at + 1)) s.answers ≡ gave_of s.number + sum_by (arrives catalog (at + 1)) s.answers + sum_by (lost (at + 1)) s.answers
  session_settles s first last r =
      let p = passed_stall state terms rules nodes o opened workers sessions closed returned h at w c s first last r in
      let all = settles_served state terms rules nodes o at first s.answers last r.served p.first p.last p.was p.is in
      let no_took : tooks p.first.place.me.0.mine ≡ 0 = ap tooks p.given.mine in
      let no_gave : gaves p.first.place.me.0.mine ≡ 0 = ap gaves p.given.mine in
      let took : tooks p.last.place.me.0.mine ≡ took_of s.number = ap tooks p.mine in
      let gave : gaves p.last.place.me.0.mine ≡ gave_of s.number = ap gaves p.mine in
      omega (arith, all, no_took, no_gave, took, gave)

  sessions_settle : (ss : List Session) (fs ls : List (Hands X C)) → AllThree (IsRow state terms rules nodes o opened workers sessions closed returned h) ss fs ls →
      sum_by took_of (numbers_of ss) + sum_by (leaves catalog (at + 1)) (answers_of ss) ≡ sum_by gave_of (numbers_of ss) + sum_by (arrives catalog (at + 1)) (answers_of ss) + sum_by (lost (at + 1)) (answers_of ss)
  sessions_settle [] fs ls r = refl
  sessions_settle (s ∷ ss) [] ls r = absurd r
  sessions_settle (s ∷ ss) (f ∷ fs) [] r = absurd r
  sessions_settle (s ∷ ss) (f ∷ fs) (l ∷ ls) r =
      let one = session_settles s f l r.0 in
      let rest = sessions_settle ss fs ls r.1 in
      let t : sum_by took_of (numbers_of (s ∷ ss)) ≡ took_of s.number + sum_by took_of (numbers_of ss) = sum_by-cons took_of s.number (numbers_of ss) in
      let g : sum_by gave_of (numbers_of (s ∷ ss)) ≡ gave_of s.number + sum_by gave_of (numbers_of ss) = sum_by-cons gave_of s.number (numbers_of ss) in
      let a : sum_by (leaves catalog (at + 1)) (answers_of (s ∷ ss)) ≡ sum_by (leaves catalog (at + 1)) s.answers + sum_by (leaves catalog (at + 1)) (answers_of ss) = sum_by-append (leaves catalog (at + 1)) s.answers (answers_of ss) in
      let b : sum_by (arrives catalog (at + 1)) (answers_of (s ∷ ss)) ≡ sum_by (arrives catalog (at + 1)) s.answers + sum_by (arrives catalog (at + 1)) (answers_of ss) = sum_by-append (arrives catalog (at + 1)) s.answers (answers_of ss) in
      let d : sum_by (lost (at + 1)) (answers_of (s ∷ ss)) ≡ sum_by (lost (at + 1)) s.answers + sum_by (lost (at + 1)) (answers_of ss) = sum_by-append (lost (at + 1)) s.answers (answers_of ss) in
      omega (arith, one, rest, t, g, a, b, d)

  settled : Distinct (numbers_of sessions) → Settle catalog (at + 1) (answers_of sessions) c.notes
  settled apart =
      let known : AllByRecursion (λ x. among (sent_by x) (numbers_of sessions) ≡ true) c.notes = all_known sent_by (numbers_of sessions) c.notes (λ n out. c.others n (subst (NotIn n) (sym h.numbers) out)) in
      let all = sessions_settle sessions h.firsts h.lasts (rows state terms rules nodes o opened workers sessions closed returned h) in
      let t : sum_by took_of (numbers_of sessions) ≡ tooks c.notes = sums_own sent_by took_in (numbers_of sessions) apart c.notes known in
      let g : sum_by gave_of (numbers_of sessions) ≡ gaves c.notes = sums_own sent_by gave_in (numbers_of sessions) apart c.notes known in
      omega (arith, all, t, g)

pub block_settles : {X C : Type 0} (state : X → StoreState) (terms : C → Terms) → BlockSettles state C terms
block_settles {X} state terms rules nodes o opened workers sessions closed returned h apart = (as_many_workers state terms rules nodes o opened workers sessions closed returned h, each)
  where
    each : (at : ℕ) (w v : Worker X) → slice_get workers at ≡ Some w → slice_get returned at ≡ Some v → RanAt state terms h.shared_by o (answers_of sessions) at w v
    each at w v e f =
        let c = stall_at state terms rules nodes o opened workers sessions closed returned h at w e in record {
          was = c.stock;
          is = c.after;
          opens = c.is;
          closes = same_there returned at c.after.worker v c.back f;
          notes = c.notes;
          stands = c.stands;
          settles = settled state terms rules nodes o opened workers sessions closed returned h at w c apart;
        }
