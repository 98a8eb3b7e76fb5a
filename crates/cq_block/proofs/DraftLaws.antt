-- The drafts of a block.
use Rattle.std.proofs.Common.{◌≡◌, ◌≢◌, ◌+◌, ◌<◌, ◌≤◌, inl, inr, ℕ, zero, suc, List, [], ◌∷◌, ◌++◌, length, take, drop, get_or, map, refl, sym, ◌∙◌, ap, subst, arith, eq-eqb, ne_eqb, Some, None, Result, Ok, Err}
use Rattle.std.specs.Prelude.{nat_eq, slice_index_or, IfOk, IfErr}
use Rattle.std.specs.List.{AllByRecursion, AllZip}
use Rattle.std.proofs.lemmas.List.{take_more, drop_more, map-append}
use Rattle.cq_value.proofs.Lists.{all_weaker, all_more}
use Rattle.cq_value.proofs.Truths.{two_ways}
use Rattle.cq_tree.specs.declared.statement.Statement.{Statement}
use Rattle.cq_tree.specs.declared.statement.Statement.TheVariants as statement
use Rattle.cq_catalog.specs.Contents.{Contents}
use Rattle.cq_answer.specs.declared.fault.Fault.{Fault}
use Rattle.cq_planning.specs.Touched.{numbers}
use Rattle.cq_history.specs.Computable.{IsComputable}
use Rattle.cq_history.specs.Faults.{IsOfReading}
use Rattle.cq_history.specs.Phases.{MayBeInBlock}
use Rattle.cq_coordinator.specs.Coordination.{NeedsNoData}
use Rattle.cq_script.specs.declared.reader.Placed.{Placed}
use Rattle.cq_session.specs.declared.copying.Reading.{Reading}
use Rattle.cq_session.specs.Shared.{CanRun, CanAnswer}
use Rattle.cq_block.specs.declared.drafts.Draft.{Draft}
use Rattle.cq_block.specs.declared.drafts.SessionDrafts.{SessionDrafts}
use Rattle.cq_block.specs.Drafts.{of_session, MayStand, IsDraftOf, HasRoom, IsDrafted, HaveRooms, HaveDrafts}
use Rattle.cq_block.specs.Running.{move_by, move_in}

-- ---- one statement more of a session

session_more : (s : ℕ) (ps : List Placed) (p : Placed) → p.session ≡ s → of_session s (ps ++ p ∷ []) ≡ of_session s ps ++ p ∷ []
session_more s [] p is = rw (eq-eqb p.session s is) refl
session_more s (q ∷ ps) p is = elim (two_ways (nat_eq q.session s)) [ inl y ↦ rw y (ap (λ v. q ∷ v) (session_more s ps p is)) | inr n ↦ rw n (session_more s ps p is) ]

session_same : (s : ℕ) (ps : List Placed) (p : Placed) → p.session ≢ s → of_session s (ps ++ p ∷ []) ≡ of_session s ps
session_same s [] p isnt = rw (ne_eqb p.session s isnt) refl
session_same s (q ∷ ps) p isnt = elim (two_ways (nat_eq q.session s)) [ inl y ↦ rw y (ap (λ v. q ∷ v) (session_same s ps p isnt)) | inr n ↦ rw n (session_same s ps p isnt) ]

session_first : (s : ℕ) (ps : List Placed) (p : Placed) → p.session ≡ s → of_session s (p ∷ ps) ≡ p ∷ of_session s ps
session_first s ps p is = rw (eq-eqb p.session s is) refl

session_other : (s : ℕ) (ps : List Placed) (p : Placed) → p.session ≢ s → of_session s (p ∷ ps) ≡ of_session s ps
session_other s ps p isnt = rw (ne_eqb p.session s isnt) refl

module _ (s i : ℕ) (ps : List Placed) (p : Placed) (lt : i < length ps) (at : p ≡ get_or ps i p) where
  pub taken_more : take (i + 1) ps ≡ take i ps ++ p ∷ []
  taken_more = take_more ps i p lt ∙ ap (λ (q : Placed). take i ps ++ q ∷ []) (sym at)

  pub taken_of : p.session ≡ s → of_session s (take (i + 1) ps) ≡ of_session s (take i ps) ++ p ∷ []
  taken_of is = ap (of_session s) taken_more ∙ session_more s (take i ps) p is

  pub taken_same : p.session ≢ s → of_session s (take (i + 1) ps) ≡ of_session s (take i ps)
  taken_same isnt = ap (of_session s) taken_more ∙ session_same s (take i ps) p isnt

  abbrev left_more : drop i ps ≡ p ∷ drop (i + 1) ps
  left_more = drop_more ps i p lt ∙ ap (λ (q : Placed). q ∷ drop (i + 1) ps) (sym at)

  pub left_of : p.session ≡ s → length (of_session s (drop i ps)) ≡ 1 + length (of_session s (drop (i + 1) ps))
  left_of is = ap (λ v. length (of_session s v)) left_more ∙ ap (λ v. length v) (session_first s (drop (i + 1) ps) p is) ∙ omega arith

  pub left_same : p.session ≢ s → length (of_session s (drop i ps)) ≡ length (of_session s (drop (i + 1) ps))
  left_same isnt = ap (λ v. length (of_session s v)) left_more ∙ ap (λ v. length v) (session_other s (drop (i + 1) ps) p isnt)

zip_more : {A B : Type 0} (R : A → B → Type 0) (xs : List A) (ys : List B) (x : A) (y : B) → AllZip R xs ys → R x y → AllZip R (xs ++ x ∷ []) (ys ++ y ∷ [])
zip_more R [] [] x y h r = (r, tt)
zip_more R (a ∷ xs) (b ∷ ys) x y h r = (h.0, zip_more R xs ys x y h.1 r)
zip_more R [] (b ∷ ys) x y h r = absurd h
zip_more R (a ∷ xs) [] x y h r = absurd h

-- what was read in a block may stand there
pub may_stand : (c : Contents) (read : Result Reading Fault) → IfOk read (λ r. MayBeInBlock (Some r.statement)) → IfOk read (λ r. IsComputable c r.statement × NeedsNoData r.statement) → IfErr read IsOfReading → MayStand c read
may_stand c (Ok r) may can fault = (may, can.0)
may_stand c (Err f) may can fault = fault

-- one draft more
pub drafts_more : (c : Contents) (s i : ℕ) (ps : List Placed) (p : Placed) (before after : List Draft) (d : Draft) → i < length ps → p ≡ get_or ps i p → p.session ≡ s → AllZip (IsDraftOf c) (of_session s (take i ps)) before → after ≡ before ++ d ∷ [] → IsDraftOf c p d →
    AllZip (IsDraftOf c) (of_session s (take (i + 1) ps)) after
drafts_more c s i ps p before after d lt at is h same of =
    subst (λ v. AllZip (IsDraftOf c) v after) (sym (taken_of s i ps p lt at is)) (subst (λ v. AllZip (IsDraftOf c) (of_session s (take i ps) ++ p ∷ []) v) (sym same) (zip_more (IsDraftOf c) (of_session s (take i ps)) before p d h of))

-- ---- the sessions of a block

-- none is above the highest
pub last_more : (i last next : ℕ) (ps : List Placed) (p : Placed) → i < length ps → p ≡ get_or ps i p → last ≤ next → p.session ≤ next → AllByRecursion (λ (q : Placed). q.session ≤ last) (take i ps) →
    AllByRecursion (λ (q : Placed). q.session ≤ next) (take (i + 1) ps)
last_more i last next ps p lt at grows low all =
    subst (AllByRecursion (λ (q : Placed). q.session ≤ next)) (sym (taken_more p.session i ps p lt at))
    (all_more (λ (q : Placed). q.session ≤ next) (take i ps) p (all_weaker (λ (q : Placed). q.session ≤ last) (λ (q : Placed). q.session ≤ next) (λ q h. omega (arith, h, grows)) (take i ps) all) low)

none_above : (last s : ℕ) (ps : List Placed) → AllByRecursion (λ (p : Placed). p.session ≤ last) ps → last < s → of_session s ps ≡ []
none_above last s [] all above = refl
none_above last s (p ∷ ps) all above = (let isnt : p.session ≢ s = λ is. let low = all.0 in omega (arith, is, low, above) in rw (ne_eqb p.session s isnt) (none_above last s ps all.1 above))

numbers_more : (k n : ℕ) → numbers k (suc n) ≡ numbers k n ++ (k + n) ∷ []
numbers_more k zero = ap (λ x. x ∷ []) (let e : k ≡ k + 0 = omega arith in e)
numbers_more k (suc n) = ap (λ v. k ∷ v) (numbers_more (k + 1) n ∙ ap (λ x. numbers (k + 1) n ++ x ∷ []) (let e : k + 1 + n ≡ k + suc n = omega arith in e))

-- room for one session more
pub rooms_more : (ps : List Placed) (before after : List SessionDrafts) (one : SessionDrafts) → HaveRooms ps before → one.session ≡ length before + 1 → HasRoom ps one → after ≡ before ++ one ∷ [] → HaveRooms ps after
rooms_more ps before after one h is room same = subst (HaveRooms ps) (sym same) (record {
  numbered =
      map-append (λ (x : SessionDrafts). x.session) before (one ∷ [])
      ∙ ap (λ v. v ++ one.session ∷ []) h.numbered
      ∙ ap (λ n. numbers 1 (length before) ++ n ∷ []) (is ∙ (let e : length before + 1 ≡ 1 + length before = omega arith in e))
      ∙ sym (numbers_more 1 (length before))
      ∙ ap (λ n. numbers 1 n) (sym (count before));
  rooms = all_more (HasRoom ps) before one h.rooms room;
})
  where
    count : (xs : List SessionDrafts) → length (xs ++ one ∷ []) ≡ suc (length xs)
    count [] = refl
    count (x ∷ xs) = ap suc (count xs)

drafted : (c : Contents) (ps : List Placed) (old new : List SessionDrafts) → length new ≡ length old → ((i : ℕ) (d : SessionDrafts) → i < length old → IsDrafted c ps (slice_index_or old i d).session (slice_index_or new i d)) →
    (map (λ (one : SessionDrafts). one.session) new ≡ map (λ (one : SessionDrafts). one.session) old) × AllByRecursion (λ (one : SessionDrafts). IsDrafted c ps one.session one) new
drafted c ps [] [] count h = (refl, tt)
drafted c ps (a ∷ old) (b ∷ new) count h =
    let first : IsDrafted c ps a.session b = h 0 a (omega arith) in
    let rest = drafted c ps old new (omega (arith, count)) (λ i d l. h (suc i) d (omega (arith, l))) in
    ((λ i. first.same i ∷ rest.0 i), (record { same = refl; drafts = subst (λ s. AllZip (IsDraftOf c) (of_session s ps) b.drafts.items) (sym first.same) first.drafts }, rest.1))
drafted c ps [] (b ∷ new) count h = absurd (omega (arith, count))
drafted c ps (a ∷ old) [] count h = absurd (omega (arith, count))

front : {A : Type 0} (xs ys : List A) → take (length xs) (xs ++ ys) ≡ xs
front [] ys = refl
front (x ∷ xs) ys = ap (λ v. x ∷ v) (front xs ys)

-- a list whose items were all written anew
pub written_back : {A : Type 0} (n : ℕ) (new old : List A) → length new ≡ n → take n (new ++ drop (length new) old) ≡ new
written_back n new old a = ap (λ (k : ℕ). take k (new ++ drop (length new) old)) (sym a) ∙ front new (drop (length new) old)

-- all were read
pub have_drafts : (c : Contents) (ps : List Placed) (old new : List SessionDrafts) (last : ℕ) → last ≤ 8 → AllByRecursion (λ (p : Placed). p.session ≤ last) ps → length old ≡ last → HaveRooms ps old → length new ≡ length old →
    ((i : ℕ) (d : SessionDrafts) → i < length old → IsDrafted c ps (slice_index_or old i d).session (slice_index_or new i d)) → HaveDrafts c ps new
have_drafts c ps old new last few low long rooms count h =
    let all = drafted c ps old new count h in
    record {
      few = omega (arith, few, long, count);
      numbered = all.0 ∙ rooms.numbered ∙ ap (λ n. numbers 1 n) (sym count);
      each = all.1;
      others = λ s above. none_above last s ps low (omega (arith, above, long, count));
    }

-- ---- where no statement is a move, each is a query or a write

plain_runs : (c : Contents) (s : Statement) → MayBeInBlock (Some s) → IsComputable c s → move_by s ≡ None → CanRun c s
plain_runs c (statement.Select q) may can not = can
plain_runs c (statement.Write op) may can not = can
plain_runs c (statement.Move shard from to) may can not = absurd (cc not)
plain_runs c s may can not = absurd may

pub can_answer : (c : Contents) (read : Result Reading Fault) → MayStand c read → move_in read ≡ None → CanAnswer c read
can_answer c (Ok r) stands not = plain_runs c r.statement stands.0 stands.1 not
can_answer c (Err f) stands not = stands
