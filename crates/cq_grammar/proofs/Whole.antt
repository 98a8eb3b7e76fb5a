-- A whole text: what the reader accepts is a statement, each statement is accepted, and where the reader stops the text goes wrong.
use Rattle.std.proofs.Common.{◌≡◌, ℕ, ◌+◌, ◌-◌, ◌<◌, ◌≤◌, List, [], ◌∷◌, ◌++◌, length, take, drop, ◌⊎◌, inl, inr, Option, Some, None, Result, Ok, Err, refl, sym, ◌∙◌, ap, subst, arith, length-append, append_assoc, take_all, take-take, Contains}
use Rattle.std.proofs.Math.Seq.{take-append_seam, take-append-add, drop-append_seam}
use Rattle.std.proofs.lemmas.List.{append-nil, take-append-drop}
use Rattle.std.proofs.lemmas.List.Elements.{Contains-append_right}
use Rattle.std.proofs.Math.Nat.{eq-or-lt_of_le}
use Rattle.cq_token.specs.declared.token.Token.{Token}
use Rattle.cq_grammar.specs.declared.statement.Ast.{Ast}
use Rattle.cq_grammar.specs.Words.{of}
use Rattle.cq_grammar.specs.Lang.{Lang}
use Rattle.cq_grammar.specs.Grammar as grammar
use Rattle.cq_grammar.specs.Grammar.{Deeper, Tree, upto}
use Rattle.cq_grammar.specs.Statements as statements
use Rattle.cq_grammar.specs.Statements.{max_depth, statement, Written, Shallow, Apart, BeginsIn, BeginsOne, BeginsShallow, GoesWrong, GoesDeep}
use Rattle.cq_grammar.specs.Read.{Fault, bad, deep as too_deep, Outcome, Reader}
use Rattle.cq_grammar.specs.Descent as descent
use Rattle.cq_grammar.specs.Reading as reading
use Rattle.cq_grammar.specs.Reading.{ended, ended_by, written}
use Rattle.cq_grammar.specs.Conditions.{misplaced, miscalled}
use Rattle.cq_grammar.specs.Verdicts.{Accepted, place, MisplacedAt, RefusedAt, Complaint, syntax, depth, left_of, called, unless_misplaced, judged, verdict}
use Rattle.cq_grammar.proofs.Laws.{within, past, Lawful, Begins, first, SameHead, left, pair_same}
use Rattle.cq_grammar.proofs.Depths.{below, below_apart}
use Rattle.cq_grammar.proofs.Commands as command
use Rattle.cq_grammar.proofs.Commands.{statement_goes}
use Rattle.cq_grammar.proofs.Wider as wider
use Rattle.cq_grammar.proofs.Wider.{Sub, sub_statement, sub_upto, sub_below}

-- the statements of a height
abbrev High : ℕ → Lang Ast
High h = statement (λ _. upto h)

abbrev enough : ℕ
enough = max_depth + 2

abbrev reader : Reader Ast
reader = reading.statement (descent.below max_depth)

at_height : (h : ℕ) → enough ≤ h → Lawful within reader Shallow (High h) (of statement_goes)
at_height h le = (command.statement (Unit {0}) within (descent.below max_depth) (grammar.below max_depth) (λ _. upto h) (below max_depth h le)).lawful tt refl

at_apart : (used : List Token) (height : ℕ) → 2 ≤ height → Lawful (past used) reader (Apart used height) (High (max_depth + (height + 2))) (of statement_goes)
at_apart used height some =
    (command.statement (Unit {0}) (past used) (descent.below max_depth) (grammar.below_or (statements.apart used height) max_depth) (λ _. upto (max_depth + (height + 2)))
    (below_apart used height some max_depth (max_depth + (height + 2)) (omega arith))).lawful tt refl

-- each statement is one of a height that is enough
higher : (a : Ast) (x : List Token) (w : Written a x) → High (enough + w.0) a x
higher a x w = sub_statement w.0 (enough + w.0) (omega arith) a x w.1

first_height : enough ≤ enough
first_height = omega arith

some_height : (h : ℕ) → enough ≤ enough + h
some_height h = omega arith

-- ---- where a text goes wrong

wrong_at : (ts before r : List Token) → ts ≡ before ++ r → BeginsOne Written before → BeginsShallow before
    → ((a : Ast) (y z : List Token) → Written a y → SameHead r z → y ++ [] ≡ before ++ z → ⊥) → GoesWrong ts (length before)
wrong_at ts before r whole begins shallow never = record {
  inside = omega (arith, ap length whole, length-append before r);
  fits = subst (λ (w : List Token). BeginsOne Written w) (sym (ap (take (length before)) whole ∙ take-append_seam before r)) begins;
  shallow = subst BeginsShallow (sym (ap (take (length before)) whole ∙ take-append_seam before r)) shallow;
  next = λ lt one. next_by r whole never lt one;
  end = λ is a w. end_by r whole never is a w;
}
  where
    next_by : (r : List Token) → ts ≡ before ++ r → ((a : Ast) (y z : List Token) → Written a y → SameHead r z → y ++ [] ≡ before ++ z → ⊥) → length before < length ts
        → BeginsOne Written (take (length before + 1) ts) → ⊥
    next_by [] whole never lt one = omega (arith, ap length whole, length-append before [])
    next_by (t ∷ s) whole never lt one =
        let e : take (length before + 1) ts ≡ before ++ t ∷ [] = ap (take (length before + 1)) whole ∙ take-append-add before (t ∷ s) 1 in
        never one.0 (take (length before + 1) ts ++ one.1) (t ∷ one.1) one.2 refl
        (append-nil (take (length before + 1) ts ++ one.1) ∙ (ap (λ w. w ++ one.1) e ∙ append_assoc before (t ∷ []) one.1))

    end_by : (r : List Token) → ts ≡ before ++ r → ((a : Ast) (y z : List Token) → Written a y → SameHead r z → y ++ [] ≡ before ++ z → ⊥) → length before ≡ length ts
        → (a : Ast) → Written a ts → ⊥
    end_by [] whole never is a w = never a ts [] w refl (append-nil ts ∙ whole)
    end_by (t ∷ s) whole never is a w = omega (arith, ap length whole, length-append before (t ∷ s))

-- with the next token the tokens before begin a statement, but it is too deep
deep_at : (ts before r : List Token) (t : Token) (s : List Token) → ts ≡ before ++ r → r ≡ t ∷ s → BeginsOne Written (before ++ t ∷ []) → BeginsShallow before
    → (BeginsShallow (before ++ t ∷ []) → ⊥) → GoesDeep ts (length before)
deep_at ts before r t s whole is begins shallow deeper =
    let split : ts ≡ before ++ t ∷ s = whole ∙ ap (λ w. before ++ w) is in
    let e : take (length before + 1) ts ≡ before ++ t ∷ [] = ap (take (length before + 1)) split ∙ take-append-add before (t ∷ s) 1 in record {
      inside = omega (arith, ap length split, length-append before (t ∷ s));
      fits = subst (λ (w : List Token). BeginsOne Written w) (sym e) begins;
      before = subst BeginsShallow (sym (ap (take (length before)) whole ∙ take-append_seam before r)) shallow;
      deep = λ one. deeper (subst BeginsShallow e one);
    }

-- what is too deep for more tokens is it for fewer
pub sub_apart : (used fewer : List Token) → ((t : Token) → Contains fewer t → Contains used t) → (n m : ℕ) → n ≤ m → Sub (Apart used n) (Apart fewer m)
sub_apart used fewer sub n m le = wider.statement _ _ (sub_below (statements.apart used n) (statements.apart fewer m) deeper max_depth)
  where
    begin : (x : List Token) → BeginsIn fewer x → BeginsIn used x
    begin [] b = b
    begin (t ∷ x) b = sub t b

    deeper : (d : Deeper) → Sub (statements.apart used n d) (statements.apart fewer m d)
    deeper d a x w = (sub_upto n m le d a x w.0, λ b. w.1 (begin x b))

-- ---- the laws of the reader of statements

same_front : (x y r ts : List Token) → ts ≡ x ++ r → ts ≡ y ++ r → x ≡ y
same_front x y r ts e f =
    let n : length x ≡ length y = omega (arith, ap length e, ap length f, length-append x r, length-append y r) in
    sym (ap (take (length x)) e ∙ take-append_seam x r) ∙ (ap (λ i. take i ts) n ∙ (ap (take (length y)) f ∙ take-append_seam y r))

abbrev Wrong : List Token → List Token → Type 0
Wrong ts r = (before : List Token) × (ts ≡ before ++ r) × GoesWrong ts (length before)

abbrev Deep : List Token → List Token → Type 0
Deep ts r = (before : List Token) × (ts ≡ before ++ r) × GoesDeep ts (length before)

begun : (h : ℕ) (before : List Token) → Begins (High h) before → BeginsOne Written before
begun h before b = (b.value, b.more, (h, b.phrase))

-- what was read before the fault isn't too deep
shallow_before : (ts before : List Token) (e : Fault) → reader ts ≡ Err e → ts ≡ before ++ left e → BeginsShallow before
shallow_before ts before e is whole =
    let s = (at_apart before 2 (omega arith)).fails ts e is in
    let b = subst (λ (w : List Token). Begins (Apart before 2) w) (same_front s.before before (left e) ts s.whole whole) (s.kept tt) in
    (2, (b.value, b.more, b.phrase))

-- nor is a statement that was read
shallow_read : (ts front r : List Token) (a : Ast) → reader ts ≡ Ok (a, r) → ts ≡ front ++ r → BeginsShallow front
shallow_read ts front r a is whole =
    let d = (at_apart front 2 (omega arith)).sound ts a r is in
    (2, (a, [], subst (λ (w : List Token). Apart front 2 a w) (same_front d.front front r ts d.whole whole ∙ sym (append-nil front)) d.phrase))

-- with the token at which the depth is used up it is
deeper_with : (ts before r : List Token) (t : Token) (s : List Token) → reader ts ≡ Err (too_deep r) → ts ≡ before ++ r → r ≡ t ∷ s → BeginsShallow (before ++ t ∷ []) → ⊥
deeper_with ts before r t s is whole next one =
    let used : List Token = before ++ t ∷ [] in
    let u = (at_apart used (one.0 + 2) (omega arith)).fails ts (too_deep r) is in
    let b = one.1 in
    let last : Contains used t = Contains-append_right before (t ∷ []) t (0, omega arith, refl) in
    u.never (subst (BeginsIn used) (sym next) last) b.0 (used ++ b.1) [] (t ∷ b.1) (sub_apart used used (λ _ c. c) one.0 (one.0 + 2) (omega arith) b.0 (used ++ b.1) b.2) refl (ap first next)
    (append-nil (used ++ b.1) ∙ (append_assoc before (t ∷ []) b.1 ∙ ap (λ w. w ++ t ∷ b.1) (same_front before u.before r ts whole u.whole)))

bad_in : (ts r : List Token) → reader ts ≡ Err (bad r) → Wrong ts r
bad_in ts r is =
    let s = (at_height enough first_height).fails ts (bad r) is in (
      s.before,
      s.whole,
      wrong_at ts s.before r s.whole (begun enough s.before s.begins) (shallow_before ts s.before (bad r) is s.whole) (λ a y z w same e.
          let u = (at_height (enough + w.0) (some_height w.0)).fails ts (bad r) is in
          u.never a y [] z (higher a y w) refl same (e ∙ ap (λ i. i ++ z) (same_front s.before u.before r ts s.whole u.whole))),
    )

deep_in : (ts r : List Token) → reader ts ≡ Err (too_deep r) → Deep ts r
deep_in ts r is =
    let s = (at_height enough first_height).fails ts (too_deep r) is in (
      s.before,
      s.whole,
      deep_at ts s.before r s.begins.0 s.begins.1 s.whole s.begins.2 (begun enough (s.before ++ s.begins.0 ∷ []) s.begins.3) (shallow_before ts s.before (too_deep r) is s.whole)
          (deeper_with ts s.before r s.begins.0 s.begins.1 is s.whole s.begins.2),
    )

-- more tokens than a statement
too_long : (ts : List Token) (a : Ast) (t : Token) (r : List Token) → reader ts ≡ Ok (a, t ∷ r) → Wrong ts (t ∷ r)
too_long ts a t r is =
    let l = at_height enough first_height in
    let d = l.sound ts a (t ∷ r) is in (
      d.front,
      d.whole,
      wrong_at ts d.front (t ∷ r) d.whole (a, [], (enough, subst (λ (w : List Token). High enough a w) (sym (append-nil d.front)) (l.sub a d.front d.phrase))) (shallow_read ts d.front (t ∷ r) a is d.whole) (λ b y z w same e.
          let u = (at_height (enough + w.0) (some_height w.0)).sound ts a (t ∷ r) is in
          let o = u.only b y [] z (higher b y w) refl same (e ∙ ap (λ i. i ++ z) (same_front d.front u.front (t ∷ r) ts d.whole u.whole)) in
          let some : first (t ∷ r) ≡ first [] = same ∙ sym (ap first o.rest) in absurd (cc)),
    )

abbrev Bad : List Token → Fault → Type 0
Bad ts (bad r) = Wrong ts r
Bad ts (too_deep r) = Deep ts r

abbrev stated : Result Ast Fault → Result Ast Fault
stated o = o

fault_same : {f g : Fault} → stated (Err f) ≡ Err g → f ≡ g
fault_same h = cc

ended_ok : (a b : Ast) (r : List Token) → ended a r ≡ Ok b → (a ≡ b) × (r ≡ [])
ended_ok a b [] e = (let h : stated (Ok a) ≡ Ok b = e in cc, refl)
ended_ok a b (t ∷ r) e = absurd (let h : stated (Err (bad (t ∷ r))) ≡ Ok b = e in cc)

ended_err : (a : Ast) (r : List Token) (f : Fault) → ended a r ≡ Err f → (t : Token) × (s : List Token) × (r ≡ t ∷ s) × (f ≡ bad r)
ended_err a [] f e = absurd (let h : stated (Ok a) ≡ Err f = e in cc)
ended_err a (t ∷ r) f e = (t, r, refl, let h : stated (Err (bad (t ∷ r))) ≡ Err f = e in cc)

by_ok : (o : Outcome Ast) (a : Ast) → ended_by o ≡ Ok a → o ≡ Ok (a, [])
by_ok (Ok p) a e = let h = ended_ok p.0 a p.1 e in ap Ok (pair_same p (a, []) h.0 h.1)
by_ok (Err f) a e = absurd (let h : stated (Err f) ≡ Ok a = e in cc)

-- what is accepted is a statement
written_accepted : (ts : List Token) (a : Ast) → written ts ≡ Ok a → Shallow a ts
unfolding written
written_accepted ts a e =
    let d = (at_height enough first_height).sound ts a [] (by_ok (reader ts) a e) in
    subst (λ (w : List Token). Shallow a w) (sym (d.whole ∙ append-nil d.front)) d.phrase

refused_by : (ts : List Token) (o : Outcome Ast) → reader ts ≡ o → (f : Fault) → ended_by o ≡ Err f → Bad ts f
refused_by ts (Err (bad r)) is f e = subst (λ (w : Fault). Bad ts w) (fault_same e) (bad_in ts r is)
refused_by ts (Err (too_deep r)) is f e = subst (λ (w : Fault). Bad ts w) (fault_same e) (deep_in ts r is)
refused_by ts (Ok p) is f e =
    let h = ended_err p.0 p.1 f e in
    subst (λ (w : Fault). Bad ts w) (sym (h.3 ∙ ap bad h.2)) (too_long ts p.0 h.0 h.1 (is ∙ ap (λ i. Ok (p.0, i)) h.2))

-- where it is refused, it goes wrong there
written_refused : (ts : List Token) (f : Fault) → written ts ≡ Err f → Bad ts f
unfolding written
written_refused ts f e = refused_by ts (reader ts) refl f e

pub deeper_tree : (a : Ast) (ts : List Token) → Shallow a ts → Written a ts
deeper_tree a ts w = (enough, (at_height enough first_height).sub a ts w)

pub whole_begins : (P : Lang Ast) (ts : List Token) (a : Ast) (n : ℕ) → P a ts → BeginsOne P (take n ts)
whole_begins P ts a n w = (a, drop n ts, subst (λ (i : List Token). P a i) (sym (take-append-drop n ts)) w)

-- each beginning of a statement within the depth is within it
pub begins_shallow : (ts : List Token) (a : Ast) (n : ℕ) → Shallow a ts → BeginsShallow (take n ts)
begins_shallow ts a n w = (0, whole_begins (Apart (take n ts) 0) ts a n (wider.statement _ _ (sub_below _ _ (λ d a x no. absurd no) max_depth) a ts w))

not_bad : (ts : List Token) (a : Ast) → Shallow a ts → (f : Fault) → Bad ts f → ⊥
not_bad ts a w (bad r) b = by_case (eq-or-lt_of_le b.2.inside)
  where
    by_case : (length b.0 ≡ length ts) ⊎ (length b.0 < length ts) → ⊥
    by_case (inr lt) = b.2.next lt (whole_begins Written ts a (length b.0 + 1) (deeper_tree a ts w))
    by_case (inl is) = b.2.end is a (deeper_tree a ts w)
not_bad ts a w (too_deep r) b = b.2.deep (begins_shallow ts a (length b.0 + 1) w)

same_read : (ts : List Token) (a b : Ast) → Shallow a ts → reader ts ≡ Ok (b, []) → a ≡ b
same_read ts a b w e =
    let l = at_height enough first_height in
    let d = l.sound ts b [] e in
    (d.only a ts [] [] (l.sub a ts w) refl refl (append-nil ts ∙ d.whole)).value

accepts_by : (ts : List Token) (a : Ast) (o : Result Ast Fault) → written ts ≡ o → Shallow a ts → written ts ≡ Ok a
unfolding written
accepts_by ts a (Ok b) is w = is ∙ ap Ok (sym (same_read ts a b w (by_ok (reader ts) b is)))
accepts_by ts a (Err f) is w = absurd (not_bad ts a w f (written_refused ts f is))

-- each statement is accepted
pub written_accepts : (ts : List Token) (a : Ast) → Shallow a ts → written ts ≡ Ok a
written_accepts ts a w = accepts_by ts a (written ts) refl w

-- ---- words and arguments in their places

abbrev answered : Result Ast Complaint → Result Ast Complaint
answered r = r

ok_same : {a b : Ast} → answered (Ok a) ≡ Ok b → a ≡ b
ok_same h = cc

err_same : {a b : Complaint} → answered (Err a) ≡ Err b → a ≡ b
err_same h = cc

ok_err : {a : Ast} {b : Complaint} → answered (Ok a) ≡ Err b → ⊥
ok_err h = cc

err_ok : {a : Ast} {b : Complaint} → answered (Err b) ≡ Ok a → ⊥
err_ok h = cc

place_same : {a b : ℕ} → syntax a ≡ syntax b → a ≡ b
place_same h = cc

depth_syntax : {a : ℕ} → depth ≡ syntax a → ⊥
depth_syntax h = cc

-- the tokens that were read
abbrev read_of : Result Ast Fault → List Token → List Token
read_of o ts = take (length ts - length (left_of o)) ts

all_read : (a : Ast) (ts : List Token) → read_of (Ok a) ts ≡ ts
all_read a ts = take_all (length ts - 0) ts (omega arith)

read_before : (ts before r : List Token) → ts ≡ before ++ r → length ts - length r ≡ length before
read_before ts before r whole = omega (arith, ap length whole, length-append before r)

unless_ok : (m : Option ℕ) (v : Result Ast Complaint) (a : Ast) → unless_misplaced m v ≡ Ok a → (m ≡ None) × (v ≡ Ok a)
unless_ok None v a e = (refl, e)
unless_ok (Some at) v a e = absurd (err_ok e)

unless_err : (m : Option ℕ) (v : Result Ast Complaint) (c : Complaint) → unless_misplaced m v ≡ Err c → ((at : ℕ) × (m ≡ Some at) × (c ≡ syntax at)) ⊎ ((m ≡ None) × (v ≡ Err c))
unless_err None v c e = inr (refl, e)
unless_err (Some at) v c e = inl (at, refl, sym (err_same e))

called_ok : (a b : Ast) (m : Option ℕ) → called a m ≡ Ok b → (m ≡ None) × (a ≡ b)
called_ok a b None e = (refl, ok_same e)
called_ok a b (Some at) e = absurd (err_ok e)

called_err : (a : Ast) (c : Complaint) (m : Option ℕ) → called a m ≡ Err c → (at : ℕ) × (m ≡ Some at) × (c ≡ syntax at)
called_err a c None e = absurd (ok_err e)
called_err a c (Some at) e = (at, refl, sym (err_same e))

accepted_by : (ts : List Token) (end : ℕ) (a : Ast) (o : Result Ast Fault) → written ts ≡ o → judged o ts end ≡ Ok a → Accepted a ts
accepted_by ts end a (Ok b) is e =
    let u = unless_ok (misplaced (read_of (Ok b) ts)) (called b (miscalled b)) a e in
    let c = called_ok b a (miscalled b) u.1 in
    subst (λ (w : Ast). Accepted w ts) c.1 (record { shallow = written_accepted ts b is; placed = sym (ap misplaced (all_read b ts)) ∙ u.0; called = c.0 })
accepted_by ts end a (Err (bad r)) is e = absurd (err_ok (unless_ok (misplaced (read_of (Err (bad r)) ts)) (Err (syntax (place r end))) a e).1)
accepted_by ts end a (Err (too_deep r)) is e = absurd (err_ok (unless_ok (misplaced (read_of (Err (too_deep r)) ts)) (Err depth) a e).1)

-- What is accepted is a statement, with its words and arguments in their places.
pub accepted : (ts : List Token) (end : ℕ) (a : Ast) → verdict ts end ≡ Ok a → Accepted a ts
unfolding verdict
accepted ts end a e = accepted_by ts end a (written ts) refl e

-- Each such statement is accepted.
pub accepts : (ts : List Token) (end : ℕ) (a : Ast) → Accepted a ts → verdict ts end ≡ Ok a
unfolding verdict
accepts ts end a w =
    ap (λ o. judged o ts end) (written_accepts ts a w.shallow)
    ∙ (ap (λ m. unless_misplaced m (called a (miscalled a))) (ap misplaced (all_read a ts) ∙ w.placed) ∙ ap (called a) w.called)

shorter_begins : (ts : List Token) (n : ℕ) → BeginsOne Written (take (n + 1) ts) → BeginsOne Written (take n ts)
shorter_begins ts n b =
    let last = drop n (take (n + 1) ts) in
    let e : take (n + 1) ts ≡ take n ts ++ last = sym (take-append-drop n (take (n + 1) ts)) ∙ ap (λ w. w ++ last) (take-take n (n + 1) ts (omega arith)) in
    (b.0, last ++ b.1, subst (λ (w : List Token). Written b.0 w) (ap (λ w. w ++ b.1) e ∙ append_assoc (take n ts) last b.1) b.2)

misplaced_in : (ts : List Token) (at n m : ℕ) → n ≡ m → m ≤ length ts → BeginsOne Written (take m ts) → misplaced (take n ts) ≡ Some at → MisplacedAt ts at
misplaced_in ts at n m is inside fits here = record { before = m; inside = inside; fits = fits; here = sym (ap (λ i. misplaced (take i ts)) is) ∙ here }

refused_case : (ts : List Token) (end at : ℕ) (o : Result Ast Fault) → written ts ≡ o → judged o ts end ≡ Err (syntax at) → RefusedAt ts end at
refused_case ts end at (Ok b) is e = elim (unless_err (misplaced (read_of (Ok b) ts)) (called b (miscalled b)) (syntax at) e) [
  | inl u ↦
      let all : length ts - 0 ≡ length ts = omega arith in
      inr (inl (misplaced_in ts at (length ts - 0) (length ts) all (omega arith) (whole_begins Written ts b (length ts) (deeper_tree b ts (written_accepted ts b is))) (u.1 ∙ ap Some (sym (place_same u.2)))))
  | inr u ↦
      let c = called_err b (syntax at) (miscalled b) u.1 in
      inr (inr (record { statement = b; spelled = deeper_tree b ts (written_accepted ts b is); placed = sym (ap misplaced (all_read b ts)) ∙ u.0; here = c.1 ∙ ap Some (sym (place_same c.2)) }))
]
refused_case ts end at (Err (bad r)) is e =
    let w = written_refused ts (bad r) is in
    let n : length ts - length r ≡ length w.0 = read_before ts w.0 r w.1 in
    elim (unless_err (misplaced (read_of (Err (bad r)) ts)) (Err (syntax (place r end))) (syntax at) e) [
      | inl u ↦ inr (inl (misplaced_in ts at (length ts - length r) (length w.0) n w.2.inside w.2.fits (u.1 ∙ ap Some (sym (place_same u.2)))))
      | inr u ↦ inl (record {
        before = length w.0;
        wrong = w.2;
        placed = sym (ap (λ i. misplaced (take i ts)) n) ∙ u.0;
        here = sym (place_same (err_same u.1)) ∙ sym (ap (λ i. place i end) (ap (drop (length w.0)) w.1 ∙ drop-append_seam w.0 r));
      })
    ]
refused_case ts end at (Err (too_deep r)) is e =
    let w = written_refused ts (too_deep r) is in
    let n : length ts - length r ≡ length w.0 = read_before ts w.0 r w.1 in
    elim (unless_err (misplaced (read_of (Err (too_deep r)) ts)) (Err depth) (syntax at) e) [
      | inl u ↦ inr (inl (misplaced_in ts at (length ts - length r) (length w.0) n (omega (arith, w.2.inside)) (shorter_begins ts (length w.0) w.2.fits) (u.1 ∙ ap Some (sym (place_same u.2)))))
      | inr u ↦ absurd (depth_syntax (err_same u.1))
    ]

-- Where it is refused, it goes wrong there, or a word or an argument is out of its place.
pub refused : (ts : List Token) (end at : ℕ) → verdict ts end ≡ Err (syntax at) → RefusedAt ts end at
unfolding verdict
refused ts end at e = refused_case ts end at (written ts) refl e

deep_case : (ts : List Token) (end : ℕ) (o : Result Ast Fault) → written ts ≡ o → judged o ts end ≡ Err depth → (n : ℕ) × GoesDeep ts n
deep_case ts end (Ok b) is e = elim (unless_err (misplaced (read_of (Ok b) ts)) (called b (miscalled b)) depth e) [
  | inl u ↦ absurd (depth_syntax u.2)
  | inr u ↦ absurd (depth_syntax (called_err b depth (miscalled b) u.1).2)
]
deep_case ts end (Err (bad r)) is e = elim (unless_err (misplaced (read_of (Err (bad r)) ts)) (Err (syntax (place r end))) depth e) [
  | inl u ↦ absurd (depth_syntax u.2)
  | inr u ↦ absurd (depth_syntax (sym (err_same u.1)))
]
deep_case ts end (Err (too_deep r)) is e = let w = written_refused ts (too_deep r) is in (length w.0, w.2)

-- Where the depth is refused, a token stands too deep.
pub deep : (ts : List Token) (end : ℕ) → verdict ts end ≡ Err depth → (n : ℕ) × GoesDeep ts n
unfolding verdict
deep ts end e = deep_case ts end (written ts) refl e
