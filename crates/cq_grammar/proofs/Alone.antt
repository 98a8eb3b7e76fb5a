-- A text has one fault: where it goes wrong and where it is too deep exclude each other, and each has one place.
use Rattle.std.proofs.Common.{◌≡◌, ℕ, zero, suc, ◌+◌, ◌<◌, ◌≤◌, List, [], ◌∷◌, ◌++◌, length, take, drop, Bool, true, false, ◌||◌, if◌then◌else◌, ◌⊎◌, inl, inr, Option, Some, None, Result, Ok, Err, refl, sym, ◌∙◌, ap, subst, arith, append_assoc, take_all, take-take, Contains}
use Rattle.std.proofs.lemmas.List.{take-append-drop}
use Rattle.std.proofs.lemmas.Bool.{cases_lt}
use Rattle.std.proofs.lemmas.List.Elements.{Contains-append_left}
use Rattle.cq_token.specs.declared.token.Token.{Token}
use Rattle.std.proofs.Math.Nat.{eq-or-lt_of_le}
use Rattle.cq_value.proofs.Truths.{or_left}
use Rattle.cq_grammar.specs.declared.kind.Kind.TheVariants as k
use Rattle.cq_grammar.specs.declared.statement.Ast.{Ast}
use Rattle.cq_grammar.specs.declared.statement.Ast.TheVariants as ast
use Rattle.cq_grammar.specs.Words.{kind, of, same_kind}
use Rattle.cq_grammar.specs.Lang.{Lang}
use Rattle.cq_grammar.specs.Grammar as grammar
use Rattle.cq_grammar.specs.Grammar.{Deeper}
use Rattle.cq_grammar.specs.Statements.{statement, Written, Shallow, Apart, BeginsOne, BeginsShallow, GoesWrong, GoesDeep}
use Rattle.cq_grammar.specs.Conditions.{Options, no_options, second_primary, refused_at, seen_with, refused_option, behind_from, misplaced, miscalled}
use Rattle.cq_grammar.specs.Read.{Fault}
use Rattle.cq_grammar.specs.Descent as descent
use Rattle.cq_grammar.specs.Verdicts.{Accepted, place, WrongAt, MisplacedAt, RefusedAt, Complaint, syntax, depth, verdict}
use Rattle.cq_grammar.proofs.Laws.{unseen}
use Rattle.cq_grammar.proofs.Shapes.{Ruled}
use Rattle.cq_grammar.proofs.Expressions.{deeper}
use Rattle.cq_grammar.proofs.Depths.{lower_of, upto_opens}
use Rattle.cq_grammar.proofs.Commands.{created, copied, called}
use Rattle.cq_grammar.proofs.Whole.{begins_shallow, sub_apart, deeper_tree, whole_begins, written_accepts, accepted, refused, deep}

-- the first tokens, and those up to the m-th
split : (ts : List Token) (n m : ℕ) → n ≤ m → take m ts ≡ take n ts ++ drop n (take m ts)
split ts n m le = sym (take-append-drop n (take m ts)) ∙ ap (λ w. w ++ drop n (take m ts)) (take-take n m ts le)

-- what fewer tokens begin
pub fewer_begin : (P : Lang Ast) (ts : List Token) (n m : ℕ) → n ≤ m → BeginsOne P (take m ts) → BeginsOne P (take n ts)
fewer_begin P ts n m le b =
    let last = drop n (take m ts) in
    (b.0, last ++ b.1, subst (λ (w : List Token). P b.0 w) (ap (λ w. w ++ b.1) (split ts n m le) ∙ append_assoc (take n ts) last b.1) b.2)

-- fewer tokens aren't deeper
pub fewer_shallow : (ts : List Token) (n m : ℕ) → n ≤ m → BeginsShallow (take m ts) → BeginsShallow (take n ts)
fewer_shallow ts n m le b =
    let one = fewer_begin (Apart (take m ts) b.0) ts n m le b.1 in
    let among : (t : Token) → Contains (take n ts) t → Contains (take m ts) t =
    λ t c. subst (λ (w : List Token). Contains w t) (sym (split ts n m le)) (Contains-append_left (take n ts) (drop n (take m ts)) t c) in
    (b.0, (one.0, one.1, sub_apart (take m ts) (take n ts) among b.0 b.0 (omega arith) one.0 (take n ts ++ one.1) one.2))

by_order : {X : Type 0} (n m : ℕ) → (n < m → X) → (m ≤ n → X) → X
by_order n m less more = elim (cases_lt n m) [ inl u ↦ less u | inr u ↦ more u ]

-- no text goes wrong at one token and is too deep at another, or at the same
pub excludes : (ts : List Token) (n m : ℕ) → GoesWrong ts n → GoesDeep ts m → ⊥
excludes ts n m w d = by_order m n
    (λ lt. d.deep (fewer_shallow ts (m + 1) n (omega (arith, lt)) w.shallow))
    (λ le. w.next (omega (arith, le, d.inside)) (fewer_begin Written ts (n + 1) (m + 1) (omega (arith, le)) d.fits))

wrong_not_before : (ts : List Token) (n m : ℕ) → GoesWrong ts n → GoesWrong ts m → n < m → ⊥
wrong_not_before ts n m w v lt = w.next (omega (arith, lt, v.inside)) (fewer_begin Written ts (n + 1) m (omega (arith, lt)) v.fits)

deep_not_before : (ts : List Token) (n m : ℕ) → GoesDeep ts n → GoesDeep ts m → n < m → ⊥
deep_not_before ts n m d e lt = d.deep (fewer_shallow ts (n + 1) m (omega (arith, lt)) e.before)

-- a text goes wrong at one place
pub wrong_once : (ts : List Token) (n m : ℕ) → GoesWrong ts n → GoesWrong ts m → n ≡ m
wrong_once ts n m w v = by_order n m (λ lt. absurd (wrong_not_before ts n m w v lt)) (λ le. by_order m n (λ lt. absurd (wrong_not_before ts m n v w lt)) (λ more. omega (arith, le, more)))

-- one token is the first that is too deep
pub deep_once : (ts : List Token) (n m : ℕ) → GoesDeep ts n → GoesDeep ts m → n ≡ m
deep_once ts n m d e = by_order n m (λ lt. absurd (deep_not_before ts n m d e lt)) (λ le. by_order m n (λ lt. absurd (deep_not_before ts m n e d lt)) (λ more. omega (arith, le, more)))

-- a statement within the depth isn't too deep anywhere
pub shallow_not_deep : (ts : List Token) (a : Ast) (n : ℕ) → Shallow a ts → GoesDeep ts n → ⊥
shallow_not_deep ts a n w d = d.deep (begins_shallow ts a (n + 1) w)

-- ---- a misplaced word

abbrev found : Option ℕ → Option ℕ
found o = o

second_step : (p seen : Bool) (t : Token) (ts more : List Token) (at : ℕ) → ((seen : Bool) → second_primary seen ts ≡ Some at → second_primary seen (ts ++ more) ≡ Some at)
    → (if p then (if seen then Some t.start else second_primary true ts) else second_primary seen ts) ≡ Some at
    → (if p then (if seen then Some t.start else second_primary true (ts ++ more)) else second_primary seen (ts ++ more)) ≡ Some at
second_step true true t ts more at later h = h
second_step true false t ts more at later h = later true h
second_step false seen t ts more at later h = later seen h

second_more : (ts more : List Token) (at : ℕ) (seen : Bool) → second_primary seen ts ≡ Some at → second_primary seen (ts ++ more) ≡ Some at
second_more [] more at seen h = absurd (let e : found None ≡ Some at = h in cc)
second_more (t ∷ ts) more at seen h = second_step (same_kind (kind t) k.Primary) seen t ts more at (second_more ts more at) h

option_step : (t : Token) (ts more : List Token) (at : ℕ) (seen : Options) (o : Option ℕ) → refused_at (kind t) t.start seen ≡ o
    → (refused_option (seen_with (kind t) t.start seen) ts ≡ Some at → refused_option (seen_with (kind t) t.start seen) (ts ++ more) ≡ Some at)
    → refused_option seen (t ∷ ts) ≡ Some at → refused_option seen (t ∷ (ts ++ more)) ≡ Some at
option_step t ts more at seen None is later h = rw is (later (rw is at h))
option_step t ts more at seen (Some b) is later h = rw is (rw is at h)

option_more : (ts more : List Token) (at : ℕ) (seen : Options) → refused_option seen ts ≡ Some at → refused_option seen (ts ++ more) ≡ Some at
option_more [] more at seen h = absurd (let e : found None ≡ Some at = h in cc)
option_more (t ∷ ts) more at seen h = option_step t ts more at seen (refused_at (kind t) t.start seen) refl (option_more ts more at (seen_with (kind t) t.start seen)) h

behind_step : (p : Bool) (ts more : List Token) (at : ℕ) → (refused_option no_options (behind_from ts) ≡ Some at → refused_option no_options (behind_from (ts ++ more)) ≡ Some at)
    → refused_option no_options (if p then ts else behind_from ts) ≡ Some at → refused_option no_options (if p then ts ++ more else behind_from (ts ++ more)) ≡ Some at
behind_step true ts more at later h = option_more ts more at no_options h
behind_step false ts more at later h = later h

behind_more : (ts more : List Token) (at : ℕ) → refused_option no_options (behind_from ts) ≡ Some at → refused_option no_options (behind_from (ts ++ more)) ≡ Some at
behind_more [] more at h = absurd (let e : found None ≡ Some at = h in cc)
behind_more (t ∷ ts) more at h = behind_step (same_kind (kind t) k.From) ts more at (behind_more ts more at) h

misplaced_step : (p q : Bool) (a b c d : Option ℕ) (at : ℕ) → (a ≡ Some at → b ≡ Some at) → (c ≡ Some at → d ≡ Some at) → (if p then a else (if q then c else None)) ≡ Some at
    → (if p then b else (if q then d else None)) ≡ Some at
misplaced_step true q a b c d at f g h = f h
misplaced_step false true a b c d at f g h = g h
misplaced_step false false a b c d at f g h = h

misplaced_more : (ts more : List Token) (at : ℕ) → misplaced ts ≡ Some at → misplaced (ts ++ more) ≡ Some at
unfolding misplaced
misplaced_more [] more at h = absurd (let e : found None ≡ Some at = h in cc)
misplaced_more (t ∷ ts) more at h =
    misplaced_step (same_kind (kind t) k.Create) (same_kind (kind t) k.Copy) _ _ _ _ at (second_more ts more at false) (behind_more ts more at) h

-- it stays misplaced among more tokens
still_misplaced : (ts : List Token) (n m at : ℕ) → n ≤ m → misplaced (take n ts) ≡ Some at → misplaced (take m ts) ≡ Some at
still_misplaced ts n m at le h = ap misplaced (split ts n m le) ∙ misplaced_more (take n ts) (drop n (take m ts)) at h

some_none : {at : ℕ} {o : Option ℕ} → o ≡ Some at → o ≡ None → ⊥
some_none {at} {o} h g = let e : found (Some at) ≡ None = sym h ∙ g in cc

same_place : {a b : ℕ} {o : Option ℕ} → o ≡ Some a → o ≡ Some b → a ≡ b
same_place {a} {b} h g = let e : found (Some a) ≡ Some b = sym h ∙ g in cc

-- ---- a statement of CREATE or COPY, and a call, are nowhere too deep

abbrev upto_lower : (h : ℕ) (n : ℕ) (d : Deeper) → Ruled ⊥ unseen (descent.below 0 n d) (grammar.below 0 n d) (grammar.upto h d) (deeper d)
upto_lower h n d = lower_of d (λ no_phrase. absurd no_phrase) (upto_opens h d) (λ no_law. absurd no_law)

create_or_copy : (p q : Bool) (a b : Option ℕ) (at : ℕ) → (if p then a else (if q then b else None)) ≡ Some at → (p ≡ true) ⊎ (q ≡ true)
create_or_copy true q a b at h = inl refl
create_or_copy false true a b at h = inr refl
create_or_copy false false a b at h = absurd (let e : found None ≡ Some at = h in cc)

-- what a misplaced word stands in
command : (a : Ast) (t : Token) (ts : List Token) (at : ℕ) → Written a (t ∷ ts) → (same_kind (kind t) k.Create ≡ true) ⊎ (same_kind (kind t) k.Copy ≡ true) → (used : List Token) → Apart used 0 a (t ∷ ts)
unfolding statement of
command a t ts at w (inl is) used = inl (created (descent.below 0) (grammar.below 0) (λ _. grammar.upto w.0) (upto_lower w.0) a t ts w.1 (or_left _ _ is))
command a t ts at w (inr is) used = inr (inr (inr (inr (inl (copied (descent.below 0) (grammar.below 0) (λ _. grammar.upto w.0) (upto_lower w.0) a t ts w.1 (or_left _ _ is))))))

misplaced_not_deep : (ts : List Token) (at n : ℕ) → MisplacedAt ts at → GoesDeep ts n → ⊥
unfolding misplaced
misplaced_not_deep [] at n m d = absurd (omega (arith, d.inside))
misplaced_not_deep (t ∷ ts) at n m d = by m.before m.here
  where
    all : (n + 1 ≡ suc n) → BeginsShallow (t ∷ take n ts) → ⊥
    all e b = d.deep (subst (λ i. BeginsShallow (take i (t ∷ ts))) (sym e) b)

    fits : BeginsOne Written (t ∷ take n ts)
    fits = let e : n + 1 ≡ suc n = omega arith in subst (λ i. BeginsOne Written (take i (t ∷ ts))) e d.fits

    by : (i : ℕ) → misplaced (take i (t ∷ ts)) ≡ Some at → ⊥
    by zero h = let e : found None ≡ Some at = h in cc
    by (suc i) h =
        let c = create_or_copy (same_kind (kind t) k.Create) (same_kind (kind t) k.Copy) _ _ at h in
        let e : n + 1 ≡ suc n = omega arith in
        all e (0, (fits.0, fits.1, command fits.0 t (take n ts ++ fits.1) at fits.2 c (t ∷ take n ts)))

-- the statement of a call with wrong arguments keeps the depth
miscalled_shallow : (a : Ast) (ts : List Token) (at : ℕ) → Written a ts → miscalled a ≡ Some at → Shallow a ts
unfolding statement
miscalled_shallow (ast.Call f args place) ts at w h = inr (inr (inr (inr (inr (inr (inr (inl (called (λ _. grammar.upto w.0) f args place ts w.1))))))))
miscalled_shallow _ ts at w h = absurd (let e : found None ≡ Some at = h in cc)

-- ---- one fault

abbrev read : Result Ast Fault → Result Ast Fault
read r = r

same_tree : (ts : List Token) (a b : Ast) → Shallow a ts → Shallow b ts → a ≡ b
same_tree ts a b w v = let e : read (Ok a) ≡ Ok b = sym (written_accepts ts a w) ∙ written_accepts ts b v in cc

not_wrong : (ts : List Token) (a : Ast) (n : ℕ) → Written a ts → GoesWrong ts n → ⊥
not_wrong ts a n w g = elim (eq-or-lt_of_le g.inside) [
  | inl is ↦ g.end is a w
  | inr lt ↦ g.next lt (whole_begins Written ts a (n + 1) w)
]

wrong_or_misplaced : (ts : List Token) (end a b : ℕ) → WrongAt ts end a → MisplacedAt ts b → ⊥
wrong_or_misplaced ts end a b w m = by_order w.before m.before
    (λ lt. w.wrong.next (omega (arith, lt, m.inside)) (fewer_begin Written ts (w.before + 1) m.before (omega (arith, lt)) m.fits))
    (λ le. some_none (still_misplaced ts m.before w.before b le m.here) w.placed)

all_misplaced : (ts : List Token) (at : ℕ) → MisplacedAt ts at → misplaced ts ≡ Some at
all_misplaced ts at m = ap misplaced (sym (take_all (length ts) ts (omega arith))) ∙ still_misplaced ts m.before (length ts) at m.inside m.here

-- where the tokens are refused is one place
pub refused_once : (ts : List Token) (end a b : ℕ) → RefusedAt ts end a → RefusedAt ts end b → a ≡ b
refused_once ts end a b (inl w) (inl v) = w.here ∙ ap (λ n. place (drop n ts) end) (wrong_once ts w.before v.before w.wrong v.wrong) ∙ sym v.here
refused_once ts end a b (inl w) (inr (inl m)) = absurd (wrong_or_misplaced ts end a b w m)
refused_once ts end a b (inl w) (inr (inr c)) = absurd (not_wrong ts c.statement w.before c.spelled w.wrong)
refused_once ts end a b (inr (inl m)) (inl w) = absurd (wrong_or_misplaced ts end b a w m)
refused_once ts end a b (inr (inl m)) (inr (inl n)) = same_place (all_misplaced ts a m) (all_misplaced ts b n)
refused_once ts end a b (inr (inl m)) (inr (inr c)) = absurd (some_none (all_misplaced ts a m) c.placed)
refused_once ts end a b (inr (inr c)) (inl w) = absurd (not_wrong ts c.statement w.before c.spelled w.wrong)
refused_once ts end a b (inr (inr c)) (inr (inl m)) = absurd (some_none (all_misplaced ts b m) c.placed)
refused_once ts end a b (inr (inr c)) (inr (inr d)) =
    let same = same_tree ts c.statement d.statement (miscalled_shallow c.statement ts a c.spelled c.here) (miscalled_shallow d.statement ts b d.spelled d.here) in
    same_place c.here (ap miscalled same ∙ d.here)

-- what is accepted is not refused
pub accepted_not_refused : (ts : List Token) (end at : ℕ) (a : Ast) → Accepted a ts → RefusedAt ts end at → ⊥
accepted_not_refused ts end at a w (inl g) = not_wrong ts a g.before (deeper_tree a ts w.shallow) g.wrong
accepted_not_refused ts end at a w (inr (inl m)) = some_none (all_misplaced ts at m) w.placed
accepted_not_refused ts end at a w (inr (inr c)) =
    let same = same_tree ts c.statement a (miscalled_shallow c.statement ts at c.spelled c.here) w.shallow in
    some_none c.here (ap miscalled same ∙ w.called)

-- what is too deep is not refused
pub deep_not_refused : (ts : List Token) (end at n : ℕ) → GoesDeep ts n → RefusedAt ts end at → ⊥
deep_not_refused ts end at n d (inl g) = excludes ts g.before n g.wrong d
deep_not_refused ts end at n d (inr (inl m)) = misplaced_not_deep ts at n m d
deep_not_refused ts end at n d (inr (inr c)) = shallow_not_deep ts c.statement n (miscalled_shallow c.statement ts at c.spelled c.here) d

-- ---- so the verdict is what the grammar says

by_refusal : (ts : List Token) (end at : ℕ) (v : Result Ast Complaint) → verdict ts end ≡ v → RefusedAt ts end at → verdict ts end ≡ Err (syntax at)
by_refusal ts end at (Ok a) is r = absurd (accepted_not_refused ts end at a (accepted ts end a is) r)
by_refusal ts end at (Err depth) is r = let d = deep ts end is in absurd (deep_not_refused ts end at d.0 d.1 r)
by_refusal ts end at (Err (syntax there)) is r = is ∙ ap (λ i. Err (syntax i)) (refused_once ts end there at (refused ts end there is) r)

-- where the tokens are refused, the reader refuses them
pub refuses : (ts : List Token) (end at : ℕ) → RefusedAt ts end at → verdict ts end ≡ Err (syntax at)
refuses ts end at r = by_refusal ts end at (verdict ts end) refl r

by_depth : (ts : List Token) (end n : ℕ) (v : Result Ast Complaint) → verdict ts end ≡ v → GoesDeep ts n → verdict ts end ≡ Err depth
by_depth ts end n (Ok a) is d = absurd (shallow_not_deep ts a n (accepted ts end a is).shallow d)
by_depth ts end n (Err depth) is d = is
by_depth ts end n (Err (syntax at)) is d = absurd (deep_not_refused ts end at n d (refused ts end at is))

-- where a token is too deep, the reader says so
pub deepens : (ts : List Token) (end n : ℕ) → GoesDeep ts n → verdict ts end ≡ Err depth
deepens ts end n d = by_depth ts end n (verdict ts end) refl d
