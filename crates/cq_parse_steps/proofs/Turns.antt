-- A loop that gathers what the reader `many` reads.
use Rattle.std.proofs.Common.{◌≡◌, ℕ, zero, suc, ◌-◌, ◌<◌, List, [], ◌∷◌, ◌++◌, Bool, true, false, cond, Result, Ok, Err, refl, sym, subst, ◌∙◌, ap, append_assoc, arith}
use Rattle.std.proofs.lemmas.List.{append-nil}
use Rattle.cq_token.specs.declared.token.Token.{Token}
use Rattle.cq_grammar.specs.Read.{Fault, Outcome, Reader, Test, and_then, both, made, many_by, before}
use Rattle.cq_grammar.specs.declared.error.Refusal.{Refusal}
use Rattle.cq_parse_steps.specs.Reads.{Reads, fault}

abbrev pub went : {A : Type 0} → A × List Token → Outcome A
went p = Ok p

abbrev pub failed : {A : Type 0} → Fault → Outcome A
failed e = Err e

choose_true : {X : Type 0} (b : Bool) (x y : X) → b ≡ true → cond b x y ≡ x
choose_true b x y h = rw h refl

choose_false : {X : Type 0} (b : Bool) (x y : X) → b ≡ false → cond b x y ≡ y
choose_false b x y h = rw h refl

module _ {A : Type 0} (test : Test) (p : ℕ → Reader A) where
  abbrev made_of : Outcome (A × List A) → Outcome (List A)
  made_of o = and_then o (λ c r. Ok (c.0 ∷ c.1, r))

  abbrev turn : Outcome A → (List Token → Outcome (List A)) → Outcome (List A)
  turn o k = made_of (and_then {B = A × List A} o (λ a r. and_then {B = A × List A} (k r) (λ b s. Ok ((a, b), s))))

  front_front : (front : List A) (a : A) (r : List Token) (o : List Token → Outcome (List A)) (q : Outcome (List A)) → o r ≡ q → before front (turn (went (a, r)) o) ≡ before (front ++ a ∷ []) q
  front_front front a r o (Ok q) e = ap (λ w. before front (made_of (and_then {B = A × List A} w (λ b s. Ok ((a, b), s))))) e ∙ ap went (ap (λ l. (l, q.1)) (simp append_assoc))
  front_front front a r o (Err d) e = ap (λ w. before front (made_of (and_then {B = A × List A} w (λ b s. Ok ((a, b), s))))) e

  pub many_start : (i n : ℕ) (ts : List Token) → many_by test p i n ts ≡ before [] (many_by test p i n ts)
  many_start i n ts = kept (many_by test p i n ts)
    where
      kept : (o : Outcome (List A)) → o ≡ before [] o
      kept (Ok q) = refl
      kept (Err e) = refl

  -- one more item
  pub many_step : (front : List A) (i n : ℕ) (ts : List Token) (a : A) (r : List Token) → 0 < n → test ts ≡ true → p i ts ≡ Ok (a, r)
      → before front (many_by test p i n ts) ≡ before (front ++ a ∷ []) (many_by test p (suc i) (n - 1) r)
  many_step front i zero ts a r some on e = absurd (omega arith)
  many_step front i (suc n) ts a r some on e =
      let m : n ≡ suc n - 1 = omega arith in
      ap (before front) (choose_true (test ts) _ _ on ∙ ap (λ o. turn o (many_by test p (suc i) n)) e)
      ∙ (front_front front a r (many_by test p (suc i) n) (many_by test p (suc i) n r) refl ∙ ap (λ k. before (front ++ a ∷ []) (many_by test p (suc i) k r)) m)

  pub many_fail : (front : List A) (i n : ℕ) (ts : List Token) (e : Fault) → 0 < n → test ts ≡ true → p i ts ≡ Err e → before front (many_by test p i n ts) ≡ failed e
  many_fail front i zero ts e some on h = absurd (omega arith)
  many_fail front i (suc n) ts e some on h = ap (before front) (choose_true (test ts) _ _ on ∙ ap (λ o. turn o (many_by test p (suc i) n)) h)

  pub many_stop : (front : List A) (i n : ℕ) (ts : List Token) → test ts ≡ false → before front (many_by test p i n ts) ≡ went (front, ts)
  many_stop front i zero ts off = ap went (ap (λ l. (l, ts)) (append-nil front))
  many_stop front i (suc n) ts off = ap (before front) (choose_false (test ts) _ _ off) ∙ ap went (ap (λ l. (l, ts)) (append-nil front))

  pub many_end : (front : List A) (i n : ℕ) (ts : List Token) → n ≡ 0 → before front (many_by test p i n ts) ≡ went (front, ts)
  many_end front i zero ts h = ap went (ap (λ l. (l, ts)) (append-nil front))
  many_end front i (suc n) ts h = absurd (omega arith)

  -- an item that refuses
  pub refused : (all : Outcome (List A)) (front : List A) (i n : ℕ) (ts : List Token) (e : Refusal) (new : List Token) → all ≡ before front (many_by test p i n ts)
      → 0 < n → test ts ≡ true → Reads (p i ts) (Err e) new → Reads all (Err e) new
  refused all front i n ts e new is some on reads = λ known. is ∙ many_fail front i n ts (fault e new) some on (reads known)

  -- an item that is read
  pub read_on : (all : Outcome (List A)) (front more : List A) (i j n m : ℕ) (ts : List Token) (a : A) (new : List Token) → all ≡ before front (many_by test p i n ts)
      → 0 < n → test ts ≡ true → Reads (p i ts) (Ok a) new → more ≡ front ++ a ∷ [] → j ≡ suc i → m ≡ n - 1 → all ≡ before more (many_by test p j m new)
  read_on all front more i j n m ts a new is some on reads pushed next less =
      is ∙ (many_step front i n ts a new some on reads ∙ rw (pushed, next, less) refl)

-- a first item, and more behind it
module _ {A : Type 0} (p : Reader A) (q : Reader (List A)) where
  both_are : (a : A) (o : Outcome (List A)) → and_then {B = List A} (and_then {B = A × List A} o (λ b s. Ok ((a, b), s))) (λ c r. Ok (c.0 ∷ c.1, r)) ≡ before (a ∷ []) o
  both_are a (Ok c) = refl
  both_are a (Err e) = refl

  pub first_and_more : (ts r : List Token) (a : A) (front : List A) (result : Result (List A) Refusal) (new : List Token) → p ts ≡ Ok (a, r) → front ≡ a ∷ [] → Reads (before front (q r)) result new
      → Reads (made {A = A × List A} (λ (first, more). first ∷ more) (both p q) ts) result new
  first_and_more ts r a front result new e is reads =
      let same : made {A = A × List A} (λ (first, more). first ∷ more) (both p q) ts ≡ before front (q r) =
      ap (λ (o : Outcome A). and_then {B = List A} (and_then {B = A × List A} o (λ a r. and_then {B = A × List A} (q r) (λ b s. Ok ((a, b), s)))) (λ c r. Ok (c.0 ∷ c.1, r))) e
      ∙ (both_are a (q r) ∙ ap (λ l. before l (q r)) (sym is)) in
      subst (λ (o : Outcome (List A)). Reads o result new) (sym same) reads
