-- The reader's combinators, one for each of a grammar's, on lists of tokens.
use Rattle.std.specs.Prelude.{ℕ, zero, suc, List, [], ◌∷◌, ◌++◌, Bool, true, false, ◌&&◌, Result, Ok, Err, length, cond, Option, Some, None}
use Rattle.cq_token.specs.declared.token.Token.{Token}
use Rattle.cq_grammar.specs.declared.kind.Kind.{Kind}
use Rattle.cq_grammar.specs.Words.{kind, of, starts}

-- why and where the reader stops: at the first token of the list, or at the end. `bad`: no phrase goes on so; `deep`: none that keeps the limit of depth does
pub data Fault : Type 0 where
  bad : List Token → Fault
  deep : List Token → Fault

abbrev pub Outcome : Type 0 → Type 0
Outcome A = Result (A × List Token) Fault

abbrev pub Reader : Type 0 → Type 0
Reader A = List Token → Outcome A

abbrev pub and_then : {A B : Type 0} → Outcome A → (A → Reader B) → Outcome B
and_then (Ok p) f = f p.0 p.1
and_then (Err e) f = Err e

abbrev pub one_by : Token → List Token → Bool → Outcome Token
one_by t ts true = Ok (t, ts)
one_by t ts false = Err (bad (t ∷ ts))

-- one token of these kinds
unfoldable pub one : List Kind → Reader Token
one ks [] = Err (bad [])
one ks (t ∷ ts) = one_by t ts (of ks (kind t))

abbrev pub both : {A B : Type 0} → Reader A → Reader B → Reader (A × B)
both p q ts = and_then (p ts) (λ a r. and_then (q r) (λ b s. Ok ((a, b), s)))

infixr 10 ◌then◌
abbrev pub ◌then◌ : {A B : Type 0} → Reader A → Reader B → Reader (A × B)
p then q = both p q

abbrev pub made : {A B : Type 0} → (A → B) → Reader A → Reader B
made f p ts = and_then (p ts) (λ a r. Ok (f a, r))

abbrev pub nothing : {A : Type 0} → A → Reader A
nothing v ts = Ok (v, ts)

-- ---- what comes next

abbrev pub Test : Type 0
Test = List Token → Bool

-- a token of these kinds comes next
abbrev pub sees : List Kind → Test
sees ks = starts (of ks)

abbrev pub tail : List Token → List Token
tail [] = []
tail (t ∷ ts) = ts

-- tokens of these kinds come next, one of each
abbrev pub sees_two : List Kind → List Kind → Test
sees_two a b ts = sees a ts && sees b (tail ts)

abbrev pub sees_three : List Kind → List Kind → List Kind → Test
sees_three a b c ts = sees a ts && (sees b (tail ts) && sees c (tail (tail ts)))

-- p where the test passes, and otherwise q
abbrev pub choice : {A : Type 0} → Test → Reader A → Reader A → Reader A
choice test p q ts = cond (test ts) (p ts) (q ts)

-- Items as long as the test passes; the number i counts those before. The number n bounds the turns: that of the tokens is enough.
abbrev pub many_by : {A : Type 0} → Test → (ℕ → Reader A) → ℕ → ℕ → Reader (List A)
many_by test p i zero ts = Ok ([], ts)
many_by test p i (suc n) ts = cond (test ts) (made (λ c. c.0 ∷ c.1) (both (p i) (many_by test p (suc i) n)) ts) (nothing [] ts)

abbrev pub many : {A : Type 0} → Test → (ℕ → Reader A) → ℕ → Reader (List A)
many test p i ts = many_by test p i (length ts) ts

-- where the depth is used up
abbrev pub used_up : {A : Type 0} → List Kind → Reader A
used_up ks ts = cond (sees ks ts) (Err (deep ts)) (Err (bad ts))

abbrev pub optional : {A : Type 0} → Test → Reader A → Reader (Option A)
optional test p = choice test (made Some p) (nothing None)

abbrev pub behind : {A B : Type 0} → Reader A → Reader B → Reader B
behind p q = made (λ c. c.1) (both p q)

-- these stand before those
abbrev pub before : {A : Type 0} → List A → Outcome (List A) → Outcome (List A)
before front o = and_then o (λ more r. Ok (front ++ more, r))

abbrev pub several : {A : Type 0} → Test → (ℕ → Reader A) → Reader (List A)
several test p = made (λ (first, more). first ∷ more) (p 0 then many test p 1)

-- ---- tokens

abbrev pub comma_item : {A : Type 0} → Reader ℕ → (ℕ → Reader A) → ℕ → Reader A
comma_item comma p i = behind comma (p i)

abbrev pub commas : {A : Type 0} → Reader ℕ → Test → (ℕ → Reader A) → Reader (List A)
commas comma test p = made (λ (first, more). first ∷ more) (p 0 then many test (comma_item comma p) 1)
