-- Grammars: which tokens spell which value. Each combinator is one piece of the notation in which a grammar is written.
use Rattle.std.specs.Prelude.{◌≡◌, ℕ, suc, List, [], ◌∷◌, ◌++◌, true, ◌⊎◌, Option, Some, None}
use Rattle.cq_token.specs.declared.token.Token.{Token}
use Rattle.cq_grammar.specs.declared.kind.Kind.{Kind}
use Rattle.cq_grammar.specs.Words.{kind, of}

-- the values of a rule, each with the tokens that spell it
abbrev pub Lang : Type 0 → Type 1
Lang A = A → List Token → Type 0

-- one token of these kinds
pub record One (kinds : List Kind) (t : Token) (ts : List Token) : Type 0 where
  pub kind : of kinds (kind t) ≡ true
  pub alone : ts ≡ t ∷ []

-- a phrase of P, and behind it a phrase of Q
pub record Both {A B : Type 0} (P : Lang A) (Q : Lang B) (c : A × B) (ts : List Token) : Type 0 where
  pub front : List Token
  pub back : List Token
  pub whole : ts ≡ front ++ back
  pub left : P c.0 front
  pub right : Q c.1 back

infixr 10 ◌then◌
abbrev pub ◌then◌ : {A B : Type 0} → Lang A → Lang B → Lang (A × B)
P then Q = Both P Q

-- a phrase of one of the two
abbrev pub Either : {A : Type 0} → Lang A → Lang A → Lang A
Either P Q a ts = P a ts ⊎ Q a ts

infixr 9 ◌or◌
abbrev pub ◌or◌ : {A : Type 0} → Lang A → Lang A → Lang A
P or Q = Either P Q

-- a phrase of P, as f sees it
pub record Made {A B : Type 0} (f : A → B) (P : Lang A) (b : B) (ts : List Token) : Type 0 where
  pub from : A
  pub is : b ≡ f from
  pub phrase : P from ts

-- this value, spelled by nothing
pub record Nothing {A : Type 0} (v : A) (a : A) (ts : List Token) : Type 0 where
  pub is : a ≡ v
  pub none : ts ≡ []

-- any number of phrases, the first of P i, the next of P (i + 1), and so on
abbrev pub Many : {A : Type 0} → (ℕ → Lang A) → ℕ → Lang (List A)
Many P i [] ts = ts ≡ []
Many P i (a ∷ more) ts = (front back : List Token) × (ts ≡ front ++ back) × P i a front × Many P (suc i) more back

-- no value
abbrev pub Empty : {A : Type 0} → Lang A
Empty a ts = ⊥

-- a phrase of P or nothing
abbrev pub Optional : {A : Type 0} → Lang A → Lang (Option A)
Optional P = Either (Made Some P) (Nothing None)

-- a phrase of P, and behind it one of Q, which alone is kept
abbrev pub Behind : {A B : Type 0} → Lang A → Lang B → Lang B
Behind P Q = Made (λ c. c.1) (Both P Q)

-- one phrase or more, the first of P 0, the next of P 1, and so on
abbrev pub Several : {A : Type 0} → (ℕ → Lang A) → Lang (List A)
Several P = Made (λ (first, more). first ∷ more) (P 0 then Many P 1)
