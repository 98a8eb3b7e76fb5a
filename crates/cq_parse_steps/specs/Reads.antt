-- What a step of the parser ensures: the reader's outcome, unless memory fails.
use Rattle.std.specs.Prelude.{◌≡◌, ◌≢◌, ℕ, ◌<◌, ◌^◌, List, Result, Ok, Err}
use denote.Ref.{MutBor}
use Rattle.cq_token.specs.declared.token.Token.{Token}
use Rattle.cq_grammar.specs.declared.error.Refusal.{Refusal}
use Rattle.cq_grammar.specs.declared.error.Refusal.TheVariants.{Syntax, Depth, Memory}
use Rattle.cq_grammar.specs.declared.kind.Kind.{Kind}
use Rattle.cq_grammar.specs.Read.{Fault, bad, deep, Outcome, Reader, used_up}

abbrev pub fault : Refusal → List Token → Fault
fault Syntax r = bad r
fault Depth r = deep r
fault Memory r = bad r

-- the tokens that are left behind are `new`
abbrev pub Reads : {A : Type 0} → Outcome A → Result A Refusal → List Token → Type 0
Reads o (Ok a) new = o ≡ Ok (a, new)
Reads o (Err e) new = e ≢ Memory → o ≡ Err (fault e new)

-- the reader `used_up` answers this at these tokens, before a phrase that begins with one of the kinds
abbrev pub UsedUp : List Kind → Refusal → List Token → Type 0
UsedUp firsts e ts = (e ≢ Memory) × (used_up {A = Unit {0}} firsts ts ≡ Err (fault e ts))

-- a function value that may be called on any parser
abbrev pub IsCallable : (MutBor (List Token) → ℕ → Type 0) → Type 0
IsCallable pre = (old : MutBor (List Token)) (i : ℕ) → i < 2 ^ 64 → pre old i

-- a function value that reads what the readers p do
abbrev pub Follows : {A : Type 0} → (MutBor (List Token) → ℕ → Result A Refusal → MutBor (List Token) → Type 0) → (ℕ → Reader A) → Type 0
Follows {A} post p = (old new : MutBor (List Token)) (i : ℕ) (r : Result A Refusal) → i < 2 ^ 64 → post old i r new → Reads (p i old.now) r new.now
