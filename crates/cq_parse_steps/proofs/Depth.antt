-- What is read where some of the depth is used.
use Rattle.std.proofs.Common.{◌≡◌, ◌⊎◌, inl, inr, ℕ, zero, suc, ◌-◌, ◌<◌, ◌≤◌, List, Bool, true, false, cond, Result, Err, refl, sym, ◌∙◌, ap, arith}
use Rattle.cq_token.specs.declared.token.Token.{Token}
use Rattle.cq_grammar.specs.declared.kind.Kind.{Kind}
use Rattle.cq_grammar.specs.declared.error.Refusal.{Refusal}
use Rattle.cq_grammar.specs.Grammar.{Deeper, Tree}
use Rattle.cq_grammar.specs.Read.{Fault, bad, deep, Outcome, used_up, sees}
use Rattle.cq_grammar.specs.Descent.{below, within, firsts}
use Rattle.cq_parse_steps.specs.Reads.{Reads, UsedUp, fault}

below_within : (left n : ℕ) (d : Deeper) (ts : List Token) → 1 ≤ n → n ≤ left → below left n d ts ≡ within (left - n) d ts
below_within zero n d ts h k = absurd (omega arith)
below_within (suc left) zero d ts h k = absurd (omega arith)
below_within (suc left) (suc zero) d ts h k = let e : left ≡ suc left - 1 = omega arith in ap (λ i. within i d ts) e
below_within (suc left) (suc (suc n)) d ts h k =
    let e : left - suc n ≡ suc left - suc (suc n) = omega arith in below_within left (suc n) d ts (omega arith) (omega arith) ∙ ap (λ i. within i d ts) e

-- the phrases where less is left
pub deeper : (left n : ℕ) (d : Deeper) (ts : List Token) (result : Result (Tree d) Refusal) (new : List Token) → 1 ≤ n → n ≤ left
    → Reads (within (left - n) d ts) result new → Reads (below left n d ts) result new
deeper left n d ts result new h k reads = rw (below_within left n d ts h k) reads

below_none : (left n : ℕ) (d : Deeper) (ts : List Token) → left < n → below left n d ts ≡ used_up (firsts d) ts
below_none zero n d ts h = refl
below_none (suc left) zero d ts h = absurd (omega arith)
below_none (suc left) (suc zero) d ts h = absurd (omega arith)
below_none (suc left) (suc (suc n)) d ts h = below_none left (suc n) d ts (omega arith)

below_zero : (left : ℕ) (d : Deeper) (ts : List Token) → below left 0 d ts ≡ used_up (firsts d) ts
below_zero zero d ts = refl
below_zero (suc left) d ts = refl

abbrev ends : {A : Type 0} → Bool → List Token → Outcome A
ends true ts = Err (deep ts)
ends false ts = Err (bad ts)

ends_is : {A : Type 0} (b : Bool) (ts : List Token) → cond b (ends {A = A} true ts) (ends false ts) ≡ ends b ts
ends_is true ts = refl
ends_is false ts = refl

abbrev failed : {A : Type 0} → Fault → Outcome A
failed e = Err e

ends_same : {A B : Type 0} (b : Bool) (ts : List Token) (e : Fault) → ends {A = A} b ts ≡ failed e → ends {A = B} b ts ≡ failed e
ends_same true ts e h = ap failed (let k : deep ts ≡ e = cc in k)
ends_same false ts e h = ap failed (let k : bad ts ≡ e = cc in k)

used_as : {A B : Type 0} (ks : List Kind) (ts : List Token) (e : Fault) → used_up {A = A} ks ts ≡ failed e → used_up {A = B} ks ts ≡ failed e
used_as ks ts e h = ends_is (sees ks ts) ts ∙ ends_same (sees ks ts) ts e (sym (ends_is (sees ks ts) ts) ∙ h)

-- where none is left
pub no_deeper : (left n : ℕ) (d : Deeper) (ts : List Token) (e : Refusal) → (n ≡ 0) ⊎ (left < n) → UsedUp (firsts d) e ts → below left n d ts ≡ Err (fault e ts)
no_deeper left n d ts e (inl h) used = rw h (below_zero left d ts ∙ used_as (firsts d) ts (fault e ts) used.1)
no_deeper left n d ts e (inr h) used = below_none left n d ts h ∙ used_as (firsts d) ts (fault e ts) used.1
