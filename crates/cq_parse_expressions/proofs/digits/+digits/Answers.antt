use Rattle.std.proofs.Common.{◌≡◌, ℕ, zero, suc, ◌+◌, ◌/◌, ◌≤◌, ◌<◌, ap, sym, ◌∙◌, refl, arith}
use Rattle.cq_grammar.specs.Grammar.{digits, digits_by}
use Rattle.cq_parse_expressions.proofs.digits.+digits.Goals as goal

enough : (t u n : ℕ) → n ≤ t → n ≤ u → digits_by t n ≡ digits_by u n
unfolding digits_by
enough zero zero n h k = refl
enough zero (suc u) zero h k = refl
enough zero (suc u) (suc n) h k = absurd (omega arith)
enough (suc t) zero zero h k = refl
enough (suc t) zero (suc n) h k = absurd (omega arith)
enough (suc t) (suc u) zero h k = refl
enough (suc t) (suc u) (suc n) h k = ap (λ d. d + 1) (enough t u (suc n / 2) (omega arith) (omega arith))

more : (n : ℕ) → 0 < n → digits n ≡ digits (n / 2) + 1
unfolding digits digits_by
more zero h = absurd (omega arith)
more (suc n) h = ap (λ d. d + 1) (enough n (suc n / 2) (suc n / 2) (omega arith) (omega arith))

none : digits 0 ≡ 0
unfolding digits digits_by
none = refl

few : (n d : ℕ) → 0 < n → d ≡ digits (n / 2) → d ≤ (n / 2) / 2 + 1 → d + 1 ≤ n / 2 + 1
few zero d h value less = absurd (omega arith)
few (suc zero) d h value less = let e : d ≡ 0 = value ∙ none in omega arith
few (suc (suc n)) d h value less = omega arith

pub returns-then-n-eq0-clause-value : goal.returns-then-n-eq0-clause-value
returns-then-n-eq0-clause-value t c = let e : c.args.n ≡ 0 = omega arith in sym (ap digits e ∙ none)

pub returns-else-n-eq0-clause-value : goal.returns-else-n-eq0-clause-value
returns-else-n-eq0-clause-value t c = ap (λ d. d + 1) c.digits.ensures.value ∙ sym (more c.args.n (omega arith))

pub returns-else-n-eq0-clause-few : goal.returns-else-n-eq0-clause-few
returns-else-n-eq0-clause-few t c = few c.args.n c.digits.result (omega arith) c.digits.ensures.value c.digits.ensures.few
