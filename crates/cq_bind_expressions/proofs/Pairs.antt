-- Two parts that are read the one after the other.
use Rattle.std.proofs.Common.{◌≡◌, Result, Ok, Err, subst, refl}
use Rattle.cq_reading.specs.declared.bound.Found.{Found}
use Rattle.cq_reading.specs.declared.error.BindError.{BindError}
use Rattle.cq_reading.specs.Steps.{Reading, give, ◌then◌, follow}
use Rattle.cq_reading.specs.Outcomes.{Binds}
use Rattle.cq_bind_expressions.specs.Pairs.{both}

-- two parts, and then the rest
second_of : {A B C : Type 0} (o : Result (B × Found) BindError) (a : A) (f : A → B → Reading C) → follow {A = A × B} (follow o (λ b. give (a, b))) (λ p. f p.0 p.1) ≡ follow o (f a)
second_of (Ok q) a f = refl
second_of (Err e) a f = refl

pub both_of : {A B C : Type 0} (o : Result (A × Found) BindError) (s : Reading B) (f : A → B → Reading C) → follow {A = A × B} (follow o (λ a. s then (λ b. give (a, b)))) (λ p. f p.0 p.1) ≡ follow o (λ a. s then f a)
both_of (Ok p) s f = second_of (s p.1) p.0 f
both_of (Err e) s f = refl

pub binds_both : {A B C : Type 0} (r : Reading A) (s : Reading B) (f : A → B → Reading C) (old : Found) (res : Result C BindError) (new : Found) → Binds (follow {A = A × B} (both r s old) (λ p. f p.0 p.1)) res new → Binds (follow (r old) (λ a. s then f a)) res new
binds_both r s f old res new h = subst (λ o. Binds o res new) (both_of (r old) s f) h
