-- What is made of what is read.
use Rattle.std.proofs.Common.{◌≡◌, Result, Ok, Err, sym, subst, ap, refl}
use Rattle.cq_reading.specs.declared.bound.Found.{Found}
use Rattle.cq_reading.specs.declared.error.BindError.{BindError}
use Rattle.cq_reading.specs.Steps.{Reading, give, ◌then◌, follow}
use Rattle.cq_reading.specs.Outcomes.{Binds}
use Rattle.cq_bind_calls.proofs.Loops.{binds_then}
use Rattle.cq_bind_walk.specs.Blocks.{made}

-- what is made of a part
pub binds_made : {A B : Type 0} (make : A → B) (o : Result (A × Found) BindError) (read : Result A BindError) (res : Result B BindError) (new : Found) → Binds o read new → res ≡ made make read → Binds (follow o (λ a. give (make a))) res new
binds_made make o (Ok a) res new h k = subst (λ z. Binds (follow o (λ a. give (make a))) z new) (sym k) (ap (λ z. follow z (λ a. give (make a))) h)
binds_made make o (Err e) res new h k = subst (λ z. Binds (follow o (λ a. give (make a))) z new) (sym k) (λ n. ap (λ z. follow z (λ a. give (make a))) (h n))

-- a part, and then what is made of the next one
pub binds_pair : {A B C : Type 0} (r : A → Reading B) (make : A → B → C) (o : Result (A × Found) BindError) (a : A) (g : Found) (read : Result B BindError) (res : Result C BindError) (new : Found) → o ≡ Ok (a, g) → Binds (r a g) read new → res ≡ made (make a) read
    → Binds (follow o (λ x. r x then (λ b. give (make x b)))) res new
binds_pair r make o a g read res new e h k = binds_then (λ x. r x then (λ b. give (make x b))) o a g res new e (binds_made (make a) (r a g) read res new h k)

pub made_twice : {A B C : Type 0} (f : B → C) (g : A → B) (r : Result A BindError) → made f (made g r) ≡ made (λ a. f (g a)) r
made_twice f g (Ok a) = refl
made_twice f g (Err e) = refl
