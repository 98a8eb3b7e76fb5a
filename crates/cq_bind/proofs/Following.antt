-- A part that is refused, and what comes behind one that is read.
use Rattle.std.proofs.Common.{◌≡◌, Result, Ok, Err, IsErrAnd, ap, sym, subst, ◌∙◌}
use Rattle.cq_reading.specs.declared.bound.Found.{Found}
use Rattle.cq_reading.specs.declared.error.BindError.{BindError}
use Rattle.cq_reading.specs.Steps.{Reading, follow}
use Rattle.cq_reading.specs.Outcomes.{Binds}

err_is : {A : Type 0} (o : Result A BindError) (x : BindError) → IsErrAnd o (λ y. y ≡ x) → o ≡ Err x
err_is (Ok a) x h = absurd h
err_is (Err y) x h = ap Err h

pub refused : {A B : Type 0} (f : A → Reading B) (o : Result (A × Found) BindError) (x : BindError) (new : Found) (res : Result B BindError) (last : Found) → Binds o (Err x) new → IsErrAnd res (λ y. y ≡ x) → Binds (follow o f) res last
refused f o x new res last h k = subst (λ z. Binds (follow o f) z last) (sym (err_is res x k)) (λ ne. ap (λ z. follow z f) (h ne))

pub read : {A B : Type 0} (f : A → Reading B) (o : Result (A × Found) BindError) (a : A) (g : Found) (res : Result B BindError) (new : Found) → o ≡ Ok (a, g) → Binds (f a g) res new → Binds (follow o f) res new
read f o a g res new e h = subst (λ z. Binds (follow z f) res new) (sym e) h

pub read_ok : {A B : Type 0} (f : A → Reading B) (o : Result (A × Found) BindError) (a : A) (g : Found) (r : Result (B × Found) BindError) → o ≡ Ok (a, g) → f a g ≡ r → follow o f ≡ r
read_ok f o a g r e h = ap (λ z. follow z f) e ∙ h
