-- One reading after another.
use Rattle.std.proofs.Common.{◌≡◌, Result, Ok, Err, IsErrAnd, sym, ap, ◌∙◌}
use Rattle.cq_reading.specs.declared.error.BindError.{BindError}
use Rattle.cq_reading.specs.Steps.{Reading, ◌then◌}
use Rattle.cq_reading.specs.Outcomes.{Judges}

pub then_err : {A B : Type 0} (r : Reading A) (f : A → Reading B) (e : BindError) (o : Result B BindError) → Judges r (Err e) → IsErrAnd o (λ y. y ≡ e)
    → Judges (r then f) o
then_err r f e (Ok b) h k = absurd k
then_err r f e (Err x) h k = λ found n. rw (h found (λ p. n (k ∙ p))) (ap Err (sym k))

pub then_ok : {A B : Type 0} (r : Reading A) (f : A → Reading B) (a : A) (o : Result B BindError) → Judges r (Ok a) → Judges (f a) o → Judges (r then f) o
then_ok r f a (Ok b) h k = λ found. rw (h found) (k found)
then_ok r f a (Err e) h k = λ found n. rw (h found) (k found n)
