-- A SELECT between `enter` and `leave`.
use Rattle.std.proofs.Common.{◌≡◌, ◌≢◌, ℕ, true, false, nat_lt, Result, Ok, Err, refl}
use Rattle.cq_reading.specs.declared.bound.Found.{Found}
use Rattle.cq_reading.specs.declared.error.BindError.{BindError}
use Rattle.cq_reading.specs.declared.error.BindError.TheVariants as error
use Rattle.cq_reading.specs.declared.error.Limited.TheVariants as limited
use Rattle.cq_reading.specs.Steps.{Reading}
use Rattle.cq_reading.specs.Outcomes.{Binds}
use Rattle.cq_reading.specs.Selects.{a_block}
use Rattle.cq_bind_names.specs.Blocks.{entered, left}

-- `f` is what is found before the SELECT, and `g` at its end
pub block_ok : {A : Type 0} (r : Reading A) (f g : Found) (a : A) → nat_lt f.blocks 64 ≡ true → Binds (r (entered f)) (Ok a) g
    → Binds (a_block r f) (Ok a) (left g (record { subs = f.subs; aggs = f.aggs }))
block_ok r f g a p h = rw (p, h) refl

pub block_err : {A : Type 0} (r : Reading A) (f g new : Found) (e : BindError) → nat_lt f.blocks 64 ≡ true → Binds (r (entered f)) (Err e) g
    → Binds (a_block r f) (Err e) new
block_err r f g new e p h n = rw (p, h n) refl

pub block_limit : {A : Type 0} (r : Reading A) (f new : Found) (e : BindError) → nat_lt f.blocks 64 ≡ false → e ≡ error.Limit limited.Blocks 64
    → Binds (a_block r f) (Err e) new
block_limit r f new e p q n = rw (p, q) refl
