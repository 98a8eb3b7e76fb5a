-- Function values that the walk is made of.
use Rattle.std.specs.Prelude.{◌≡◌, Result}
use denote.Ref.{Bor, MutBor}
use Rattle.cq_grammar.specs.declared.expr.Expr.{Expr}
use Rattle.cq_grammar.specs.declared.query.Select.{Select}
use Rattle.cq_reading.specs.declared.bound.Found.{Found}
use Rattle.cq_reading.specs.declared.bound.Bound.{Bound}
use Rattle.cq_reading.specs.declared.bound.Block.{Block}
use Rattle.cq_reading.specs.declared.error.BindError.{BindError}
use Rattle.cq_reading.specs.Outcomes.{Binds}
use Rattle.cq_reading.specs.Scopes.{World, Context}
use Rattle.cq_reading.specs.Expressions.{reads}
use Rattle.cq_reading.specs.Walk.{part_of, select_of}

-- a function value may be called with this expression, and reads it
pub record ReadsExpr (x : Expr) (pre : MutBor Found → Bor Expr → Bor Context → Type 0) (post : MutBor Found → Bor Expr → Bor Context → Result Bound BindError → MutBor Found → Type 0) : Type 0 where
  pub callable : (old : MutBor Found) (e : Bor Expr) (cx : Bor Context) → e.now ≡ x → pre old e cx
  pub reads : (old new : MutBor Found) (e : Bor Expr) (cx : Bor Context) (r : Result Bound BindError) → e.now ≡ x → post old e cx r new → Binds (reads (part_of e.now) cx.now old.now) r new.now

-- the same of a SELECT
pub record ReadsSelect (x : Select) (pre : MutBor Found → Bor Select → Bor World → Type 0) (post : MutBor Found → Bor Select → Bor World → Result Block BindError → MutBor Found → Type 0) : Type 0 where
  pub callable : (old : MutBor Found) (q : Bor Select) (w : Bor World) → q.now ≡ x → pre old q w
  pub reads : (old new : MutBor Found) (q : Bor Select) (w : Bor World) (r : Result Block BindError) → q.now ≡ x → post old q w r new → Binds (select_of q.now w.now old.now) r new.now
