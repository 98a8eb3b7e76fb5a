-- Results are only added by the walk, and none where no SELECT may stand.
use Rattle.std.proofs.Common.{◌≡◌, ◌≤◌, Bool, true, false, Result, Ok, Err, refl, arith, ◌∙◌}
use Rattle.cq_reading.specs.declared.bound.Found.{Found}
use Rattle.cq_reading.specs.declared.bound.Bound.{Bound}
use Rattle.cq_reading.specs.declared.error.BindError.{BindError}
use Rattle.cq_reading.specs.Steps.{Reading}
use Rattle.cq_reading.specs.Scopes.{Context, plain}
use Rattle.cq_reading_laws.proofs.Carrying.{Law, Carried, Carries}

-- no fewer results, and no more where no SELECT may stand
pub record MoreResults (may : Bool) (f g : Found) : Type 0 where
  pub more : f.results ≤ g.results
  pub same : may ≡ false → g.results ≡ f.results

pub now : (may : Bool) (f : Found) → MoreResults may f f
now may f = record { more = omega arith; same = λ e. refl }

pub on : (may : Bool) (f g h : Found) → MoreResults may f g → MoreResults may g h → MoreResults may f h
on may f g h l m = record { more = omega (arith, l.more, m.more); same = λ e. m.same e ∙ l.same e }

abbrev pub growing : Bool → Law
growing may = record { Later = MoreResults may; now = now may; on = on may; aggs = λ f aggs. record { more = omega arith; same = λ e. refl } }

abbrev pub Grew : Bool → {A : Type 0} → Found → Result (A × Found) BindError → Type 0
Grew may found o = Carried (growing may) found o

abbrev pub Grows : Bool → {A : Type 0} → Reading A → Type 0
Grows may r = Carries (growing may) r

-- the law in a context
abbrev pub growing_in : Context → Law
growing_in cx = growing cx.may_select

pub same_growing : (cx : Context) (r : Reading Bound) → Carries (growing_in (plain cx)) r → Carries (growing_in cx) r
same_growing cx r h = h

-- where a SELECT may stand, there may be more results
pub grows_anyway : (may : Bool) {A : Type 0} (r : Reading A) → Grows may r → Grows true r
unfolding Carries
grows_anyway may {A = A} r h found = anyway (r found) (h found)
  where
    no_truth : true ≡ false → ⊥
    no_truth e = grind arith

    anyway : (o : Result (A × Found) BindError) → Grew may found o → Grew true found o
    anyway (Ok p) g = (record { more = g.0.more; same = λ e. absurd (no_truth e) }, λ later l. tt)
    anyway (Err x) g = tt
