-- Results are only added by the walk over an IN subquery, and none where it may not stand.
use Rattle.std.proofs.Common.{◌≡◌, ℕ, ◌+◌, Bool, true, false, Result, Ok, Err, refl, arith, subst, sym}
use Rattle.std.specs.Prelude.{⊤}
use Rattle.cq_reading.specs.declared.bound.Found.{Found}
use Rattle.cq_reading.specs.declared.bound.Bound.{Bound}
use Rattle.cq_reading.specs.declared.bound.Block.{Block}
use Rattle.cq_reading.specs.declared.error.BindError.{BindError}
use Rattle.cq_reading.specs.declared.error.BindError.TheVariants as error
use Rattle.cq_reading.specs.Steps.{Reading, follow, provided}
use Rattle.cq_reading.specs.Scopes.{World, Context}
use Rattle.cq_reading.specs.Parts.{SelectPart}
use Rattle.cq_reading.specs.Expressions as e
use Rattle.cq_reading_laws.proofs.Carrying.{Carries, carrying, carries_then}
use Rattle.cq_reading_laws.proofs.Growth.{Grew, Grows}

-- a SELECT leaves the aggregates as they were
abbrev pub SameAggs : {A : Type 0} → Found → Result (A × Found) BindError → Type 0
SameAggs found (Ok p) = p.1.aggs ≡ found.aggs
SameAggs found (Err e) = ⊤

abbrev pub SelectGrows : SelectPart → Type 0
SelectGrows s = (w : World) → Grows true (s w) × ((found : Found) → SameAggs found (s w found))

numbered_grows : Grows true e.numbered
unfolding Carries
numbered_grows found = (record { more = omega arith; same = λ e. absurd (grind (arith, e)) }, λ later l. tt)

sub_grows : (b : Bound) (block : Block) → Grows true (λ found. Ok (b, e.with_sub block.query found))
unfolding Carries
sub_grows b block found = (record { more = omega arith; same = λ e. refl }, λ later l. tt)

among_grows : (cx : Context) (x : Bound) (negate : Bool) (at k : ℕ) (block : Block) → Grows true (e.among cx x negate at k block)
among_grows cx x negate at k block = search (carrying, sub_grows)

in_select_anyway : (select : SelectPart) → SelectGrows select → (cx : Context) (x : Bound) (negate : Bool) (at : ℕ) → Grows true (e.in_select_reading select cx x negate at)
in_select_anyway select h cx x negate at = carries_then _ _ _ numbered_grows (λ k. carries_then _ _ _ (h cx.world).0 (λ block. among_grows cx x negate at k block))

abbrev IsRefused : Result (Bound × Found) BindError → Type 0
IsRefused (Ok p) = ⊥
IsRefused (Err e) = ⊤

refused_where : (may : Bool) (e : BindError) (r : Reading Bound) (f : Found) → may ≡ false → IsRefused (provided may e r f)
refused_where may e r f is = subst (λ t. IsRefused (provided t e r f)) (sym is) tt

refused_after : (o : Result (Block × Found) BindError) (next : Block → Reading Bound) → ((block : Block) (f : Found) → IsRefused (next block f)) → IsRefused (follow o next)
refused_after (Ok p) next h = h p.0 p.1
refused_after (Err e) next h = tt

where_refused : (may : Bool) (found : Found) (o : Result (Bound × Found) BindError) → Grew true found o → (may ≡ false → IsRefused o) → Grew may found o
where_refused may found (Ok p) g h = (record { more = g.0.more; same = λ e. absurd (h e) }, λ later l. tt)
where_refused may found (Err e) g h = tt

-- where no SELECT may stand, it is refused
pub in_select_grows : (select : SelectPart) → SelectGrows select → (cx : Context) (x : Bound) (negate : Bool) (at : ℕ) → Grows cx.may_select (e.in_select_reading select cx x negate at)
unfolding Carries
in_select_grows select h cx x negate at found = where_refused cx.may_select found (e.in_select_reading select cx x negate at found) (in_select_anyway select h cx x negate at found) (λ is.
    refused_after (select cx.world (record found { results = found.results + 1 })) (λ block. e.among cx x negate at found.results block) (λ block f. refused_where cx.may_select (error.Subquery at) _ f is))
