-- Tables of which nothing is wanted are as they are.
use Rattle.std.proofs.Common.{◌≡◌, List, [], ◌∷◌, ◌++◌, refl, ap}
use Rattle.cq_meaning.specs.Values.{Row, Tables}
use Rattle.cq_demands.specs.Demands.{rows_with}
use Rattle.cq_demands.specs.JoinDemands.{Wants, wants_at, narrow}

pub all_rows : (rows : List Row) → rows_with [] rows ≡ rows
all_rows [] = refl
all_rows (row ∷ rows) = ap (λ rs. row ∷ rs) (all_rows rows)

pub narrow_none : (tables : Tables) → narrow [] tables ≡ tables
narrow_none [] = refl
narrow_none (p ∷ tables) = λ i. (p.0, all_rows p.1 i) ∷ narrow_none tables i

pub narrow_append : (wants : Wants) (xs ys : Tables) → narrow wants (xs ++ ys) ≡ narrow wants xs ++ narrow wants ys
narrow_append wants [] ys = refl
narrow_append wants (p ∷ xs) ys = ap (λ (more : Tables). (p.0, rows_with (wants_at wants p.0) p.1) ∷ more) (narrow_append wants xs ys)
