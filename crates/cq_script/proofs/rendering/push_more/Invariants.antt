use Rattle.std.proofs.Common.{◌≡◌, ◌∷◌, ◌++◌, drop}
use Rattle.std.specs.Prelude.{flat_map}
use Rattle.cq_script.proofs.rendering.push_more.Given as goal

abbrev pub invariant-loop-field : goal.invariant-loop-field
invariant-loop-field g l = l.out.items ++ flat_map (λ (f : g.row.F.Denot). 124 ∷ g.F.Field.text f) (drop l.field-index l.fields) ≡ l.fn.out.items ++ flat_map (λ (f : g.row.F.Denot). 124 ∷ g.F.Field.text f) l.fields
