use Rattle.std.proofs.Common.{List, ℕ, subst, ap, ◌∙◌, map}
use Rattle.cq_value.specs.declared.schema.Column.{Column}
use Rattle.cq_tree.specs.declared.write.Set.{Set}
use Rattle.cq_reading.specs.Outcomes.{Judges}
use Rattle.cq_reading.specs.Statements.{column_of}
use Rattle.cq_bind.proofs.writes.named_column.Goals as goal

pub returns : goal.returns
returns c =
    subst (λ (z : List Column). Judges (column_of z (map (λ (b : Set). b.column) c.args.before.now) c.args.name.now) c.column_of.result) c.as_slice-2.ensures
    (subst (λ (z : List ℕ). Judges (column_of c.as_slice-2.result.now z c.args.name.now) c.column_of.result) (c.as_slice-3.ensures ∙ c.in_ok-set.ensures ∙ ap (map (λ (b : Set). b.column)) c.as_slice.ensures) c.column_of.ensures)
