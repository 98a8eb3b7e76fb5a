use Rattle.std.proofs.Common.{◌≡◌, ◌∙◌, sym, true, false, take, bytes_eq, rules}
use Rattle.std.specs.List.{list_any}
use Rattle.cq_value.specs.declared.schema.Column.{Column}
use Rattle.cq_catalog.proofs.RefusalLaws.{repeated_here, repeated_step}
use Rattle.cq_catalog.proofs.create.repeated.Goals as goal

pub loop-place-preserved : goal.loop-place-preserved
loop-place-preserved c =
    let none : list_any (λ (b : Column). bytes_eq b.name c.index-columns-place.result.name) (take c.loop-place.place c.args.columns.now) ≡ false = search rules in
    c.loop-place.invariant ∙ repeated_step c.args.columns.now c.loop-place.place c.index-columns-place.result c.index-columns-place.is c.loop-place-test.true none

pub returns-then-has_column : goal.returns-then-has_column
returns-then-has_column c =
    let found : list_any (λ (b : Column). bytes_eq b.name c.index-columns-place.result.name) (take c.loop-place.place c.args.columns.now) ≡ true = search rules in
    sym (c.loop-place.invariant ∙ repeated_here c.args.columns.now c.loop-place.place c.index-columns-place.result c.index-columns-place.is c.loop-place-test.true found)
