use Rattle.std.proofs.Common.{◌∙◌, ℕ, get_or, sym}
use Rattle.std.proofs.lemmas.List.Folds.{list_all-map}
use Rattle.cq_value.specs.declared.value.Value.{Value}
use Rattle.cq_value.specs.declared.value.Value.TheVariants.{Null}
use Rattle.cq_columnar.specs.Columns.{may_have}
use Rattle.cq_columnar.proofs.matching.may_have_key.Goals as goal

pub returns : goal.returns
returns c = c.may_have_each.ensures ∙ sym (list_all-map (λ (p : ℕ × Value). may_have p.0 p.1 c.args.chunk.now) (λ (place : ℕ). (place, get_or c.args.other.now place Null)) c.args.key.now)
