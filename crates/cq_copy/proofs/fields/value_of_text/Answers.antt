use Rattle.std.proofs.Common.{sym, ◌∙◌}
use Rattle.cq_copy.proofs.TextLaws.{text_stands}
use Rattle.cq_copy.proofs.fields.value_of_text.Goals as goal

pub returns-then-is_plain : goal.returns-then-is_plain
returns-then-is_plain c = rw (text_stands c.args.field.now (sym c.is_plain.ensures ∙ c.if-is_plain.true)) c.read_value.ensures
