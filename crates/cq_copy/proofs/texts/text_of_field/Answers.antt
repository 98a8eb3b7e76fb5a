use Rattle.std.proofs.Common.{sym, ◌∙◌}
use Rattle.cq_copy.proofs.TextLaws.{text_done}
use Rattle.cq_copy.proofs.texts.text_of_field.Goals as goal

pub returns : goal.returns
returns c = sym (c.bytes.invariant ∙ text_done c.bytes.text.items c.bytes.left.now c.in_default.len_below)
