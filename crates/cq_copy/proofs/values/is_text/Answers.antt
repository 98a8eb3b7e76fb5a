use Rattle.std.proofs.Common.{sym, ◌∙◌}
use Rattle.cq_copy.proofs.ValueLaws.{ascii_is_utf8}
use Rattle.cq_copy.proofs.values.is_text.Goals as goal

pub returns-then-are_ascii : goal.returns-then-are_ascii
returns-then-are_ascii c = c.if-are_ascii.true ∙ sym (ascii_is_utf8 c.args.bytes.now (sym c.are_ascii.ensures ∙ c.if-are_ascii.true))
