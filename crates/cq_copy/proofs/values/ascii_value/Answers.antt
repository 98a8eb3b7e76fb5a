use Rattle.cq_copy.proofs.ValueLaws.{ascii_text, ascii_value}
use Rattle.cq_copy.proofs.values.ascii_value.Goals as goal

pub from_utf8_unchecked-text-requires : goal.from_utf8_unchecked-text-requires
from_utf8_unchecked-text-requires c = ascii_text c.args.bytes.now c.requires

pub returns : goal.returns
returns c = rw (c.in_ok-of.ensures, c.from_utf8_unchecked-text.ensures) (ascii_value c.args.bytes.now c.requires)
