use Rattle.cq_copy.proofs.TextLaws.{simple_ascii}
use Rattle.cq_copy.proofs.RowLaws.{simple_value}
use Rattle.cq_copy.proofs.fields.simple_value.Goals as goal

pub read_ascii-requires : goal.read_ascii-requires
read_ascii-requires c = simple_ascii c.args.field.now c.requires

pub read_ascii-requires-in-Csv : goal.read_ascii-requires-in-Csv
read_ascii-requires-in-Csv c = simple_ascii c.args.field.now c.requires

pub returns-in-Text : goal.returns-in-Text
returns-in-Text c = rw (c.in-Text.is, simple_value c.args.kind c.args.field.now c.requires) c.read_ascii.ensures
