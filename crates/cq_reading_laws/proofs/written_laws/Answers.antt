use Rattle.cq_reading_laws.proofs.WrittenStatements.{texts_written}
use Rattle.cq_reading_laws.proofs.written_laws.Goals as goal

pub returns : goal.returns
returns c = record { texts = texts_written }
