use Rattle.cq_whole.proofs.TableLaws.{tables_suffice}
use Rattle.cq_whole.proofs.laws.table_laws.Goals as goal

pub returns : goal.returns
returns c = record { tables = tables_suffice }
