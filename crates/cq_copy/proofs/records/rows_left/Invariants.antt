use Rattle.std.proofs.Common.{List, ℕ}
use Rattle.csv.specs.Reading.{default_config, records_from}
use Rattle.csv.specs.declared.parser.State.{State}
use Rattle.cq_copy.specs.Rows.{rows_from}
use Rattle.cq_copy.specs.Records.{row_of_record, Reads}
use Rattle.cq_copy.proofs.RecordLaws.{Left}
use Rattle.cq_copy.proofs.records.rows_left.Given as goal

abbrev pub invariant-loop-at : goal.invariant-loop-at
invariant-loop-at l = (s : State) (left : List ℕ) → Reads l.fn.reader s left
    → Left l.fn.frame.table.now l.fn.frame.listed.now l.fn.most (rows_from (row_of_record l.fn.frame.table.now l.fn.frame.listed.now) 1 (records_from default_config l.fn.most s left)) l.reader l.rows l.at
