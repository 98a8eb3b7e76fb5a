use Rattle.std.proofs.Common.{◌+◌, List, length, ap, sym, ◌∙◌, Result, Ok}
use Rattle.csv.specs.Reading.{strip_bom}
use Rattle.csv.specs.Records.{fields_of}
use Rattle.csv.specs.declared.parser.State.TheVariants.{StartRecord}
use Rattle.cq_copy.specs.declared.error.CopyError.{CopyError}
use Rattle.cq_copy.specs.Rows.{Gives, Row}
use Rattle.cq_copy.proofs.RecordLaws.{header_read, no_header}
use Rattle.cq_copy.proofs.records.rows_of_records.Goals as goal

pub returns-then-not-branch : goal.returns-then-not-branch
returns-then-not-branch c =
    rw c.if-header.true (no_header c.args.frame.now.table.now c.args.frame.now.listed.now (length c.args.bytes.now + 1) StartRecord (strip_bom c.args.bytes.now) c.reader_of-reader.result c.read_next.new.reader c.in_ok-read_next.field-0 (fields_of c.read_next.new.raw)
    c.reader_of-reader.ensures c.in_ok-read_next.ensures c.if-not-branch.true ∙ ap (λ (rows : List Row). Ok rows) (sym c.new.ensures))

pub returns-then-header : goal.returns-then-header
returns-then-header c =
    rw c.if-header.true (header_read c.args.frame.now.table.now c.args.frame.now.listed.now (length c.args.bytes.now) StartRecord (strip_bom c.args.bytes.now) c.reader_of-reader.result c.read_next.new.reader c.in_ok-read_next.field-0 (fields_of c.read_next.new.raw)
    (λ (r : Result (List Row) CopyError). Gives c.rows_left.result r) c.reader_of-reader.ensures c.in_ok-read_next.ensures c.if-not-branch.false
    (λ s left reads. c.rows_left.ensures s left reads))
