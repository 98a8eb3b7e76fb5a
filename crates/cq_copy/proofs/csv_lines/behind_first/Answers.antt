use Rattle.std.proofs.Common.{◌<◌, length, ap, arith, drop, sym, ◌∙◌}
use Rattle.cq_copy.specs.Lines.{lines}
use Rattle.cq_copy.proofs.LineLaws.{empty_line, record_line, no_line}
use Rattle.cq_copy.proofs.csv_lines.behind_first.Goals as goal

pub returns-then-not-is_empty : goal.returns-then-not-is_empty
returns-then-not-is_empty c =
    let some : 0 < length c.first_line.result.0.now = grind (arith, c.is_empty-in-lines.ensures, c.if-not-is_empty.true) in
    sym (ap (drop 1) (c.first_line.ensures.line ∙ record_line (lines c.first_line.result.1.now) c.first_line.result.0.now some)) ∙ c.lines.invariant

pub lines-preserved : goal.lines-preserved
lines-preserved c =
    let none : length c.first_line.result.0.now < 1 = grind (arith, c.is_empty-in-lines.ensures, c.if-not-is_empty.false) in
    sym (ap (drop 1) (c.first_line.ensures.line ∙ empty_line (lines c.first_line.result.1.now) c.first_line.result.0.now none)) ∙ c.lines.invariant

pub returns : goal.returns
returns c =
    let none : length c.lines.left.now < 1 = grind (arith, c.lines-test.ensures) in
    no_line c.lines.left.now none ∙ sym (ap (drop 1) (no_line c.lines.left.now none)) ∙ c.lines.invariant
