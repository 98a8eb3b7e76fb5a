use Rattle.std.proofs.Common.{sym, ◌∙◌}
use Rattle.cq_copy.proofs.RowLaws.{row_made, is_none_one}
use Rattle.cq_copy.proofs.frame.Frame.row_of_simple.Goals as goal

pub returns-in_ok-shared-in-Some : goal.returns-in_ok-shared-in-Some
returns-in_ok-shared-in-Some c =
    let made = rw c.in-Some.is at c.in_ok-values.ensures in
    let none = sym c.requires.absent ∙ is_none_one c.args.self.now.absent (sym c.if-is_some.ensures) in
    λ number. rw c.in_ok-shared-in-Some.ensures (row_made c.args.self.now.format c.args.self.now.table.now c.args.self.now.listed.now number _ c.in-Some.values made.0 (made.1 number) none)
