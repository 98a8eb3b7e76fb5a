use Rattle.std.proofs.Common.{sym, ◌∙◌}
use Rattle.cq_copy.proofs.RecordLaws.{is_text, not_text}
use Rattle.cq_copy.proofs.records.row_of_texts.Goals as goal

pub returns-then-not-are_texts : goal.returns-then-not-are_texts
returns-then-not-are_texts c = λ ne. not_text c.args.frame.now.table.now c.args.frame.now.listed.now c.args.row c.args.fields.now (sym c.are_texts.ensures ∙ c.if-not-are_texts.true)

pub returns : goal.returns
returns c =
    let text = is_text c.args.frame.now.table.now c.args.frame.now.listed.now c.args.row c.args.fields.now (sym c.are_texts.ensures ∙ c.if-not-are_texts.false) in
    rw text (rw c.requires.format at c.row_of_fields.ensures)
