use Rattle.std.proofs.Common.{◌≡◌, ◌++◌, drop}
use Rattle.std.specs.Prelude.{flat_map}
use Rattle.cq_journal_text.specs.Texts.{journal_text}
use Rattle.cq_journal_text.proofs.journals.push_each.Given as goal

abbrev pub invariant-loop-journal : goal.invariant-loop-journal
invariant-loop-journal l = l.out.items ++ flat_map journal_text (drop l.journal-index l.journals) ≡ l.fn.out.items ++ flat_map journal_text l.journals
