use Rattle.std.proofs.Common.{◌∙◌, ap, arith, length, sym}
use Rattle.cq_store.proofs.MeetingLaws.{none_met}
use Rattle.cq_store.proofs.mem.MemStore.meets_rows.Goals as goal

pub returns-then-len-eq0-clause-met : goal.returns-then-len-eq0-clause-met
returns-then-len-eq0-clause-met c = none_met c.args.self.now.rows.pairs c.args.key.now c.args.rows.now (sym (ap (λ s. length s.rows.pairs) c.self.view_is) ∙ sym c.len.ensures ∙ omega arith)
