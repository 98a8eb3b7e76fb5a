use Rattle.std.proofs.Common.{subst, sym, ◌∙◌}
use Rattle.cq_cell.specs.Lists.{NotIn}
use Rattle.cq_cell.proofs.closing.close_one.Goals as goal

pub close-requires-clause-cell : goal.close-requires-clause-cell
close-requires-clause-cell g c = let r = c.requires.1.at in (r.0, r.1.0, r.1.1)

pub close-requires-clause-root : goal.close-requires-clause-root
close-requires-clause-root g c = let r = c.requires.1 in (r.live, r.is_root, r.filled, r.still)

pub close-requires-clause-all : goal.close-requires-clause-all
close-requires-clause-all g c = let r = c.requires.1 in λ n h. subst (NotIn n) (r.ended ∙ sym r.all) h

pub returns : goal.returns
returns g c = let e = c.close.ensures in record { history = record { stand = e.value; others = e.others }; each = e.each }
