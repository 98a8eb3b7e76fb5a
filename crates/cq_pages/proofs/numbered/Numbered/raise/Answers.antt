use Rattle.cq_pages.specs.Pages.{pairs_of}
use Rattle.cq_value.proofs.TableLaws.{ascending_raised}
use Rattle.cq_pages.proofs.numbered.Numbered.raise.Goals as goal

pub invariant_of-self : goal.invariant_of-self
invariant_of-self c = (ascending_raised (pairs_of c.self.inside.pages.items) c.self.inside.next c.args.next c.self.invariant.0 (rw (← c.self.view_is) at c.requires), c.self.invariant.1, c.self.invariant.2)
