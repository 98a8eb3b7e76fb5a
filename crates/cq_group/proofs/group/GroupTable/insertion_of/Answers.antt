use Rattle.std.proofs.Common.{◌∙◌, sym}
use Rattle.cq_group.specs.Calls.{first_rows}
use Rattle.cq_group.proofs.group.GroupTable.insertion_of.Goals as goal

pub returns-clause-effect : goal.returns-clause-effect
returns-clause-effect g c =
    c.in_ok-effect.ensures c.args.table (first_rows g.S.Store.state c.args.self.now.stores.items) c.args.self.now.shape
    (sym (c.repeats.ensures.same.next ∙ c.requires.alike.numbered)) (sym c.in_ok-repeats.ensures.repeats)
