use Rattle.std.proofs.Common.{◌∙◌, ◌++◌, option_to_list, refl, ap}
use Rattle.cq_group.proofs.DropLaws.{spare_last, steady_last, dropped_kept}
use Rattle.cq_group.proofs.group.GroupState.drop_table.Goals as goal

pub returns-clause-spare : goal.returns-clause-spare
returns-clause-spare g c =
    let tables = c.pop.ensures.items ∙ ap (λ o. c.pop.new.self.items ++ option_to_list o) c.in-Some.is in
    spare_last g.S.Store.state c.args.self.now c.pop.new.self.items c.in-Some.table tables c.release_stores.new.stores.items c.requires.kept c.release_stores.ensures

pub returns-clause-kept : goal.returns-clause-kept
returns-clause-kept g c =
    let tables = c.pop.ensures.items ∙ ap (λ o. c.pop.new.self.items ++ option_to_list o) c.in-Some.is in
    dropped_kept g.S.Store.state c.args.self.now _ c.in-Some.table tables c.requires.kept c.requires.unwritten refl refl refl refl refl

pub returns-clause-stores : goal.returns-clause-stores
returns-clause-stores g c =
    let tables = c.pop.ensures.items ∙ ap (λ o. c.pop.new.self.items ++ option_to_list o) c.in-Some.is in
    steady_last g.S.Store.state c.args.self.now c.pop.new.self.items c.in-Some.table tables c.release_stores.new.stores.items c.release_stores.ensures
