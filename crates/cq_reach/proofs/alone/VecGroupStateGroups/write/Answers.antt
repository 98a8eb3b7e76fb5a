use Rattle.std.proofs.Common.{sym}
use Rattle.cq_reach.proofs.Growth.{rest_again}
use Rattle.cq_reach.proofs.Seeing.{seen_long}
use Rattle.cq_reach.proofs.Visiting.{few_alone, takes_alone, as_many_alone, known_alone}
use Rattle.cq_reach.proofs.alone.VecGroupStateGroups.write.Goals as goal

pub write_groups-requires-clause-few : goal.write_groups-requires-clause-few
write_groups-requires-clause-few g c = few_alone c.args.self.now.items c.requires.few

pub write_groups-requires-clause-takes : goal.write_groups-requires-clause-takes
write_groups-requires-clause-takes g c = takes_alone c.args.self.now.items c.args.parts c.requires.takes

pub returns-clause-ready : goal.returns-clause-ready
returns-clause-ready g c = rest_again g.S.Store.state c.args.self.now.items c.write_groups.new.groups.items c.write_groups.ensures.goes_on

pub returns-clause-count : goal.returns-clause-count
returns-clause-count g c = as_many_alone c.args.self.now.items c.write_groups.new.groups.items c.write_groups.ensures.goes_on.count

pub returns-clause-written : goal.returns-clause-written
returns-clause-written g c = (_, known_alone c.args.self.now.items, c.write_groups.ensures.written)
