use Rattle.std.proofs.Common.{ap}
use Rattle.cq_catalog.specs.Contents.{number_of}
use Rattle.cq_catalog.proofs.NamedLaws.{same_number}
use Rattle.cq_catalog.proofs.named.NamedTables.number.Goals as goal

pub returns : goal.returns
returns c = rw (c.get_index_of.ensures.index, c.as_str.ensures, same_number c.args.name.now c.self.inside.by_name.entries c.self.invariant) (ap (λ ts. number_of ts c.args.name.now) c.self.view_is)
