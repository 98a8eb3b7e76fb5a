use Rattle.cq_cell.proofs.closing.join_one.Goals as goal

pub join-requires-clause-cell : goal.join-requires-clause-cell
join-requires-clause-cell g c = let r = c.requires in (r.at.0, r.there.0, r.at.1.0)

pub join-requires-clause-root : goal.join-requires-clause-root
join-requires-clause-root g c = let r = c.requires in (r.live, r.is_root)

pub join-requires-clause-pass : goal.join-requires-clause-pass
join-requires-clause-pass g c = c.requires.rests

pub returns : goal.returns
returns g c = let j = c.join.ensures in record { table = j.same.0; me = j.me }
