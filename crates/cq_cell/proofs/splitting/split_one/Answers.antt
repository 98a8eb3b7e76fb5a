use Rattle.std.proofs.Common.{refl}
use Rattle.cq_cell.proofs.splitting.split_one.Goals as goal

pub split-place-requires-clause-cell : goal.split-place-requires-clause-cell
split-place-requires-clause-cell g c = let r = c.requires.at in (r.0, r.1.0, r.1.1)

pub split-place-requires-clause-root : goal.split-place-requires-clause-root
split-place-requires-clause-root g c = let r = c.requires in (r.live, r.is_root, r.filled, r.still, r.some)

pub returns : goal.returns
returns g c = let s = c.split-place.ensures in record { table = s.same.0; me = s.same.2; numbered = refl; there = s.pass.0; given = s.pass.1 }
