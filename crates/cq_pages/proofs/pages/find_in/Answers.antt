use Rattle.std.proofs.Common.{◌<◌, length, arith}
use Rattle.cq_pages.proofs.PageLaws.{none_here, found_here, other_here}
use Rattle.cq_pages.proofs.pages.find_in.Goals.{After-index-pairs-place}
use Rattle.cq_pages.proofs.pages.find_in.Goals as goal

pub returns-then-place-pairs : goal.returns-then-place-pairs
returns-then-place-pairs c =
    none_here c.args.pairs.now c.requires.next c.args.id c.spot-place.result c.requires.up c.spot-place.ensures (λ d l. absurd (omega (arith, l, c.if-place-pairs.true)))

within : (c : After-index-pairs-place) → c.spot-place.result < length c.args.pairs.now
within c = omega (arith, c.spot-place.ensures.within, c.if-place-pairs.false)

pub returns-then-pair-id : goal.returns-then-pair-id
returns-then-pair-id c =
    found_here c.args.pairs.now c.requires.next c.args.id c.spot-place.result c.index-pairs-place.result c.requires.up c.spot-place.ensures (within c.before) c.index-pairs-place.is c.if-pair-id.true

pub returns-else-pair-id : goal.returns-else-pair-id
returns-else-pair-id c =
    other_here c.args.pairs.now c.requires.next c.args.id c.spot-place.result c.index-pairs-place.result c.requires.up c.spot-place.ensures (within c.before) c.index-pairs-place.is c.if-pair-id.false
