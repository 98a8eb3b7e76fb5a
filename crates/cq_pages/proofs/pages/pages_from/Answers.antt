use Rattle.std.proofs.Common.{◌-◌, length, take, arith}
use Rattle.cq_pages.specs.Pages.{pairs_of}
use Rattle.cq_pages.proofs.PageLaws.{pages_split}
use Rattle.cq_pages.proofs.pages.pages_from.Goals as goal

pub returns : goal.returns
returns c =
    let pages = c.args.pages.now in
    let k = c.page_place.result in
    record {
      before = pairs_of (take k pages);
      whole = pages_split pages k (length pages - k) (omega (arith, c.page_place.ensures.within));
      below = c.page_place.ensures.stands.below;
    }
