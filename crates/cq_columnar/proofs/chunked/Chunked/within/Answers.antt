use Rattle.cq_value.proofs.TableLaws.{ascending_filter}
use Rattle.cq_pages.specs.Pages.{pairs_of}
use Rattle.cq_columnar.proofs.chunked.Chunked.within.Goals as goal

pub number-requires : goal.number-requires
number-requires c = rw (c.in_ok-found.ensures, c.deref.ensures.value) (ascending_filter _ (pairs_of c.self.inside.chunks.items) c.self.inside.next c.self.invariant.up)
