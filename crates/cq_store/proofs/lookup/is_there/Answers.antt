use Rattle.std.proofs.Common.{◌∙◌}
use Rattle.cq_value.specs.Tables.{Pair}
use Rattle.cq_store.specs.Stores.{has_values}
use Rattle.cq_store.proofs.IndexLaws.{any_pages}
use Rattle.cq_store.proofs.lookup.is_there.Goals as goal

pub returns : goal.returns
returns c = c.is_in_pages.ensures ∙ any_pages (λ (p : Pair). has_values c.args.wanted.now p.1) c.args.pages.now
