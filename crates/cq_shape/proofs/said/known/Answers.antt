use Rattle.std.proofs.Common.{rules}
use Rattle.std.proofs.lemmas.Fn.{filter_same}
use Rattle.cq_meaning.specs.Groups.{is_known}
use Rattle.cq_shape.proofs.said.known.Goals as goal

pub returns : goal.returns
returns c = rw (c.from_vec.ensures, ← c.into_vec-kept.ensures) (filter_same _ is_known _ (λ x b f k. search rules) _ _ c.retain.ensures.filtered)
