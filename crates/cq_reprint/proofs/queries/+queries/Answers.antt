use Rattle.cq_reprint.proofs.Wholes.{query_whole}
use Rattle.cq_reprint.proofs.queries.+queries.Goals as goal

pub same_query-returns-then-same_sources : goal.same_query-returns-then-same_sources
same_query-returns-then-same_sources t c = query_whole c.args.a.now c.args.b.now _ (c.same_sources.ensures.0 c.if-same_sources.true) c.same_rest.ensures
