use Rattle.cq_bind_lists.proofs.Keys.{key_read, key_unread}
use Rattle.cq_bind_lists.proofs.stars.star_key.Goals as goal

pub returns-in_err-b : goal.returns-in_err-b
returns-in_err-b c = key_unread c.args.at c.args.place c.args.scope.now _ _ _ c.plain.ensures c.in_err-b.ensures c.from_residual.ensures.1

pub returns : goal.returns
returns c = key_read c.args.at c.args.place c.args.scope.now _ _ _ c.plain.ensures c.in_ok-b.ensures c.key_or_refused-key.ensures
