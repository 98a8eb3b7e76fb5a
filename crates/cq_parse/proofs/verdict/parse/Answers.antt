use Rattle.std.proofs.Common.{length}
use Rattle.cq_parse.proofs.Promises.{gives_limit, gives_refuses, gives_deepens}
use Rattle.cq_parse.proofs.verdict.parse.Goals as goal

pub returns-clause-limit : goal.returns-clause-limit
returns-clause-limit c = gives_limit c.args.tokens.now (length c.args.text.now) c.judge.result c.judge.ensures

pub returns-clause-refuses : goal.returns-clause-refuses
returns-clause-refuses c = gives_refuses c.args.tokens.now (length c.args.text.now) c.judge.result c.judge.ensures

pub returns-clause-deepens : goal.returns-clause-deepens
returns-clause-deepens c = gives_deepens c.args.tokens.now (length c.args.text.now) c.judge.result c.judge.ensures
