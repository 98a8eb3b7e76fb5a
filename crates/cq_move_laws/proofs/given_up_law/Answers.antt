use Rattle.cq_move_laws.proofs.Reaching.{given_up_is_answered}
use Rattle.cq_move_laws.proofs.given_up_law.Goals as goal

pub returns : goal.returns
returns g c = given_up_is_answered g.S.Store.state
