use Rattle.cq_balance.proofs.Ends.{moves_lower_squares, greedy_ends, counts_are_even}
use Rattle.cq_balance.proofs.laws.greedy_laws.Goals as goal

pub returns : goal.returns
returns c = record { squares = moves_lower_squares; ends = greedy_ends; even = counts_are_even }
