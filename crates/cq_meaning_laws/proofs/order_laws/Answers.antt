use Rattle.cq_meaning.specs.Values.{table_rows}
use Rattle.cq_meaning.proofs.RowLaws.{row_cmp_same}
use Rattle.cq_meaning.proofs.AnswerLaws.{mean_answers}
use Rattle.cq_meaning.proofs.KeyLaws.{keys_total}
use Rattle.cq_meaning_laws.proofs.Permuted.{reordered}
use Rattle.cq_meaning_laws.proofs.WholeOrder.{order_free}
use Rattle.cq_meaning_laws.proofs.order_laws.Goals as goal

pub returns-clause-stable : goal.returns-clause-stable
returns-clause-stable c = mean_answers

pub returns-clause-keys : goal.returns-clause-keys
returns-clause-keys c = keys_total

pub returns-clause-order_free : goal.returns-clause-order_free
returns-clause-order_free c q settled db dc same rows a = order_free db dc (λ t. reordered (table_rows db t) (table_rows dc t) (same t)) q settled rows a

pub returns-clause-same : goal.returns-clause-same
returns-clause-same c = row_cmp_same
