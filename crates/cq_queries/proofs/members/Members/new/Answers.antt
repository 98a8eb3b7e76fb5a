use Rattle.std.proofs.Common.{sym}
use Rattle.std.proofs.lemmas.List.Folds.{list_all-map}
use Rattle.cq_meaning.specs.Values.{column}
use Rattle.cq_queries.specs.Members.{is_number, is_text}
use Rattle.cq_queries.proofs.members.Members.new.Goals as goal

pub invariant_of-result : goal.invariant_of-result
invariant_of-result c = (
  c.in_ok-first_values.ensures,
  rw (c.are_numbers.ensures, c.as_slice.ensures) (sym (list_all-map is_number (λ row. column row 0) c.args.rows.now)),
  rw (c.are_texts.ensures, c.as_slice-2.ensures) (sym (list_all-map is_text (λ row. column row 0) c.args.rows.now)),
)
