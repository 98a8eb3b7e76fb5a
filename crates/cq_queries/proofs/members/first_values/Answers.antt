use Rattle.std.proofs.Common.{◌≡◌, ◌+◌, ◌++◌, ◌∷◌, [], arith, sym, ap, ◌∙◌, take}
use Rattle.std.proofs.lemmas.List.{take_more, map-append}
use Rattle.cq_meaning.specs.Values.{column}
use Rattle.cq_queries.specs.Operands.{owned}
use Rattle.cq_queries.specs.Members.{first_column}
use Rattle.cq_queries.proofs.MemberLaws.{one_member}
use Rattle.cq_queries.proofs.members.first_values.Goals as goal

pub loop-row-preserved : goal.loop-row-preserved
loop-row-preserved c = λ q.
    let rows = c.as_slice-row-items.result.now in
    let i = c.loop-row.row-index in
    let row = c.row-item.result in
    let more : first_column (take (i + 1) rows) ≡ first_column (take i rows) ++ column row 0 ∷ [] = ap first_column (take_more rows i row (omega arith) ∙ ap (λ r. take i rows ++ r ∷ []) (sym c.row-item.is)) ∙ map-append (λ row. column row 0) (take i rows) (row ∷ []) in
    c.in_ok-put_value.ensures q ∙ (rw (c.loop-row.invariant q, c.cell.ensures, more) (one_member (owned q) (column row 0) (first_column (take i rows))))
