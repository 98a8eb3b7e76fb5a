use Rattle.std.proofs.Common.{rules, ◌≡◌, true, false, sym, ap, ◌∙◌}
use Rattle.std.specs.Prelude.{not}
use Rattle.std.specs.List.{list_any}
use Rattle.cq_meaning.specs.Values.{same_row}
use Rattle.cq_keys.proofs.OnceLaws.{new_row, old_row, new_seen, old_seen, seen_before}
use Rattle.cq_keys.proofs.once.distinct.Goals as goal

pub loop-row-preserved-in_ok-put : goal.loop-row-preserved-in_ok-put
loop-row-preserved-in_ok-put c =
    let done = c.loop-row.all in
    let row = c.in-Some.row in
    let same : c.in_ok-copy.field-0 ≡ row = search rules in
    let new : true ≡ not (list_any (same_row row) done) = sym c.if-branch.true ∙ (c.in_ok-put_key.ensures.new ∙ (ap not (c.loop-row.invariant.seen (record { row = c.in_ok-copy.field-0 })) ∙ ap (λ r. not (list_any (same_row r) done)) same)) in
    record {
      all = c.in_ok-put.ensures.ok ∙ new_row done c.loop-row.yielded row c.loop-row.invariant.all new;
      seen = λ q. c.in_ok-put_key.ensures.more q ∙ (rw (same, c.loop-row.invariant.seen q, c.in_ok-put.ensures.ok) (new_seen q.row row done));
    }

pub loop-row-preserved : goal.loop-row-preserved
loop-row-preserved c =
    let done = c.loop-row.all in
    let row = c.in-Some.row in
    let same : c.in_ok-copy.field-0 ≡ row = search rules in
    let old : false ≡ not (list_any (same_row row) done) = sym c.if-branch.false ∙ (c.in_ok-put_key.ensures.new ∙ (ap not (c.loop-row.invariant.seen (record { row = c.in_ok-copy.field-0 })) ∙ ap (λ r. not (list_any (same_row r) done)) same)) in
    record {
      all = old_row done c.loop-row.yielded row c.loop-row.invariant.all old;
      seen = λ q. c.in_ok-put_key.ensures.more q ∙ (rw (same, c.loop-row.invariant.seen q) (old_seen q.row row done (seen_before (list_any (same_row row) done) old)));
    }
