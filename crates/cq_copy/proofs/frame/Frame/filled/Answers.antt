use Rattle.std.proofs.Common.{◌<◌, ℕ, List, [], Bor, length, map, arith, sym, ◌∙◌}
use Rattle.std.proofs.lemmas.List.{get_or-map, length-map}
use Rattle.std.proofs.lemmas.Result.{err_from_is_err_and}
use Rattle.cq_copy.proofs.RowLaws.{filled_next, filled_refused, filled_all}
use Rattle.cq_copy.proofs.frame.Frame.filled.Goals as goal

pub returns-in_err-value : goal.returns-in_err-value
returns-in_err-value c =
    let none : Bor (List ℕ) = record { ref_ptr = (0, 0); now = [] } in
    let lt : c.loop-at.at < length c.args.fields.now = omega (arith, c.requires, c.loop-at-test.true) in
    let here = get_or-map (λ (f : Bor (List ℕ)). f.now) c.args.fields.now c.loop-at.at none [] lt in
    let p = err_from_is_err_and c.from_residual-in_err-value.result c.from_residual-in_err-value.ensures.1 in
    rw (p.1, p.2) (λ ne. sym c.loop-at.invariant ∙ filled_refused c.args.self.now.format c.args.self.now.table.now c.args.row c.args.self.now.listed.now (map (λ (f : Bor (List ℕ)). f.now) c.args.fields.now) c.loop-at.values c.loop-at.at c.in_err-value.field-0.0
    (length-map c.args.fields.now _ ∙ c.requires) c.loop-at-test.true (rw here (c.in_err-value.ensures ne)))

pub loop-at-preserved : goal.loop-at-preserved
loop-at-preserved c =
    let none : Bor (List ℕ) = record { ref_ptr = (0, 0); now = [] } in
    let lt : c.loop-at.at < length c.args.fields.now = omega (arith, c.requires, c.loop-at-test.true) in
    let here = get_or-map (λ (f : Bor (List ℕ)). f.now) c.args.fields.now c.loop-at.at none [] lt in
    rw c.with_value-values.ensures (filled_next c.args.self.now.format c.args.self.now.table.now c.args.row c.args.self.now.listed.now (map (λ (f : Bor (List ℕ)). f.now) c.args.fields.now) c.loop-at.values c.loop-at.at c.in_ok-value.value
    (length-map c.args.fields.now _ ∙ c.requires) c.loop-at-test.true (rw here c.in_ok-value.ensures) ∙ c.loop-at.invariant)

pub returns : goal.returns
returns c = sym c.loop-at.invariant ∙ filled_all c.args.self.now.format c.args.self.now.table.now c.args.row c.args.self.now.listed.now _ c.loop-at.values c.loop-at.at (omega arith)
