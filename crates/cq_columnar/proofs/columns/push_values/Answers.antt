use Rattle.std.proofs.Common.{◌≡◌, ◌+◌, ◌∙◌, [], ◌∷◌, ◌++◌, length, set, get_or, refl, sym, ap, subst}
use Rattle.std.proofs.lemmas.List.{length-set}
use Rattle.std.proofs.lemmas.Result.{err_from_is_err_and}
use Rattle.cq_value.specs.Tables.{Pair}
use Rattle.cq_columnar.specs.Reading.{values_onto}
use Rattle.cq_columnar.proofs.DraftLaws.{onto_from, value_more, value_fails, values_done}
use Rattle.cq_columnar.proofs.columns.push_values.Goals as goal

pub loop-place-init : goal.loop-place-init
unfolding values_onto
loop-place-init c = record { len = refl; read = refl }

pub returns-in_err-value-clause-read : goal.returns-in_err-value-clause-read
returns-in_err-value-clause-read c =
    let p = err_from_is_err_and c.from_residual.result c.from_residual.ensures.1 in
    rw (p.1, p.2) (value_fails c.in_err-value.field-0.0 c.loop-place.place c.loop-place.drafts.items c.args.tags.now c.loop-place.rest.now (values_onto c.args.drafts.now.items c.args.tags.now c.args.bytes.now)
    c.loop-place-test.true c.in_err-value.ensures c.loop-place.invariant.read)

pub loop-place-preserved : goal.loop-place-preserved
loop-place-preserved c =
    let drafts = c.loop-place.drafts.items in
    let place = c.loop-place.place in
    let d = c.index_mut.result.now in
    let v = c.in_ok-value.value in
    let total = values_onto c.args.drafts.now.items c.args.tags.now c.args.bytes.now in
    let len : length c.args.tags.now ≡ length drafts = c.requires ∙ sym c.loop-place.invariant.len in
    let more = value_more place drafts c.args.tags.now c.loop-place.rest.now c.in_ok-value.after.now d v total c.loop-place-test.true len c.in_ok-value.ensures c.loop-place.invariant.read in
    let there : d ≡ get_or drafts place d = c.index_mut.ensures.value in
    let same : ((get_or drafts place d).0, (get_or drafts place d).1 ++ v ∷ []) ≡ (d.0, c.put.new.self) = ap (λ (y : Pair). (y.0, y.1 ++ v ∷ [])) (sym there) ∙ ap (λ r. (d.0, r)) (sym c.in_ok-put.ensures.ok) in
    record {
      len = length-set drafts place (d.0, c.put.new.self) ∙ c.loop-place.invariant.len;
      read = subst (λ (q : Pair). onto_from (place + 1) (set drafts place q) c.args.tags.now c.in_ok-value.after.now ≡ total) same more;
    }

pub returns-clause-read : goal.returns-clause-read
returns-clause-read c =
    values_done c.loop-place.place c.loop-place.drafts.items c.args.tags.now c.loop-place.rest.now (values_onto c.args.drafts.now.items c.args.tags.now c.args.bytes.now)
    c.loop-place-test.false (c.requires ∙ sym c.loop-place.invariant.len) c.loop-place.invariant.read
