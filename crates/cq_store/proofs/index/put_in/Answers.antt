use Rattle.std.proofs.Common.{◌≡◌, [], Some, slice_get, set, get_or, sym, ap, ◌∙◌, rules, arith}
use Rattle.std.proofs.lemmas.List.{set-get_or}
use Rattle.std.proofs.lemmas.Option.{get_or_from_slice_get}
use Rattle.cq_store.proofs.index.put_in.Goals as goal

pub returns-clause-err : goal.returns-clause-err
returns-clause-err c =
    let there : slice_get c.args.buckets.now c.args.place ≡ Some c.unwrap-ids.result.now = search rules in
    let read : get_or c.args.buckets.now c.args.place [] ≡ c.unwrap-ids.result.now = get_or_from_slice_get c.args.buckets.now c.args.place c.unwrap-ids.result.now [] there in
    let same : set c.args.buckets.now c.args.place c.unwrap-ids.result.now ≡ c.args.buckets.now = ap (λ ids. set c.args.buckets.now c.args.place ids) (sym read) ∙ set-get_or c.args.buckets.now c.args.place [] in
    grind (arith, same, c.put.ensures.err)
