use Rattle.std.proofs.Common.{rules, Bool}
use Rattle.std.specs.Ordering.{is_lt}
use Rattle.std.proofs.lemmas.Fn.{always_returns_same}
use Rattle.cq_meaning.specs.Values.{Row}
use Rattle.cq_meaning.specs.Sorting.{keys_cmp}
use Rattle.cq_meaning.proofs.StableSort.{sort_is}
use Rattle.cq_meaning.proofs.KeyLaws.{keys_weak}
use Rattle.cq_queries.proofs.sorting.sort_rows.Goals as goal

pub returns-in-Ok : goal.returns-in-Ok
returns-in-Ok c =
    let lt : Row → Row → Bool = λ x y. is_lt (keys_cmp c.args.keys.now x y) in
    rw (c.from_vec.ensures, ← c.into_vec-all.ensures) (sort_is lt (keys_weak c.args.keys.now) c.into_vec-all.result.items c.sort_by.new.self.items
    (c.in-Ok.ensures.sorted lt (keys_weak c.args.keys.now) (always_returns_same _ _ _ (λ a r f k. search rules)))
    (c.in-Ok.ensures.stable lt (keys_weak c.args.keys.now) (always_returns_same _ _ _ (λ a r f k. search rules))))
