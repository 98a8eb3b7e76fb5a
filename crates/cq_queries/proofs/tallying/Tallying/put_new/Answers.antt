use Rattle.std.proofs.Common.{rules, ◌≡◌, sym, subst, length}
use Rattle.std.specs.Prelude.{None}
use Rattle.cq_queries.specs.LentKeys.{row_of}
use Rattle.cq_queries.specs.Tallied.{place_of}
use Rattle.cq_queries.proofs.TalliedLaws.{place_of_new}
use Rattle.cq_queries.proofs.tallying.Tallying.put_new.Goals as goal

pub invariant_of-self-in-Ok : goal.invariant_of-self-in-Ok
invariant_of-self-in-Ok c = λ q.
    let all = c.self.inside.groups.items in
    let none : place_of c.args.group.keys all ≡ None = subst (λ k. place_of k all ≡ None) (sym c.requires.keys) (subst (λ gs. place_of (row_of c.args.key) gs ≡ None) (sym c.self.view_is) c.requires.missing) in
    let new = place_of_new c.args.group all none (row_of q) in
    let old = c.self.invariant q in
    let step = c.in-Ok.ensures.updates.0 q in
    let len : c.len-place.result ≡ length all = search rules in
    rw (c.in_ok-push_group.ensures.ok, new, c.requires.keys, sym old, sym len) (step)
