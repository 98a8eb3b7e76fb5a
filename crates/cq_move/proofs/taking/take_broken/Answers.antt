use Rattle.std.proofs.Common.{◌≡◌, ◌∙◌, ◌<◌, sym, subst, Some, None, find, below_more, rules, length, true, false}
use Rattle.std.proofs.lemmas.List.Elements.{at_read}
use Rattle.cq_move.specs.Taking.{is_broken, without_first}
use Rattle.cq_move.proofs.TakeLaws.{first_found, none_found}
use Rattle.cq_move.proofs.taking.take_broken.Goals as goal

pub loop-place-preserved : goal.loop-place-preserved
loop-place-preserved g c =
    let low : c.loop-place.place < length c.loop-place.stores.items = search rules in
    record {
      same = c.loop-place.invariant.same;
      before = below_more _ _ c.loop-place.invariant.before
          (at_read c.loop-place.stores.items (λ x. is_broken c.args.shard c.args.after (g.S.Store.state x) ≡ false) c.loop-place.place c.index.result.now low c.index.ensures (sym c.is_of_fault.ensures ∙ c.if-is_of_fault.false));
    }

pub returns-then-is_of_fault-clause-taken : goal.returns-then-is_of_fault-clause-taken
returns-then-is_of_fault-clause-taken g c =
    let low : c.loop-place.place < length c.loop-place.stores.items = search rules in
    let passes = at_read c.loop-place.stores.items (λ x. is_broken c.args.shard c.args.after (g.S.Store.state x) ≡ true) c.loop-place.place c.index.result.now low c.index.ensures (sym c.is_of_fault.ensures ∙ c.if-is_of_fault.true) in
    subst (λ v. Some c.remove.result ≡ find (λ x. is_broken c.args.shard c.args.after (g.S.Store.state x)) v.items) c.loop-place.invariant.same
    (first_found (λ x. is_broken c.args.shard c.args.after (g.S.Store.state x)) c.loop-place.stores.items c.loop-place.place c.remove.result low c.remove.ensures.value passes c.loop-place.invariant.before).0

pub returns-then-is_of_fault-clause-rest : goal.returns-then-is_of_fault-clause-rest
returns-then-is_of_fault-clause-rest g c =
    let low : c.loop-place.place < length c.loop-place.stores.items = search rules in
    let passes = at_read c.loop-place.stores.items (λ x. is_broken c.args.shard c.args.after (g.S.Store.state x) ≡ true) c.loop-place.place c.index.result.now low c.index.ensures (sym c.is_of_fault.ensures ∙ c.if-is_of_fault.true) in
    subst (λ v. c.remove.new.self.items ≡ without_first (λ x. is_broken c.args.shard c.args.after (g.S.Store.state x)) v.items) c.loop-place.invariant.same
    (c.remove.ensures.items ∙ (first_found (λ x. is_broken c.args.shard c.args.after (g.S.Store.state x)) c.loop-place.stores.items c.loop-place.place c.remove.result low c.remove.ensures.value passes c.loop-place.invariant.before).1)

pub returns-clause-taken : goal.returns-clause-taken
returns-clause-taken g c =
    subst (λ v. None ≡ find (λ x. is_broken c.args.shard c.args.after (g.S.Store.state x)) v.items) c.loop-place.invariant.same
    (none_found (λ x. is_broken c.args.shard c.args.after (g.S.Store.state x)) c.loop-place.stores.items c.loop-place.place (search rules) c.loop-place.invariant.before).0

pub returns-clause-rest : goal.returns-clause-rest
returns-clause-rest g c =
    subst (λ v. c.loop-place.stores.items ≡ without_first (λ x. is_broken c.args.shard c.args.after (g.S.Store.state x)) v.items) c.loop-place.invariant.same
    (none_found (λ x. is_broken c.args.shard c.args.after (g.S.Store.state x)) c.loop-place.stores.items c.loop-place.place (search rules) c.loop-place.invariant.before).1
