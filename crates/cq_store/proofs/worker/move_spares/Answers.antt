use Rattle.std.proofs.Common.{◌≡◌, ◌+◌, ◌-◌, ◌<◌, length, suc, inr, ◌∙◌, arith}
use Rattle.cq_store.proofs.TakingLaws.{first_place, parts_one, parts_end}
use Rattle.cq_store.proofs.worker.move_spares.Goals as goal

pub returns-then-place-len-clause-spare : goal.returns-then-place-len-clause-spare
returns-then-place-len-clause-spare g c =
    let stores = c.loop.stores in
    let here : c.first_spare-place.result ≡ first_place g.S.Store.state stores.items = rw c.deref.ensures.value at c.first_spare-place.ensures.value in
    let none : first_place g.S.Store.state stores.items ≡ length stores.items = omega (arith, stores.ok.0) in
    (parts_end c.loop.invariant.parts (inr none)).0

pub returns-then-place-len-clause-others : goal.returns-then-place-len-clause-others
returns-then-place-len-clause-others g c =
    let stores = c.loop.stores in
    let here : c.first_spare-place.result ≡ first_place g.S.Store.state stores.items = rw c.deref.ensures.value at c.first_spare-place.ensures.value in
    let none : first_place g.S.Store.state stores.items ≡ length stores.items = omega (arith, stores.ok.0) in
    (parts_end c.loop.invariant.parts (inr none)).1

pub loop-preserved : goal.loop-preserved
loop-preserved g c =
    let stores = c.loop.stores in
    let here : c.first_spare-place.result ≡ first_place g.S.Store.state stores.items = rw c.deref.ensures.value at c.first_spare-place.ensures.value in
    let most = rw c.deref.ensures.value at c.first_spare-place.ensures.within in
    let within : c.first_spare-place.result < length stores.items = omega (arith, stores.ok.0) in
    let down : c.args.n - c.loop.counter ≡ suc (c.args.n - (c.loop.counter + 1)) = omega arith in
    record {
      parts = parts_one (c.args.n - (c.loop.counter + 1)) c.first_spare-place.result c.loop.invariant.parts down here within c.remove.ensures.value c.push_reserved.ensures.items c.remove.ensures.items;
      room = omega arith;
      within = omega arith;
      same = c.remove.ensures.capacity ∙ c.loop.invariant.same;
    }
