use Rattle.std.proofs.Common.{ℕ, ◌<◌, ◌≤◌, ◌≡◌, true, arith}
use Rattle.cq_value.proofs.TableLaws.{ascending_more, ascending_filter}
use Rattle.cq_pages.specs.Pages.{pairs_of, has}
use Rattle.cq_pages.proofs.PageLaws.{ascending_length, ascending_with_new, one_less, one_more, same_length}
use Rattle.cq_pages.proofs.numbered.Numbered.apply.Goals as goal

pub overflow_add-self : goal.overflow_add-self
overflow_add-self c =
    let fits = rw (c.in-Add.is, ← c.self.view_is) at c.requires in
    let few = ascending_length (pairs_of c.self.inside.pages.items) c.self.inside.next c.self.invariant.0 in
    let count = c.self.invariant.2 in
    record { fits = omega (arith, fits.0, fits.1, few, count) }

pub invariant_of-self-in-Add : goal.invariant_of-self-in-Add
invariant_of-self-in-Add c =
    let ps = pairs_of c.self.inside.pages.items in
    let fits = rw (c.in-Add.is, ← c.self.view_is) at c.requires in
    let more = one_more ps (c.in-Add.id, c.in-Add.row) in
    let count = c.self.invariant.2 in
    let e = c.in_ok-add-in-Add.ensures.ok in
    (rw e (ascending_more ps c.self.inside.next c.in-Add.id c.in-Add.row c.self.invariant.0 fits.0), c.add.ensures.full, rw e (omega (arith, more, count)))

pub invariant_of-self-in-Put : goal.invariant_of-self-in-Put
invariant_of-self-in-Put c =
    let ps = pairs_of c.self.inside.pages.items in
    let same = same_length ps c.in-Put.id c.in-Put.row in
    let count = c.self.invariant.2 in
    let e = c.in_ok-put-in-Put.ensures.ok in
    (rw e (ascending_with_new ps c.self.inside.next c.in-Put.id c.in-Put.row c.self.invariant.0), c.put.ensures.full, rw e (omega (arith, same, count)))

pub invariant_of-self-in-Drop : goal.invariant_of-self-in-Drop
invariant_of-self-in-Drop c =
    let ps = pairs_of c.self.inside.pages.items in
    let there : has ps c.in-Drop.id ≡ true = rw (c.in-Drop.is, ← c.self.view_is) at c.requires in
    let less = one_less ps c.self.inside.next c.in-Drop.id c.self.invariant.0 there in
    let count = c.self.invariant.2 in
    let e = c.in_ok-remove-in-Drop.ensures.ok in
    (rw e (ascending_filter _ ps c.self.inside.next c.self.invariant.0), c.remove.ensures.full, rw e (omega (arith, less, count)))
