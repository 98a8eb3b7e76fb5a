use Rattle.std.proofs.Common.{◌≡◌, ◌∙◌, length, sym, ap, subst, filter, arith}
use Rattle.cq_value.specs.Tables.{Table, Pair, IsAscending}
use Rattle.cq_store.specs.Stores.{has_values}
use Rattle.cq_group.specs.Calls.{first_rows}
use Rattle.cq_group.proofs.TableLaws.{first_gives}
use Rattle.cq_group.proofs.SnapshotLaws.{all_wanted}
use Rattle.cq_group.proofs.group.GroupTable.outgoing.Goals as goal

pub changes_for-requires-clause-ascends : goal.changes_for-requires-clause-ascends
changes_for-requires-clause-ascends g c =
    let state = g.S.Store.state in
    let xs = c.args.self.now.stores.items in
    let first : c.in_ok-pairs.pairs ≡ (first_rows state xs).pairs =
    first_gives state (λ (t : Table). filter (λ (p : Pair). has_values c.new.result p.1) t.pairs) xs c.in_ok-pairs.pairs c.requires.alike.some_store c.in_ok-pairs.ensures.pairs
    ∙ ap (λ w. filter (λ (p : Pair). has_values w p.1) (first_rows state xs).pairs) c.new.ensures ∙ all_wanted (first_rows state xs).pairs in
    subst (λ n. IsAscending c.in_ok-pairs.pairs n) (sym (c.pick_pairs-2.ensures.same.next ∙ c.requires.alike.numbered)) (subst (λ ps. IsAscending ps (first_rows state xs).next) (sym first) c.requires.alike.ascends)

pub returns-clause-copy : goal.returns-clause-copy
returns-clause-copy g c =
    let state = g.S.Store.state in
    let xs = c.args.self.now.stores.items in
    let first : c.in_ok-pairs.pairs ≡ (first_rows state xs).pairs =
    first_gives state (λ (t : Table). filter (λ (p : Pair). has_values c.new.result p.1) t.pairs) xs c.in_ok-pairs.pairs c.requires.alike.some_store c.in_ok-pairs.ensures.pairs
    ∙ ap (λ w. filter (λ (p : Pair). has_values w p.1) (first_rows state xs).pairs) c.new.ensures ∙ all_wanted (first_rows state xs).pairs in
    let next = c.pick_pairs-2.ensures.same.next ∙ c.requires.alike.numbered in
    record {
      table = c.pick_pairs-2.ensures.same.same.table;
      shard = c.pick_pairs-2.ensures.same.same.shard;
      fit = c.in-Ok.ensures.fit;
      gives = c.in-Ok.ensures.gives ∙ (λ i. record { next = next i; pairs = first i });
      empty = c.in-Ok-with_capacity.ensures.items;
      room = omega (arith, c.in-Ok-with_capacity.ensures.capacity);
    }

pub returns-clause-due : goal.returns-clause-due
returns-clause-due g c =
    let state = g.S.Store.state in
    let xs = c.args.self.now.stores.items in
    let first : c.in_ok-pairs.pairs ≡ (first_rows state xs).pairs =
    first_gives state (λ (t : Table). filter (λ (p : Pair). has_values c.new.result p.1) t.pairs) xs c.in_ok-pairs.pairs c.requires.alike.some_store c.in_ok-pairs.ensures.pairs
    ∙ ap (λ w. filter (λ (p : Pair). has_values w p.1) (first_rows state xs).pairs) c.new.ensures ∙ all_wanted (first_rows state xs).pairs in
    let long = ap length first in
    let sum = c.in-Some.ensures.1 in
    omega (arith, long, sum, c.len.ensures)
