use Rattle.std.proofs.Common.{◌≡◌, filter}
use Rattle.std.specs.List.{HoldsAt}
use Rattle.std.proofs.lemmas.Result.{IfOk-weaker}
use Rattle.cq_value.specs.Tables.{Table, Pair}
use Rattle.cq_demands.specs.Demands.{demands}
use Rattle.cq_store.specs.Stores.{has_values}
use Rattle.cq_group.specs.Calls.{Rests, Lifted, first_rows}
use Rattle.cq_group.proofs.Turns.{rests}
use Rattle.cq_group.proofs.PlaceLaws.{table_refl}
use Rattle.cq_group.proofs.TableLaws.{first_gives}
use Rattle.cq_group.proofs.KeyLaws.{demanded_picked}
use Rattle.cq_group.proofs.group.GroupTable.pick_demanded.Goals as goal

pub returns-in_default-clause-same : goal.returns-in_default-clause-same
returns-in_default-clause-same g c = table_refl (Lifted g.S.Store.state Rests) (λ x. rests (g.S.Store.state x)) c.args.self.now

pub returns-clause-pairs : goal.returns-clause-pairs
returns-clause-pairs g c =
    let state = g.S.Store.state in
    let xs = c.args.self.now.stores.items in
    IfOk-weaker c.pick_pairs.result (λ pairs. HoldsAt (λ x. pairs ≡ filter (λ (p : Pair). has_values c.in-Ok.wanted p.1) (state x).rows.pairs) xs 0) _
    (λ pairs is. demanded_picked c.in-Ok.wanted (demands c.args.filter.now) (first_rows state xs).pairs pairs c.in-Ok.ensures (first_gives state (λ (t : Table). filter (λ (p : Pair). has_values c.in-Ok.wanted p.1) t.pairs) xs pairs c.requires is))
    c.pick_pairs.ensures.pairs
