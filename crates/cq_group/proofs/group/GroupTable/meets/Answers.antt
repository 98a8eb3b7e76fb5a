use Rattle.std.proofs.Common.{◌≡◌, ◌∙◌, refl, rules}
use Rattle.std.proofs.lemmas.Result.{IfOk-weaker}
use Rattle.std.proofs.lemmas.List.Elements.{at_read}
use Rattle.cq_value.specs.Tables.{Table}
use Rattle.cq_store.specs.Stores.{meets_any}
use Rattle.cq_group.proofs.TableLaws.{called, first_gives}
use Rattle.cq_group.proofs.KeyLaws.{meets_is}
use Rattle.cq_group.proofs.group.GroupTable.meets.Goals as goal

pub returns-clause-met : goal.returns-clause-met
returns-clause-met g c =
    let state = g.S.Store.state in
    let xs = c.args.self.now.stores.items in
    let x = c.index_mut.result.now in
    let key = c.args.self.now.shape.key in
    let rows = c.args.rows.now in
    IfOk-weaker c.meet_store.result (λ met. met ≡ meets_any (state x).rows.pairs key rows) _
    (λ met is. first_gives state (λ (t : Table). meets_any t.pairs key rows) xs met c.requires (at_read xs (λ z. met ≡ meets_any (state z).rows.pairs key rows) 0 x c.requires (search rules) is) ∙ meets_is key _ rows)
    c.meet_store.ensures.met

pub returns-clause-same : goal.returns-clause-same
returns-clause-same g c = record {
  same = record {
    table = refl;
    shape = refl;
    shard = refl;
    stores = called g.S.Store.state c.args.self.now.stores.items 0 c.index_mut.result.now c.meet_store.new.store c.requires (search rules) c.meet_store.ensures.same;
  };
  next = refl;
}
