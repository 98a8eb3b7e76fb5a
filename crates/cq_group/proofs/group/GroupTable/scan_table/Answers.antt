use Rattle.std.proofs.Common.{[], ◌∷◌, refl, rules}
use Rattle.std.proofs.lemmas.Result.{IfErr-weaker}
use Rattle.cq_group.specs.Calls.{Blames, IsOn}
use Rattle.std.proofs.lemmas.List.Elements.{at_read}
use Rattle.cq_group.proofs.PlaceLaws.{on_node}
use Rattle.cq_group.proofs.TableLaws.{called, blames_one}
use Rattle.cq_group.proofs.group.GroupTable.scan_table.Goals as goal

pub returns-clause-same : goal.returns-clause-same
returns-clause-same g c = record {
  same = record {
    table = refl;
    shape = refl;
    shard = refl;
    stores = called g.S.Store.state c.args.self.now.stores.items c.args.place c.index_mut.result.now c.scan_store.new.store c.requires (search rules) c.scan_store.ensures.same;
  };
  next = refl;
}

pub returns-clause-blame : goal.returns-clause-blame
returns-clause-blame g c =
    let xs = c.args.self.now.stores.items in
    let x = c.index_mut.result.now in
    let y = c.scan_store.new.store in
    IfErr-weaker c.scan_store.result (λ e. Blames g.S.Store.state e (x ∷ []) (y ∷ [])) _
    (λ e h. blames_one g.S.Store.state e xs c.args.place x y c.requires (search rules) h) c.scan_store.ensures.blame

pub returns-clause-here : goal.returns-clause-here
returns-clause-here g c =
    let state = g.S.Store.state in
    let x = c.index_mut.result.now in
    let y = c.scan_store.new.store in
    IfErr-weaker c.scan_store.result (λ e. Blames state e (x ∷ []) (y ∷ [])) _
    (λ e h. at_read c.args.self.now.stores.items (λ z. IsOn (state z).node e) c.args.place x c.requires (search rules) (on_node state e x y h)) c.scan_store.ensures.blame
