use Rattle.std.proofs.Common.{◌≡◌, ◌∙◌, List, get_or, refl, ap, rules}
use Rattle.std.specs.Prelude.{filter}
use Rattle.std.specs.List.{HoldsAt}
use Rattle.std.proofs.lemmas.Result.{IfOk-weaker, IfErr-weaker}
use Rattle.cq_value.specs.declared.value.Value.{Value}
use Rattle.cq_value.specs.Tables.{Table, rows_of}
use Rattle.cq_store.specs.Stores.{has_values}
use Rattle.cq_group.specs.Calls.{Rests, Lifted, Blames, IsOn, IsRestingTable}
use Rattle.cq_group.proofs.Zips.{zip_set}
use Rattle.cq_group.proofs.MoveLaws.{same_move}
use Rattle.cq_group.proofs.Turns.{rests}
use Rattle.cq_group.proofs.TableLaws.{rested_go_on}
use Rattle.cq_group.proofs.PlaceLaws.{table_refl, blames_group}
use Rattle.cq_group.proofs.ReadLaws.{rows_found, node_found}
use Rattle.cq_group.proofs.group.GroupState.pick_table.Goals as goal

pub returns-clause-rows : goal.returns-clause-rows
returns-clause-rows g c =
    let state = g.S.Store.state in
    let picked : Table → List (List Value) = λ u. filter (has_values c.args.wanted.now) (rows_of u) in
    let ts = c.args.self.now.tables.items in
    let place = c.place_of-place.result in
    let t = c.index_mut.result.now in
    let is : t ≡ get_or ts place t = search rules in
    IfOk-weaker c.read.result (λ rows. HoldsAt (λ x. rows ≡ picked (state x).rows) t.stores.items c.args.copy) _
    (λ rows h. rows_found state picked c.args.self.now place c.args.table c.args.copy t rows c.requires.kept c.place_of-place.ensures.within is
    (ap (λ x. x.table) is ∙ c.place_of-place.ensures.found t) c.requires.copy h)
    c.read.ensures.rows

pub returns-clause-same : goal.returns-clause-same
returns-clause-same g c =
    let state = g.S.Store.state in
    let t = c.index_mut.result.now in
    record {
      node = refl;
      nodes = refl;
      room = refl;
      moving = same_move c.args.self.now.moving;
      tables = zip_set (IsRestingTable (Lifted state Rests)) (λ a. table_refl (Lifted state Rests) (λ x. rests (state x)) a) c.args.self.now.tables.items c.place_of-place.result t c.read.new.self
          c.place_of-place.ensures.within (search rules) c.read.ensures.same;
    }

pub returns-clause-blame : goal.returns-clause-blame
returns-clause-blame g c =
    let state = g.S.Store.state in
    let t = c.index_mut.result.now in
    let u = c.read.new.self in
    IfErr-weaker c.read.result (λ e. Blames state e t.stores.items u.stores.items) _
    (λ e h. blames_group state e c.args.self.now.tables.items c.place_of-place.result t u c.place_of-place.ensures.within (search rules)
    (rested_go_on state t.stores.items u.stores.items c.read.ensures.same.same.stores) h)
    c.read.ensures.blame

pub returns-clause-here : goal.returns-clause-here
returns-clause-here g c =
    let state = g.S.Store.state in
    let group = c.args.self.now in
    let place = c.place_of-place.result in
    let t = c.index_mut.result.now in
    let is : t ≡ get_or group.tables.items place t = search rules in
    IfErr-weaker c.read.result (λ e. HoldsAt (λ x. IsOn (state x).node e) t.stores.items c.args.copy) _
    (λ e h. node_found state group place c.args.copy t e c.requires.kept c.place_of-place.ensures.within is c.requires.copy h)
    c.read.ensures.here
