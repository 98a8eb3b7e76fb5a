use Rattle.std.proofs.Common.{◌≡◌, ◌∙◌, get_or, ap, refl, sym, subst, ◌+◌, ◌<◌, ◌≤◌, length, true, rules, arith}
use Rattle.std.proofs.lemmas.Result.{IfErr-weaker}
use Rattle.cq_meaning.specs.Effects.{table_of, inserts, reply_of, IsSafeWrite}
use Rattle.std.specs.List.{AllByRecursion}
use Rattle.cq_value.specs.Tables.{Table}
use Rattle.cq_group.specs.Groups.{IsTableQuiet, IsStagedIn, entries_of, copies_of}
use Rattle.cq_group.specs.Calls.{Rests, KeepsRows, GoesOn, Lifted, Blames, IsRestingTable, first_rows}
use Rattle.cq_group.specs.Moves.{KeepsChanges}
use Rattle.cq_group.proofs.MoveLaws.{same_move}
use Rattle.cq_group.proofs.Zips.{zip_weaker, all_set, on_err, if_ok_three}
use Rattle.cq_group.proofs.Turns.{keeps_go_on}
use Rattle.cq_group.proofs.TableLaws.{quiet_rested}
use Rattle.cq_group.proofs.PlaceLaws.{all_at, blames_group}
use Rattle.cq_group.proofs.GroupLaws.{kept_along, goes_on_but}
use Rattle.cq_group.proofs.WriteLaws.{keeps_none, alike, kept_at, next_found, rows_found, keeps_set, ready}
use Rattle.cq_group.proofs.group.GroupState.stage_at.Goals as goal

pub returns-then-is_err-clause-kept : goal.returns-then-is_err-clause-kept
returns-then-is_err-clause-kept g c = kept_along g.S.Store.state c.args.self.now _ c.requires.kept (keeps_none g.S.Store.state c.args.self.now _ refl refl refl (same_move c.args.self.now.moving) refl) c.reserve.ensures.list refl c.reserve.ensures.kept

pub returns-then-is_err-clause-goes_on : goal.returns-then-is_err-clause-goes_on
returns-then-is_err-clause-goes_on g c = goes_on_but g.S.Store.state KeepsRows (λ s t. keeps_go_on s t) c.args.self.now _ (keeps_none g.S.Store.state c.args.self.now _ refl refl refl (same_move c.args.self.now.moving) refl) refl refl

pub stage-requires-clause-alike : goal.stage-requires-clause-alike
stage-requires-clause-alike g c =
    let state = g.S.Store.state in
    let group = c.args.self.now in
    let t = c.index_mut.result.now in
    let is : t ≡ get_or group.tables.items c.args.place t = search rules in
    let named : t.table ≡ table_of c.args.op.now = ap (λ x. x.table) is ∙ c.requires.found t in
    alike state group.node (copies_of group) (entries_of group) t
    (kept_at state group c.requires.kept c.args.place (table_of c.args.op.now) t c.requires.within is named)
    (all_at (IsTableQuiet state) group.tables.items c.args.place t c.requires.quiet c.requires.within is)

pub stage-requires-clause-ids : goal.stage-requires-clause-ids
stage-requires-clause-ids g c =
    let state = g.S.Store.state in
    let group = c.args.self.now in
    let t = c.index_mut.result.now in
    let is : t ≡ get_or group.tables.items c.args.place t = search rules in
    let named : t.table ≡ table_of c.args.op.now = ap (λ x. x.table) is ∙ c.requires.found t in
    let next = next_found state group c.requires.kept c.args.place (table_of c.args.op.now) t c.requires.within is named in
    subst (λ n. n + length (inserts c.args.op.now) ≤ 4294967296) (sym next) c.requires.ids

pub stage-requires-clause-safe : goal.stage-requires-clause-safe
stage-requires-clause-safe g c =
    let state = g.S.Store.state in
    let group = c.args.self.now in
    let t = c.index_mut.result.now in
    let is : t ≡ get_or group.tables.items c.args.place t = search rules in
    let named : t.table ≡ table_of c.args.op.now = ap (λ x. x.table) is ∙ c.requires.found t in
    subst (λ (held : Table). IsSafeWrite c.args.op.now held.pairs)
    (sym (rows_found state group c.requires.kept c.args.place (table_of c.args.op.now) t c.requires.within is named)) c.requires.safe

pub returns-clause-ready : goal.returns-clause-ready
returns-clause-ready g c =
    let state = g.S.Store.state in
    let group = c.args.self.now in
    let t = c.index_mut.result.now in
    let is : t ≡ get_or group.tables.items c.args.place t = search rules in
    let named : t.table ≡ table_of c.args.op.now = ap (λ x. x.table) is ∙ c.requires.found t in
    let keeps = keeps_set state group c.requires.kept c.args.place (table_of c.args.op.now) t c.requires.within is named c.stage.new.self c.stage.ensures.same in
    let two : 2 ≤ c.reserve.new.self.room = search rules in
    let room : 1 < c.reserve.new.self.room = omega (arith, two) in
    if_ok_three c.stage.result (λ reply. reply ≡ reply_of c.args.op.now (first_rows state t.stores.items) t.shape)
    (AllByRecursion (λ x. IsStagedIn true c.args.op.now t.shape (state x)) c.stage.new.self.stores.items)
    (KeepsChanges c.args.op.now (first_rows state t.stores.items) t.shape c.stage.new.moving) _
    (λ reply replied staged logged.
    ready state group c.requires.kept c.args.place (table_of c.args.op.now) t c.requires.within is named _ c.args.op.now c.stage.new.self reply refl c.requires.quiet c.stage.ensures.same staged replied
    c.requires.ids (record { node = refl; nodes = refl; room = refl; moving = c.stage.ensures.moving; tables = keeps }) refl c.reserve.ensures.list room logged)
    c.stage.ensures.reply c.stage.ensures.staged c.stage.ensures.logged

pub returns-clause-err : goal.returns-clause-err
returns-clause-err g c =
    let state = g.S.Store.state in
    let group = c.args.self.now in
    let t = c.index_mut.result.now in
    let is : t ≡ get_or group.tables.items c.args.place t = search rules in
    on_err c.stage.result _ _
    (λ (rested : IsRestingTable (Lifted state Rests) t c.stage.new.self).
    all_set (IsTableQuiet state) group.tables.items c.args.place c.stage.new.self c.requires.quiet
    (quiet_rested state t c.stage.new.self (all_at (IsTableQuiet state) group.tables.items c.args.place t c.requires.quiet c.requires.within is) rested))
    c.stage.ensures.err

pub returns-clause-kept : goal.returns-clause-kept
returns-clause-kept g c =
    let state = g.S.Store.state in
    let group = c.args.self.now in
    let t = c.index_mut.result.now in
    let is : t ≡ get_or group.tables.items c.args.place t = search rules in
    let named : t.table ≡ table_of c.args.op.now = ap (λ x. x.table) is ∙ c.requires.found t in
    let keeps = keeps_set state group c.requires.kept c.args.place (table_of c.args.op.now) t c.requires.within is named c.stage.new.self c.stage.ensures.same in
    kept_along state group _ c.requires.kept (record { node = refl; nodes = refl; room = refl; moving = c.stage.ensures.moving; tables = keeps }) c.reserve.ensures.list refl c.reserve.ensures.kept

pub returns-clause-goes_on : goal.returns-clause-goes_on
returns-clause-goes_on g c =
    let state = g.S.Store.state in
    let group = c.args.self.now in
    let t = c.index_mut.result.now in
    let is : t ≡ get_or group.tables.items c.args.place t = search rules in
    let named : t.table ≡ table_of c.args.op.now = ap (λ x. x.table) is ∙ c.requires.found t in
    let keeps = keeps_set state group c.requires.kept c.args.place (table_of c.args.op.now) t c.requires.within is named c.stage.new.self c.stage.ensures.same in
    goes_on_but state KeepsRows (λ s t. keeps_go_on s t) group _ (record { node = refl; nodes = refl; room = refl; moving = c.stage.ensures.moving; tables = keeps }) refl refl

pub returns-clause-blame : goal.returns-clause-blame
returns-clause-blame g c =
    let state = g.S.Store.state in
    let t = c.index_mut.result.now in
    let u = c.stage.new.self in
    IfErr-weaker c.stage.result (λ e. Blames state e t.stores.items u.stores.items) _
    (λ e h. blames_group state e c.args.self.now.tables.items c.args.place t u c.requires.within (search rules)
    (zip_weaker (Lifted state KeepsRows) (Lifted state GoesOn) (λ x y. keeps_go_on (state x) (state y)) t.stores.items u.stores.items c.stage.ensures.same.same.stores) h)
    c.stage.ensures.blame
