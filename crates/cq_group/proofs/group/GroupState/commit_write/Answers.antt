use Rattle.std.proofs.Common.{◌≡◌, ◌∙◌, get_or, ap, refl, subst, rules, arith}
use Rattle.cq_meaning.specs.Effects.{table_of}
use Rattle.cq_group.specs.Moves.{Logs}
use Rattle.cq_group.proofs.MoveLaws.{can_log}
use Rattle.cq_group.proofs.CommitLaws.{counted, made_kept, made_quiet, made_goes_on}
use Rattle.cq_group.proofs.group.GroupState.commit_write.Goals as goal

pub commit-requires : goal.commit-requires
commit-requires g c =
    let state = g.S.Store.state in
    let group = c.args.self.now in
    let place = c.place_of-place.result in
    let t = c.index_mut.result.now in
    let is : t ≡ get_or group.tables.items place t = search rules in
    let named : t.table ≡ table_of c.args.op = ap (λ x. x.table) is ∙ c.place_of-place.ensures.found t ∙ c.table_number.ensures in
    counted state c.args.op c.args.reply c.args.who group c.requires.kept c.requires.ready place t c.place_of-place.ensures.within is named

pub log_staged-requires : goal.log_staged-requires
log_staged-requires g c = can_log c.requires.ready.logged.changes c.args.self.now.moving c.requires.ready.logged.kept

pub returns-clause-kept : goal.returns-clause-kept
returns-clause-kept g c =
    let state = g.S.Store.state in
    let group = c.args.self.now in
    let place = c.place_of-place.result in
    let t = c.index_mut.result.now in
    let is : t ≡ get_or group.tables.items place t = search rules in
    let named : t.table ≡ table_of c.args.op = ap (λ x. x.table) is ∙ c.place_of-place.ensures.found t ∙ c.table_number.ensures in
    made_kept state c.args.op c.args.reply c.args.who group c.requires.kept c.requires.ready place t c.place_of-place.ensures.within is named
    _ c.commit.new.self c.commit.ensures.same c.commit.ensures.next refl refl refl refl c.push.ensures.list refl
    (omega (arith, c.push.ensures.room, c.requires.ready.room))
    (subst (λ n. Logs n c.requires.ready.logged.changes group.moving c.log_staged.new.moving) c.table_number-2.ensures (c.log_staged.ensures c.requires.ready.logged.changes c.requires.ready.logged.kept))

pub returns-clause-quiet : goal.returns-clause-quiet
returns-clause-quiet g c =
    let state = g.S.Store.state in
    let group = c.args.self.now in
    let place = c.place_of-place.result in
    let t = c.index_mut.result.now in
    let is : t ≡ get_or group.tables.items place t = search rules in
    let named : t.table ≡ table_of c.args.op = ap (λ x. x.table) is ∙ c.place_of-place.ensures.found t ∙ c.table_number.ensures in
    made_quiet state c.args.op c.args.reply c.args.who group c.requires.kept c.requires.ready place t c.place_of-place.ensures.within is named c.commit.new.self c.commit.ensures.same

pub returns-clause-goes_on : goal.returns-clause-goes_on
returns-clause-goes_on g c =
    let state = g.S.Store.state in
    let group = c.args.self.now in
    let place = c.place_of-place.result in
    let t = c.index_mut.result.now in
    let is : t ≡ get_or group.tables.items place t = search rules in
    let named : t.table ≡ table_of c.args.op = ap (λ x. x.table) is ∙ c.place_of-place.ensures.found t ∙ c.table_number.ensures in
    made_goes_on state c.args.op c.args.reply c.args.who group c.requires.kept c.requires.ready place t c.place_of-place.ensures.within is named
    _ c.commit.new.self c.commit.ensures.same c.commit.ensures.next refl refl refl refl refl
