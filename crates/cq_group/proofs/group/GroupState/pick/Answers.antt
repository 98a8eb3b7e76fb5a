use Rattle.std.proofs.Common.{refl, rules}
use Rattle.cq_group.specs.Groups.{IsSteady}
use Rattle.cq_group.proofs.ReadLaws.{rested_kept, rested_goes_on, rested_quiet}
use Rattle.cq_group.proofs.GroupLaws.{blames_none}
use Rattle.cq_group.proofs.group.GroupState.pick.Goals as goal

pub returns-in_err-shared-clause-kept : goal.returns-in_err-shared-clause-kept
returns-in_err-shared-clause-kept g c = rested_kept g.S.Store.state c.args.self.now c.pick_table.new.self c.requires.kept c.pick_table.ensures.journal c.pick_table.ensures.same

pub returns-in_err-shared-clause-quiet : goal.returns-in_err-shared-clause-quiet
returns-in_err-shared-clause-quiet g c = rested_quiet g.S.Store.state c.args.self.now c.pick_table.new.self c.pick_table.new.self c.requires.quiet c.pick_table.ensures.same refl

pub returns-in_err-shared-clause-goes_on : goal.returns-in_err-shared-clause-goes_on
returns-in_err-shared-clause-goes_on g c =
    rested_goes_on g.S.Store.state c.args.self.now c.pick_table.new.self c.pick_table.new.self c.pick_table.ensures.same c.pick_table.ensures.journal refl refl refl

pub returns-in_err-shared-clause-steady : goal.returns-in_err-shared-clause-steady
returns-in_err-shared-clause-steady g c =
    let memory = λ (steady : IsSteady g.S.Store.state c.args.self.now).
    blames_none g.S.Store.state c.in_err-shared.field-0.0 c.args.self.now _ steady c.in_err-shared.ensures.blame in
    search rules

pub append_read-requires : goal.append_read-requires
append_read-requires g c = rested_kept g.S.Store.state c.args.self.now c.pick_table.new.self c.requires.kept c.pick_table.ensures.journal c.pick_table.ensures.same

pub returns-in_err-append_read-clause-quiet : goal.returns-in_err-append_read-clause-quiet
returns-in_err-append_read-clause-quiet g c =
    rested_quiet g.S.Store.state c.args.self.now c.pick_table.new.self c.append_read.new.self c.requires.quiet c.pick_table.ensures.same c.append_read.ensures.rest

pub returns-in_err-append_read-clause-goes_on : goal.returns-in_err-append_read-clause-goes_on
returns-in_err-append_read-clause-goes_on g c =
    rested_goes_on g.S.Store.state c.args.self.now c.pick_table.new.self c.append_read.new.self c.pick_table.ensures.same c.pick_table.ensures.journal
    c.append_read.ensures.rest c.append_read.ensures.number c.append_read.ensures.opening

pub returns-clause-quiet : goal.returns-clause-quiet
returns-clause-quiet g c =
    rested_quiet g.S.Store.state c.args.self.now c.pick_table.new.self c.append_read.new.self c.requires.quiet c.pick_table.ensures.same c.append_read.ensures.rest

pub returns-clause-goes_on : goal.returns-clause-goes_on
returns-clause-goes_on g c =
    rested_goes_on g.S.Store.state c.args.self.now c.pick_table.new.self c.append_read.new.self c.pick_table.ensures.same c.pick_table.ensures.journal
    c.append_read.ensures.rest c.append_read.ensures.number c.append_read.ensures.opening
