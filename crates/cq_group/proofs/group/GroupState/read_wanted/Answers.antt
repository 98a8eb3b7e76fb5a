use Rattle.std.proofs.Common.{refl, rules}
use Rattle.cq_group.specs.Groups.{IsSteady}
use Rattle.cq_group.proofs.ReadLaws.{rested_kept, rested_goes_on, rested_quiet}
use Rattle.cq_group.proofs.GroupLaws.{blames_none}
use Rattle.cq_group.proofs.group.GroupState.read_wanted.Goals as goal

pub returns-in_err-seen-clause-kept : goal.returns-in_err-seen-clause-kept
returns-in_err-seen-clause-kept g c = rested_kept g.S.Store.state c.args.self.now c.read_tables.new.self c.requires.kept c.read_tables.ensures.journal c.read_tables.ensures.same

pub returns-in_err-seen-clause-quiet : goal.returns-in_err-seen-clause-quiet
returns-in_err-seen-clause-quiet g c = rested_quiet g.S.Store.state c.args.self.now c.read_tables.new.self c.read_tables.new.self c.requires.quiet c.read_tables.ensures.same refl

pub returns-in_err-seen-clause-goes_on : goal.returns-in_err-seen-clause-goes_on
returns-in_err-seen-clause-goes_on g c =
    rested_goes_on g.S.Store.state c.args.self.now c.read_tables.new.self c.read_tables.new.self c.read_tables.ensures.same c.read_tables.ensures.journal refl refl refl

pub returns-in_err-seen-clause-steady : goal.returns-in_err-seen-clause-steady
returns-in_err-seen-clause-steady g c =
    let memory = λ (steady : IsSteady g.S.Store.state c.args.self.now).
    blames_none g.S.Store.state c.in_err-seen.field-0.0 c.args.self.now _ steady c.in_err-seen.ensures.blame in
    search rules

pub append_read-requires : goal.append_read-requires
append_read-requires g c = rested_kept g.S.Store.state c.args.self.now c.read_tables.new.self c.requires.kept c.read_tables.ensures.journal c.read_tables.ensures.same

pub returns-in_err-place-clause-quiet : goal.returns-in_err-place-clause-quiet
returns-in_err-place-clause-quiet g c =
    rested_quiet g.S.Store.state c.args.self.now c.read_tables.new.self c.append_read.new.self c.requires.quiet c.read_tables.ensures.same c.append_read.ensures.rest

pub returns-in_err-place-clause-goes_on : goal.returns-in_err-place-clause-goes_on
returns-in_err-place-clause-goes_on g c =
    rested_goes_on g.S.Store.state c.args.self.now c.read_tables.new.self c.append_read.new.self c.read_tables.ensures.same c.read_tables.ensures.journal
    c.append_read.ensures.rest c.append_read.ensures.number c.append_read.ensures.opening

pub returns-clause-quiet : goal.returns-clause-quiet
returns-clause-quiet g c =
    rested_quiet g.S.Store.state c.args.self.now c.read_tables.new.self c.append_read.new.self c.requires.quiet c.read_tables.ensures.same c.append_read.ensures.rest

pub returns-clause-goes_on : goal.returns-clause-goes_on
returns-clause-goes_on g c =
    rested_goes_on g.S.Store.state c.args.self.now c.read_tables.new.self c.append_read.new.self c.read_tables.ensures.same c.read_tables.ensures.journal
    c.append_read.ensures.rest c.append_read.ensures.number c.append_read.ensures.opening
