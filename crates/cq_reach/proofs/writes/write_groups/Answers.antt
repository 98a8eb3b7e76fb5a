use Rattle.std.proofs.Common.{subst, Err}
use Rattle.cq_reach.specs.declared.staging.Stop.{Stop}
use Rattle.cq_reach.specs.Staging.{AllStaged}
use Rattle.cq_reach.proofs.Stopping.{staged_ready}
use Rattle.cq_reach.proofs.Written.{ready_apart, apart_all, sum_fits, all_made, made_go_on, refused_written, refused_go_on, unwritten, unwritten_lost, unwritten_go_on}
use Rattle.cq_reach.proofs.writes.write_groups.Goals as goal

pub commit_parts-requires-clause-ready : goal.commit_parts-requires-clause-ready
commit_parts-requires-clause-ready g c = staged_ready g.S.Store.state c.args.groups.now.items c.stage_parts.new.groups.items c.in-Ok.ready c.in-Ok.ensures.1.each

pub commit_parts-requires-clause-apart : goal.commit_parts-requires-clause-apart
commit_parts-requires-clause-apart g c = apart_all c.in-Ok.ready (ready_apart c.args.parts c.in-Ok.ready c.in-Ok.ensures.0 c.requires.ascending)

pub commit_parts-requires-clause-sum : goal.commit_parts-requires-clause-sum
commit_parts-requires-clause-sum g c = sum_fits g.S.Store.state c.args.who c.args.parts c.args.groups.now.items c.stage_parts.new.groups.items c.stage_parts.new.groups.items c.requires.resting c.in-Ok.ready c.in-Ok.ensures.0 c.requires.ascending c.in-Ok.ensures.1 c.requires.few

pub commit_part-requires : goal.commit_part-requires
commit_part-requires g c =
    let state = g.S.Store.state in
    let a = subst (λ (why : Stop). AllStaged state c.args.parts c.args.groups.now.items c.stage_parts.new.groups.items (Err why)) c.in-Err-Refused.field-0-is c.in-Err-Refused.ensures in
    let b = a.1.1 in
    record { group = b.after; there = b.is; holds = (b.holds.dropped.held.kept, b.holds.ready) }

pub returns-in-Ok-clause-written : goal.returns-in-Ok-clause-written
returns-in-Ok-clause-written g c =
    all_made g.S.Store.state c.args.who c.args.parts c.args.groups.now.items c.stage_parts.new.groups.items c.commit_parts.new.groups.items c.requires.resting c.in-Ok.ready c.in-Ok.ensures.0 c.requires.ascending c.in-Ok.ensures.1 c.commit_parts.ensures.turned c.commit_parts.result c.commit_parts.ensures.count

pub returns-in-Ok-clause-goes_on : goal.returns-in-Ok-clause-goes_on
returns-in-Ok-clause-goes_on g c =
    made_go_on g.S.Store.state c.args.who c.args.parts c.args.groups.now.items c.stage_parts.new.groups.items c.commit_parts.new.groups.items c.requires.resting c.in-Ok.ready c.in-Ok.ensures.0 c.requires.ascending c.in-Ok.ensures.1 c.commit_parts.ensures.turned

pub returns-in-Err-Refused-clause-written : goal.returns-in-Err-Refused-clause-written
returns-in-Err-Refused-clause-written g c =
    let a = subst (λ (why : Stop). AllStaged g.S.Store.state c.args.parts c.args.groups.now.items c.stage_parts.new.groups.items (Err why)) c.in-Err-Refused.field-0-is c.in-Err-Refused.ensures in
    refused_written g.S.Store.state c.args.who c.args.parts c.args.groups.now.items c.stage_parts.new.groups.items c.commit_part.new.groups.items c.requires.resting c.in-Err-Refused.refused a c.commit_part.ensures.turned

pub returns-in-Err-Refused-clause-goes_on : goal.returns-in-Err-Refused-clause-goes_on
returns-in-Err-Refused-clause-goes_on g c =
    let a = subst (λ (why : Stop). AllStaged g.S.Store.state c.args.parts c.args.groups.now.items c.stage_parts.new.groups.items (Err why)) c.in-Err-Refused.field-0-is c.in-Err-Refused.ensures in
    refused_go_on g.S.Store.state c.args.who c.args.parts c.args.groups.now.items c.stage_parts.new.groups.items c.commit_part.new.groups.items c.requires.resting c.in-Err-Refused.refused a c.commit_part.ensures.turned

pub returns-in-Err-Failed-clause-written : goal.returns-in-Err-Failed-clause-written
returns-in-Err-Failed-clause-written g c =
    let a = subst (λ (why : Stop). AllStaged g.S.Store.state c.args.parts c.args.groups.now.items c.stage_parts.new.groups.items (Err why)) c.in-Err-Failed.field-0-is c.in-Err-Failed.ensures in
    unwritten g.S.Store.state c.args.who c.args.parts c.args.groups.now.items c.stage_parts.new.groups.items c.stage_parts.new.groups.items c.requires.resting c.in-Err-Failed.error a

pub returns-in-Err-Failed-clause-goes_on : goal.returns-in-Err-Failed-clause-goes_on
returns-in-Err-Failed-clause-goes_on g c = unwritten_go_on g.S.Store.state c.args.who c.args.parts c.args.groups.now.items c.stage_parts.new.groups.items c.stage_parts.new.groups.items c.requires.resting _ c.in-Err-Failed.ensures

pub returns-in-Err-Failed-clause-failed : goal.returns-in-Err-Failed-clause-failed
returns-in-Err-Failed-clause-failed g c =
    let a = subst (λ (why : Stop). AllStaged g.S.Store.state c.args.parts c.args.groups.now.items c.stage_parts.new.groups.items (Err why)) c.in-Err-Failed.field-0-is c.in-Err-Failed.ensures in
    unwritten_lost g.S.Store.state c.args.who c.args.parts c.args.groups.now.items c.stage_parts.new.groups.items c.stage_parts.new.groups.items c.requires.resting c.in-Err-Failed.error a
