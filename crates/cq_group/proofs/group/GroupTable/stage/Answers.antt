use Rattle.std.proofs.Common.{rules}
use Rattle.cq_group.specs.Calls.{Rests, Stages, KeepsRows, Lifted, IsRestingTable}
use Rattle.cq_group.proofs.TableLaws.{table_trans, table_weaker, takes_all, staged_all, quiet_staged, refused_changes, blames_later, rested_go_on}
use Rattle.cq_group.proofs.Turns.{rests_keep, stages_keep, rests_more, stages_after}
use Rattle.cq_group.proofs.MoveLaws.{same_move, same_more}
use Rattle.cq_group.proofs.group.GroupTable.stage.Goals as goal

pub returns-in_err-effect-clause-moving : goal.returns-in_err-effect-clause-moving
returns-in_err-effect-clause-moving g c = same_move c.args.moving.now

pub returns-then-is_err-clause-same : goal.returns-then-is_err-clause-same
returns-then-is_err-clause-same g c =
    let state = g.S.Store.state in
    table_weaker (Lifted state Rests) (Lifted state KeepsRows) (λ a b. rests_keep (state a) (state b)) c.args.self.now c.effect_of.new.self c.effect_of.ensures.same

pub returns-clause-moving : goal.returns-clause-moving
returns-clause-moving g c = same_more c.args.moving.now c.reserve_log.new.moving c.keep_staged.new.moving c.reserve_log.ensures.same c.keep_staged.ensures.same

pub returns-clause-logged : goal.returns-clause-logged
returns-clause-logged g c = record {
  changes = c.in_ok-effect.effect.changes;
  listed = c.in_ok-effect.ensures.effect.listed;
  fitting = c.in_ok-effect.ensures.effect.fitting;
  changed = c.in_ok-effect.ensures.effect.changed;
  kept = c.keep_staged.ensures.kept;
}

pub returns-in_err-effect-clause-same : goal.returns-in_err-effect-clause-same
returns-in_err-effect-clause-same g c =
    let state = g.S.Store.state in
    table_weaker (Lifted state Rests) (Lifted state KeepsRows) (λ a b. rests_keep (state a) (state b)) c.args.self.now c.effect_of.new.self c.effect_of.ensures.same

pub stage_effect-requires-clause-takes : goal.stage_effect-requires-clause-takes
stage_effect-requires-clause-takes g c =
    takes_all g.S.Store.state c.in_ok-effect.effect.changes c.args.self.now c.effect_of.new.self c.requires.alike c.in_ok-effect.ensures.effect.fitting c.effect_of.ensures.same

pub returns-in_err-stage_effect-clause-same : goal.returns-in_err-stage_effect-clause-same
returns-in_err-stage_effect-clause-same g c =
    let state = g.S.Store.state in
    table_weaker (Lifted state Rests) (Lifted state KeepsRows) (λ a b. rests_keep (state a) (state b)) c.args.self.now c.stage_effect.new.self
    (table_trans (Lifted state Rests) (Lifted state Rests) (Lifted state Rests) (λ a b d. rests_more (state a) (state b) (state d))
    c.args.self.now c.effect_of.new.self c.stage_effect.new.self c.effect_of.ensures.same c.in_err-stage_effect.ensures.err)

pub returns-in_err-stage_effect-clause-err : goal.returns-in_err-stage_effect-clause-err
returns-in_err-stage_effect-clause-err g c =
    let state = g.S.Store.state in
    let rested : IsRestingTable (Lifted state Rests) c.args.self.now c.stage_effect.new.self =
    table_trans (Lifted state Rests) (Lifted state Rests) (Lifted state Rests) (λ a b d. rests_more (state a) (state b) (state d))
    c.args.self.now c.effect_of.new.self c.stage_effect.new.self c.effect_of.ensures.same c.in_err-stage_effect.ensures.err in
    search rules

pub returns-in_err-stage_effect-clause-blame : goal.returns-in_err-stage_effect-clause-blame
returns-in_err-stage_effect-clause-blame g c =
    let state = g.S.Store.state in
    let xs = c.args.self.now.stores.items in
    let ys = c.effect_of.new.self.stores.items in
    let zs = c.stage_effect.new.self.stores.items in
    let blamed = blames_later state c.in_err-stage_effect.field-0.0 xs ys zs (rested_go_on state xs ys c.effect_of.ensures.same.same.stores) c.in_err-stage_effect.ensures.blame in
    search rules

pub returns-clause-staged : goal.returns-clause-staged
returns-clause-staged g c =
    let state = g.S.Store.state in
    let changes = c.in_ok-effect.effect.changes in
    staged_all state c.args.op.now changes c.args.self.now c.stage_effect.new.self c.requires.alike c.in_ok-effect.ensures.effect.changed
    (table_trans (Lifted state Rests) (Lifted state (Stages changes)) (Lifted state (Stages changes)) (λ a b d. stages_after changes (state a) (state b) (state d))
    c.args.self.now c.effect_of.new.self c.stage_effect.new.self c.effect_of.ensures.same c.in_ok-stage_effect.ensures.ok)

pub returns-clause-refused : goal.returns-clause-refused
returns-clause-refused g c = λ refusal.
    quiet_staged g.S.Store.state c.in_ok-effect.effect.changes c.effect_of.new.self c.stage_effect.new.self
    (refused_changes c.args.op.now _ c.args.self.now.shape c.in_ok-effect.effect c.in_ok-effect.ensures.effect refusal) c.in_ok-stage_effect.ensures.ok

pub stage_effect-requires-clause-refused : goal.stage_effect-requires-clause-refused
stage_effect-requires-clause-refused g c = λ refusal.
    refused_changes c.args.op.now _ c.args.self.now.shape c.in_ok-effect.effect c.in_ok-effect.ensures.effect refusal

pub returns-clause-same : goal.returns-clause-same
returns-clause-same g c =
    let state = g.S.Store.state in
    let changes = c.in_ok-effect.effect.changes in
    table_weaker (Lifted state (Stages changes)) (Lifted state KeepsRows) (λ a b. stages_keep changes (state a) (state b)) c.args.self.now c.stage_effect.new.self
    (table_trans (Lifted state Rests) (Lifted state (Stages changes)) (Lifted state (Stages changes)) (λ a b d. stages_after changes (state a) (state b) (state d))
    c.args.self.now c.effect_of.new.self c.stage_effect.new.self c.effect_of.ensures.same c.in_ok-stage_effect.ensures.ok)
