use Rattle.std.proofs.Common.{◌≡◌, length, arith}
use Rattle.std.proofs.lemmas.Grind.{common_steps}
use Rattle.cq_value.specs.Tables.{rows_of}
use Rattle.cq_group.specs.Calls.{Rests, Lifted, first_rows}
use Rattle.cq_group.proofs.Turns.{rests}
use Rattle.cq_group.proofs.PlaceLaws.{table_refl}
use Rattle.cq_group.proofs.KeyLaws.{none_repeats}
use Rattle.cq_group.proofs.group.GroupTable.repeats.Goals as goal

pub returns-then-len-eq0-clause-repeats : goal.returns-then-len-eq0-clause-repeats
returns-then-len-eq0-clause-repeats g c =
    let none : length c.args.self.now.shape.key ≡ 0 = grind (arith, common_steps) in
    none_repeats c.args.self.now.shape.key (rows_of (first_rows g.S.Store.state c.args.self.now.stores.items)) c.args.rows.now none

pub returns-then-len-eq0-clause-same : goal.returns-then-len-eq0-clause-same
returns-then-len-eq0-clause-same g c = table_refl (Lifted g.S.Store.state Rests) (λ x. rests (g.S.Store.state x)) c.args.self.now
