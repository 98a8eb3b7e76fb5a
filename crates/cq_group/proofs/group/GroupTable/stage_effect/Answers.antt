use Rattle.std.proofs.Common.{refl}
use Rattle.cq_group.proofs.TableLaws.{is_refusal, stages_nothing}
use Rattle.cq_group.proofs.group.GroupTable.stage_effect.Goals as goal

pub returns-in-Duplicate-clause-ok : goal.returns-in-Duplicate-clause-ok
returns-in-Duplicate-clause-ok g c = record {
  same = record {
    table = refl;
    shape = refl;
    shard = refl;
    stores = stages_nothing g.S.Store.state c.args.effect.now.changes c.args.self.now.stores.items (c.requires.refused (is_refusal c.args.effect.now.reply c.in-Duplicate.is)) c.requires.takes;
  };
  next = refl;
}
