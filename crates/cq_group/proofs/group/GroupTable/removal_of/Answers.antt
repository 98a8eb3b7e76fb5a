use Rattle.std.proofs.Common.{◌∙◌, sym, subst}
use Rattle.cq_tree.specs.declared.write.ShardOp.TheVariants.{Remove}
use Rattle.cq_meaning.specs.Effects.{IsSafeWrite}
use Rattle.cq_demands.specs.Demands.{demands}
use Rattle.cq_group.specs.Calls.{first_rows}
use Rattle.cq_group.proofs.KeyLaws.{safe_with}
use Rattle.cq_group.proofs.group.GroupTable.removal_of.Goals as goal

pub removal_among-requires : goal.removal_among-requires
removal_among-requires g c =
    let op = Remove c.args.table c.args.filter.now in
    subst (IsSafeWrite op) (sym (c.as_slice.ensures ∙ c.in_ok-pairs.ensures.pairs))
    (safe_with op (demands c.args.filter.now) (first_rows g.S.Store.state c.args.self.now.stores.items).pairs c.requires.safe)
