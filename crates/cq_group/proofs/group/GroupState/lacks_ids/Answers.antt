use Rattle.std.proofs.Common.{◌≡◌, ◌∙◌, ◌+◌, ◌<◌, ◌↔◌, IsTrue, get_or, length, ap, subst, rules}
use Rattle.cq_meaning.specs.Effects.{table_of, inserts}
use Rattle.cq_journal.specs.Journals.{most_ids}
use Rattle.cq_group.proofs.WriteLaws.{next_found}
use Rattle.cq_group.proofs.group.GroupState.lacks_ids.Goals as goal

pub returns : goal.returns
returns g c =
    let t = c.index.result.now in
    let is : t ≡ get_or c.args.self.now.tables.items c.args.place t = search rules in
    let named : t.table ≡ table_of c.args.op.now = ap (λ x. x.table) is ∙ c.requires.found t in
    subst (λ n. IsTrue c.lacks_ids.result ↔ (most_ids < n + length (inserts c.args.op.now)))
    (next_found g.S.Store.state c.args.self.now c.requires.kept c.args.place (table_of c.args.op.now) t c.requires.within is named) c.lacks_ids.ensures
