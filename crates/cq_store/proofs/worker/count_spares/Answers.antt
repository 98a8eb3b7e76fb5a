use Rattle.std.proofs.Common.{rules, ◌≡◌, count_by, sym, ◌∙◌}
use Rattle.cq_store.specs.Workers.{keeps_no_shard}
use Rattle.cq_store.proofs.TakingLaws.{spares_counted}
use Rattle.cq_store.proofs.worker.count_spares.Goals as goal

pub returns : goal.returns
returns g c =
    let counted : c.count.result ≡ count_by (λ s. keeps_no_shard (g.S.Store.state s)) c.args.stores.now = search rules in
    counted ∙ sym (spares_counted g.S.Store.state c.args.stores.now)
