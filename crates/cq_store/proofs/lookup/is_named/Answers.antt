use Rattle.std.proofs.Common.{◌∙◌, ap}
use Rattle.std.specs.List.{list_any}
use Rattle.cq_value.specs.Tables.{Pair}
use Rattle.cq_store.specs.Stores.{has_values}
use Rattle.cq_pages.specs.Pages.{named}
use Rattle.cq_store.proofs.IndexLaws.{finds_any}
use Rattle.cq_store.proofs.lookup.is_named.Goals as goal

pub returns : goal.returns
returns c =
    let ps = c.args.rows.now.pairs in
    c.is_any_match.ensures ∙ ap (λ ids. list_any (λ id. list_any (λ (p : Pair). has_values c.args.wanted.now p.1) (named id ps)) ids) c.ids_of.ensures
    ∙ finds_any c.args.index.now c.args.wanted.now ps c.args.rows.now.next c.ids_ascend.ensures c.requires.holds c.requires.covers
